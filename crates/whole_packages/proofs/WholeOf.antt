-- The faults of a package as a whole: those that the program finds are those of the definitions.
use Rattle.std.proofs.Common.{◌≡◌, ℕ, zero, suc, ◌+◌, ◌≤◌, inl, inr, Bool, true, false, if◌then◌else◌, List, [], ◌∷◌, ◌++◌, length, Contains, Option, Some, None, refl, sym, ap, ◌∙◌, subst, arith}
use Rattle.std.specs.Prelude.{◌↔◌, slice_get, flat_map, codes}
use Rattle.std.proofs.lemmas.List.Elements.{Contains-append_left, Contains-append_right, Contains-append_cases}
use Rattle.std.proofs.lemmas.Option.{same_Some, none-some}
use Rattle.tree.specs.Syntax.{SourceFile, ImportSpec}
use Rattle.meaning.proofs.Membership.{contains_nil, contains_here, contains_there}
use Rattle.meaning.specs.TwoFunctions.{FunctionName, second_function}
use Rattle.report.specs.declared.codes.DiagnosticCode.TheVariants.{Unreadable, LeftOut, ImportHasNoRank}
use Rattle.report.specs.declared.codes.TextFault.{TextFault}
use Rattle.report.specs.declared.codes.TreeFault.{TreeFault}
use Rattle.report.specs.Entries.{Entry}
use Rattle.imports.specs.Ranks.{Package, HasRank}
use Rattle.imports.proofs.GivenImports.{FirstAt, first_there, there_first}
use Rattle.meaning_reports.specs.Loaded.{Reading, has_tree, has_text_fault, has_tree_fault, LoadedPackage, NumberedTree, numbered_trees, trees_of, imported_paths, imports_of, import_list}
use Rattle.meaning_reports.specs.WholeFaults.{import_entry, IsWholeFault, has_no_tokens, has_no_tree, has_two_functions, has_no_rank}
use Rattle.whole_packages.specs.declared.loaded_package.Reading.{Reading as KeptReading}
use Rattle.whole_packages.specs.declared.loaded_package.Reading.TheVariants.{Tree, NoTokens, NoTree}
use Rattle.whole_packages.specs.LoadedViews.{readings_of}
use Rattle.meaning_reports.proofs.ImportsOf.{gives, given_by, only_one, import_there, first_import, no_rank_above}
use Rattle.whole_packages.specs.WholeEntries.{failure, failures_from, second_at, second_entries, is_marked, spec_entries, tree_entries, PicksUnranked}
use Rattle.whole_packages.proofs.ImportedPaths.{spec_path}

from_start : (k : ℕ) → 0 + k ≡ k
from_start k = omega arith

-- Files without a tree

abbrev text_entry : ℕ → ℕ → TextFault → Entry
text_entry file at why = record { file = file; offset = at; code = Unreadable why; name = codes "-" }

abbrev tree_entry : ℕ → ℕ → TreeFault → Entry
tree_entry file at why = record { file = file; offset = at; code = LeftOut why; name = codes "-" }

-- a file without a tree, where the first of these has the number n
data IsFailure (n : ℕ) (files : List Reading) (x : Entry) : Type 0 where
  no_tokens : (k at : ℕ) (why : TextFault) → slice_get files k ≡ Some (has_text_fault at why)
      → text_entry (n + k) at why ≡ x
      → IsFailure n files x
  no_tree : (k at : ℕ) (why : TreeFault) → slice_get files k ≡ Some (has_tree_fault at why)
      → tree_entry (n + k) at why ≡ x
      → IsFailure n files x

later_failure : (n : ℕ) (r : Reading) (files : List Reading) (x : Entry) → IsFailure (n + 1) files x
    → IsFailure n (r ∷ files) x
later_failure n r files x (no_tokens k at why is e) =
    let same : n + suc k ≡ n + 1 + k = omega arith in
    no_tokens (suc k) at why is (ap (λ m. text_entry m at why) same ∙ e)
later_failure n r files x (no_tree k at why is e) =
    let same : n + suc k ≡ n + 1 + k = omega arith in
    no_tree (suc k) at why is (ap (λ m. tree_entry m at why) same ∙ e)

not_more : (rs : List KeptReading) (ts : List SourceFile) → length (readings_of rs ts) ≤ length rs
not_more [] ts = omega arith
not_more (Tree ∷ rs) [] = let l = not_more rs [] in omega (arith, l)
not_more (Tree ∷ rs) (t ∷ ts) = let l = not_more rs ts in omega (arith, l)
not_more (NoTokens at why ∷ rs) ts = let l = not_more rs ts in omega (arith, l)
not_more (NoTree at why ∷ rs) ts = let l = not_more rs ts in omega (arith, l)

failures_are : (n : ℕ) (rs : List KeptReading) (ts : List SourceFile) → length (readings_of rs ts) ≡ length rs
    → (x : Entry) → Contains (failures_from n rs) x → IsFailure n (readings_of rs ts) x
failures_are n [] ts l x h = absurd (contains_nil x h)
failures_are n (Tree ∷ rs) [] l x h = absurd (let m = not_more rs [] in omega (arith, l, m))
failures_are n (Tree ∷ rs) (t ∷ ts) l x h =
    later_failure n (has_tree t) (readings_of rs ts) x (failures_are (n + 1) rs ts (omega (arith, l)) x h)
failures_are n (NoTokens at why ∷ rs) ts l x h =
    elim (Contains-append_cases (failure n at (Unreadable why)) (failures_from (n + 1) rs) x h) [
      | inl here ↦
          let same : n + 0 ≡ n = omega arith in
          no_tokens 0 at why refl (ap (λ m. text_entry m at why) same ∙ only_one (text_entry n at why) x here)
      | inr rest ↦
          later_failure n (has_text_fault at why) (readings_of rs ts) x
          (failures_are (n + 1) rs ts (omega (arith, l)) x rest)
    ]
failures_are n (NoTree at why ∷ rs) ts l x h =
    elim (Contains-append_cases (failure n at (LeftOut why)) (failures_from (n + 1) rs) x h) [
      | inl here ↦
          let same : n + 0 ≡ n = omega arith in
          no_tree 0 at why refl (ap (λ m. tree_entry m at why) same ∙ only_one (tree_entry n at why) x here)
      | inr rest ↦
          later_failure n (has_tree_fault at why) (readings_of rs ts) x
          (failures_are (n + 1) rs ts (omega (arith, l)) x rest)
    ]

-- what a file is, and where
abbrev text_reading : Reading → Option (ℕ × TextFault)
text_reading (has_tree t) = None
text_reading (has_text_fault at why) = Some (at, why)
text_reading (has_tree_fault at why) = None

abbrev tree_reading : Reading → Option (ℕ × TreeFault)
tree_reading (has_tree t) = None
tree_reading (has_text_fault at why) = None
tree_reading (has_tree_fault at why) = Some (at, why)

text_found : (n : ℕ) (rs : List KeptReading) (ts : List SourceFile) → length (readings_of rs ts) ≡ length rs
    → (k at : ℕ) (why : TextFault) → slice_get (readings_of rs ts) k ≡ Some (has_text_fault at why)
    → Contains (failures_from n rs) (text_entry (n + k) at why)
text_found n [] ts l k at why is = absurd (none-some _ is)
text_found n (Tree ∷ rs) [] l k at why is = absurd (let m = not_more rs [] in omega (arith, l, m))
text_found n (Tree ∷ rs) (t ∷ ts) l zero at why is =
    absurd (none-some (at, why) (ap text_reading (same_Some (has_tree t) (has_text_fault at why) is)))
text_found n (Tree ∷ rs) (t ∷ ts) l (suc k) at why is =
    let same : n + 1 + k ≡ n + suc k = omega arith in
    subst (λ m. Contains (failures_from (n + 1) rs) (text_entry m at why)) same
    (text_found (n + 1) rs ts (omega (arith, l)) k at why is)
text_found n (NoTokens b w ∷ rs) ts l zero at why is =
    let same : n ≡ n + 0 = omega arith in
    let pair = same_Some (b, w) (at, why) (ap text_reading (same_Some (has_text_fault b w) (has_text_fault at why) is)) in
    subst (λ y. Contains (text_entry n b w ∷ failures_from (n + 1) rs) y)
    (λ i. text_entry (same i) ((pair i).0) ((pair i).1)) (contains_here (text_entry n b w) (failures_from (n + 1) rs))
text_found n (NoTokens b w ∷ rs) ts l (suc k) at why is =
    let same : n + 1 + k ≡ n + suc k = omega arith in
    contains_there (text_entry n b w) (text_entry (n + suc k) at why) (failures_from (n + 1) rs)
    (subst (λ m. Contains (failures_from (n + 1) rs) (text_entry m at why)) same
    (text_found (n + 1) rs ts (omega (arith, l)) k at why is))
text_found n (NoTree b w ∷ rs) ts l zero at why is =
    absurd (none-some (at, why) (ap text_reading (same_Some (has_tree_fault b w) (has_text_fault at why) is)))
text_found n (NoTree b w ∷ rs) ts l (suc k) at why is =
    let same : n + 1 + k ≡ n + suc k = omega arith in
    contains_there (tree_entry n b w) (text_entry (n + suc k) at why) (failures_from (n + 1) rs)
    (subst (λ m. Contains (failures_from (n + 1) rs) (text_entry m at why)) same
    (text_found (n + 1) rs ts (omega (arith, l)) k at why is))

tree_found : (n : ℕ) (rs : List KeptReading) (ts : List SourceFile) → length (readings_of rs ts) ≡ length rs
    → (k at : ℕ) (why : TreeFault) → slice_get (readings_of rs ts) k ≡ Some (has_tree_fault at why)
    → Contains (failures_from n rs) (tree_entry (n + k) at why)
tree_found n [] ts l k at why is = absurd (none-some _ is)
tree_found n (Tree ∷ rs) [] l k at why is = absurd (let m = not_more rs [] in omega (arith, l, m))
tree_found n (Tree ∷ rs) (t ∷ ts) l zero at why is =
    absurd (none-some (at, why) (ap tree_reading (same_Some (has_tree t) (has_tree_fault at why) is)))
tree_found n (Tree ∷ rs) (t ∷ ts) l (suc k) at why is =
    let same : n + 1 + k ≡ n + suc k = omega arith in
    subst (λ m. Contains (failures_from (n + 1) rs) (tree_entry m at why)) same
    (tree_found (n + 1) rs ts (omega (arith, l)) k at why is)
tree_found n (NoTree b w ∷ rs) ts l zero at why is =
    let same : n ≡ n + 0 = omega arith in
    let pair = same_Some (b, w) (at, why) (ap tree_reading (same_Some (has_tree_fault b w) (has_tree_fault at why) is)) in
    subst (λ y. Contains (tree_entry n b w ∷ failures_from (n + 1) rs) y)
    (λ i. tree_entry (same i) ((pair i).0) ((pair i).1)) (contains_here (tree_entry n b w) (failures_from (n + 1) rs))
tree_found n (NoTree b w ∷ rs) ts l (suc k) at why is =
    let same : n + 1 + k ≡ n + suc k = omega arith in
    contains_there (tree_entry n b w) (tree_entry (n + suc k) at why) (failures_from (n + 1) rs)
    (subst (λ m. Contains (failures_from (n + 1) rs) (tree_entry m at why)) same
    (tree_found (n + 1) rs ts (omega (arith, l)) k at why is))
tree_found n (NoTokens b w ∷ rs) ts l zero at why is =
    absurd (none-some (at, why) (ap tree_reading (same_Some (has_text_fault b w) (has_tree_fault at why) is)))
tree_found n (NoTokens b w ∷ rs) ts l (suc k) at why is =
    let same : n + 1 + k ≡ n + suc k = omega arith in
    contains_there (text_entry n b w) (tree_entry (n + suc k) at why) (failures_from (n + 1) rs)
    (subst (λ m. Contains (failures_from (n + 1) rs) (tree_entry m at why)) same
    (tree_found (n + 1) rs ts (omega (arith, l)) k at why is))

-- A package

module _ (ps : List LoadedPackage) (i : ℕ) (p : LoadedPackage) (is_p : slice_get ps i ≡ Some p)
    (places : List ℕ → Option ℕ) (marks : List Bool) (told : PicksUnranked ps p (is_marked places marks)) where
  abbrev lists : List Package
  lists = import_list ps

  -- the path is that of a given package without a rank
  marked_is : (path : List ℕ) → Contains (imported_paths p) path → is_marked places marks path ≡ true
      → (j : ℕ) × FirstAt path lists j × (HasRank lists j → ⊥)
  marked_is path names e =
      let w = (told path names).0 e in (w.place, first_there lists path w.place w.is_place, w.no_rank)

  is_marked_there : (path : List ℕ) (j : ℕ) → Contains (imported_paths p) path → FirstAt path lists j
      → (HasRank lists j → ⊥)
      → is_marked places marks path ≡ true
  is_marked_there path j names first none =
      (told path names).1 (record { place = j; is_place = there_first lists path j first; no_rank = none })

  module _ (rs : List KeptReading) (ts : List SourceFile) (are_files : p.files ≡ readings_of rs ts)
      (are_as_many : length p.files ≡ length rs) where
    abbrev pub failed_part : List Entry
    failed_part = failures_from 0 rs

    abbrev pub second_part : List Entry
    second_part = second_entries (numbered_trees p) (second_function (trees_of p))

    abbrev pub import_part : List Entry
    import_part = flat_map (tree_entries (is_marked places marks) ImportHasNoRank) (numbered_trees p)

    abbrev pub whole : List Entry
    whole = (failed_part ++ second_part) ++ import_part

    size : length (readings_of rs ts) ≡ length rs
    size = ap length (sym are_files) ∙ are_as_many

    failed : (x : Entry) → IsFailure 0 (readings_of rs ts) x → IsWholeFault ps i x
    failed x (no_tokens k at why is e) =
        let from_start : 0 + k ≡ k = omega arith in
        subst (IsWholeFault ps i) (ap (λ m. text_entry m at why) (sym from_start) ∙ e)
        (has_no_tokens p k at why is_p (ap (λ fs. slice_get fs k) are_files ∙ is))
    failed x (no_tree k at why is e) =
        let from_start : 0 + k ≡ k = omega arith in
        subst (IsWholeFault ps i) (ap (λ m. tree_entry m at why) (sym from_start) ∙ e)
        (has_no_tree p k at why is_p (ap (λ fs. slice_get fs k) are_files ∙ is))

    second : (x : Entry) → Contains (second_entries (numbered_trees p) (second_function (trees_of p))) x
        → IsWholeFault ps i x
    second x h = by (second_function (trees_of p)) refl h
      where
        at : (f : FunctionName) → second_function (trees_of p) ≡ Some f → (o : Option NumberedTree)
            → slice_get (numbered_trees p) f.file ≡ o
            → Contains (second_at o f) x
            → IsWholeFault ps i x
        at f is None e g = absurd (contains_nil x g)
        at f is (Some t) e g = subst (IsWholeFault ps i) (only_one _ x g) (has_two_functions p f t is_p is e)

        by : (o : Option FunctionName) → second_function (trees_of p) ≡ o
            → Contains (second_entries (numbered_trees p) o) x
            → IsWholeFault ps i x
        by None e g = absurd (contains_nil x g)
        by (Some f) e g = at f e (slice_get (numbered_trees p) f.file) refl g

    spec_is : (t : NumberedTree) (s : ImportSpec) (x : Entry) → Contains (numbered_trees p) t
        → Contains (imports_of t.tree) s
        → Contains (spec_entries (is_marked places marks) ImportHasNoRank t.file s) x
        → IsWholeFault ps i x
    spec_is t s x is_tree is_spec h = by (is_marked places marks s.path) refl h
      where
        by : (b : Bool) → is_marked places marks s.path ≡ b
            → Contains (if b then import_entry t.file s ImportHasNoRank ∷ [] else []) x
            → IsWholeFault ps i x
        by true e g =
            let j = marked_is s.path (spec_path p t s is_tree is_spec) e in
            let im = import_there ps i p is_p t s j.0 is_tree is_spec j.1 in
            subst (IsWholeFault ps i) (only_one _ x g) (has_no_rank j.0 t.file s (no_rank_above ps i p is_p j.0 im.imports j.2) j.2 im)
        by false e g = absurd (contains_nil x g)

    unranked : (x : Entry)
        → Contains (flat_map (tree_entries (is_marked places marks) ImportHasNoRank) (numbered_trees p)) x
        → IsWholeFault ps i x
    unranked x h =
        let t = given_by (tree_entries (is_marked places marks) ImportHasNoRank) (numbered_trees p) x h in
        let s = given_by (spec_entries (is_marked places marks) ImportHasNoRank t.0.file) (imports_of t.0.tree) x t.2 in
        spec_is t.0 s.0 x t.1 s.1 s.2

    found_is : (x : Entry) → Contains whole x → IsWholeFault ps i x
    found_is x h =
        elim (Contains-append_cases (failed_part ++ second_part) import_part x h) [
          | inr im ↦ unranked x im
          | inl both ↦
              elim (Contains-append_cases failed_part second_part x both) [
                | inl fails ↦ failed x (failures_are 0 rs ts size x fails)
                | inr two ↦ second x two
              ]
        ]

    first_part : (x : Entry) → Contains failed_part x → Contains whole x
    first_part x h =
        Contains-append_left (failed_part ++ second_part) import_part x (Contains-append_left failed_part second_part x h)

    middle_part : (x : Entry) → Contains second_part x → Contains whole x
    middle_part x h =
        Contains-append_left (failed_part ++ second_part) import_part x (Contains-append_right failed_part second_part x h)

    last_part : (x : Entry) → Contains import_part x → Contains whole x
    last_part x h = Contains-append_right (failed_part ++ second_part) import_part x h

    is_found : (x : Entry) → IsWholeFault ps i x → Contains whole x
    is_found x (has_no_tokens q k at why is there) =
        let same = same_Some q p (sym is ∙ is_p) in
        first_part x (subst (λ m. Contains failed_part (text_entry m at why)) (from_start k) (text_found 0 rs ts size k at why (ap (λ fs. slice_get fs k) (sym are_files)
        ∙ ap (λ (r : LoadedPackage). slice_get r.files k) (sym same) ∙ there)))
    is_found x (has_no_tree q k at why is there) =
        let same = same_Some q p (sym is ∙ is_p) in
        first_part x (subst (λ m. Contains failed_part (tree_entry m at why)) (from_start k) (tree_found 0 rs ts size k at why (ap (λ fs. slice_get fs k) (sym are_files)
        ∙ ap (λ (r : LoadedPackage). slice_get r.files k) (sym same) ∙ there)))
    is_found x (has_two_functions q f t is two there) =
        let same = same_Some q p (sym is ∙ is_p) in
        let two_here : second_function (trees_of p) ≡ Some f =
        ap (λ (r : LoadedPackage). second_function (trees_of r)) (sym same) ∙ two in
        let there_here : slice_get (numbered_trees p) f.file ≡ Some t =
        ap (λ (r : LoadedPackage). slice_get (numbered_trees r) f.file) (sym same) ∙ there in
        middle_part x (subst (λ o. Contains (second_entries (numbered_trees p) o) x) (sym two_here)
        (subst (λ o. Contains (second_at o f) x) (sym there_here) (contains_here x [])))
    is_found x (has_no_rank j file s none_above none im) =
        let same = same_Some im.importer p (sym im.is_importer ∙ is_p) in
        let is_tree : Contains (numbered_trees p) im.tree = subst (λ (r : LoadedPackage). Contains (numbered_trees r) im.tree) same im.is_tree in
        let names = spec_path p im.tree s is_tree im.is_spec in
        let marked = is_marked_there s.path j names (first_import ps i p is_p j file s im) none in
        last_part x (gives (tree_entries (is_marked places marks) ImportHasNoRank) (numbered_trees p) im.tree x is_tree
        (gives (spec_entries (is_marked places marks) ImportHasNoRank im.tree.file) (imports_of im.tree.tree) s x im.is_spec
        (there im.tree s marked (ap (λ m. import_entry m s ImportHasNoRank) im.is_file))))
      where
        there : (t : NumberedTree) (r : ImportSpec) → is_marked places marks r.path ≡ true
            → import_entry t.file r ImportHasNoRank ≡ x
            → Contains (spec_entries (is_marked places marks) ImportHasNoRank t.file r) x
        there t r marked e =
            subst (λ b. Contains (if b then import_entry t.file r ImportHasNoRank ∷ [] else []) x) (sym marked)
            (subst (λ y. Contains (import_entry t.file r ImportHasNoRank ∷ []) y) e (contains_here _ []))

    pub made_of : (none first both all : List Entry) (ts : List NumberedTree) (o : Option FunctionName)
        → none ≡ []
        → first ≡ none ++ failures_from 0 rs
        → both ≡ first ++ second_entries ts o
        → all ≡ both ++ flat_map (tree_entries (is_marked places marks) ImportHasNoRank) ts
        → ts ≡ numbered_trees p
        → o ≡ second_function (trees_of p)
        → all ≡ whole
    made_of none first both all ts o is_none is_first is_both is_all same_trees same_function =
        is_all
        ∙ ap (λ es. es ++ flat_map (tree_entries (is_marked places marks) ImportHasNoRank) ts)
        (is_both ∙ ap (λ es. es ++ second_entries ts o) (is_first ∙ ap (λ es. es ++ failed_part) is_none))
        ∙ λ i. (failed_part ++ second_entries (same_trees i) (same_function i))
        ++ flat_map (tree_entries (is_marked places marks) ImportHasNoRank) (same_trees i)

    pub whole_are : (found : List Entry) → found ≡ whole
        → (x : Entry) → Contains found x ↔ IsWholeFault ps i x
    whole_are found same x = (
      λ h. found_is x (subst (λ es. Contains es x) same h),
      λ h. subst (λ es. Contains es x) (sym same) (is_found x h),
    )
