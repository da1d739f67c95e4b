-- Which packages count as given, and which faults of a whole package the others have.
use Rattle.std.proofs.Common.{◌≡◌, ℕ, zero, suc, ◌+◌, Bool, true, false, inl, inr, List, [], ◌∷◌, map, Option, Some, None, Contains, refl, sym, ap, ◌∙◌, subst, arith}
use Rattle.std.specs.Prelude.{◌&&◌, not, if◌then◌else◌, is_some, slice_get}
use Rattle.std.specs.List.{list_all}
use Rattle.std.proofs.lemmas.Bool.{and_parts, false≢true}
use Rattle.std.proofs.lemmas.Option.{none-some, same_Some}
use Rattle.std.proofs.lemmas.List.Elements.{Contains-append_cases}
use Rattle.tree.specs.declared.edition.Edition.{Edition}
use Rattle.tree.specs.declared.edition.Edition.TheVariants.{First, Second}
use Rattle.tree.specs.Syntax.{ImportSpec, TopLevelDeclaration, function_declaration, general_declaration}
use Rattle.meaning.specs.OuterBlocks.{can_be_meant}
use Rattle.meaning.specs.TwoFunctions.{FunctionName, function_names_in, function_names_from, is_called_before, second_after, second_function}
use Rattle.meaning.proofs.Membership.{contains_here, contains_there, contains_cases, contains_nil}
use Rattle.report.specs.declared.codes.TextFault.{TextFault}
use Rattle.report.specs.declared.codes.TreeFault.{TreeFault}
use Rattle.report.specs.Entries.{Entry}
use Rattle.imports.specs.Ranks.{HasRank}
use Rattle.meaning_reports.specs.Loaded.{Reading, has_tree, has_text_fault, has_tree_fault, LoadedPackage, NumberedTree, numbered_trees, trees_of, import_list, is_read, is_whole, counts_by, counts_as_given}
use Rattle.meaning_reports.specs.WholeFaults.{HasNoWholeFault, IsWholeFault, has_no_tokens, has_no_tree, has_two_functions, has_no_rank}
use Rattle.meaning_reports.specs.CountedPackages.{CountingIsByFaults}

-- The tree of a function

in_file : (n : ℕ) (ds : List TopLevelDeclaration) (f : FunctionName) → Contains (function_names_in n ds) f → f.file ≡ n
in_file n [] f h = absurd (contains_nil f h)
in_file n (general_declaration d ∷ ds) f h = in_file n ds f h
in_file n (function_declaration g ∷ ds) f h = by (can_be_meant g) h (in_file n ds f)
  where
    by : (b : Bool) → Contains (if b then record { file = n; name = g.name } ∷ function_names_in n ds else function_names_in n ds) f → (Contains (function_names_in n ds) f → f.file ≡ n) → f.file ≡ n
    by false k go = go k
    by true k go = elim (contains_cases _ f (function_names_in n ds) k) [
      | inl q ↦ ap (λ (x : FunctionName). x.file) (sym q)
      | inr r ↦ go r
    ]

record HasTree (n : ℕ) (ts : List NumberedTree) (f : FunctionName) : Type 0 where
  place : ℕ
  tree : NumberedTree
  is_place : f.file ≡ n + place
  is_there : slice_get ts place ≡ Some tree

has_tree_there : (n : ℕ) (ts : List NumberedTree) (f : FunctionName) → Contains (function_names_from n (map (λ (t : NumberedTree). t.tree) ts)) f → HasTree n ts f
has_tree_there n [] f h = absurd (contains_nil f h)
has_tree_there n (t ∷ ts) f h =
    elim (Contains-append_cases (function_names_in n t.tree.declarations) (function_names_from (n + 1) (map (λ (x : NumberedTree). x.tree) ts)) f h) [
      | inl r ↦
          let same : n ≡ n + 0 = omega arith in
          record { place = 0; tree = t; is_place = in_file n t.tree.declarations f r ∙ same; is_there = refl }
      | inr r ↦
          let w = has_tree_there (n + 1) ts f r in
          let same : (n + 1) + w.place ≡ n + suc w.place = omega arith in
          record { place = suc w.place; tree = w.tree; is_place = w.is_place ∙ same; is_there = w.is_there }
    ]

pub second_among : (earlier fs : List FunctionName) (f : FunctionName) → second_after earlier fs ≡ Some f → Contains fs f
second_among earlier [] f e = absurd (none-some f e)
second_among earlier (x ∷ xs) f e = by (is_called_before x earlier) e (second_among (x ∷ earlier) xs f)
  where
    by : (b : Bool) → (if b then Some x else second_after (x ∷ earlier) xs) ≡ Some f → (second_after (x ∷ earlier) xs ≡ Some f → Contains xs f) → Contains (x ∷ xs) f
    by true q go = subst (λ y. Contains (x ∷ xs) y) (same_Some x f q) (contains_here x xs)
    by false q go = contains_there x f xs (go q)

module _ (ps : List LoadedPackage) (i : ℕ) (p : LoadedPackage) (is : slice_get ps i ≡ Some p) where
  second_fault : (f : FunctionName) → second_function (trees_of p) ≡ Some f → (x : Entry) × IsWholeFault ps i x
  second_fault f e =
      let w = has_tree_there 0 (numbered_trees p) f (second_among [] (function_names_from 0 (trees_of p)) f e) in
      let same : 0 + w.place ≡ w.place = omega arith in
      let there : slice_get (numbered_trees p) f.file ≡ Some w.tree = ap (slice_get (numbered_trees p)) (w.is_place ∙ same) ∙ w.is_there in
      (_, has_two_functions p f w.tree is e there)

  pub no_second : HasNoWholeFault ps i → second_function (trees_of p) ≡ None
  no_second none = by (second_function (trees_of p)) refl
    where
      by : (o : Option FunctionName) → second_function (trees_of p) ≡ o → second_function (trees_of p) ≡ None
      by None e = e
      by (Some f) e = let w = second_fault f e in absurd (none w.0 w.1)

-- Files without a tree

record IsUnread (rs : List Reading) : Type 0 where
  place : ℕ
  reading : Reading
  is_there : slice_get rs place ≡ Some reading
  is_unread : is_read reading ≡ false

unread : (rs : List Reading) → list_all is_read rs ≡ false → IsUnread rs
unread [] e = absurd (false≢true (sym e))
unread (r ∷ rs) e = by (is_read r) refl e (unread rs)
  where
    by : (b : Bool) → is_read r ≡ b → (b && list_all is_read rs) ≡ false → (list_all is_read rs ≡ false → IsUnread rs)
        → IsUnread (r ∷ rs)
    by false it none rest = record { place = 0; reading = r; is_there = refl; is_unread = it }
    by true it none rest =
        let w = rest none in
        record { place = suc w.place; reading = w.reading; is_there = w.is_there; is_unread = w.is_unread }

each_read : (rs : List Reading) (n : ℕ) (r : Reading) → list_all is_read rs ≡ true → slice_get rs n ≡ Some r → is_read r ≡ true
each_read [] n r e is = absurd (none-some r is)
each_read (x ∷ rs) zero r e is =
    subst (λ (y : Reading). is_read y ≡ true) (same_Some x r is) (and_parts (is_read x) (list_all is_read rs) e).0
each_read (x ∷ rs) (suc n) r e is = each_read rs n r (and_parts (is_read x) (list_all is_read rs) e).1 is

module _ (ps : List LoadedPackage) (i : ℕ) (p : LoadedPackage) (is : slice_get ps i ≡ Some p) where
  reading_fault : (n : ℕ) (r : Reading) → slice_get p.files n ≡ Some r → is_read r ≡ false
      → (x : Entry) × IsWholeFault ps i x
  reading_fault n (has_tree tree) there e = absurd (false≢true (sym e))
  reading_fault n (has_text_fault at why) there e = (_, has_no_tokens p n at why is there)
  reading_fault n (has_tree_fault at why) there e = (_, has_no_tree p n at why is there)

  its_fault : (read : Bool) → list_all is_read p.files ≡ read → (o : Option FunctionName) → second_function (trees_of p) ≡ o
      → (read && not (is_some o)) ≡ false
      → (x : Entry) × IsWholeFault ps i x
  its_fault false all o second e = let w = unread p.files all in reading_fault w.place w.reading w.is_there w.is_unread
  its_fault true all None second e = absurd (false≢true (sym e))
  its_fault true all (Some f) second e = second_fault ps i p is f second

  its_fault_by : (edition : Edition) → counts_by edition (is_whole p) ≡ false → (x : Entry) × IsWholeFault ps i x
  its_fault_by First e = absurd (false≢true (sym e))
  its_fault_by Second e = its_fault (list_all is_read p.files) refl (second_function (trees_of p)) refl e

  pub passed_over : counts_as_given p ≡ false → (x : Entry) × IsWholeFault ps i x
  passed_over e = its_fault_by p.edition e

  pub well : HasNoWholeFault ps i → counts_as_given p ≡ true
  well none = by (counts_as_given p) refl
    where
      by : (b : Bool) → counts_as_given p ≡ b → b ≡ true
      by true e = refl
      by false e = let w = passed_over e in absurd (none w.0 w.1)

  no_unread : list_all is_read p.files ≡ true → (q : LoadedPackage) → slice_get ps i ≡ Some q → (n : ℕ) (r : Reading)
      → slice_get q.files n ≡ Some r
      → is_read r ≡ false
      → ⊥
  no_unread all q at n r there bad =
      let same : slice_get p.files n ≡ Some r = subst (λ (x : LoadedPackage). slice_get x.files n ≡ Some r) (same_Some q p (sym at ∙ is)) there in
      false≢true (sym bad ∙ each_read p.files n r all same)

  no_some : (o : Option FunctionName) → not (is_some o) ≡ true → (f : FunctionName) → o ≡ Some f → ⊥
  no_some None e f same = none-some f same
  no_some (Some g) e f same = false≢true e

  no_fault : list_all is_read p.files ≡ true → not (is_some (second_function (trees_of p))) ≡ true → HasRank (import_list ps) i
      → (y : Entry) → IsWholeFault ps i y
      → ⊥
  no_fault all single rank y (has_no_tokens q file at why its there) = no_unread all q its file (has_text_fault at why) there refl
  no_fault all single rank y (has_no_tree q file at why its there) = no_unread all q its file (has_tree_fault at why) there refl
  no_fault all single rank y (has_two_functions q f tree its second there) =
      no_some (second_function (trees_of p)) single f
      (subst (λ (r : LoadedPackage). second_function (trees_of r) ≡ Some f) (same_Some q p (sym its ∙ is)) second)
  no_fault all single rank y (has_no_rank j file spec none none_above im) = none rank

  none_left : is_whole p ≡ true → HasRank (import_list ps) i → HasNoWholeFault ps i
  none_left e rank y fault =
      let both = and_parts (list_all is_read p.files) (not (is_some (second_function (trees_of p)))) e in
      no_fault both.0 both.1 rank y fault

  pub counted : p.edition ≡ Second → counts_as_given p ≡ true → HasRank (import_list ps) i → HasNoWholeFault ps i
  counted second e = none_left (sym (ap (λ (d : Edition). counts_by d (is_whole p)) second) ∙ e)

pub first_counts : (p : LoadedPackage) → p.edition ≡ First → counts_as_given p ≡ true
first_counts p first = ap (λ (d : Edition). counts_by d (is_whole p)) first

pub counting_is_by_faults : CountingIsByFaults
counting_is_by_faults = record {
  first = first_counts;
  well = well;
  passed_over = passed_over;
  counted = counted;
}
