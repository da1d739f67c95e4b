-- A package without a fault as a whole: what is found in its files and of its imports is what is to be said of it.
use Rattle.std.proofs.Common.{◌≡◌, ℕ, ◌+◌, inl, inr, Bool, true, false, if◌then◌else◌, List, [], ◌∷◌, ◌++◌, Contains, Option, Some, None, refl, sym, ap, ◌∙◌, subst}
use Rattle.std.specs.Prelude.{◌↔◌, slice_get, flat_map}
use Rattle.std.proofs.lemmas.List.Elements.{Contains-append_left, Contains-append_right, Contains-append_cases}
use Rattle.std.proofs.lemmas.Option.{same_Some}
use Rattle.tree.specs.declared.edition.Edition.{Edition}
use Rattle.tree.specs.Syntax.{SourceFile, ImportSpec}
use Rattle.meaning.proofs.Membership.{contains_nil, contains_here, contains_cases}
use Rattle.meaning.specs.FunctionFacts.{Meanings, FunctionFacts}
use Rattle.meaning.specs.Tracked.{Fields, each_field, Known}
use Rattle.meaning_packages.specs.CallsFlags.{FileWithCredits}
use Rattle.report.specs.declared.codes.DiagnosticCode.TheVariants.{ImportIsNotYes}
use Rattle.report.specs.Entries.{Entry}
use Rattle.imports.specs.Ranks.{Package}
use Rattle.imports.proofs.GivenImports.{FirstAt}
use Rattle.meaning_reports.specs.Loaded.{LoadedPackage, NumberedTree, Tables, numbered_trees, imports_of, import_list, known_in, known_with, keeping_in, fields_by, seen_from, means_in, signatures_of, imported_signatures, trees_of}
use Rattle.silent_files.specs.WalkedFiles.{seen_if, seen_some, walked_files, SkipsSilent}
use Rattle.keeping.specs.Keeping.{PutNothing}
use Rattle.keeping.proofs.PuttingFiles.{skipped_put_nothing}
use Rattle.meaning_reports.specs.WholeFaults.{ImportsAt, import_entry, HasNoWholeFault}
use Rattle.meaning_reports.specs.UsedImports.{IsNeeded}
use Rattle.meaning_reports.specs.PackageReports.{Rules, IsFindingBy, of_whole, of_import, of_dot, of_files}
use Rattle.whole_packages.specs.WholeEntries.{spec_entries, tree_dots, tree_entries}
use Rattle.meaning_reports.proofs.ImportsOf.{gives, given_by, in_lists, list_item, only_one, import_there}
use Rattle.calls_flags.specs.declared.file_bodies.FileBodies.{FileBodies}
use Rattle.calls_flags.specs.declared.told_file.ToldFile.{ToldFile}
use Rattle.calls_flags.specs.FilesBodies.{with_credits, with_all_credits}
use Rattle.calls_flags.specs.ToldFiles.{TellAllSeen}
use Rattle.calls_flags.specs.Claims.{HaveFacts}
use Rattle.meaning_reports.specs.DotImports.{dot_entry}
use Rattle.gathering.specs.Results.{HasFinding}
use Rattle.one_package.specs.Judgments.{ArePicked}
use Rattle.one_package.proofs.LeftOutDots.{Says, left_out, left_out_found}

-- The files

facts_seen : (b : Bool) (known : Known) (tree : SourceFile) → (seen_if b known tree).known.functions ≡ known.functions
facts_seen true known tree = refl
facts_seen false known tree = refl

-- what is known in them of functions is what was told
facts_of_file : (walked : ℕ → Bool) (known : ℕ → Known) (n : ℕ) (trees : List SourceFile) (ks : List FileBodies)
    (file : FileWithCredits)
    → Contains (with_all_credits (seen_some walked known n trees) ks) file
    → (m : ℕ) × (file.seen.known.functions ≡ (known m).functions)
facts_of_file walked known n [] ks file h = absurd (contains_nil file h)
facts_of_file walked known n (t ∷ ts) [] file h = absurd (contains_nil file h)
facts_of_file walked known n (t ∷ ts) (k ∷ ks) file h =
    elim (contains_cases (with_credits (seen_if (walked n) (known n) t) k) file
    (with_all_credits (seen_some walked known (n + 1) ts) ks) h) [
      | inl same ↦
          (n, ap (λ (f : FileWithCredits). f.seen.known.functions) (sym same) ∙ facts_seen (walked n) (known n) t)
      | inr later ↦ facts_of_file walked known (n + 1) ts ks file later
    ]

pub have_facts : (ps : List LoadedPackage) (tables : Tables) (p : LoadedPackage) (walked : ℕ → Bool)
    (functions : List ℕ → Option FunctionFacts)
    → ((name : List ℕ) → functions name ≡ signatures_of ps p name)
    → (ks : List FileBodies) → HaveFacts functions (with_all_credits (walked_files ps tables p walked) ks)
have_facts ps tables p walked functions are_functions ks = record {
  each = λ file h name.
      let m = facts_of_file walked (known_in ps tables p) 0 (trees_of p) ks file h in
      ap (λ (functions : List ℕ → Option FunctionFacts). functions name) m.1 ∙ sym (are_functions name);
}

module _ (ps : List LoadedPackage) (tables : Tables) (p : LoadedPackage) (edition : Edition)
    (means : ℕ → Meanings) (functions : List ℕ → Option FunctionFacts)
    (imported : List ℕ → List ℕ → Option FunctionFacts)
    (is_edition : edition ≡ p.edition)
    (are_means : (file at : ℕ) → means file at ≡ means_in ps p file at)
    (are_functions : (name : List ℕ) → functions name ≡ signatures_of ps p name)
    (are_imported : (path name : List ℕ) → imported path name ≡ imported_signatures p tables path name) where
  abbrev known : Fields → ℕ → Known
  known fields number = record {
    edition = edition;
    means = means number;
    fields = fields;
    object_lefts = λ at. None;
    functions = functions;
    imported = imported;
  }

  is_known : (fields : Fields) → known fields ≡ known_with fields ps tables p
  is_known fields i number = record {
    edition = is_edition i;
    means = λ at. are_means number at i;
    fields = fields;
    object_lefts = λ at. None;
    functions = λ name. are_functions name i;
    imported = λ path name. are_imported path name i;
  }

  -- fields that keep by what was found of them in files, where those that aren't walked put nothing into fields
  pub keeping_so : (walked : ℕ → Bool) (trees : List SourceFile) (fields : Fields) → trees ≡ trees_of p
      → SkipsSilent ps tables p walked
      → (PutNothing walked (known each_field) 0 trees → fields_by edition (seen_from (known each_field) 0 trees) ≡ fields)
      → fields ≡ keeping_in ps tables p
  keeping_so walked trees fields same skip found =
      let none = subst (λ ts. PutNothing walked (known each_field) 0 ts) (sym same)
      (subst (λ k. PutNothing walked k 0 (trees_of p)) (sym (is_known each_field))
      (skipped_put_nothing ps tables p walked skip)) in
      sym (found none) ∙ λ i. fields_by (is_edition i) (seen_from (is_known each_field i) 0 (same i))

  pub seen_so : (walked : ℕ → Bool) (trees : List SourceFile) (ks : List ToldFile) (fields : Fields) → trees ≡ trees_of p
      → fields ≡ keeping_in ps tables p
      → TellAllSeen (seen_some walked (known fields) 0 trees) ks
      → TellAllSeen (walked_files ps tables p walked) ks
  seen_so walked trees ks fields same keeping told =
      subst (λ fs. TellAllSeen (seen_some walked (known_with fs ps tables p) 0 (trees_of p)) ks) keeping
      (subst (λ ts. TellAllSeen (seen_some walked (known_with fields ps tables p) 0 ts) ks) same
      (subst (λ k. TellAllSeen (seen_some walked k 0 trees) ks) (is_known fields) told))

-- What is found by any rules, and of imports

module _ (rules : Rules) (ps : List LoadedPackage) (tables : Tables) (i : ℕ) (p : LoadedPackage)
    (is_p : slice_get ps i ≡ Some p) (none : HasNoWholeFault ps i) where
  module _ (is_one : List ℕ → Bool) (are_picked : ArePicked rules ps tables i is_one) where
    abbrev pub import_part : List Entry
    import_part = flat_map (tree_entries is_one ImportIsNotYes) (numbered_trees p)

    record IsNotYes (path : List ℕ) : Type 0 where
      place : ℕ
      first : FirstAt path (import_list ps) place
      has_finding : HasFinding rules ps tables place
      is_needed : IsNeeded ps tables i place path

    not_yes_is : (path : List ℕ) → is_one path ≡ true → IsNotYes path
    not_yes_is path e =
        let it = are_picked.are_given path e in
        let im = it.imports in
        let imported = same_Some im.imported (list_item ps it.imported)
        (sym im.is_imported ∙ in_lists ps it.place it.imported it.is_there) in
        let both = (are_picked.of_imports it.place it.imported im it.is_there).0 (ap is_one (sym it.is_path) ∙ e) in
        let same : im.imported.path ≡ path = ap (λ (q : Package). q.path) imported ∙ sym it.is_path in
        record {
          place = it.place;
          first = record {
            found = im.imported;
            is_found = im.is_imported;
            same = same;
            first = λ m q is e. im.is_first m q is (e ∙ sym same);
          };
          has_finding = both.0;
          is_needed = subst (IsNeeded ps tables i it.place) (sym it.is_path) both.1;
        }

    spec_is : (t : NumberedTree) (s : ImportSpec) (x : Entry) → Contains (numbered_trees p) t
        → Contains (imports_of t.tree) s
        → Contains (spec_entries is_one ImportIsNotYes t.file s) x
        → IsFindingBy rules ps tables i x
    spec_is t s x is_tree is_spec h = by (is_one s.path) refl h
      where
        by : (b : Bool) → is_one s.path ≡ b
            → Contains (if b then import_entry t.file s ImportIsNotYes ∷ [] else []) x
            → IsFindingBy rules ps tables i x
        by true e g =
            let j = not_yes_is s.path e in
            subst (IsFindingBy rules ps tables i) (only_one _ x g)
            (of_import j.place t.file s j.has_finding.entry none
            (import_there ps i p is_p t s j.place is_tree is_spec j.first) j.is_needed j.has_finding.is_finding)
        by false e g = absurd (contains_nil x g)

    of_imports : (x : Entry) → Contains import_part x → IsFindingBy rules ps tables i x
    of_imports x h =
        let t = given_by (tree_entries is_one ImportIsNotYes) (numbered_trees p) x h in
        let s = given_by (spec_entries is_one ImportIsNotYes t.0.file) (imports_of t.0.tree) x t.2 in
        spec_is t.0 s.0 x t.1 s.1 s.2

    import_found : (j number : ℕ) (s : ImportSpec) (z : Entry) → (im : ImportsAt ps i j number s)
        → IsNeeded ps tables i j s.path
        → IsFindingBy rules ps tables j z
        → Contains import_part (import_entry number s ImportIsNotYes)
    import_found j number s z im needed finding =
        let same = same_Some im.importer p (sym im.is_importer ∙ is_p) in
        let is_tree : Contains (numbered_trees p) im.tree =
        subst (λ (r : LoadedPackage). Contains (numbered_trees r) im.tree) same im.is_tree in
        let is_set : is_one s.path ≡ true =
        ap is_one im.is_path
        ∙ (are_picked.of_imports j im.imported im.imports im.is_imported).1
        (record { entry = z; is_finding = finding }, subst (IsNeeded ps tables i j) im.is_path needed) in
        gives (tree_entries is_one ImportIsNotYes) (numbered_trees p) im.tree _ is_tree
        (gives (spec_entries is_one ImportIsNotYes im.tree.file) (imports_of im.tree.tree) s _ im.is_spec
        (there im.tree is_set (ap (λ m. import_entry m s ImportIsNotYes) im.is_file)))
      where
        there : (t : NumberedTree) → is_one s.path ≡ true
            → import_entry t.file s ImportIsNotYes ≡ import_entry number s ImportIsNotYes
            → Contains (spec_entries is_one ImportIsNotYes t.file s) (import_entry number s ImportIsNotYes)
        there t is_set e =
            subst (λ b. Contains (if b then import_entry t.file s ImportIsNotYes ∷ [] else [])
            (import_entry number s ImportIsNotYes)) (sym is_set)
            (subst (λ y. Contains (import_entry t.file s ImportIsNotYes ∷ []) y) e (contains_here _ []))

    module _ (found all : List Entry) (are_said : (x : Entry) → Contains found x ↔ rules.says ps tables i x)
        (says : List ℕ → Bool) (are_dots : Says ps tables p says)
        (is_all : all ≡ (found ++ import_part) ++ flat_map (tree_dots says) (numbered_trees p)) where
      abbrev dot_part : List Entry
      dot_part = flat_map (tree_dots says) (numbered_trees p)

      of_dots : (x : Entry) → Contains dot_part x → IsFindingBy rules ps tables i x
      of_dots x h =
          let w = left_out ps tables i p is_p says are_dots x h in
          subst (IsFindingBy rules ps tables i) w.is (of_dot w.file w.dot none w.is_left_out)

      is_finding : (x : Entry) → Contains all x → IsFindingBy rules ps tables i x
      is_finding x h =
          elim (Contains-append_cases (found ++ import_part) dot_part x (subst (λ es. Contains es x) is_all h)) [
            | inr dots ↦ of_dots x dots
            | inl both ↦
                elim (Contains-append_cases found import_part x both) [
                  | inl own ↦ of_files none ((are_said x).0 own)
                  | inr other ↦ of_imports x other
                ]
          ]

      in_both : (x : Entry) → Contains (found ++ import_part) x → Contains all x
      in_both x h = subst (λ es. Contains es x) (sym is_all) (Contains-append_left (found ++ import_part) dot_part x h)

      in_found : (x : Entry) → rules.says ps tables i x → Contains all x
      in_found x said = in_both x (Contains-append_left found import_part x ((are_said x).1 said))

      in_imports : (x : Entry) → Contains import_part x → Contains all x
      in_imports x h = in_both x (Contains-append_right found import_part x h)

      in_dots : (x : Entry) → Contains dot_part x → Contains all x
      in_dots x h = subst (λ es. Contains es x) (sym is_all) (Contains-append_right (found ++ import_part) dot_part x h)

      is_there : (x : Entry) → IsFindingBy rules ps tables i x → Contains all x
      is_there x (of_whole fault) = absurd (none x fault)
      is_there x (of_import j number spec z none_here im needed finding) =
          in_imports _ (import_found j number spec z im needed finding)
      is_there x (of_dot file dot none_here out) =
          in_dots (dot_entry file dot) (left_out_found ps tables i p is_p says are_dots file dot out)
      is_there x (of_files none_here said) = in_found x said

      pub all_said : (x : Entry) → Contains all x ↔ IsFindingBy rules ps tables i x
      all_said x = (is_finding x, is_there x)
