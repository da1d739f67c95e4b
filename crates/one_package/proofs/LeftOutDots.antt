-- Imports with a dot: those that the program finds are those that are left out.
use Rattle.std.proofs.Common.{◌≡◌, ◌⊎◌, ℕ, inl, inr, Bool, true, false, ◌||◌, if◌then◌else◌, List, [], ◌∷◌, Contains, Option, Some, None, refl, sym, ap, ◌∙◌, subst}
use Rattle.std.specs.Prelude.{◌↔◌, slice_get, flat_map}
use Rattle.std.specs.Str.{bytes_eq}
use Rattle.std.proofs.lemmas.Bool.{false≢true}
use Rattle.std.proofs.lemmas.Option.{same_Some}
use Rattle.std.proofs.lemmas.Slice.Eq.{bytes_eq-Decides}
use Rattle.tree.specs.Syntax.{Identifier, ImportSpec}
use Rattle.meaning.proofs.Membership.{contains_nil, contains_here}
use Rattle.meaning.specs.Grammar.{dot_text}
use Rattle.meaning.specs.OuterBlocks.{is_first_path}
use Rattle.report.specs.Entries.{Entry}
use Rattle.meaning_reports.specs.Loaded.{LoadedPackage, NumberedTree, Tables, numbered_trees, imported_paths, imports_of, imported_tables}
use Rattle.meaning_reports.specs.DotImports.{SaysSomething, as_library, by_table, IsLeftOut, dot_entry}
use Rattle.meaning_reports.proofs.ImportsOf.{gives, given_by, only_one}
use Rattle.whole_packages.specs.declared.loaded_package.LoadedPackage.{LoadedPackage as KeptPackage}
use Rattle.whole_packages.specs.WholeEntries.{dot_entries, dot_if, spec_dots, tree_dots}
use Rattle.whole_packages.proofs.ImportedPaths.{spec_path}
use Rattle.one_package.specs.Dots.{says_something}
use Rattle.one_package.specs.Judgments.{KnownAround, Surroundings}

pub either_true : (a b : Bool) → (a || b) ≡ true → (a ≡ true) ⊎ (b ≡ true)
either_true true b e = inl refl
either_true false b e = inr e

pub first_true : (a b : Bool) → a ≡ true → (a || b) ≡ true
first_true true b e = refl
first_true false b e = absurd (false≢true e)

pub second_true : (a b : Bool) → b ≡ true → (a || b) ≡ true
second_true true b e = refl
second_true false b e = e

-- of what the package imports it tells of which packages a name says something
abbrev pub Says : List LoadedPackage → Tables → LoadedPackage → (List ℕ → Bool) → Type 0
Says ps tables p says = (path : List ℕ) → Contains (imported_paths p) path
    → (says path ≡ true) ↔ SaysSomething (imported_tables p tables) path

-- What is known around a package tells it

module _ (ps : List LoadedPackage) (tables : Tables) (p : LoadedPackage) (around : Surroundings)
    (known : KnownAround ps tables p around) (path : List ℕ) where
  is_said : says_something around path ≡ true → SaysSomething (imported_tables p tables) path
  is_said e =
      elim (either_true (is_first_path path) (around.told path) e) [
        | inl library ↦ as_library library
        | inr told ↦ by_table (sym (known.are_told path) ∙ told)
      ]

  says_so : SaysSomething (imported_tables p tables) path → says_something around path ≡ true
  says_so (as_library library) = first_true (is_first_path path) _ library
  says_so (by_table told) =
      second_true (is_first_path path) _ (known.are_told path ∙ told)

pub around_says : (ps : List LoadedPackage) (tables : Tables) (p : LoadedPackage) (around : Surroundings)
    → KnownAround ps tables p around
    → Says ps tables p (says_something around)
around_says ps tables p around known path names =
    (is_said ps tables p around known path, says_so ps tables p around known path)

-- The entries

module _ (ps : List LoadedPackage) (tables : Tables) (i : ℕ) (p : LoadedPackage) (is_p : slice_get ps i ≡ Some p)
    (says : List ℕ → Bool) (are : Says ps tables p says) where
  pub record IsDotOf (x : Entry) : Type 0 where
    pub file : ℕ
    pub dot : Identifier
    pub is_left_out : IsLeftOut ps tables i file dot
    pub is : dot_entry file dot ≡ x

  spec_is : (t : NumberedTree) (s : ImportSpec) (x : Entry) → Contains (numbered_trees p) t
      → Contains (imports_of t.tree) s
      → Contains (spec_dots says t.file s) x
      → IsDotOf x
  spec_is t s x is_tree is_spec h = by s.name refl h
    where
      here : (dot : Identifier) → s.name ≡ Some dot → (b : Bool) → bytes_eq dot.text dot_text ≡ b → (c : Bool)
          → says s.path ≡ c
          → Contains (if b then dot_if c t.file dot else []) x
          → IsDotOf x
      here dot its false e c f g = absurd (contains_nil x g)
      here dot its true e false f g = absurd (contains_nil x g)
      here dot its true e true f g = record {
        file = t.file;
        dot = dot;
        is_left_out = record {
          importer = p;
          tree = t;
          spec = s;
          is_importer = is_p;
          is_tree = is_tree;
          is_file = refl;
          is_spec = is_spec;
          is_its = its;
          is_dot = (bytes_eq-Decides dot.text dot_text).0 e;
          says_something = (are s.path (spec_path p t s is_tree is_spec)).0 f;
        };
        is = only_one _ x g;
      }

      by : (o : Option Identifier) → s.name ≡ o → Contains (dot_entries (says s.path) t.file o) x → IsDotOf x
      by None e g = absurd (contains_nil x g)
      by (Some dot) e g = here dot e (bytes_eq dot.text dot_text) refl (says s.path) refl g

  pub left_out : (x : Entry) → Contains (flat_map (tree_dots says) (numbered_trees p)) x → IsDotOf x
  left_out x h =
      let t = given_by (tree_dots says) (numbered_trees p) x h in
      let s = given_by (spec_dots says t.0.file) (imports_of t.0.tree) x t.2 in
      spec_is t.0 s.0 x t.1 s.1 s.2

  pub left_out_found : (file : ℕ) (dot : Identifier) → IsLeftOut ps tables i file dot
      → Contains (flat_map (tree_dots says) (numbered_trees p)) (dot_entry file dot)
  left_out_found file dot out =
      let same = same_Some out.importer p (sym out.is_importer ∙ is_p) in
      let is_tree : Contains (numbered_trees p) out.tree =
      subst (λ (r : LoadedPackage). Contains (numbered_trees r) out.tree) same out.is_tree in
      let speaks : says out.spec.path ≡ true =
      (are out.spec.path (spec_path p out.tree out.spec is_tree out.is_spec)).1
      (subst (λ (r : LoadedPackage). SaysSomething (imported_tables r tables) out.spec.path) same out.says_something) in
      let named : spec_dots says out.tree.file out.spec ≡ dot_entry file dot ∷ [] =
      ap (dot_entries (says out.spec.path) out.tree.file) out.is_its
      ∙ (ap (λ b. if b then dot_if (says out.spec.path) out.tree.file dot else [])
      ((bytes_eq-Decides dot.text dot_text).1 out.is_dot)
      ∙ ((ap (λ c. dot_if c out.tree.file dot) speaks) ∙ ap (λ n. dot_entry n dot ∷ []) out.is_file)) in
      gives (tree_dots says) (numbered_trees p) out.tree (dot_entry file dot) is_tree
      (gives (spec_dots says out.tree.file) (imports_of out.tree.tree) out.spec (dot_entry file dot) out.is_spec
      (subst (λ es. Contains es (dot_entry file dot)) (sym named) (contains_here (dot_entry file dot) [])))
