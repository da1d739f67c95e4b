-- What is declared of packages that are not given is what a file's imports of them are asked for.
use Rattle.std.proofs.Common.{◌≡◌, ℕ, zero, suc, inl, inr, Bool, true, false, ◌||◌, if◌then◌else◌, List, [], ◌∷◌, map, Contains, Option, Some, None, bytes_eq, refl, sym, ap, ◌∙◌, subst}
use Rattle.std.specs.Prelude.{slice_get}
use Rattle.std.specs.List.{list_any}
use Rattle.std.proofs.lemmas.Option.{same_Some, none-some}
use Rattle.std.proofs.lemmas.Slice.Eq.{bytes_eq-Decides}
use Rattle.tree.specs.Syntax.{ImportSpec, SourceFile}
use Rattle.meaning.proofs.Membership.{contains_nil, contains_here, contains_there, contains_cases, contains_map}
use Rattle.imports.specs.Ranks.{Package}
use Rattle.imports.specs.Settling.{place_from}
use Rattle.imports.proofs.GivenImports.{first_there}
use Rattle.meaning_reports.specs.Loaded.{LoadedPackage, PackageTable, Tables, trees_of, imports_of, imported_paths, import_list, is_imported, no_table, imported_signatures}
use Rattle.meaning_reports.proofs.ImportsOf.{gives, no_place, list_item, in_lists, given_in_lists}
use Rattle.silent_files.specs.SilentPackages.{GiveNone, NamesNoGiver}
use Rattle.silent_files.specs.DeclaredGivers.{IsNotGiven, HaveDeclared, ImportsGiveNone, DeclaresGiver, DeclaredGiversCount}

-- Imports of a file are those of its package

at_place : {A : Type 0} (xs : List A) (i : ℕ) (x : A) → slice_get xs i ≡ Some x → Contains xs x
at_place [] i x e = absurd (none-some x e)
at_place (y ∷ ys) zero x e = subst (Contains (y ∷ ys)) (same_Some y x e) (contains_here y ys)
at_place (y ∷ ys) (suc i) x e = contains_there y x ys (at_place ys i x e)

any_path_of : (paths : List (List ℕ)) (path : List ℕ) → Contains paths path
    → list_any (λ q. bytes_eq q path) paths ≡ true
any_path_of [] path h = absurd (contains_nil path h)
any_path_of (q ∷ qs) path h = elim (contains_cases q path qs h) [
  | inl same ↦ ap (λ b. b || list_any (λ r. bytes_eq r path) qs) ((bytes_eq-Decides q path).1 same)
  | inr later ↦ by (bytes_eq q path) (any_path_of qs path later)
]
  where
    by : (b : Bool) → list_any (λ r. bytes_eq r path) qs ≡ true → (b || list_any (λ r. bytes_eq r path) qs) ≡ true
    by true rest = refl
    by false rest = rest

file_imports : (p : LoadedPackage) (number : ℕ) (tree : SourceFile) (spec : ImportSpec)
    → slice_get (trees_of p) number ≡ Some tree
    → Contains (imports_of tree) spec
    → is_imported p spec.path ≡ true
file_imports p number tree spec is there =
    any_path_of (imported_paths p) spec.path
    (gives (λ t. map (λ (s : ImportSpec). s.path) (imports_of t)) (trees_of p) tree spec.path
    (at_place (trees_of p) number tree is)
    (contains_map (λ (s : ImportSpec). s.path) (imports_of tree) spec there))

-- What is asked for

module _ (declared : Tables) (ps : List LoadedPackage) (tables : Tables) (have : HaveDeclared declared ps tables) where
  abbrev lists : List Package
  lists = import_list ps

  table_gives_none : (tree : SourceFile) (spec : ImportSpec) → ImportsGiveNone declared ps tables tree
      → Contains (imports_of tree) spec
      → GiveNone (tables spec.path).signatures
  table_gives_none tree spec none there = by (place_from spec.path lists 0) refl
    where
      by : (o : Option ℕ) → place_from spec.path lists 0 ≡ o → GiveNone (tables spec.path).signatures
      by None e =
          let not_given : IsNotGiven ps spec.path =
          λ k q is its. no_place spec.path lists 0 e k (list_item ps q) (in_lists ps k q is) its in
          subst (λ (t : PackageTable). GiveNone t.signatures) (sym (have spec.path not_given))
          (none.of_others spec there not_given)
      by (Some k) e =
          let first = first_there lists spec.path k e in
          let q = given_in_lists ps k first.found first.is_found in
          let its : q.0.path ≡ spec.path = ap (λ (r : Package). r.path) q.2 ∙ first.same in
          subst (λ (path : List ℕ). GiveNone (tables path).signatures) its (none.of_given spec k q.0 there q.1 its)

  imports_give_none : (p : LoadedPackage) (tree : SourceFile) (spec : ImportSpec)
      → ImportsGiveNone declared ps tables tree
      → Contains (imports_of tree) spec
      → GiveNone (imported_signatures p tables spec.path)
  imports_give_none p tree spec none there = by (is_imported p spec.path)
    where
      by : (b : Bool) → GiveNone (if b then tables spec.path else no_table).signatures
      by true = table_gives_none tree spec none there
      by false = λ name f e. let bad : None ≡ Some f = e in cc

  giver_counts : (p : LoadedPackage) (number : ℕ) (tree : SourceFile) (spec : ImportSpec)
      → Contains (imports_of tree) spec
      → IsNotGiven ps spec.path
      → DeclaresGiver declared spec.path
      → NamesNoGiver ps tables p number tree
      → ⊥
  giver_counts p number tree spec there not_given giver names =
      giver.gives (names.imported_give_none spec there giver.name giver.facts
      (ap (λ b. (if b then tables spec.path else no_table).signatures giver.name)
      (file_imports p number tree spec names.is_tree there)
      ∙ (ap (λ (t : PackageTable). t.signatures giver.name) (have spec.path not_given) ∙ giver.is_declared)))

pub givers_count : DeclaredGiversCount
givers_count = record {
  of_tables = λ declared ps tables are. are.of_others;
  are_asked = λ declared ps tables p number tree have is own none. record {
    is_tree = is;
    own_give_none = own;
    imported_give_none = λ spec. imports_give_none declared ps tables have p tree spec none;
  };
  count = λ declared ps tables p number tree spec have. giver_counts declared ps tables have p number tree spec;
}
