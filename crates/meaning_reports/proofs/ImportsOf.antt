-- The imports that a package's files name, and members of the lists that they give.
use Rattle.std.proofs.Common.{◌≡◌, ℕ, zero, suc, ◌+◌, Bool, true, false, ◌||◌, if◌then◌else◌, List, [], ◌∷◌, map, Contains, Option, Some, None, inl, inr, option_map, bytes_eq, refl, sym, ap, ◌∙◌, subst, true≢false}
use Rattle.std.specs.Prelude.{slice_get, flat_map}
use Rattle.std.specs.List.{list_any}
use Rattle.std.proofs.lemmas.Bool.{false≢true}
use Rattle.std.proofs.lemmas.Slice.Eq.{bytes_eq-Decides}
use Rattle.std.proofs.lemmas.List.Elements.{Contains-append_left, Contains-append_right, Contains-append_cases}
use Rattle.std.proofs.lemmas.Option.{same_Some, none-some, slice_get-map}
use Rattle.tree.specs.Syntax.{ImportSpec}
use Rattle.meaning.proofs.Membership.{contains_nil, contains_here, contains_there, contains_cases, contains_map, contains_unmap}
use Rattle.imports.specs.Ranks.{Package, Imports, HasRank, Chain, ends, goes_on}
use Rattle.imports.specs.Settling.{place_from}
use Rattle.imports.proofs.GivenImports.{FirstAt, imports_from}
use Rattle.meaning_reports.specs.Loaded.{LoadedPackage, NumberedTree, numbered_trees, trees_of, imports_of, imported_paths, import_list}
use Rattle.meaning_reports.specs.WholeFaults.{ImportsAt, IsWholeFault, HasNoWholeFault, has_no_rank}
use Rattle.report.specs.Entries.{Entry}

-- Paths

pub has_path : (paths : List (List ℕ)) (path : List ℕ) → list_any (λ q. bytes_eq q path) paths ≡ true → Contains paths path
has_path [] path e = absurd (false≢true e)
has_path (q ∷ qs) path e = by (bytes_eq q path) refl (has_path qs path) e
  where
    by : (b : Bool) → bytes_eq q path ≡ b → (list_any (λ r. bytes_eq r path) qs ≡ true → Contains qs path)
        → (b || list_any (λ r. bytes_eq r path) qs) ≡ true
        → Contains (q ∷ qs) path
    by true same rest is = subst (Contains (q ∷ qs)) ((bytes_eq-Decides q path).0 same) (contains_here q qs)
    by false same rest is = contains_there q path qs (rest is)

-- a path without a place is that of no package
pub no_place : (path : List ℕ) (lists : List Package) (n : ℕ) → place_from path lists n ≡ None
    → (k : ℕ) (q : Package) → slice_get lists k ≡ Some q → q.path ≡ path
    → ⊥
no_place path [] n e k q is same = none-some q is
no_place path (l ∷ ls) n e k q is same = by (bytes_eq l.path path) refl e k is (no_place path ls (n + 1))
  where
    by : (b : Bool) → bytes_eq l.path path ≡ b → (if b then Some n else place_from path ls (n + 1)) ≡ None
        → (k : ℕ) → slice_get (l ∷ ls) k ≡ Some q
        → (place_from path ls (n + 1) ≡ None → (m : ℕ) (r : Package) → slice_get ls m ≡ Some r → r.path ≡ path → ⊥)
        → ⊥
    by true here none m there rest = none-some n (sym none)
    by false here none zero there rest =
        true≢false (sym ((bytes_eq-Decides l.path path).1 (ap (λ (r : Package). r.path) (same_Some l q there) ∙ same)) ∙ here)
    by false here none (suc m) there rest = rest none m q there same

-- Members of a list that parts give

module _ {A B : Type 0} (f : A → List B) where
  pub gives : (xs : List A) (x : A) (y : B) → Contains xs x → Contains (f x) y → Contains (flat_map f xs) y
  gives [] x y h g = absurd (contains_nil x h)
  gives (z ∷ xs) x y h g =
      elim (contains_cases z x xs h) [
        | inl same ↦ Contains-append_left (f z) (flat_map f xs) y (subst (λ w. Contains (f w) y) (sym same) g)
        | inr later ↦ Contains-append_right (f z) (flat_map f xs) y (gives xs x y later g)
      ]

  pub given_by : (xs : List A) (y : B) → Contains (flat_map f xs) y → (x : A) × Contains xs x × Contains (f x) y
  given_by [] y h = absurd (contains_nil y h)
  given_by (z ∷ xs) y h =
      elim (Contains-append_cases (f z) (flat_map f xs) y h) [
        | inl here ↦ (z, contains_here z xs, here)
        | inr later ↦ let w = given_by xs y later in (w.0, contains_there z w.0 xs w.1, w.2)
      ]

pub only_one : {A : Type 0} (x y : A) → Contains (x ∷ []) y → x ≡ y
only_one x y h = elim (contains_cases x y [] h) [
  | inl same ↦ same
  | inr bad ↦ absurd (contains_nil y bad)
]

-- The imports of a package

module _ (ps : List LoadedPackage) where
  abbrev lists : List Package
  lists = import_list ps

  abbrev pub list_item : LoadedPackage → Package
  list_item q = record { path = q.path; imports = imported_paths q }

  pub in_lists : (j : ℕ) (q : LoadedPackage) → slice_get ps j ≡ Some q → slice_get lists j ≡ Some (list_item q)
  in_lists j q is = slice_get-map list_item ps j ∙ ap (option_map list_item) is

  pub given_in_lists : (j : ℕ) (found : Package) → slice_get lists j ≡ Some found
      → (q : LoadedPackage) × (slice_get ps j ≡ Some q) × (list_item q ≡ found)
  given_in_lists j found is = by (slice_get ps j) refl
    where
      by : (o : Option LoadedPackage) → slice_get ps j ≡ o
          → (q : LoadedPackage) × (slice_get ps j ≡ Some q) × (list_item q ≡ found)
      by None e = absurd (none-some found (sym (slice_get-map list_item ps j ∙ ap (option_map list_item) e) ∙ is))
      by (Some q) e = (q, e, same_Some (list_item q) found (sym (in_lists j q e) ∙ is))

  module _ (i : ℕ) (p : LoadedPackage) (is_p : slice_get ps i ≡ Some p) where
    -- where an import has no rank, its importer has none
    pub no_rank_above : (j : ℕ) → Imports lists i j → (HasRank lists j → ⊥) → HasRank lists i → ⊥
    no_rank_above j im none rank = none λ k l chain back again. rank k l (goes_on im chain) back again

    pub names_first : (path : List ℕ) (j : ℕ) → Contains (imported_paths p) path → FirstAt path lists j → Imports lists i j
    names_first path j names first = imports_from lists i j (list_item p) path (in_lists i p is_p) names first

    -- the import of that spec
    pub import_there : (t : NumberedTree) (s : ImportSpec) (j : ℕ) → Contains (numbered_trees p) t
        → Contains (imports_of t.tree) s
        → FirstAt s.path lists j
        → ImportsAt ps i j t.file s
    import_there t s j is_tree is_spec first =
        let q = given_in_lists j first.found first.is_found in
        let path : s.path ≡ q.0.path = sym first.same ∙ ap (λ (l : Package). l.path) (sym q.2) in
        record {
          importer = p;
          imported = q.0;
          tree = t;
          is_importer = is_p;
          is_imported = q.1;
          imports = names_first s.path j
              (gives (λ tree. map (λ (r : ImportSpec). r.path) (imports_of tree)) (trees_of p) t.tree s.path
              (contains_map (λ (n : NumberedTree). n.tree) (numbered_trees p) t is_tree)
              (contains_map (λ (r : ImportSpec). r.path) (imports_of t.tree) s is_spec))
              first;
          is_tree = is_tree;
          is_file = refl;
          is_spec = is_spec;
          is_path = path;
        }

    pub first_import : (j file : ℕ) (s : ImportSpec) → (h : ImportsAt ps i j file s) → FirstAt s.path lists j
    first_import j file s h =
        let same = same_Some (list_item h.imported) h.imports.imported (sym (in_lists j h.imported h.is_imported) ∙ h.imports.is_imported) in
        let path : h.imports.imported.path ≡ s.path = ap (λ (l : Package). l.path) (sym same) ∙ sym h.is_path in
        record {
          found = h.imports.imported;
          is_found = h.imports.is_imported;
          same = path;
          first = λ k q is e. h.imports.is_first k q is (e ∙ sym path);
        }

-- Packages without a rank

-- where all that a package imports has ranks, it has one
pub has_rank : (packages : List Package) (i j k : ℕ) → ((m : ℕ) → Imports packages i m → (HasRank packages m → ⊥) → ⊥)
    → Chain packages i j
    → Imports packages j k
    → Chain packages k j
    → ⊥
has_rank packages i j k none ends im back = none k im (λ rank. rank i k back im back)
has_rank packages i j k none (goes_on {j = m} first rest) im back = none m first (λ rank. rank j k rest im back)

module _ (ps : List LoadedPackage) (i : ℕ) (p : LoadedPackage) (is_p : slice_get ps i ≡ Some p) where
  -- the spec that imports it
  pub record IsNamed (j : ℕ) : Type 0 where
    pub tree : NumberedTree
    pub spec : ImportSpec
    pub is_tree : Contains (numbered_trees p) tree
    pub is_spec : Contains (imports_of tree.tree) spec
    pub first : FirstAt spec.path (import_list ps) j

  pub is_named : (j : ℕ) → Imports (import_list ps) i j → IsNamed j
  is_named j im =
      let same = same_Some im.importer (list_item ps p) (sym im.is_importer ∙ in_lists ps i p is_p) in
      let names = subst (λ (q : Package). Contains q.imports im.imported.path) same im.names in
      let of_tree = given_by (λ tree. map (λ (s : ImportSpec). s.path) (imports_of tree)) (trees_of p) im.imported.path names in
      let t = contains_unmap (λ (n : NumberedTree). n.tree) (numbered_trees p) of_tree.0 of_tree.1 in
      let s = contains_unmap (λ (r : ImportSpec). r.path) (imports_of of_tree.0) im.imported.path of_tree.2 in
      record {
        tree = t.0;
        spec = s.0;
        is_tree = t.1;
        is_spec = subst (λ f. Contains (imports_of f) s.0) (sym t.2) s.1;
        first = record {
          found = im.imported;
          is_found = im.is_imported;
          same = sym s.2;
          first = λ k q is e. im.is_first k q is (e ∙ s.2);
        };
      }

  -- an import without a rank, in a package without one
  pub fault_of : (j : ℕ) → (HasRank (import_list ps) i → ⊥) → Imports (import_list ps) i j
      → (HasRank (import_list ps) j → ⊥)
      → (y : Entry) × IsWholeFault ps i y
  fault_of j none_above im none =
      let n = is_named j im in
      (_, has_no_rank j n.tree.file n.spec none_above none (import_there ps i p is_p n.tree n.spec j n.is_tree n.is_spec n.first))

  -- so a package without a fault of the whole package has a rank
  pub cannot_be_unranked : HasNoWholeFault ps i → (HasRank (import_list ps) i → ⊥) → ⊥
  cannot_be_unranked no_fault none = none λ j k.
      has_rank (import_list ps) i j k λ m im below. let w = fault_of m none im below in no_fault w.0 w.1
