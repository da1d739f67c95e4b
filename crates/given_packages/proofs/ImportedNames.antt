-- What uses mean in a package's files goes by the names of the packages that it imports.
use Rattle.std.proofs.Common.{◌≡◌, ℕ, Bool, true, if◌then◌else◌, ◌&&◌, List, [], ◌∷◌, map, Contains, Option, Some, None, is_some, option_map, refl, sym, ap, ◌∙◌, subst}
use Rattle.std.specs.Prelude.{flat_map, slice_get}
use Rattle.std.proofs.lemmas.Bool.{false≢true}
use Rattle.std.proofs.lemmas.Option.{same_Some, slice_get_within, get_or_from_slice_get}
use Rattle.tree.specs.Syntax.{Identifier, ImportSpec, SourceFile}
use Rattle.meaning.proofs.Membership.{contains_here, contains_there, contains_map}
use Rattle.meaning.specs.Declarations.{Use, declaration_of_use, import_or_around, local_meant, local_or_around, locals_of, meaning_at, meaning_of, package_or_universe, use_at, uses_of}
use Rattle.meaning.specs.OuterBlocks.{PackageNames, import_among, import_meant, import_name_of, any_path, is_called, is_first_path, or_else, or_last_element, package_block, package_meant}
use Rattle.meaning.specs.Scopes.{file_names}
use Rattle.imports.specs.Ranks.{Package, Imports}
use Rattle.meaning_reports.proofs.ImportsOf.{gives, in_lists, list_item}
use Rattle.meaning_reports.specs.Loaded.{LoadedPackage, import_list, imported_paths, imports_of, means_in, package_names, trees_of}

pub some_from : {A : Type 0} (o : Option A) → is_some o ≡ true → (a : A) × (o ≡ Some a)
some_from None e = absurd (false≢true e)
some_from (Some a) e = (a, refl)

pub contains_at : {A : Type 0} (xs : List A) (i : ℕ) (x : A) → slice_get xs i ≡ Some x → Contains xs x
contains_at xs i x is = (i, slice_get_within xs i x is, get_or_from_slice_get xs i x x is)

-- the path of what is imported
pub import_path : (ps : List LoadedPackage) (i j : ℕ) (p q : LoadedPackage) → slice_get ps i ≡ Some p
    → slice_get ps j ≡ Some q
    → Imports (import_list ps) i j
    → Contains (imported_paths p) q.path
import_path ps i j p q is_p is_q im =
    let importer : im.importer ≡ list_item ps p = same_Some im.importer (list_item ps p) (sym im.is_importer ∙ in_lists ps i p is_p) in
    let imported : im.imported ≡ list_item ps q = same_Some im.imported (list_item ps q) (sym im.is_imported ∙ in_lists ps j q is_q) in
    subst (Contains (imported_paths p)) (ap (λ (r : Package). r.path) imported)
    (subst (λ (r : Package). Contains r.imports im.imported.path) importer im.names)

-- Names that are the same at the paths of imports

module _ (one other : PackageNames) where
  same_name : (n : Option Identifier) (path : List ℕ) → one path ≡ other path
      → import_name_of one n path ≡ import_name_of other n path
  same_name None path same = ap (λ o. or_last_element o path) same
  same_name (Some n) path same = refl

  same_among : (is_path : List ℕ → Bool) (name : List ℕ) (specs : List ImportSpec)
      → ((s : ImportSpec) → Contains specs s → one s.path ≡ other s.path)
      → import_among is_path one name specs ≡ import_among is_path other name specs
  same_among is_path name [] same = refl
  same_among is_path name (s ∷ ss) same =
      let here = same_name s.name s.path (same s (contains_here s ss)) in
      let rest = same_among is_path name ss (λ r h. same r (contains_there s r ss h)) in
      λ i. if is_path s.path && is_called name (here i) then Some s.path else rest i

  same_meant : (specs : List ImportSpec) → ((s : ImportSpec) → Contains specs s → one s.path ≡ other s.path)
      → (name : List ℕ) → import_meant one specs name ≡ import_meant other specs name
  same_meant specs same name i =
      or_else (same_among is_first_path name specs same i) (same_among any_path name specs same i)

  module _ (trees : List SourceFile)
      (same : (path : List ℕ) → Contains (flat_map (λ tree. map (λ s. s.path) (imports_of tree)) trees) path
      → one path ≡ other path) where
    in_tree : (tree : SourceFile) → Contains trees tree → (s : ImportSpec) → Contains (imports_of tree) s
        → one s.path ≡ other s.path
    in_tree tree is_tree s is_spec =
        same s.path
        (gives (λ t. map (λ (r : ImportSpec). r.path) (imports_of t)) trees tree s.path is_tree
        (contains_map (λ (r : ImportSpec). r.path) (imports_of tree) s is_spec))

    same_meaning : (tree : SourceFile) → Contains trees tree → (u : Use)
        → meaning_of trees one tree u ≡ meaning_of trees other tree u
    same_meaning tree is_tree u i =
        local_or_around (local_meant (locals_of (file_names tree)) u.name u.at)
        (import_or_around (same_meant (imports_of tree) (in_tree tree is_tree) u.name i)
        (package_or_universe (package_meant (package_block trees) u.name)))

    at_use : (o : Option SourceFile) → ((tree : SourceFile) → o ≡ Some tree → Contains trees tree) → (at : ℕ)
        → meaning_at trees one o at ≡ meaning_at trees other o at
    at_use None there at = refl
    at_use (Some tree) there at =
        λ i. option_map (λ u. same_meaning tree (there tree refl) u i) (use_at at (uses_of (file_names tree)))

    pub same_declarations : (file at : ℕ) → declaration_of_use trees one file at ≡ declaration_of_use trees other file at
    same_declarations file at = at_use (slice_get trees file) (λ tree is. contains_at trees file tree is) at

-- So what uses mean is known where the names of imports are
pub means_so : (ps : List LoadedPackage) (p : LoadedPackage) (names : PackageNames)
    → ((path : List ℕ) → Contains (imported_paths p) path → names path ≡ package_names ps path)
    → (file at : ℕ) → declaration_of_use (trees_of p) names file at ≡ means_in ps p file at
means_so ps p names same = same_declarations names (package_names ps) (trees_of p) same
