-- The first path of which something is declared that is the path of a package: where it stands, and that it is the same
-- for the packages as they are given and as they are loaded.
use Rattle.std.proofs.Common.{◌≡◌, ℕ, ◌+◌, suc, Bool, true, false, if◌then◌else◌, List, [], ◌∷◌, map, Option, Some, None, Result, Ok, Err, IfOk, IfErr, string_bytes, refl, sym, ap, ◌∙◌, subst, arith}
use Rattle.std.specs.Prelude.{option_map, slice_get, slice_index_or, Vec}
use Rattle.std.specs.List.{list_any}
use Rattle.std.specs.Str.{bytes_eq}
use Rattle.std.specs.declared.alloc.Global.{Global}
use Rattle.std.proofs.lemmas.List.Sorted.{IsPermutation-map, list_any-IsPermutation}
use Rattle.std.proofs.lemmas.Option.{get_or_from_slice_get, slice_get-map}
use Rattle.meaning_reports.specs.Loaded.{LoadedPackage}
use Rattle.declared_json.specs.DeclaredPackages.{PackageEntry, package_of, packages_of}
use Rattle.declared_json.specs.declared.outside.DeclaredPackages.{DeclaredPackages}
use Rattle.declared_json.specs.declared.outside.DeclaredPackage.{DeclaredPackage}
use Rattle.whole_packages.specs.declared.loaded_package.LoadedPackage.{LoadedPackage as KeptPackage}
use Rattle.load.specs.GivenPackages.{PathAndFiles, entry_of, AreLoadable, AreLoaded, IsLoad}
use Rattle.load.specs.LoadedBeside.{first_given, first_place, given_path, kept_path, IsLoadBeside, IsLoadFaultBeside, TellsGivenPath}
use Rattle.load.specs.declared.loaded.Loaded.{Loaded}
use Rattle.load.specs.declared.packages.GivenPackage.{GivenPackage}
use Rattle.load.specs.declared.packages.LoadFault.{LoadFault}
use Rattle.load.specs.declared.packages.LoadFault.TheVariants.{TooMany, TwoPackages, NamesGiven, OutOfMemory}

-- Where it stands

pub none_there : (n : ℕ) (paths : List (List ℕ)) (outside : List PackageEntry) → first_place n paths outside ≡ None
    → first_given paths outside ≡ None
none_there n paths [] is = refl
none_there n paths (p ∷ outside) is = by (list_any (bytes_eq p.path) paths) is (none_there (n + 1) paths outside)
  where
    by : (b : Bool) → (if b then Some n else first_place (n + 1) paths outside) ≡ None
        → (first_place (n + 1) paths outside ≡ None → first_given paths outside ≡ None)
        → (if b then Some p.path else first_given paths outside) ≡ None
    by true e rest = let bad : Some n ≡ None = e in cc
    by false e rest = rest e

-- the package at that place has that path
record StandsAt (n place : ℕ) (outside : List PackageEntry) (found : Option (List ℕ)) : Type 0 where
  index : ℕ
  entry : PackageEntry
  is_place : place ≡ n + index
  is_entry : slice_get outside index ≡ Some entry
  is_path : found ≡ Some entry.path

stands_there : (n : ℕ) (paths : List (List ℕ)) (outside : List PackageEntry) (place : ℕ)
    → first_place n paths outside ≡ Some place
    → StandsAt n place outside (first_given paths outside)
stands_there n paths [] place is = let bad : None ≡ Some place = is in cc
stands_there n paths (p ∷ outside) place is =
    by (list_any (bytes_eq p.path) paths) is (stands_there (n + 1) paths outside place)
  where
    by : (b : Bool) → (if b then Some n else first_place (n + 1) paths outside) ≡ Some place
        → (first_place (n + 1) paths outside ≡ Some place → StandsAt (n + 1) place outside (first_given paths outside))
        → StandsAt n place (p ∷ outside) (if b then Some p.path else first_given paths outside)
    by true e rest =
        let same : n ≡ place = cc in
        record { index = 0; entry = p; is_place = omega (arith, same); is_entry = refl; is_path = refl }
    by false e rest =
        let s = rest e in
        let is_place = s.is_place in
        record {
          index = suc s.index;
          entry = s.entry;
          is_place = omega (arith, is_place);
          is_entry = s.is_entry;
          is_path = s.is_path;
        }

-- what stands there in memory has that path
pub path_there : (paths : List (List ℕ)) (outside : List DeclaredPackage) (place : ℕ) (named : DeclaredPackage)
    → first_place 0 paths (map package_of outside) ≡ Some place
    → named ≡ slice_index_or outside place named
    → first_given paths (map package_of outside) ≡ Some (string_bytes named.path)
path_there paths outside place named is taken = at (slice_get outside place) refl
  where
    stands : StandsAt 0 place (map package_of outside) (first_given paths (map package_of outside))
    stands = stands_there 0 paths (map package_of outside) place is

    same : slice_get (map package_of outside) place ≡ Some stands.entry
    same = let e = stands.is_place in ap (slice_get (map package_of outside)) (omega (arith, e)) ∙ stands.is_entry

    at : (found : Option DeclaredPackage) → slice_get outside place ≡ found
        → first_given paths (map package_of outside) ≡ Some (string_bytes named.path)
    at None none =
        let bad : None ≡ Some stands.entry =
        sym (slice_get-map package_of outside place ∙ ap (option_map package_of) none) ∙ same in
        cc
    at (Some one) found =
        let entry : Some (package_of one) ≡ Some stands.entry =
        sym (slice_get-map package_of outside place ∙ ap (option_map package_of) found) ∙ same in
        let is_named : named ≡ one = taken ∙ get_or_from_slice_get outside place one named found in
        stands.is_path
        ∙ (ap (option_map (λ (p : PackageEntry). p.path)) (sym entry)
        ∙ ap (λ (p : DeclaredPackage). Some (string_bytes p.path)) (sym is_named))

-- As given and as loaded

paths_kept : (es : List PathAndFiles) (ps : List LoadedPackage) (ks : List KeptPackage) → AreLoaded es ps ks
    → map kept_path ks ≡ map (λ (e : PathAndFiles). string_bytes e.0) es
paths_kept [] [] [] h = refl
paths_kept [] [] (k ∷ ks) h = absurd h
paths_kept [] (p ∷ ps) ks h = absurd h
paths_kept (e ∷ es) [] ks h = absurd h
paths_kept (e ∷ es) (p ∷ ps) [] h = absurd h
paths_kept (e ∷ es) (p ∷ ps) (k ∷ ks) h =
    let first = sym h.0.tells.is_path ∙ h.0.is_path in
    let rest = paths_kept es ps ks h.1 in
    λ i. first i ∷ rest i

paths_given : (given : List GivenPackage)
    → map (λ (e : PathAndFiles). string_bytes e.0) (map entry_of given) ≡ map given_path given
paths_given [] = refl
paths_given (g ∷ given) = ap (λ ps. string_bytes g.path ∷ ps) (paths_given given)

alike : (given : List GivenPackage) (kept : List KeptPackage) → IsLoad given kept → (test : List ℕ → Bool)
    → list_any test (map kept_path kept) ≡ list_any test (map given_path given)
alike given kept load test =
    let path = λ (e : PathAndFiles). string_bytes e.0 in
    ap (list_any test) (paths_kept load.in_order load.meant kept load.are_loaded)
    ∙ (sym (list_any-IsPermutation test (map path (map entry_of given)) (map path load.in_order)
    (IsPermutation-map path (map entry_of given) load.in_order load.same))
    ∙ ap (list_any test) (paths_given given))

first_alike : (xs ys : List (List ℕ)) → ((test : List ℕ → Bool) → list_any test xs ≡ list_any test ys)
    → (outside : List PackageEntry)
    → first_given xs outside ≡ first_given ys outside
first_alike xs ys same [] = refl
first_alike xs ys same (p ∷ outside) =
    let first = same (bytes_eq p.path) in
    let rest = first_alike xs ys same outside in
    λ i. if first i then Some p.path else rest i

same_given : (given : List GivenPackage) (kept : List KeptPackage) → IsLoad given kept → (outside : List PackageEntry)
    → first_given (map kept_path kept) outside ≡ first_given (map given_path given) outside
same_given given kept load = first_alike (map kept_path kept) (map given_path given) (alike given kept load)

-- Beside what is declared

pub is_beside : (given : List GivenPackage) (kept : Vec KeptPackage Global) (outside : DeclaredPackages)
    (result : Result Loaded LoadFault)
    → IsLoad given kept.items
    → AreLoadable given
    → IfOk result (λ loaded. loaded.packages ≡ kept)
    → IfOk result (λ loaded. loaded.outside ≡ outside)
    → IfOk result (λ loaded. first_given (map kept_path kept.items) (packages_of outside) ≡ None)
    → IfOk result (IsLoadBeside given (packages_of outside))
is_beside given kept outside (Err fault) load can packages that none = tt
is_beside given kept outside (Ok loaded) load can packages that none = record {
  can_be_loaded = can;
  load = subst (λ (v : Vec KeptPackage Global). IsLoad given v.items) (sym packages) load;
  is_outside = ap packages_of that;
  none_is_given = sym (same_given given kept.items load (packages_of outside)) ∙ none;
}

names_given : (given : List GivenPackage) (kept : List KeptPackage) (outside : List PackageEntry) (fault : LoadFault)
    → IsLoad given kept
    → AreLoadable given
    → TellsGivenPath (first_given (map kept_path kept) outside) fault
    → IsLoadFaultBeside given outside fault
names_given given kept outside TooMany load can is = absurd is
names_given given kept outside (TwoPackages path) load can is = absurd is
names_given given kept outside (NamesGiven path) load can is = record {
  can_be_loaded = can;
  is_first = sym (same_given given kept load outside) ∙ is;
}
names_given given kept outside OutOfMemory load can is = absurd is

pub is_fault_beside : (given : List GivenPackage) (kept : List KeptPackage) (outside : List PackageEntry)
    (result : Result Loaded LoadFault)
    → IsLoad given kept
    → AreLoadable given
    → IfErr result (TellsGivenPath (first_given (map kept_path kept) outside))
    → IfErr result (IsLoadFaultBeside given outside)
is_fault_beside given kept outside (Ok loaded) load can is = tt
is_fault_beside given kept outside (Err fault) load can is = names_given given kept outside fault load can is
