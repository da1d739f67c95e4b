-- The names of packages of different paths.
use Rattle.std.proofs.Common.{◌≡◌, ℕ, suc, Bool, true, false, if◌then◌else◌, List, [], ◌∷◌, Option, Some, None, bytes_eq, refl, sym, ap, ◌∙◌, arith}
use Rattle.std.specs.Prelude.{slice_get}
use Rattle.std.proofs.lemmas.Slice.Eq.{bytes_eq-Decides}
use Rattle.meaning.specs.OuterBlocks.{or_else}
use Rattle.names.proofs.Adding.{or_else-none}
use Rattle.whole_packages.specs.declared.loaded_package.LoadedPackage.{LoadedPackage as KeptPackage}
use Rattle.whole_packages.specs.LoadedViews.{TellPackages, HaveDistinctPaths}
use Rattle.meaning_reports.specs.Loaded.{LoadedPackage, counts_as_given, name_in, name_of, package_at, package_names, trees_of}
use Rattle.whole_packages.proofs.CountedPackages.{counts_told}
use Rattle.given_packages.specs.Given.{names_from}

-- by the packages themselves
abbrev name_at : LoadedPackage → List ℕ → Option (List ℕ)
name_at p path = if counts_as_given p then if bytes_eq p.path path then name_in (trees_of p) else None else None

abbrev names_of : List LoadedPackage → List ℕ → Option (List ℕ)
names_of [] path = None
names_of (p ∷ ps) path = or_else (name_at p path) (names_of ps path)

rest_tell : (p : LoadedPackage) (ps : List LoadedPackage) (k : KeptPackage) (ks : List KeptPackage)
    → TellPackages (p ∷ ps) (k ∷ ks)
    → TellPackages ps ks
rest_tell p ps k ks tell = record {
  are_as_many = let same = tell.are_as_many in omega (arith, same);
  each = λ i q m is is_kept. tell.each (suc i) q m is is_kept;
}

rest_distinct : (p : LoadedPackage) (ps : List LoadedPackage) → HaveDistinctPaths (p ∷ ps) → HaveDistinctPaths ps
rest_distinct p ps distinct = record {
  same = λ i j q r is_q is_r e.
      let same : suc i ≡ suc j = distinct.same (suc i) (suc j) q r is_q is_r e in
      omega (arith, same);
}

same_names : (ps : List LoadedPackage) (ks : List KeptPackage) → TellPackages ps ks → (path : List ℕ)
    → names_from ks path ≡ names_of ps path
same_names [] [] tell path = refl
same_names [] (k ∷ ks) tell path = absurd (let same = tell.are_as_many in omega (arith, same))
same_names (p ∷ ps) [] tell path = absurd (let same = tell.are_as_many in omega (arith, same))
same_names (p ∷ ps) (k ∷ ks) tell path =
    let here = tell.each 0 p k refl refl in
    let rest = same_names ps ks (rest_tell p ps k ks tell) path in
    let same_path = here.is_path in
    let same_trees = here.are_trees in
    let counts = sym (counts_told p k here) in
    λ i.
    or_else
    (if counts i then if bytes_eq (sym same_path i) path then name_in (sym same_trees i) else None else None) (rest i)

-- where no package has the path, none gives it a name
none_named : (path : List ℕ) (ps : List LoadedPackage)
    → ((i : ℕ) (p : LoadedPackage) → slice_get ps i ≡ Some p → p.path ≡ path → ⊥)
    → names_of ps path ≡ None
none_named path [] none = refl
none_named path (p ∷ ps) none = by (bytes_eq p.path path) refl (none_named path ps λ i q is same. none (suc i) q is same)
  where
    nothing : (counted : Bool) → names_of ps path ≡ None → or_else (if counted then None else None) (names_of ps path) ≡ None
    nothing true rest = rest
    nothing false rest = rest

    by : (b : Bool) → bytes_eq p.path path ≡ b → names_of ps path ≡ None
        → or_else (if counts_as_given p then if b then name_in (trees_of p) else None else None) (names_of ps path) ≡ None
    by true e rest = absurd (none 0 p refl ((bytes_eq-Decides p.path path).0 e))
    by false e rest = nothing (counts_as_given p) rest

named_so : (path : List ℕ) (ps : List LoadedPackage) → HaveDistinctPaths ps → names_of ps path ≡ package_names ps path
named_so path [] distinct = refl
named_so path (p ∷ ps) distinct =
    by (bytes_eq p.path path) refl (named_so path ps (rest_distinct p ps distinct))
  where
    name : Option (List ℕ)
    name = if counts_as_given p then name_in (trees_of p) else None

    nothing : (counted : Bool) → or_else (if counted then None else None) (names_of ps path) ≡ names_of ps path
    nothing true = refl
    nothing false = refl

    by : (b : Bool) → bytes_eq p.path path ≡ b → names_of ps path ≡ package_names ps path
        → or_else (if counts_as_given p then if b then name_in (trees_of p) else None else None) (names_of ps path)
        ≡ name_of (if b then Some p else package_at path ps)
    by true e rest =
        ap (or_else name)
        (none_named path ps λ i q is same.
        let bad : 0 ≡ suc i =
        distinct.same 0 (suc i) p q refl is ((bytes_eq-Decides p.path path).0 e ∙ sym same) in
        absurd (omega (arith, bad)))
        ∙ or_else-none name
    by false e rest = nothing (counts_as_given p) ∙ rest

pub names_are : (ps : List LoadedPackage) (ks : List KeptPackage) → TellPackages ps ks → HaveDistinctPaths ps
    → (path : List ℕ)
    → names_from ks path ≡ package_names ps path
names_are ps ks tell distinct path = same_names ps ks tell path ∙ named_so path ps distinct
