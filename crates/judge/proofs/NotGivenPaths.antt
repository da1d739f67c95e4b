-- The packages that count as not given, by what is kept of all.
use Rattle.std.proofs.Common.{◌≡◌, ◌||◌, ◌&&◌, ℕ, suc, Bool, true, false, cond, not, List, [], ◌∷◌, String, Global, map, length, Option, Some, None, is_some, string_bytes, refl, sym, ap, ◌∙◌, arith}
use Rattle.std.specs.Prelude.{filter, slice_get}
use Rattle.std.specs.List.{list_any}
use Rattle.std.specs.Option.{option_or}
use Rattle.std.specs.Str.{bytes_eq}
use Rattle.declared_json.specs.DeclaredPackages.{PackageEntry}
use Rattle.imports.specs.Ranks.{Package}
use Rattle.judge.proofs.Loads.{tell_loaded}
use Rattle.judge.specs.NotGiven.{imports_path, kept_not_given, names_path, not_given, some_names, AreNotGiven, TellNotGiven}
use Rattle.load.specs.LoadedBeside.{IsLoadBeside}
use Rattle.load.specs.declared.loaded.Loaded.{Loaded}
use Rattle.load.specs.declared.packages.GivenPackage.{GivenPackage}
use Rattle.meaning_reports.specs.Loaded.{LoadedPackage, counts_as_given, import_list, imported_paths}
use Rattle.whole_packages.proofs.CountedPackages.{counts_told}
use Rattle.whole_packages.specs.CountedViews.{kept_counts}
use Rattle.whole_packages.specs.LoadedViews.{TellPackages, TellsPackage}
use Rattle.whole_packages.specs.declared.loaded_package.LoadedPackage.{LoadedPackage as KeptPackage}

-- Paths that are imported

-- a path that was added is one of them, or of those before
pub or_first : {V : Type 0} (o : Option V) (b : Bool) (v : V) → is_some (option_or o (cond b (Some v) None)) ≡ is_some o || b
or_first None true v = refl
or_first None false v = refl
or_first (Some x) b v = refl

pub or_rest : (a b c : Bool) → (a || b) || c ≡ a || (b || c)
or_rest true b c = refl
or_rest false b c = refl

-- the lists name what the packages import
pub lists_name : (path : List ℕ) (ps : List LoadedPackage) → some_names (import_list ps) path ≡ imports_path ps path
lists_name path [] = refl
lists_name path (p ∷ ps) = ap (λ rest. names_path (imported_paths p) path || rest) (lists_name path ps)

-- Packages

tells_first : (p : LoadedPackage) (ps : List LoadedPackage) (k : KeptPackage) (ks : List KeptPackage)
    → TellPackages (p ∷ ps) (k ∷ ks)
    → TellsPackage p k
tells_first p ps k ks tell = tell.each 0 p k refl refl

tells_rest : (p : LoadedPackage) (ps : List LoadedPackage) (k : KeptPackage) (ks : List KeptPackage)
    → TellPackages (p ∷ ps) (k ∷ ks)
    → TellPackages ps ks
tells_rest p ps k ks tell = record {
  are_as_many = omega (arith, tell.are_as_many);
  each = λ i q l is its. tell.each (suc i) q l is its;
}

-- of one package more the path is told alike
one_more : (b c : Bool) (p : LoadedPackage) (ps : List LoadedPackage) (k : KeptPackage) (ks : List KeptPackage) → b ≡ c
    → string_bytes k.path ≡ p.path
    → map (λ (l : KeptPackage). string_bytes l.path) ks ≡ map (λ (q : LoadedPackage). q.path) ps
    → map (λ (l : KeptPackage). string_bytes l.path) (cond b (k ∷ ks) ks)
    ≡ map (λ (q : LoadedPackage). q.path) (cond c (p ∷ ps) ps)
one_more true true p ps k ks same path rest = λ i. path i ∷ rest i
one_more true false p ps k ks same path rest = cc
one_more false true p ps k ks same path rest = cc
one_more false false p ps k ks same path rest = rest

same_paths : (imported test : List ℕ → Bool) → ((path : List ℕ) → imported path ≡ test path) → (ps : List LoadedPackage)
    (ks : List KeptPackage)
    → TellPackages ps ks
    → kept_not_given imported ks
    ≡ map (λ p. p.path) (filter (λ (p : LoadedPackage). not (counts_as_given p) && test p.path) ps)
same_paths imported test same [] [] tell = refl
same_paths imported test same [] (k ∷ ks) tell = absurd (omega (arith, tell.are_as_many))
same_paths imported test same (p ∷ ps) [] tell = absurd (omega (arith, tell.are_as_many))
same_paths imported test same (p ∷ ps) (k ∷ ks) tell =
    let tells = tells_first p ps k ks tell in
    let counts : kept_counts k ≡ counts_as_given p = sym (counts_told p k tells) in
    let path : string_bytes k.path ≡ p.path = sym tells.is_path in
    let both : not (kept_counts k) && imported (string_bytes k.path) ≡ not (counts_as_given p) && test p.path =
    (λ i. not (counts i) && imported (path i)) ∙ ap (λ b. not (counts_as_given p) && b) (same p.path) in
    one_more (not (kept_counts k) && imported (string_bytes k.path)) (not (counts_as_given p) && test p.path) p
    (filter (λ (q : LoadedPackage). not (counts_as_given q) && test q.path) ps) k
    (filter (λ (l : KeptPackage). not (kept_counts l) && imported (string_bytes l.path)) ks) both path
    (same_paths imported test same ps ks (tells_rest p ps k ks tell))

-- those that are found are those
pub tell_not_given : (packages : List KeptPackage) (imported : List ℕ → Bool) (paths : List (String Global))
    → ((ps : List LoadedPackage) → TellPackages ps packages → (path : List ℕ) → imported path ≡ imports_path ps path)
    → map string_bytes paths ≡ kept_not_given imported packages
    → TellNotGiven packages paths
tell_not_given packages imported paths same are ps tell =
    are ∙ same_paths imported (imports_path ps) (same ps tell) ps packages tell

pub not_given_of : (outside : List PackageEntry) (given : List GivenPackage) (loaded : Loaded) (paths : List (String Global))
    → IsLoadBeside given outside loaded
    → TellNotGiven loaded.packages.items paths
    → AreNotGiven outside given paths
not_given_of outside given loaded paths load tell = record {
  loaded = loaded;
  load = load;
  are_paths = tell load.load.meant (tell_loaded given loaded.packages.items load.load);
}
