-- Packages in memory mention what the packages mention that they stand for.
use Rattle.std.proofs.Common.{◌≡◌, ℕ, suc, List, [], ◌∷◌, length, Option, Some, refl, sym, ap, ◌∙◌, arith}
use Rattle.std.specs.Prelude.{if◌then◌else◌, slice_get, string_bytes}
use Rattle.cause_mentions.specs.CauseMentions.{trees_mention, first_among, first_kept, kept_trees}
use Rattle.meaning.specs.OuterBlocks.{PackageNames}
use Rattle.meaning_reports.specs.Loaded.{LoadedPackage, trees_of}
use Rattle.whole_packages.specs.LoadedViews.{TellsPackage}
use Rattle.whole_packages.specs.declared.loaded_package.LoadedPackage.{LoadedPackage as KeptPackage}

pub first_same : (names : PackageNames) (ps : List LoadedPackage) (ks : List KeptPackage)
    → length ps ≡ length ks
    → ((i : ℕ) (p : LoadedPackage) (k : KeptPackage) → slice_get ps i ≡ Some p → slice_get ks i ≡ Some k
    → TellsPackage p k)
    → first_kept names ks ≡ first_among names ps
first_same names [] [] long tell = refl
first_same names [] (k ∷ ks) long tell = absurd (omega (arith, long))
first_same names (p ∷ ps) [] long tell = absurd (omega (arith, long))
first_same names (p ∷ ps) (k ∷ ks) long tell =
    let first = tell 0 p k refl refl in
    let rest = first_same names ps ks (omega (arith, long)) (λ i q j is that. tell (suc i) q j is that) in
    ap (λ (o : Option (List ℕ)). if trees_mention names (kept_trees k) then Some (string_bytes k.path) else o) rest
    ∙ (ap (λ trees. if trees_mention names trees then Some (string_bytes k.path) else first_among names ps) (sym first.are_trees)
    ∙ ap (λ (path : List ℕ). if trees_mention names (trees_of p) then Some path else first_among names ps) (sym first.is_path))
