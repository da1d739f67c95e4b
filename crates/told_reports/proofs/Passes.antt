-- Whether each package passes, of packages in memory and of what they stand for.
use Rattle.std.proofs.Common.{◌≡◌, ◌&&◌, Bool, List, [], ◌∷◌, map, refl, ap}
use Rattle.std.specs.List.{list_all}
use Rattle.accepting.specs.Findings.{found_view}
use Rattle.accepting.specs.declared.findings.FoundPackage.{FoundPackage}
use Rattle.told_reports.specs.Reports.{package_passes}

pub all_viewed : (ps : List FoundPackage)
    → list_all (λ p. package_passes (found_view p)) ps ≡ list_all package_passes (map found_view ps)
all_viewed [] = refl
all_viewed (p ∷ ps) = ap (λ (b : Bool). package_passes (found_view p) && b) (all_viewed ps)
