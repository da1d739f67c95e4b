use Rattle.std.proofs.Common.{◌≡◌, ℕ, List, map, drop}
use Rattle.certificate_json.specs.Certificates.{package_of}
use Rattle.meaning.specs.OuterBlocks.{or_else}
use Rattle.verifier.specs.GivenViews.{package_by_path, package_in}
use Rattle.verifier.proofs.by_certificates.ByCertificates.new.Given as goal

-- the packages so far, with those that are left, are all
abbrev pub invariant-loop-found : goal.invariant-loop-found
invariant-loop-found l =
    (path : List ℕ)
    → or_else (package_by_path l.by path) (package_in (map package_of (drop l.found-index l.found-items)) path)
    ≡ package_in (map package_of l.found-items) path
