use Rattle.std.proofs.Common.{List, drop, map, ◌++◌}
use Rattle.std.specs.List.{AllZip}
use Rattle.serde_json.specs.Data.{Data}
use Rattle.serde_json.specs.View.{view}
use Rattle.certificate_json.specs.Certificates.{package_of}
use Rattle.certificate_json.specs.Parts.{IsPackageText}
use Rattle.certificate_json.proofs.written.package_values.Given as goal

-- the values of those that are left complete the values of all
abbrev pub invariant-loop-entry : goal.invariant-loop-entry
invariant-loop-entry l =
    (rest : List Data) → AllZip IsPackageText (map package_of (drop l.entry-index l.packages)) rest
    → AllZip IsPackageText (map package_of l.packages) (map view l.values.items ++ rest)
