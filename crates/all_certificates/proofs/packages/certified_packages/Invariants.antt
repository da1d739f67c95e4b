use Rattle.std.proofs.Common.{◌≡◌, ◌++◌, map}
use Rattle.all_certificates.proofs.MadeCertificates.{MadeOn}
use Rattle.all_packages.specs.Reports.{report_in}
use Rattle.certificate_json.specs.Certificates.{package_of}
use Rattle.all_certificates.proofs.packages.certified_packages.Given as goal

-- what is there, with what those give that are left, is that of all
abbrev pub invariant-loop-one : goal.invariant-loop-one
invariant-loop-one l =
    let left = l.one-iterator.rest.items in
    (l.reports.items ++ map report_in left ≡ map report_in l.fn.judged.items)
    × MadeOn l.packages l.fn.judged.items left (map package_of l.certified.items)
