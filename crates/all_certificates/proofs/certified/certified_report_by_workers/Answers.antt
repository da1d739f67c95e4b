use Rattle.std.proofs.Common.{◌∙◌, subst}
use Rattle.all_certificates.proofs.AllCertified.{all_certified}
use Rattle.told_reports.specs.Reports.{AreTold}
use Rattle.certificate_json.specs.Certificates.{packages_of}
use Rattle.declared_tables.specs.DeclaredTables.{declared_tables}
use Rattle.declared_json.specs.DeclaredPackages.{packages_of as declared_of}
use Rattle.all_certificates.proofs.certified.certified_report_by_workers.Goals as goal

pub returns-clause-certified : goal.returns-clause-certified
returns-clause-certified g c =
    let judged = c.in_ok-judged.judged.items in
    let declared = declared_tables (declared_of c.args.outside.now) in
    record {
      tells_report = record {
        said = judged;
        are_reports = c.in_ok-judged.ensures.reports;
        told =
            subst (λ reports. AreTold c.args.settings.telling reports c.in_ok-report.report)
            (c.deref.ensures.value ∙ c.in_ok-reports.ensures.reports) c.in_ok-report.ensures;
      };
      are_certificates = λ ps tell distinct.
          all_certified declared ps c.args.packages.now tell judged (c.in_ok-judged.ensures.reports ps tell distinct)
          (c.in_ok-judged.ensures.certified ps tell distinct)
          (packages_of c.in_ok-reports.field-0.certificates) c.in_ok-reports.ensures.certified;
    }
