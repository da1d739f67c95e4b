use Rattle.certificate_json.specs.Certificates.{packages_of}
use Rattle.judge.proofs.certified.certified_text_of.Goals as goal

pub returns-clause-certified : goal.returns-clause-certified
returns-clause-certified g c = record {
  tells_report = c.in_ok-report.ensures.certified.tells_report;
  entries = packages_of c.in_ok-report.field-0.certificates;
  are_certificates = c.in_ok-report.ensures.certified.are_certificates;
  is_text = c.in_ok-certificates.ensures;
}
