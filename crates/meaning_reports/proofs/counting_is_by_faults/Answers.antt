use Rattle.meaning_reports.proofs.CountedPackages.{counting_is_by_faults}
use Rattle.meaning_reports.proofs.counting_is_by_faults.Goals as goal

pub returns : goal.returns
returns c = counting_is_by_faults
