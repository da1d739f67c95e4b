use Rattle.std.proofs.Common.{refl}
use Rattle.meaning_reports.proofs.OneReport.{flags_by_paths}
use Rattle.all_certificates.proofs.certifying.CertifyingFileRules.are_determined.Goals as goal

pub returns-clause-flags : goal.returns-clause-flags
returns-clause-flags c = λ declared. flags_by_paths

pub returns-clause-declared : goal.returns-clause-declared
returns-clause-declared c = λ declared. refl
