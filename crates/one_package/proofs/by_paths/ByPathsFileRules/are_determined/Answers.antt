use Rattle.meaning_reports.proofs.OneReport.{flags_by_paths}
use Rattle.one_package.proofs.by_paths.ByPathsFileRules.are_determined.Goals as goal

pub returns-clause-flags : goal.returns-clause-flags
returns-clause-flags c = λ declared. flags_by_paths
