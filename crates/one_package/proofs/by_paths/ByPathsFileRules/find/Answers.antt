use Rattle.std.proofs.Common.{false}
use Rattle.one_package.proofs.by_paths.ByPathsFileRules.find.Goals as goal

pub returns-clause-files : goal.returns-clause-files
returns-clause-files g c = λ declared ps tables i p is_p tells around told none.
    let found = c.in_ok-diagnostics.ensures ps tables i p false told is_p around none in
    record { are_flags = found.are_flags; each = found.each }
