use Rattle.std.proofs.Common.{sym}
use Rattle.whole_packages.specs.WholeEntries.{second_view}
use Rattle.one_package.proofs.WholeOnly.{second_is_fault}
use Rattle.one_package.proofs.grounds.second_grounds.Goals as goal

pub returns-clause-grounds : goal.returns-clause-grounds
returns-clause-grounds c = λ ps tables i p all is_p tells around second. record {
  each = c.in_ok-faults.ensures.faults ps i p is_p tells (sym second) around.are_unranked;
  one = second_is_fault ps i p is_p (second_view c.args.second) second;
}
