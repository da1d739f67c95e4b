use Rattle.one_package.proofs.NothingSaid.{says_is}
use Rattle.one_package.proofs.verdicts.is_yes.Goals as goal

pub returns : goal.returns
returns c = says_is c.is_yes.result c.args.report.now.diagnostics.items c.is_yes.ensures
