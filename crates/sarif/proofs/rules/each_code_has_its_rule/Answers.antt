use Rattle.sarif.proofs.CodeRules.{its_rule}
use Rattle.sarif.proofs.rules.each_code_has_its_rule.Goals as goal

pub returns : goal.returns
returns c = its_rule
