use Rattle.std.proofs.Common.{Some, ap}
use Rattle.meaning.specs.Mentions.{bare}
use Rattle.tree.proofs.Views.{expression_form-Name}
use Rattle.mentions.proofs.Naming.{bare_other}
use Rattle.mentions.proofs.named.as_bare.Goals as goal

pub returns-in-Name : goal.returns-in-Name
returns-in-Name c =
    rw (c.in-Name.is, expression_form-Name)
    (ap (λ text. Some (bare text c.args.expression.now.span.start)) c.as_str.ensures)

pub returns-in_default : goal.returns-in_default
returns-in_default c = bare_other _ _ c.in_default.not-Name
