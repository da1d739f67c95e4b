use Rattle.parser_base.specs.Places.{cursor, go_text}
use Rattle.parser_statements.proofs.ShallowVariables.{no-variables}
use Rattle.parser_statements.proofs.declarations.value_spec.Goals as goal

pub returns-then-source-eq0 : goal.returns-then-source-eq0
returns-then-source-eq0 g c =
    no-variables (go_text c.args.source) (cursor c.args.source c.args.place)
    c.args.source.below c.args.keyword c.if-source-eq0.true c.in-Var.is
