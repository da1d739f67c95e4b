use Rattle.parser_base.specs.Places.{cursor, go_text}
use Rattle.parser_base.proofs.Nodes.{name-read}
use Rattle.parser_base.proofs.expressions.name.Goals as goal

pub returns : goal.returns
returns c =
    name-read (go_text c.args.source) (cursor c.args.source c.args.place) (cursor c.args.source c.behind-end.result) _ _ _ c.name_expression.ensures c.in_ok-text.ensures c.behind-end.ensures c.span_to-span.ensures
