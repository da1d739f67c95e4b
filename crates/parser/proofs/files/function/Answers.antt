use Rattle.std.proofs.Common.{sym, ◌∙◌}
use Rattle.parser_base.specs.Places.{cursor, go_text}
use Rattle.parser.proofs.TypeParameters.{no_function}
use Rattle.parser.proofs.files.function.Goals as goal

pub returns-then-stands : goal.returns-then-stands
returns-then-stands g c =
    no_function (go_text c.args.source) (sym c.is_second.ensures ∙ c.if-not-is_second.true) (cursor c.args.source c.args.place) _ _ _ _
    (rw c.behind.ensures at c.in_ok-on.ensures) c.in-Ok-holding.ensures (sym c.stands.ensures ∙ c.if-stands.true)
