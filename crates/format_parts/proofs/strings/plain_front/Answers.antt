use Rattle.std.proofs.Common.{sym, ◌∙◌}
use Rattle.format_parts.proofs.Spelled.{plain_more}
use Rattle.format_parts.proofs.strings.plain_front.Goals as goal

pub loop-index-preserved : goal.loop-index-preserved
loop-index-preserved c = plain_more c.args.spelling c.args.bytes.now c.loop-index.index c.loop-index-test.true (sym c.is_plain.ensures ∙ c.if-not-is_plain.false) c.loop-index.invariant
