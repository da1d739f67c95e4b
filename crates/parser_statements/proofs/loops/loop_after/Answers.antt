use Rattle.std.proofs.Common.{sym, ◌∙◌}
use Rattle.tree.specs.View.{expressions_syntax}
use Rattle.parser_base.specs.Places.{cursor, parts_of, go_text}
use Rattle.parser_statements.proofs.LoopHeads.{names-range}
use Rattle.parser_statements.proofs.loops.loop_after.Goals as goal

pub returns-then-has_range : goal.returns-then-has_range
returns-then-has_range g c =
    rw (names-range (go_text c.args.source) (parts_of c.args.source) c.args.source.below (cursor c.args.source c.args.from) (cursor c.args.source c.args.header.from) (expressions_syntax c.args.header.first.items) (cursor c.args.source c.args.header.place) _ (sym c.has_range.ensures ∙ c.if-has_range.true) c.in_ok-names.ensures, sym c.behind.ensures) c.defined_range.ensures
