use Rattle.std.proofs.Common.{◌∙◌}
use Rattle.accepting.specs.LinesKept.{lines_of, text_of}
use Rattle.accepting.proofs.LineLists.{line_gives, line_gives_none, line_is_last}
use Rattle.accepting.proofs.line_reasons.first_reason.Goals as goal

pub returns-in-Some : goal.returns-in-Some
returns-in-Some c =
    line_gives (lines_of c.args.lines.now) c.args.file c.args.code c.each.line c.args.last (text_of c.in-Some.reason)
    c.each-test.true c.in-Some.ensures
    ∙ c.each.invariant

pub each-preserved : goal.each-preserved
each-preserved c =
    line_gives_none (lines_of c.args.lines.now) c.args.file c.args.code c.each.line c.args.last c.each-test.true
    c.in-None.ensures
    ∙ c.each.invariant

pub returns : goal.returns
returns c =
    c.reason_for-2.ensures
    ∙ line_is_last (lines_of c.args.lines.now) c.args.file c.args.code c.each.line c.args.last c.each-test.false
    ∙ c.each.invariant
