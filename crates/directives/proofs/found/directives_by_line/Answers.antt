use Rattle.std.proofs.Common.{◌∙◌, arith, map, subst}
use Rattle.memchr.specs.Find.{is_byte, IsFirstByte}
use Rattle.directives.specs.Directives.{directive_view}
use Rattle.directives.proofs.Lines.{ends, goes_on}
use Rattle.directives.proofs.found.directives_by_line.Goals as goal

pub lines-preserved : goal.lines-preserved
lines-preserved c =
    let l = c.lines in
    let cut = c.split_at.ensures in
    let next = goes_on l.rest.now c.split_at.result.0.now (map directive_view l.found.items) _ _ l.number l.start c.in-Some.end c.split_at-in-Some.result.1.now
    c.in-Some.ensures cut.front cut.front_len c.split_at-in-Some.ensures.back c.in_ok-add.ensures c.directive_on.ensures in
    (next ∙ l.invariant.0, omega (arith, c.split_at-in-Some.ensures.back_len), omega arith)

pub returns : goal.returns
returns c =
    let l = c.lines in
    let none = subst (λ r. IsFirstByte (is_byte 10) l.rest.now r) c.in_default.is c.memchr.ensures in
    ends l.rest.now l.rest.now (map directive_view l.found.items) _ _ l.number l.start none c.in_ok-add-2.ensures c.directive_on-2.ensures
    ∙ l.invariant.0
