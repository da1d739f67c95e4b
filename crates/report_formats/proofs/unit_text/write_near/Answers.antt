use Rattle.std.proofs.Common.{◌≡◌, ◌∙◌, arith, drop, refl, rules, subst, sym}
use Rattle.std.proofs.lemmas.List.{drop-drop}
use Rattle.std.proofs.lemmas.Result.{err_from_is_err_and}
use Rattle.memchr.specs.Find.{is_byte, IsFirstByte}
use Rattle.report_formats.specs.UnitText.{is_near}
use Rattle.report_formats.proofs.ShownLines.{last_shown, next_shown}
use Rattle.format_parts.proofs.Steps.{begins, goes_on, stops, last_call, written_as}
use Rattle.report_formats.proofs.unit_text.write_near.Goals as goal

pub lines-init : goal.lines-init
lines-init g c = (begins _ _, refl, omega arith)

pub lines-preserved : goal.lines-preserved
lines-preserved g c =
    let l = c.lines in
    let text = l.rest.now in
    let at = c.in-Some.end in
    let left : c.split_at-in-Some.result.1.now ≡ drop 1 (drop at text) = c.split_at-in-Some.ensures.back ∙ sym (drop-drop 1 at text) in
    let next = next_shown (is_near c.args.around c.args.line) l.number c.is_near.result c.is_near.ensures text at c.split_at.result.0.now c.split_at-in-Some.result.1.now c.in-Some.ensures c.split_at.ensures.front left in
    (goes_on _ _ _ _ _ _ _ next l.invariant.0 c.in_ok-write_if.ensures.taken, c.in_ok-write_if.ensures.refusals ∙ l.invariant.1, search rules)

pub returns-in_err-write_if-clause-taken : goal.returns-in_err-write_if-clause-taken
returns-in_err-write_if-clause-taken g c =
    let p = err_from_is_err_and c.from_residual.result c.from_residual.ensures.1 in
    let l = c.lines in
    let next = next_shown (is_near c.args.around c.args.line) l.number c.is_near.result c.is_near.ensures l.rest.now c.in-Some.end c.split_at.result.0.now _ c.in-Some.ensures c.split_at.ensures.front refl in
    stops _ _ _ _ _ _ _ next l.invariant.0 c.in_err-write_if.ensures.taken _ p.0 p.1

pub returns-clause-taken : goal.returns-clause-taken
returns-clause-taken g c =
    let l = c.lines in
    let none = subst (λ r. IsFirstByte (is_byte 10) l.rest.now r) c.in_default.is c.memchr.ensures in
    let last = last_shown (is_near c.args.around c.args.line) l.number c.is_near-2.result c.is_near-2.ensures l.rest.now none in
    last_call _ _ _ _ _ l.invariant.0 _ (written_as _ _ _ _ last _ c.write_if-2.ensures.taken)
