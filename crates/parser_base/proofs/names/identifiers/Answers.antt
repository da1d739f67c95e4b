use Rattle.std.proofs.Common.{sym, ◌∙◌}
use Rattle.std.proofs.lemmas.Result.{err_from_is_err_and}
use Rattle.parser_base.proofs.Faults.{fails_too, is_stopped}
use Rattle.parser_base.proofs.Rounds.{names-first-fails, names-start, names-run-out, names-end-here, names-fail-here, names-go-on}
use Rattle.parser_base.proofs.names.identifiers.Goals as goal

pub returns-in_err-first : goal.returns-in_err-first
returns-in_err-first c =
    let p = err_from_is_err_and c.from_residual.result c.from_residual.ensures.1 in
    rw (p.1, p.2) (fails_too c.in_err-first.field-0.0 _ _ c.in_err-first.ensures (names-first-fails _ _))

pub loop-init : goal.loop-init
loop-init c =
    rw (c.in_ok-push.ensures.items, c.reserve_exact.ensures.items, c.new-names.ensures.items) (names-start _ _ _ c.in_ok-first.first _ c.in_ok-first.ensures c.steps-end.ensures)

pub returns-then-not-stands : goal.returns-then-not-stands
returns-then-not-stands c = names-end-here _ c.loop.names.items _ c.loop.counter _ _ c.loop.invariant c.loop-test.true (sym c.stands.ensures ∙ c.if-not-stands.true)

pub returns : goal.returns
returns c = is_stopped c.unexpected.result _ (names-run-out _ c.loop.names.items _ c.loop.counter _ _ c.loop.invariant c.loop-test.false)

pub returns-in_err-name : goal.returns-in_err-name
returns-in_err-name c =
    let p = err_from_is_err_and c.from_residual-in_err-name.result c.from_residual-in_err-name.ensures.1 in
    rw (p.1, p.2) (names-fail-here _ c.loop.names.items _ c.loop.counter _ _ c.loop.invariant c.loop-test.true (sym c.stands.ensures ∙ c.if-not-stands.false) c.in_err-name.field-0.0 (rw c.behind-next.ensures at c.in_err-name.ensures))

pub loop-preserved : goal.loop-preserved
loop-preserved c =
    rw c.in_ok-push-2.ensures.items (names-go-on _ c.loop.names.items _ c.loop.counter _ _ c.loop.invariant c.loop-test.true (sym c.stands.ensures ∙ c.if-not-stands.false) c.in_ok-name.name _ (rw c.behind-next.ensures at c.in_ok-name.ensures))
