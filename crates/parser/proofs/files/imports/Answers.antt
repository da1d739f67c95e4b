use Rattle.std.proofs.Common.{sym, ◌∙◌}
use Rattle.std.proofs.lemmas.Result.{err_from_is_err_and}
use Rattle.parser_base.proofs.Faults.{is_stopped}
use Rattle.parser_base.specs.Places.{cursor, go_text}
use Rattle.parser.proofs.FileLists.{imports-start, imports-run-out, imports-end, import-fails, import_semicolon-fails, imports-go-on}
use Rattle.parser.proofs.files.imports.Goals as goal

pub loop-init : goal.loop-init
loop-init c = rw c.new-items.ensures.items (imports-start (go_text c.args.source) (cursor c.args.source c.args.place) _ c.steps-end.ensures)

pub returns-then-not-stands : goal.returns-then-not-stands
returns-then-not-stands c =
    imports-end (go_text c.args.source) c.loop.items.items _ c.loop.counter (cursor c.args.source c.loop.rest) _ c.loop.invariant c.loop-test.true (sym c.stands.ensures ∙ c.if-not-stands.true)

pub returns-in_err-item : goal.returns-in_err-item
returns-in_err-item c =
    let p = err_from_is_err_and c.from_residual.result c.from_residual.ensures.1 in
    rw (p.1, p.2) (import-fails (go_text c.args.source) c.loop.items.items _ c.loop.counter (cursor c.args.source c.loop.rest) _ c.loop.invariant c.loop-test.true (sym c.stands.ensures ∙ c.if-not-stands.false) c.in_err-item.field-0.0 c.in_err-item.ensures)

pub returns-in_err-after : goal.returns-in_err-after
returns-in_err-after c =
    let p = err_from_is_err_and c.from_residual-in_err-after.result c.from_residual-in_err-after.ensures.1 in
    rw (p.1, p.2) (import_semicolon-fails (go_text c.args.source) c.loop.items.items _ c.loop.counter (cursor c.args.source c.loop.rest) _ c.loop.invariant c.loop-test.true (sym c.stands.ensures ∙ c.if-not-stands.false) c.in_ok-item.item _ c.in_ok-item.ensures c.in_err-after.field-0.0 c.in_err-after.ensures)

pub loop-preserved : goal.loop-preserved
loop-preserved c =
    rw c.in_ok-push.ensures.items (imports-go-on (go_text c.args.source) c.loop.items.items _ c.loop.counter (cursor c.args.source c.loop.rest) _ c.loop.invariant c.loop-test.true (sym c.stands.ensures ∙ c.if-not-stands.false) c.in_ok-item.item _ c.in_ok-item.ensures _ c.in_ok-after.ensures)

pub returns : goal.returns
returns c =
    is_stopped c.unexpected.result _ (imports-run-out (go_text c.args.source) c.loop.items.items _ c.loop.counter (cursor c.args.source c.loop.rest) _ c.loop.invariant c.loop-test.false)
