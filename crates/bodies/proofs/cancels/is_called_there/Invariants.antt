use Rattle.std.proofs.Common.{◌≡◌, ◌&&◌, drop, map}
use Rattle.std.specs.Prelude.{◌==◌}
use Rattle.std.specs.List.{list_any}
use Rattle.tracked_rows.specs.EventViews.{callee_view, sent_view}
use Rattle.bodies.proofs.cancels.is_called_there.Given as goal

-- whether one that is left is called, is whether one is
abbrev pub invariant-loop-one : goal.invariant-loop-one
invariant-loop-one g l =
    list_any (λ x. (x.number == l.variable) && (g.P.Promises.promises l.promises).calls (callee_view l.callee) x.position)
    (map sent_view (drop l.one-index l.sent))
    ≡ list_any (λ x. (x.number == l.variable) && (g.P.Promises.promises l.promises).calls (callee_view l.callee) x.position)
    (map sent_view l.sent)
