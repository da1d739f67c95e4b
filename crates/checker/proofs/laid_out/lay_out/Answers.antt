use Rattle.std.proofs.Common.{refl, arith}
use Rattle.checker.proofs.Laid.{lays_out}
use Rattle.checker.proofs.laid_out.lay_out.Goals as goal

pub returns : goal.returns
returns c =
    let kept = c.args.kept.now in
    lays_out c.args.edition c.args.variables.now kept _ c.len.result c.deref.result.now refl refl refl
    (omega (arith, c.len.ensures, kept.graph.nodes.ok.0)) c.deref.ensures.value c.in_ok-rows.ensures
    c.in_ok-numbers.ensures.cancels c.in_ok-numbers.ensures.groups c.deref-2.result.now c.deref-2.ensures.value
    c.in_ok-groups.ensures (_, refl)
