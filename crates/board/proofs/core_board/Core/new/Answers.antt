use Rattle.std.proofs.Common.{refl, subst, arith, List, []}
use Rattle.imports.specs.Views.{rank_of, rows_view}
use Rattle.board.specs.declared.entries.Phase.{Phase}
use Rattle.board.specs.Ready.{ready_view, Stands}
use Rattle.board.proofs.Steps.{opens}
use Rattle.board.proofs.Answered.{same_length, many_none, many_untaken, are_listed}
use Rattle.board.proofs.core_board.Core.new.Goals as goal

pub new-requires-clause-listed : goal.new-requires-clause-listed
new-requires-clause-listed g c = are_listed _ _ _ c.requires.order _ c.requires.rank

pub invariant_of-result : goal.invariant_of-result
invariant_of-result g c =
    let many = same_length c.args.imports.now g.R.Outcome.packages c.requires.imports in
    let exact = c.in_ok-history.ensures.exact in
    let P : List Phase → Type 0 = λ l. Stands (rows_view c.args.imports.now) (rank_of c.args.order.now) l []
    (ready_view c.in_ok-ready.ready) in
    opens _ _ _ _ c.requires.imports c.requires.rank c.requires.order c.in_ok-importers.ensures
    (many_untaken _ _ _ c.in_ok-phases.ensures many)
    (many_none _ _ _ c.in_ok-outcomes.ensures many)
    c.in_ok-history.ensures.items
    (omega (arith, exact, many))
    refl refl
    (subst P c.deref.ensures.value c.in_ok-ready.ensures)
