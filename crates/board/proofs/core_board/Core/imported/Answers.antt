use Rattle.std.proofs.lemmas.Result.{IfOk-weaker}
use Rattle.board.proofs.Answered.{imports_before, imports_kept, imported_places}
use Rattle.board.proofs.core_board.Core.imported.Goals as goal

pub outcomes_of-requires : goal.outcomes_of-requires
outcomes_of-requires g c =
    imports_kept _ _ _ _ c.self.invariant c.args.place c.deref.result.now c.row_at.result.now c.deref.ensures.value
    c.row_at.ensures
    (imports_before g.R.Outcome.packages _ _ c.args.place c.self.view_is c.requires)

pub returns-clause-places : goal.returns-clause-places
returns-clause-places g c =
    IfOk-weaker c.outcomes_of.result _ _
    (λ found is.
    imported_places _ _ _ _ c.self.invariant c.args.place c.deref.result.now c.row_at.result.now
    c.deref.ensures.value c.row_at.ensures found.items is)
    c.outcomes_of.ensures
