use Rattle.board.proofs.Answered.{in_before, in_after, copied_by, place_is, some_is_in, in_is_some}
use Rattle.board.proofs.core_board.Core.result.Goals as goal

pub returns-clause-place : goal.returns-clause-place
returns-clause-place g c =
    place_is _ _ _ _ c.self.invariant c.args.place c.outcome_at.result
    (copied_by _ _ c.args.place c.outcome_at.result c.outcome_at.ensures c.deref.ensures.value)

pub returns-clause-some : goal.returns-clause-some
returns-clause-some g c h =
    in_is_some _ _ _ _ c.self.invariant c.args.place c.outcome_at.result
    (copied_by _ _ c.args.place c.outcome_at.result c.outcome_at.ensures c.deref.ensures.value)
    (in_before g.R.Outcome.packages _ _ c.args.place c.self.view_is h)

pub returns-clause-none : goal.returns-clause-none
returns-clause-none g c h =
    in_after g.R.Outcome.packages _ _ c.args.place c.self.view_is
    (some_is_in _ _ _ _ c.self.invariant c.args.place c.outcome_at.result
    (copied_by _ _ c.args.place c.outcome_at.result c.outcome_at.ensures c.deref.ensures.value) h)
