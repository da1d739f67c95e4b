use Rattle.std.proofs.Common.{◌+◌, refl, subst, arith, List, Some, None}
use Rattle.imports.specs.Views.{rank_of, rows_view}
use Rattle.board.specs.declared.entries.Entry.TheVariants.{Take}
use Rattle.board.specs.declared.entries.Phase.{Phase}
use Rattle.board.specs.declared.entries.Phase.TheVariants.{Untaken, Taken}
use Rattle.board.specs.declared.entries.Task.TheVariants.{Work}
use Rattle.board.specs.Legal.{AreImportsIn}
use Rattle.board.specs.Ready.{ready_view, Takes}
use Rattle.board.proofs.Steps.{room_left, few_pending, taken, goes}
use Rattle.board.proofs.Answered.{takes_by, task_after, works, idles, idle_then, idle_reads, can_read}
use Rattle.board.proofs.core_board.Core.take.Goals as goal
use Rattle.board.proofs.core_board.Core.take.Goals.{In-Some, In-None}

took : (g : _) (c : In-Some g)
    → Takes (rows_view c.self.inside.imports.now) (rank_of c.self.inside.order.now) c.self.inside.phases.items
    (ready_view c.self.inside.ready) (ready_view c.take.new.self) (Some c.in-Some.place)
took g c =
    takes_by (rows_view c.self.inside.imports.now) (rank_of c.self.inside.order.now) c.deref.result.now
    c.self.inside.phases.items (ready_view c.self.inside.ready) (ready_view c.take.new.self) c.take.result
    (Some c.in-Some.place) c.take.ensures c.deref.ensures.value c.in-Some.is

none : (g : _) (c : In-None g)
    → Takes (rows_view c.self.inside.imports.now) (rank_of c.self.inside.order.now) c.self.inside.phases.items
    (ready_view c.self.inside.ready) (ready_view c.take.new.self) None
none g c =
    takes_by (rows_view c.self.inside.imports.now) (rank_of c.self.inside.order.now) c.deref.result.now
    c.self.inside.phases.items (ready_view c.self.inside.ready) (ready_view c.take.new.self) c.take.result
    None c.take.ensures c.deref.ensures.value c.in-None.is

pub overflow_add-self : goal.overflow_add-self
overflow_add-self g c =
    let h = few_pending _ _ _ _ c.self.invariant in
    omega (arith, h, c.self.inside.phases.ok.0, c.self.inside.phases.ok.1, c.self.inside.phases.small)

pub push_reserved-requires : goal.push_reserved-requires
push_reserved-requires g c =
    let t = took g (goal.at.push_reserved-requires g c).In-Some in
    let h = room_left _ _ _ _ c.in-Some.place Untaken (Taken c.args.worker) c.self.invariant t.0.1 refl in
    let ok = c.self.inside.history.ok in
    omega (arith, h, ok)

pub invariant_of-self : goal.invariant_of-self
invariant_of-self g c =
    let t = took g (goal.at.invariant_of-self g c).In-Some in
    goes _ _ _ _ (Take c.args.worker c.in-Some.place) c.in-Some.place Untaken (Taken c.args.worker) _ _ _ _
    (c.self.inside.pending + 1) _ c.self.invariant
    (taken _ _ _ _ c.args.worker c.in-Some.place _ (c.self.inside.pending + 1) c.self.invariant c.if-self.false t.0 refl
    (t.1 c.args.worker))
    c.push_reserved.ensures.items c.push_reserved.ensures.capacity

pub returns-in-Some-clause-task : goal.returns-in-Some-clause-task
returns-in-Some-clause-task g c =
    let t = took g (goal.at.returns-in-Some-clause-task g c).In-Some in
    task_after _ g.R.Outcome.rank _ _ (Work c.in-Some.place) c.self.view_is
    (works _ _ _ _ c.self.invariant c.in-Some.place c.if-self.false t.0)

pub returns-in-Some-clause-imports : goal.returns-in-Some-clause-imports
returns-in-Some-clause-imports g c =
    let t = took g (goal.at.returns-in-Some-clause-imports g c).In-Some in
    let now = invariant_of-self g c in
    let P : List Phase → Type 0 = λ l. AreImportsIn g.R.Outcome.packages l c.in-Some.place in
    subst P now.are_phases (can_read _ _ _ _ c.self.invariant c.in-Some.place c.args.worker t.0)

pub returns-in-None-clause-task : goal.returns-in-None-clause-task
returns-in-None-clause-task g c =
    let t = none g (goal.at.returns-in-None-clause-task g c).In-None in
    task_after _ g.R.Outcome.rank _ _ c.idle_task.result c.self.view_is
    (idles _ _ _ _ c.self.invariant c.if-self.false t.0 c.idle_task.result c.idle_task.ensures)

pub returns-in-None-clause-then : goal.returns-in-None-clause-then
returns-in-None-clause-then g c =
    idle_then _ _ c.args.worker c.self.inside.pending c.idle_task.result c.idle_task.ensures c.self.view_is

pub returns-in-None-clause-imports : goal.returns-in-None-clause-imports
returns-in-None-clause-imports g c = idle_reads _ _ c.self.inside.pending c.idle_task.result c.idle_task.ensures
