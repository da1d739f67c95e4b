use Rattle.std.proofs.Common.{◌≡◌, ◌+◌, ◌-◌, refl, arith, slice_get, Some, true}
use Rattle.imports.specs.Views.{rank_of, rows_view}
use Rattle.board.specs.declared.entries.Entry.TheVariants.{Back}
use Rattle.board.specs.declared.entries.Phase.TheVariants.{Taken, GivenBack}
use Rattle.board.specs.Ready.{ready_view}
use Rattle.board.proofs.Listings.{given_back}
use Rattle.board.proofs.Steps.{room_left, some_pending, returned, goes}
use Rattle.board.proofs.Answered.{may_close}
use Rattle.board.proofs.core_board.Core.back.Goals as goal
use Rattle.board.proofs.core_board.Core.back.Goals.{In-None}

at : (g : _) (c : In-None g) → slice_get c.self.inside.phases.items c.args.place ≡ Some (Taken c.args.worker)
at g c =
    may_close (rank_of c.self.inside.order.now c.args.place) c.deref.result.now c.self.inside.phases.items c.args.worker
    c.args.place c.refusal.result c.refusal.ensures c.deref.ensures.value c.in-None.is

pub overflow_sub-self : goal.overflow_sub-self
overflow_sub-self g c =
    some_pending _ _ _ _ c.args.place c.args.worker c.self.invariant (at g (goal.at.overflow_sub-self g c).In-None)

pub push_reserved-requires : goal.push_reserved-requires
push_reserved-requires g c =
    let h = room_left _ _ _ _ c.args.place (Taken c.args.worker) (GivenBack c.args.worker) c.self.invariant
    (at g (goal.at.push_reserved-requires g c).In-None) refl in
    let ok = c.self.inside.history.ok in
    omega (arith, h, ok)

pub invariant_of-self : goal.invariant_of-self
invariant_of-self g c =
    let taken = at g (goal.at.invariant_of-self g c).In-None in
    let some = some_pending _ _ _ _ c.args.place c.args.worker c.self.invariant taken in
    let less : c.self.inside.pending - 1 + 1 ≡ c.self.inside.pending = omega (arith, some) in
    let stands = given_back (rows_view c.self.inside.imports.now) (rank_of c.self.inside.order.now)
    c.self.inside.phases.items (ready_view c.self.inside.ready) c.self.invariant.stands c.args.place c.args.worker taken in
    goes _ _ _ _ (Back c.args.worker c.args.place) c.args.place (Taken c.args.worker) (GivenBack c.args.worker) _ _ _ true
    (c.self.inside.pending - 1) _ c.self.invariant
    (returned _ _ _ _ c.args.worker c.args.place _ (c.self.inside.pending - 1) c.self.invariant taken less stands)
    c.push_reserved.ensures.items c.push_reserved.ensures.capacity
