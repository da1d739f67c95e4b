use Rattle.std.proofs.Common.{◌≡◌, ◌+◌, ◌-◌, ◌<◌, refl, sym, subst, arith, length, slice_get, slice_set, Contains, List, ℕ, Some}
use Rattle.std.proofs.lemmas.Option.{slice_get_within}
use Rattle.std.specs.declared.alloc.Global.{Global}
use Rattle.std.specs.declared.vec.Vec.{Vec as VecIn}
use Rattle.imports.specs.Views.{rank_of, rows_view}
use Rattle.board.specs.declared.entries.Entry.TheVariants.{Deliver}
use Rattle.board.specs.declared.entries.Phase.TheVariants.{Taken, Delivered}
use Rattle.board.specs.Ready.{row, ready_view}
use Rattle.board.proofs.Listings.{delivered as listed_on}
use Rattle.board.proofs.Steps.{room_left, some_pending, delivered, goes}
use Rattle.board.proofs.Answered.{may_close, stands_by}
use Rattle.board.proofs.core_board.Core.deliver.Goals as goal
use Rattle.board.proofs.core_board.Core.deliver.Goals.{In-None}

abbrev Vec : Type 0 → Type 0
Vec T = VecIn T Global

at : (g : _) (c : In-None g) → slice_get c.self.inside.phases.items c.place-place.result ≡ Some (Taken c.args.worker)
at g c =
    may_close (rank_of c.self.inside.order.now c.place-place.result) c.deref.result.now c.self.inside.phases.items
    c.args.worker c.place-place.result c.refusal.result c.refusal.ensures c.deref.ensures.value c.in-None.is

pub overflow_sub-self : goal.overflow_sub-self
overflow_sub-self g c =
    some_pending _ _ _ _ c.place-place.result c.args.worker c.self.invariant (at g (goal.at.overflow_sub-self g c).In-None)

pub index_mut-requires-2 : goal.index_mut-requires-2
index_mut-requires-2 g c =
    let within = slice_get_within c.self.inside.phases.items c.place-place.result (Taken c.args.worker)
    (at g (goal.at.index_mut-requires-2 g c).In-None) in
    let many = c.self.invariant.are_as_many in
    let outcomes = c.self.invariant.outcomes_as_many in
    let ok = c.self.inside.outcomes.ok in
    omega (arith, within, many, outcomes, ok)

pub push_reserved-requires : goal.push_reserved-requires
push_reserved-requires g c =
    let h = room_left _ _ _ _ c.place-place.result (Taken c.args.worker) (Delivered c.args.worker) c.self.invariant
    (at g (goal.at.push_reserved-requires g c).In-None) refl in
    let ok = c.self.inside.history.ok in
    omega (arith, h, ok)

pub look_at_all-requires : goal.look_at_all-requires
look_at_all-requires g c =
    let taken = at g (goal.at.look_at_all-requires g c).In-None in
    let rows = rows_view c.self.inside.imports.now in
    let within = slice_get_within c.self.inside.phases.items c.place-place.result (Taken c.args.worker) taken in
    let low : c.place-place.result < length rows = omega (arith, within, c.self.invariant.stands.phases_as_many) in
    let is_row = c.row_at.ensures in
    let same = c.deref-3.ensures.value in
    stands_by rows (rank_of c.self.inside.order.now)
    (slice_set c.self.inside.phases.items c.place-place.result (Delivered c.args.worker)) c.deref-2.result.now
    c.row_at.result.now (ready_view c.self.inside.ready)
    (listed_on rows (rank_of c.self.inside.order.now) c.self.inside.phases.items (ready_view c.self.inside.ready)
    c.self.invariant.stands c.row_at.result.now c.place-place.result c.args.worker taken
    (λ q h.
    let P : List ℕ → Type 0 = λ l. Contains l q in
    let there = c.self.invariant.are_importers q c.place-place.result h low in
    let by_slice = subst (λ (v : List (Vec ℕ)). Contains (row (rows_view v) c.place-place.result) q) (sym same) there in
    subst P (sym is_row) by_slice))
    (sym c.deref-2.ensures.value)

pub invariant_of-self : goal.invariant_of-self
invariant_of-self g c =
    let taken = at g (goal.at.invariant_of-self g c).In-None in
    let some = some_pending _ _ _ _ c.place-place.result c.args.worker c.self.invariant taken in
    let less : c.self.inside.pending - 1 + 1 ≡ c.self.inside.pending = omega (arith, some) in
    let stands = stands_by (rows_view c.self.inside.imports.now) (rank_of c.self.inside.order.now) c.deref-2.result.now
    (slice_set c.self.inside.phases.items c.place-place.result (Delivered c.args.worker)) _
    (ready_view c.look_at_all.new.self) c.look_at_all.ensures c.deref-2.ensures.value in
    goes _ _ _ _ (Deliver c.args.worker c.place-place.result) c.place-place.result (Taken c.args.worker)
    (Delivered c.args.worker) _ _ _ _ (c.self.inside.pending - 1) _ c.self.invariant
    (delivered _ _ _ _ c.args.worker c.place-place.result c.args.found _ (c.self.inside.pending - 1) c.self.invariant
    (sym c.place-place.ensures) taken less stands)
    c.push_reserved.ensures.items c.push_reserved.ensures.capacity
