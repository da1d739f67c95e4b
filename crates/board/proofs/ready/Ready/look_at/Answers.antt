use Rattle.std.proofs.Common.{◌+◌, refl, arith, get_or, drop}
use Rattle.imports.specs.Views.{rank_of, rows_view}
use Rattle.board.specs.Ready.{ready_view}
use Rattle.board.proofs.Listings.{missing_by, unlisted_by, next_place, not_listed, waits, room_left, lists}
use Rattle.board.proofs.ready.Ready.look_at.Goals as goal

pub push_reserved-requires : goal.push_reserved-requires
push_reserved-requires c =
    let place = get_or c.args.places.now c.args.index 0 in
    let rest = drop (c.args.index + 1) c.args.places.now in
    let h = room_left (rows_view c.args.imports.now) (rank_of c.args.order.now) c.args.phases.now place rest
    (ready_view c.args.self.now)
    (next_place _ _ _ c.args.places.now c.args.index _ c.requires.index c.requires.stands)
    c.in-Some.from
    (unlisted_by _ _ _ place _ _ c.unlisted.ensures c.deref.ensures.value c.in-Some.is) in
    let ok = c.args.self.now.listed.ok in
    omega (arith, h, ok)

pub returns-in-Some-next_missing : goal.returns-in-Some-next_missing
returns-in-Some-next_missing c =
    let place = get_or c.args.places.now c.args.index 0 in
    let rest = drop (c.args.index + 1) c.args.places.now in
    waits (rows_view c.args.imports.now) (rank_of c.args.order.now) c.args.phases.now place rest
    (ready_view c.args.self.now)
    (next_place _ _ _ c.args.places.now c.args.index _ c.requires.index c.requires.stands)
    c.in-Some.from
    (unlisted_by _ _ _ place _ _ c.unlisted.ensures c.deref.ensures.value c.in-Some.is)
    c.in-Some-next_missing.count
    (missing_by _ _ _ _ _ _ c.next_missing.ensures c.row_at.ensures c.in-Some-next_missing.is)

pub returns-in-None-next_missing : goal.returns-in-None-next_missing
returns-in-None-next_missing c =
    let place = get_or c.args.places.now c.args.index 0 in
    let rest = drop (c.args.index + 1) c.args.places.now in
    lists (rows_view c.args.imports.now) (rank_of c.args.order.now) c.args.phases.now place rest
    (ready_view c.args.self.now)
    (next_place _ _ _ c.args.places.now c.args.index _ c.requires.index c.requires.stands)
    c.in-Some.from
    (unlisted_by _ _ _ place _ _ c.unlisted.ensures c.deref.ensures.value c.in-Some.is)
    _
    (missing_by _ _ _ _ _ _ c.next_missing.ensures c.row_at.ensures c.in-None-next_missing.is)
    c.push_reserved.ensures.items refl refl c.push_reserved.ensures.capacity

pub returns-in-None : goal.returns-in-None
returns-in-None c =
    let place = get_or c.args.places.now c.args.index 0 in
    let rest = drop (c.args.index + 1) c.args.places.now in
    not_listed (rows_view c.args.imports.now) (rank_of c.args.order.now) c.args.phases.now place rest
    (ready_view c.args.self.now)
    (next_place _ _ _ c.args.places.now c.args.index _ c.requires.index c.requires.stands)
    (unlisted_by _ _ _ place _ _ c.unlisted.ensures c.deref.ensures.value c.in-None.is)
