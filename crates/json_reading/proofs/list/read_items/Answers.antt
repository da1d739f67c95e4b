use Rattle.std.proofs.Common.{◌≡◌, length, true, false, None, ap, subst, arith}
use Rattle.json.specs.Json.{after_end_array}
use Rattle.json_reading.specs.Standing.{items_at, value_at, ReadsAs, Stops}
use Rattle.json_reading.proofs.Turns.{value_shorter, items_over, item_refused}
use Rattle.json_reading.proofs.Passed.{handed_on, stops_by}
use Rattle.json_reading.proofs.ListsRead.{keeps_item, keeps_other, keeps_all, none_left}
use Rattle.json_reading.proofs.list.read_items.Goals as goal

pub returns-in_err-item-clause-err : goal.returns-in_err-item-clause-err
returns-in_err-item-clause-err g c =
    let l = c.items in
    let depth = c.args.depth in
    let going : (after_end_array l.reader ≡ None) × (c.take_end_array.new.self ≡ l.reader) = grind arith in
    let stop = c.in_err-item.field-0.0 in
    handed_on c.from_residual.result stop (Stops (items_at depth c.args.reader.now)) c.from_residual.ensures.1
    (stops_by (items_at depth c.args.reader.now) (value_at depth l.reader) stop
    (λ none. none_left (g.R.ReadItem.is_item c.args.items.now) (g.R.ReadItem.is_none c.args.items.now) (items_at depth c.args.reader.now)
    (items_at depth l.reader) l.are_items l.found.items l.invariant
    (item_refused depth l.reader going.0 none)) (rw (← going.1) c.in_err-item.ensures.err))

pub items-smaller-else-is_err : goal.items-smaller-else-is_err
items-smaller-else-is_err g c =
    let going : c.take_end_array.new.self ≡ c.items.reader = grind arith in
    let read = c.in_ok-item.ensures.ok in
    let shorter = value_shorter c.args.depth _ c.read_item.new.reader read.value read.stands in
    omega (arith, shorter, ap length going)

pub items-preserved-else-is_err : goal.items-preserved-else-is_err
items-preserved-else-is_err g c =
    let l = c.items in
    let Is = g.R.ReadItem.is_item c.args.items.now in
    let IsNone = g.R.ReadItem.is_none c.args.items.now in
    let r = c.read_item.new.reader in
    let going : (after_end_array l.reader ≡ None) × (c.take_end_array.new.self ≡ l.reader) = grind arith in
    keeps_item Is IsNone c.args.depth (items_at c.args.depth c.args.reader.now) l.reader r going.0 l.are_items l.found.items
    c.push.new.self.items c.in-Some.item c.in_ok-item.field-0 l.invariant c.in-Some.is
    (subst (λ ts. ReadsAs Is IsNone (value_at c.args.depth ts) r c.in_ok-item.field-0) going.1 c.in_ok-item.ensures.ok)
    (grind arith)

pub items-smaller : goal.items-smaller
items-smaller g c =
    let going : c.take_end_array.new.self ≡ c.items.reader = grind arith in
    let read = c.in_ok-item.ensures.ok in
    let shorter = value_shorter c.args.depth _ c.read_item.new.reader read.value read.stands in
    omega (arith, shorter, ap length going)

pub items-preserved : goal.items-preserved
items-preserved g c =
    let l = c.items in
    let Is = g.R.ReadItem.is_item c.args.items.now in
    let IsNone = g.R.ReadItem.is_none c.args.items.now in
    let r = c.read_item.new.reader in
    let going : (after_end_array l.reader ≡ None) × (c.take_end_array.new.self ≡ l.reader) = grind arith in
    keeps_other Is IsNone c.args.depth (items_at c.args.depth c.args.reader.now) l.reader r going.0 l.are_items l.found.items
    c.in_ok-item.field-0 l.invariant c.in-None.is
    (subst (λ ts. ReadsAs Is IsNone (value_at c.args.depth ts) r c.in_ok-item.field-0) going.1 c.in_ok-item.ensures.ok)

pub returns-then-are_items-clause-ok : goal.returns-then-are_items-clause-ok
returns-then-are_items-clause-ok g c =
    let l = c.items in
    let new = c.take_end_array.new.self in
    keeps_all (g.R.ReadItem.is_item c.args.items.now) (g.R.ReadItem.is_none c.args.items.now) (items_at c.args.depth c.args.reader.now)
    (items_at c.args.depth l.reader) l.are_items true l.found.items new l.invariant c.if-are_items.true
    (items_over c.args.depth l.reader new (grind arith))

pub returns-else-are_items-clause-ok : goal.returns-else-are_items-clause-ok
returns-else-are_items-clause-ok g c =
    let l = c.items in
    let new = c.take_end_array.new.self in
    keeps_all (g.R.ReadItem.is_item c.args.items.now) (g.R.ReadItem.is_none c.args.items.now) (items_at c.args.depth c.args.reader.now)
    (items_at c.args.depth l.reader) l.are_items false l.found.items new l.invariant c.if-are_items.false
    (items_over c.args.depth l.reader new (grind arith))
