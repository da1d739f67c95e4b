use Rattle.std.proofs.Common.{◌≡◌, ◌∷◌, [], ◌++◌, length, None, Some, ap, ◌∙◌, arith, subst}
use Rattle.json.specs.Json.{after_end_array, parse_map}
use Rattle.json_reading.specs.Standing.{items_at, value_at, Stops}
use Rattle.json_reading.proofs.Turns.{value_shorter, items_over, item_refused}
use Rattle.json_reading.proofs.Passed.{handed_on, stops_by}
use Rattle.json_reading.proofs.ListsRead.{all_of, before, left_of, none_before}
use Rattle.json_reading.proofs.flat.add_items.Goals as goal

pub items-init : goal.items-init
items-init g c = ([], none_before (items_at c.args.depth c.args.reader.now), λ h. h)

pub items-smaller : goal.items-smaller
items-smaller g c =
    let going : c.take_end_array.new.self ≡ c.items.reader = grind arith in
    let read = c.in_ok-add_item.ensures.ok in
    let shorter = value_shorter c.args.depth _ c.add_item.new.reader read.0 read.1 in
    omega (arith, shorter, ap length going)

pub items-preserved : goal.items-preserved
items-preserved g c =
    let l = c.items in
    let depth = c.args.depth in
    let r = c.add_item.new.reader in
    let going : (after_end_array l.reader ≡ None) × (c.take_end_array.new.self ≡ l.reader) = grind arith in
    let read = c.in_ok-add_item.ensures.ok in (
      l.invariant.0 ++ read.0 ∷ [],
      left_of depth (items_at depth c.args.reader.now) l.reader r l.invariant.0 read.0 going.0 l.invariant.1
          (subst (λ ts. value_at depth ts ≡ Some (read.0, r)) going.1 read.1),
      λ h. read.2 l.invariant.0 (l.invariant.2 h),
    )

pub returns-in_err-add_item-clause-err : goal.returns-in_err-add_item-clause-err
returns-in_err-add_item-clause-err g c =
    let l = c.items in
    let depth = c.args.depth in
    let going : (after_end_array l.reader ≡ None) × (c.take_end_array.new.self ≡ l.reader) = grind arith in
    let stop = c.in_err-add_item.field-0.0 in
    handed_on c.from_residual.result stop (Stops (items_at depth c.args.reader.now)) c.from_residual.ensures.1
    (stops_by (items_at depth c.args.reader.now) (value_at depth l.reader) stop
    (λ none. l.invariant.1 ∙ ap (parse_map (before l.invariant.0)) (item_refused depth l.reader going.0 none))
    (rw (← going.1) c.in_err-add_item.ensures.err))

pub returns-clause-ok : goal.returns-clause-ok
returns-clause-ok g c =
    let l = c.items in
    let new = c.take_end_array.new.self in (
      l.invariant.0,
      all_of (items_at c.args.depth c.args.reader.now) (items_at c.args.depth l.reader) new l.invariant.0 l.invariant.1
          (items_over c.args.depth l.reader new (grind arith)),
      l.invariant.2,
    )
