use Rattle.std.proofs.Common.{◌≡◌, ◌<◌, length, Some, None, refl, ◌∙◌, arith}
use Rattle.json.specs.Json.{after_end_array, read_key}
use Rattle.json.proofs.Grammar.{read_key-shorter}
use Rattle.serde_json.specs.Data.{no_members, no_items, put}
use Rattle.json_reading.specs.Standing.{items_at, members_at, value_at, Stops}
use Rattle.json_reading.specs.declared.stop.Stop.TheVariants.{NotJson}
use Rattle.json_reading.proofs.Turns.{items_over, item_refused, members_over, member_next, member_refused, key_refused}
use Rattle.json_reading.proofs.Passed.{handed_on, leaves_next, stops_by}
use Rattle.json_reading.proofs.pass.+pass.Goals as goal

pub pass_items-loop-reader-preserved : goal.pass_items-loop-reader-preserved
pass_items-loop-reader-preserved t c =
    let l = c.loop-reader in
    let depth = c.args.depth in
    let going : (after_end_array l.reader ≡ None) × (c.take_end_array.new.self ≡ l.reader) = grind arith in
    let shorter : length c.pass_value.new.reader < length l.reader = rw (← going.1) c.in_ok-pass_value.ensures.shorter in (
      leaves_next depth _ l.reader c.pass_value.new.reader going.0 l.invariant.0
          (rw (← going.1) c.in_ok-pass_value.ensures.ok),
      omega (arith, shorter, l.invariant.1),
    )

pub pass_items-returns-in_err-pass_value-clause-err : goal.pass_items-returns-in_err-pass_value-clause-err
pass_items-returns-in_err-pass_value-clause-err t c =
    let l = c.loop-reader in
    let depth = c.args.depth in
    let going : (after_end_array l.reader ≡ None) × (c.take_end_array.new.self ≡ l.reader) = grind arith in
    let stop = c.in_err-pass_value.field-0.0 in
    handed_on c.from_residual.result stop (Stops (items_at depth c.args.reader.now)) c.from_residual.ensures.1
    (stops_by (items_at depth c.args.reader.now) (value_at depth l.reader) stop
    (λ none. l.invariant.0.none (item_refused depth l.reader going.0 none))
    (rw (← going.1) c.in_err-pass_value.ensures.err))

pub pass_items-returns-clause-ok : goal.pass_items-returns-clause-ok
pass_items-returns-clause-ok t c =
    let l = c.loop-reader in
    l.invariant.0.passes c.take_end_array.new.self
    (no_items, items_over c.args.depth l.reader c.take_end_array.new.self (grind arith))

pub pass_members-loop-reader-init : goal.pass_members-loop-reader-init
pass_members-loop-reader-init t c = (no_members, refl, omega arith)

pub pass_members-returns-in_err-next_key-clause-err : goal.pass_members-returns-in_err-next_key-clause-err
pass_members-returns-in_err-next_key-clause-err t c =
    let l = c.loop-reader in
    let depth = c.args.depth in
    handed_on c.from_residual.result NotJson (Stops (members_at depth no_members c.args.reader.now))
    c.from_residual.ensures.1
    (l.invariant.1 ∙ key_refused depth l.invariant.0 l.reader c.in_err-next_key.ensures.value)

pub pass_members-loop-reader-preserved : goal.pass_members-loop-reader-preserved
pass_members-loop-reader-preserved t c =
    let l = c.loop-reader in
    let depth = c.args.depth in
    let k = c.in-Some.field-0.now in
    let s = c.next_key.new.self in
    let key : read_key l.reader ≡ Some (Some k, s) = grind arith in
    let passed = c.in_ok-pass_value.ensures.ok in
    let fewer = read_key-shorter l.reader (Some k) s key in
    let shorter = c.in_ok-pass_value.ensures.shorter in (
      put k passed.0 l.invariant.0,
      l.invariant.1 ∙ member_next depth l.invariant.0 k l.reader s c.pass_value.new.reader passed.0 key passed.1,
      omega (arith, fewer, shorter, l.invariant.2),
    )

pub pass_members-returns-in_err-pass_value-clause-err : goal.pass_members-returns-in_err-pass_value-clause-err
pass_members-returns-in_err-pass_value-clause-err t c =
    let l = c.loop-reader in
    let depth = c.args.depth in
    let k = c.in-Some.field-0.now in
    let s = c.next_key.new.self in
    let key : read_key l.reader ≡ Some (Some k, s) = grind arith in
    let stop = c.in_err-pass_value.field-0.0 in
    handed_on c.from_residual-in_err-pass_value.result stop (Stops (members_at depth no_members c.args.reader.now))
    c.from_residual-in_err-pass_value.ensures.1
    (stops_by (members_at depth no_members c.args.reader.now) (value_at depth s) stop
    (λ none. l.invariant.1 ∙ member_refused depth l.invariant.0 k l.reader s key none) c.in_err-pass_value.ensures.err)

pub pass_members-returns-clause-ok : goal.pass_members-returns-clause-ok
pass_members-returns-clause-ok t c =
    let l = c.loop-reader in
    (l.invariant.0, l.invariant.1 ∙ members_over c.args.depth l.invariant.0 l.reader c.next_key.new.self (grind arith))
