use Rattle.std.proofs.Common.{◌≡◌, Some, refl, ◌∙◌, arith}
use Rattle.json.specs.Json.{read_key}
use Rattle.json.proofs.Grammar.{read_key-shorter}
use Rattle.serde_json.specs.Data.{no_members, put}
use Rattle.json_reading.specs.Standing.{members_at, value_at, Stops}
use Rattle.json_reading.specs.declared.stop.Stop.TheVariants.{NotJson}
use Rattle.json_reading.proofs.Turns.{value_shorter, members_over, member_next, member_refused, key_refused}
use Rattle.json_reading.proofs.Passed.{handed_on, stops_by}
use Rattle.json_reading.proofs.object.read_members.Goals as goal

pub members-init : goal.members-init
members-init g c = (no_members, refl, λ h. h)

pub returns-in_err-key-clause-err : goal.returns-in_err-key-clause-err
returns-in_err-key-clause-err g c =
    let l = c.members in
    let depth = c.args.depth in
    handed_on c.from_residual.result NotJson (Stops (members_at depth no_members c.args.reader.now))
    c.from_residual.ensures.1 (l.invariant.1 ∙ key_refused depth l.invariant.0 l.reader c.in_err-key.ensures.value)

pub members-smaller : goal.members-smaller
members-smaller g c =
    let s = c.next_key.new.self in
    let key : read_key c.members.reader ≡ Some (Some c.in-Some.key.now, s) = grind arith in
    let read = c.in_ok-read_member.ensures.ok in
    let fewer = read_key-shorter c.members.reader (Some c.in-Some.key.now) s key in
    let shorter = value_shorter c.args.depth s c.read_member.new.reader read.0 read.1 in
    omega (arith, fewer, shorter)

pub members-preserved : goal.members-preserved
members-preserved g c =
    let l = c.members in
    let k = c.in-Some.key.now in
    let s = c.next_key.new.self in
    let key : read_key l.reader ≡ Some (Some k, s) = grind arith in
    let read = c.in_ok-read_member.ensures.ok in (
      put k read.0 l.invariant.0,
      l.invariant.1 ∙ member_next c.args.depth l.invariant.0 k l.reader s c.read_member.new.reader read.0 key read.1,
      λ h. read.2 c.args.members.now l.invariant.0 (l.invariant.2 h),
    )

pub returns-in_err-read_member-clause-err : goal.returns-in_err-read_member-clause-err
returns-in_err-read_member-clause-err g c =
    let l = c.members in
    let depth = c.args.depth in
    let k = c.in-Some.key.now in
    let s = c.next_key.new.self in
    let key : read_key l.reader ≡ Some (Some k, s) = grind arith in
    let stop = c.in_err-read_member.field-0.0 in
    handed_on c.from_residual-in_err-read_member.result stop (Stops (members_at depth no_members c.args.reader.now))
    c.from_residual-in_err-read_member.ensures.1
    (stops_by (members_at depth no_members c.args.reader.now) (value_at depth s) stop
    (λ none. l.invariant.1 ∙ member_refused depth l.invariant.0 k l.reader s key none) c.in_err-read_member.ensures.err)

pub returns-clause-ok : goal.returns-clause-ok
returns-clause-ok g c =
    let l = c.members in (
      l.invariant.0,
      l.invariant.1 ∙ members_over c.args.depth l.invariant.0 l.reader c.next_key.new.self (grind arith),
      l.invariant.2,
    )
