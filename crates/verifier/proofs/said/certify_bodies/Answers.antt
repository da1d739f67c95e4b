use Rattle.std.proofs.Common.{◌≡◌, ◌+◌, ◌-◌, ◌<◌, length, refl, subst, arith}
use Rattle.std.proofs.lemmas.Option.{slice_get_read}
use Rattle.std.proofs.lemmas.Slice.Zip.{AllZip-long}
use Rattle.bodies.specs.Bodies.{TellsBody}
use Rattle.called_parameters.specs.Called.{is_called}
use Rattle.calls_flags.specs.KnownCalls.{known_calls}
use Rattle.credits.proofs.PairedLists.{pair_at}
use Rattle.credits.specs.CreditViews.{has}
use Rattle.meaning.specs.BodyEvents.{bodies_of}
use Rattle.verifier.proofs.FoundBackward.{none_yet, next_found, all_given, all_entries}
use Rattle.verifier.specs.FoundBodies.{AreFoundBut}
use Rattle.verifier.proofs.said.certify_bodies.Goals as goal

pub loop-left-init : goal.loop-left-init
loop-left-init c = (
  λ number seen told tell g given.
      none_yet g (is_called c.args.grounds.calls.own.now) (known_calls c.args.grounds.calls) number seen
      (has c.new-credits.result) c.new-credits.ensures (length c.args.bodies.now)
      (let size = AllZip-long (TellsBody number seen) (bodies_of seen) c.args.bodies.now tell in omega (arith, size))
      c.args.diagnostics.now.items,
  omega arith,
)

pub loop-left-preserved : goal.loop-left-preserved
loop-left-preserved c =
    let i = c.loop-left.left - 1 in
    let below = c.loop-left.invariant.1 in
    let some = c.loop-left-test.true in
    let own = is_called c.args.grounds.calls.own.now in
    let calls = known_calls c.args.grounds.calls in
    let within : c.loop-left.left - 1 < length c.args.bodies.now = omega (arith, below, some) in
    let one_more : c.loop-left.left ≡ c.loop-left.left - 1 + 1 = omega (arith, some) in (
      λ number seen told tell g given.
          let w = pair_at (TellsBody number seen) (bodies_of seen) c.args.bodies.now tell i c.index-bodies-left.result
          (slice_get_read c.args.bodies.now (length c.args.bodies.now) i c.index-bodies-left.result refl within
          c.index-bodies-left.is) in
          next_found g own calls number seen i w.first w.is_there (has c.loop-left.credits)
          (has c.certify_body.new.credits) c.args.diagnostics.now.items c.loop-left.diagnostics.items
          c.certify_body.new.diagnostics.items
          (c.in_ok-certify_body.ensures number seen w.first told w.is_so g given)
          (subst (λ n. AreFoundBut g own calls number seen n (has c.loop-left.credits) c.args.diagnostics.now.items
          c.loop-left.diagnostics.items) one_more (c.loop-left.invariant.0 number seen told tell g given)),
      omega (arith, below, some),
    )

pub returns-clause-given : goal.returns-clause-given
returns-clause-given c = λ number seen told tell g given.
    all_given g (is_called c.args.grounds.calls.own.now) (known_calls c.args.grounds.calls) number seen c.loop-left.left
    (has c.loop-left.credits) c.args.diagnostics.now.items c.loop-left.diagnostics.items
    (omega (arith, c.loop-left-test.false)) (c.loop-left.invariant.0 number seen told tell g given)

pub returns-clause-said : goal.returns-clause-said
returns-clause-said c = λ number seen told tell g given.
    all_entries g (is_called c.args.grounds.calls.own.now) (known_calls c.args.grounds.calls) number seen
    c.loop-left.left (has c.loop-left.credits) c.args.diagnostics.now.items c.loop-left.diagnostics.items
    (omega (arith, c.loop-left-test.false)) (c.loop-left.invariant.0 number seen told tell g given)
