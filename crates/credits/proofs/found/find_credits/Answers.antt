use Rattle.std.proofs.Common.{◌≡◌, ◌+◌, ◌-◌, ◌<◌, length, take, refl, subst, arith}
use Rattle.std.proofs.lemmas.Option.{slice_get_read}
use Rattle.std.proofs.lemmas.Slice.Zip.{AllZip-long}
use Rattle.bodies.specs.Bodies.{TellsBody}
use Rattle.meaning.specs.BodyEvents.{bodies_of}
use Rattle.credits.specs.CreditViews.{has}
use Rattle.credits.specs.FoundCredits.{AreFoundBut}
use Rattle.credits.proofs.FoundBackward.{none_yet, next_found}
use Rattle.credits.proofs.PairedLists.{pair_at}
use Rattle.credits.proofs.found.find_credits.Goals as goal

pub loop-left-init : goal.loop-left-init
loop-left-init c = (
  λ file seen tell.
      none_yet seen (has c.new-credits.result) c.new-credits.ensures (length c.args.bodies.now)
      (let size = AllZip-long (TellsBody file seen) (bodies_of seen) c.args.bodies.now tell in omega (arith, size)),
  omega arith,
)

pub loop-left-preserved : goal.loop-left-preserved
loop-left-preserved c =
    let i = c.loop-left.left - 1 in
    let below = c.loop-left.invariant.1 in
    let some = c.loop-left-test.true in
    let within : c.loop-left.left - 1 < length c.args.bodies.now = omega (arith, below, some) in
    let one_more : c.loop-left.left ≡ c.loop-left.left - 1 + 1 = omega (arith, some) in (
      λ file seen tell.
          let w = pair_at (TellsBody file seen) (bodies_of seen) c.args.bodies.now tell i c.index-bodies-left.result
          (slice_get_read c.args.bodies.now (length c.args.bodies.now) i c.index-bodies-left.result refl within
          c.index-bodies-left.is) in
          next_found seen i w.first w.is_there (has c.loop-left.credits) (has c.tell_body.new.credits)
          (c.in_ok-tell_body.ensures file seen w.first w.is_so)
          (subst (λ n. AreFoundBut seen (take n (bodies_of seen)) (has c.loop-left.credits)) one_more
          (c.loop-left.invariant.0 file seen tell)),
      omega (arith, below, some),
    )
