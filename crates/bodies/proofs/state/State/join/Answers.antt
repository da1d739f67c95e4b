use Rattle.std.proofs.Common.{rules, subst, sym, ◌<◌}
use Rattle.bodies.proofs.StateBits.{joins_none, keeps_word, joins_word, all_joined, room_falls}
use Rattle.bodies.proofs.state.State.join.Goals as goal
use Rattle.bodies.proofs.state.State.join.Goals.{then-both-word, else-both-word}

pub loop-place-init : goal.loop-place-init
loop-place-init c = joins_none _ _

pub loop-place-preserved : goal.loop-place-preserved
loop-place-preserved c =
    let init = c.args.self.now.words in
    let others = c.args.other.now.words in
    let words = c.loop-place.self.words in
    let place = c.loop-place.place in
    let counted = c.loop-place.invariant.counted in
    elim c.if-both-word.branch [
      | then-both-word w ↦
          rw (w.self-is, w.grows-is)
          (joins_word init others words place c.loop-place.grows c.loop-place.invariant c.union-both.result c.union-both.ensures.both
          (subst (λ n. place < n) (sym counted) (search rules)) c.union-both.ensures.fits w.if-both-word.true)
      | else-both-word w ↦
          rw (w.self-is, w.grows-is)
          (keeps_word init others words place c.loop-place.grows c.loop-place.invariant c.union-both.result c.union-both.ensures.both
          c.union-both.ensures.fits w.if-both-word.false)
    ]

pub returns-clause-joined : goal.returns-clause-joined
returns-clause-joined c = all_joined _ _ _ _ _ c.loop-place.invariant (search rules) (search rules)

pub returns-clause-more : goal.returns-clause-more
returns-clause-more c = room_falls _ _ _ _ _ c.loop-place.invariant (search rules) (search rules)
