use Rattle.std.proofs.Common.{rules, true≢false, sym, ◌∙◌}
use Rattle.bodies.proofs.StateBits.{word_bit}
use Rattle.bodies.proofs.state.State.is_within.Goals as goal

pub returns-then-not-has_all : goal.returns-then-not-has_all
returns-then-not-has_all c = (
  λ e. absurd (true≢false (sym e)),
  λ h. absurd (true≢false (sym
      (c.has_all.ensures.1 (λ bit s. word_bit c.args.self.now.words c.args.other.now.words c.loop-place.place h bit s
      (search rules)))
      ∙ c.if-not-has_all.true)),
)
