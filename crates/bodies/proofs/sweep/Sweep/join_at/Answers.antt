use Rattle.std.proofs.Common.{rules, refl, sym, ap, ◌∙◌, ◌≡◌, ◌<◌, length, List, [], ℕ, ◌||◌}
use Rattle.std.proofs.lemmas.List.{get_or-map}
use Rattle.bodies.specs.States.{has_bit}
use Rattle.bodies.specs.declared.state.State.{State}
use Rattle.bodies.specs.JoinedStates.{words_at}
use Rattle.bodies.proofs.JoinedStates.{joins_more}
use Rattle.bodies.proofs.sweep.Sweep.join_at.Goals as goal

pub returns-then-join : goal.returns-then-join
returns-then-join c =
    let a = c.args.self.now in
    let old = c.index.result.now in
    let within : c.args.node < length c.args.self.now.states.items = search rules in
    let words : words_at c.args.self.now.states.items c.args.node ≡ c.index.result.now.words =
    get_or-map (λ (s : State). s.words) c.args.self.now.states.items c.args.node c.index.result.now [] within
    ∙ sym (ap (λ (s : State). s.words) c.index.ensures) in
    joins_more c.args.node c.args.image.now.words a c.join.new.self
    (λ bit. c.join.ensures.joined bit
    ∙ ap (λ (ws : List ℕ). has_bit ws bit || has_bit c.args.image.now.words bit) (sym words))
    _ within refl c.max-self.ensures old c.index.ensures (c.join.ensures.more c.if-join.true)
