use Rattle.std.proofs.Common.{◌≡◌, ◌<◌, ◌≤◌, length, get_or, [], refl, sym, ap, ◌∙◌, subst, Some, None, List, ℕ}
use Rattle.std.proofs.lemmas.List.{get_or-map}
use Rattle.std.proofs.lemmas.Option.{slice_get_read, slice_get_past}
use Rattle.std.specs.Prelude.{slice_get}
use Rattle.bodies.specs.JoinedStates.{words_at, IsImageOf, Joins, Follows}
use Rattle.bodies.specs.declared.state.State.{State}
use Rattle.bodies.proofs.sweep.Sweep.follow.Goals as goal

pub returns-in-Some : goal.returns-in-Some
returns-in-Some g c =
    let p = g.P.Promises.promises c.args.promises.now in
    let vs = c.args.variables.now in
    let a = c.args.self.now in
    let b = c.join_each.new.self in
    let left = c.args.self.now.left in
    let node = c.in-Some.node.now in
    let at = c.in-Some.ensures.lookup in
    let is : slice_get c.args.graph.now.nodes.items c.args.self.now.left ≡ Some c.in-Some.node.now =
    slice_get_read c.args.graph.now.nodes.items (length c.deref.result.now) left node
    (ap length c.deref.ensures.value) at.3.0 (at.1 ∙ ap (λ ns. get_or ns left node) c.deref.ensures.value) in
    let within : c.args.self.now.left < length c.args.self.now.states.items =
    subst (λ k. left < k) (ap length c.deref.ensures.value ∙ sym c.requires.counted) at.3.0 in
    let words : words_at c.args.self.now.states.items c.args.self.now.left ≡ c.index.result.now.words =
    get_or-map (λ (s : State). s.words) c.args.self.now.states.items left c.index.result.now [] within
    ∙ sym (ap (λ (s : State). s.words) c.index.ensures) in
    subst (λ o. Follows p vs o a b) (sym is) (
      c.image_of-image.result.words,
      subst (λ (ws : List ℕ). IsImageOf p vs node.occurrence.event ws c.image_of-image.result.words) (sym words)
          c.image_of-image.ensures,
      subst (λ (ns : List ℕ). Joins ns c.image_of-image.result.words a b) c.deref-in-Some.ensures.value
          c.join_each.ensures,
    )

pub returns-in_default : goal.returns-in_default
returns-in_default g c =
    let p = g.P.Promises.promises c.args.promises.now in
    let vs = c.args.variables.now in
    let a = c.args.self.now in
    let at = c.in_default.ensures.lookup in
    let is : slice_get c.args.graph.now.nodes.items c.args.self.now.left ≡ None =
    slice_get_past c.args.graph.now.nodes.items c.args.self.now.left
    (subst (λ ns. length ns ≤ c.args.self.now.left) c.deref.ensures.value at.3) in
    subst (λ o. Follows p vs o a a) (sym is) refl
