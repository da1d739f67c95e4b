use Rattle.std.proofs.Common.{◌≤◌, length, get_or, ap, ◌∙◌, subst, arith}
use Rattle.std.proofs.lemmas.Option.{slice_get_read, slice_get_past}
use Rattle.std.proofs.lemmas.Result.{on_ok_weaker}
use Rattle.searches.proofs.Following.{follows_next, follows_none}
use Rattle.searches.proofs.search.Progress.follow.Goals as goal

pub overflow_add-self : goal.overflow_add-self
overflow_add-self g c =
    let low = c.requires.within in
    let steps = c.args.self.now.steps in
    omega (arith, low, steps.ok.0, steps.ok.1, steps.small)

pub returns-in_default : goal.returns-in_default
returns-in_default g c =
    let graph = c.args.graph.now in
    let node = c.args.step.node in
    follows_none (g.C.Carry.step c.args.carry.now) graph c.args.step c.args.self.now c.requires.room
    (slice_get_past graph.nodes.items node
    (subst (λ ns. length ns ≤ node) c.deref.ensures.value c.in_default.ensures.lookup.3))

pub returns : goal.returns
returns g c =
    let graph = c.args.graph.now in
    let place = c.args.step.node in
    let node = c.in-Some.node.now in
    let at = c.in-Some.ensures.lookup in
    on_ok_weaker c.add_each.result
    (follows_next (g.C.Carry.step c.args.carry.now) graph c.args.step c.args.self.now node c.after-class.result
    c.after-class.ensures
    (slice_get_read graph.nodes.items (length c.deref.result.now) place node (ap length c.deref.ensures.value) at.3.0
    (at.1 ∙ ap (λ ns. get_or ns place node) c.deref.ensures.value))
    c.deref-2.result.now c.deref-2.ensures.value c.add_each.new.self)
    c.add_each.ensures
