use Rattle.std.proofs.Common.{List, ℕ, subst, sym}
use Rattle.std.proofs.lemmas.List.{drop_more, drop_all}
use Rattle.searches.proofs.Adding.{adds_none, adds_then}
use Rattle.searches.specs.Searching.{Adds}
use Rattle.searches.specs.contracts.search.Progress.add_each.{E-type}
use Rattle.searches.proofs.search.Progress.add_each.Goals as goal

pub loop-node-init : goal.loop-node-init
loop-node-init g c = (c.requires.room, λ end h. h)

pub loop-node-preserved : goal.loop-node-preserved
loop-node-preserved g c =
    let class = c.args.class in
    let last = c.args.before in
    let before = c.loop-node.self in (
      c.in_ok-add.ensures.grows.has_room,
      λ end h.
          c.loop-node.invariant.1 end
          (subst (λ (ns : List ℕ). Adds (E-type g.row.E) ns class last before end)
          (sym (drop_more c.args.nodes.now c.loop-node.node-index 0 c.loop-node-test.true))
          (adds_then class last _ _ before c.add.new.self end c.in_ok-add.ensures h)),
    )

pub returns : goal.returns
returns g c =
    let class = c.args.class in
    let last = c.args.before in
    let now = c.loop-node.self in
    c.loop-node.invariant.1 now
    (subst (λ (ns : List ℕ). Adds (E-type g.row.E) ns class last now now)
    (sym (drop_all c.loop-node.node-index c.args.nodes.now c.loop-node-test.false))
    (adds_none class last now c.loop-node.invariant.0))
