use Rattle.std.proofs.Common.{List, ℕ, refl, sym, ◌∙◌, length, ◌<◌, subst, arith}
use Rattle.std.proofs.lemmas.List.{length-map}
use Rattle.std.proofs.lemmas.Option.{slice_get_read}
use Rattle.flow.specs.GraphViews.{graph_view}
use Rattle.searches.proofs.Searches.{begun, goes_on, whole}
use Rattle.searches.specs.Searching.{Adds}
use Rattle.searches.proofs.search.search_graph.Goals as goal

pub loop-search-init : goal.loop-search-init
loop-search-init g c =
    let graph = c.args.graph.now in
    begun (graph_view graph) (g.C.Carry.step c.args.carry.now) c.args.entry c.len.result c.in_ok-search.search
    c.add_each.new.self (c.len.ensures ∙ c.args.graph.now.nodes.ok.0 ∙ sym (length-map graph.nodes.items _))
    c.in_ok-search.ensures
    (subst (λ (ns : List ℕ). Adds _ ns c.args.entry _ c.in_ok-search.search c.add_each.new.self) c.deref.ensures.value
    c.in_ok-add_each.ensures)

pub loop-search-preserved : goal.loop-search-preserved
loop-search-preserved g c =
    let steps = c.loop-search.search.steps.items in
    goes_on (graph_view c.args.graph.now) (g.C.Carry.step c.args.carry.now) c.args.entry c.index-step.result.now
    c.loop-search.search c.follow.new.self c.loop-search.invariant
    (slice_get_read steps (length steps) c.loop-search.search.followed c.index-step.result.now refl
    (subst (λ n. c.loop-search.search.followed < n) (c.len-in-loop-search.ensures ∙ c.loop-search.search.steps.ok.0) c.loop-search-test.true) c.index-step.ensures)
    c.in_ok-follow.ensures

pub returns : goal.returns
returns g c =
    let over = c.loop-search-test.false in
    whole (graph_view c.args.graph.now) (g.C.Carry.step c.args.carry.now) c.args.entry c.loop-search.search
    c.loop-search.invariant (omega (arith, over))
