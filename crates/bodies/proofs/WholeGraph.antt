-- The graph of a body of a file that was told of.
use Rattle.std.proofs.Common.{◌≡◌, ℕ, Result, Ok, Err, IfOk, sym, ap, ◌∙◌}
use Rattle.tree.specs.Syntax.{Block}
use Rattle.meaning.specs.BodyEvents.{sites_of}
use Rattle.meaning.specs.Code.{Code}
use Rattle.meaning.specs.StatementCode.{Sites, body_code}
use Rattle.meaning.specs.Uses.{Seen}
use Rattle.events.specs.declared.told.Told.{Told}
use Rattle.events.specs.ToldViews.{TellsFile}
use Rattle.flow.specs.declared.graph.Graph.{Graph as KeptGraph}
use Rattle.flow.specs.GraphViews.{graph_view}
use Rattle.flow.specs.Walks.{graph_of}
use Rattle.bodies.specs.declared.node.NodeEvent.{NodeEvent}
use Rattle.bodies.specs.NodeEvents.{node_event_view, changed_graph, IsGraphOf}
use Rattle.bodies.specs.BodySites.{TellsSites}
use Rattle.bodies.proofs.ChangedCode.{changed_sites, of_body}
use Rattle.bodies.proofs.ChangedGraph.{changed_graph_of}

same_sites : (seen : Seen) (told : Told) (body : ℕ) (sites : Sites NodeEvent)
    → TellsFile seen told → TellsSites told body sites
    → changed_sites node_event_view sites ≡ sites_of seen body
same_sites seen told body sites file tells = λ i. record {
  other = ap node_event_view tells.silent i;
  events = λ at. (tells.events at ∙ file.events body at) i;
  panics = λ at. (tells.panics at ∙ file.panics body at) i;
  returns = ap node_event_view tells.at_end i;
}

is_graph : (seen : Seen) (told : Told) (body : ℕ) (block : Block) (sites : Sites NodeEvent) (c : Code NodeEvent)
    (g : KeptGraph NodeEvent)
    → TellsSites told body sites
    → c ≡ body_code sites block
    → graph_view g ≡ graph_of c
    → TellsFile seen told
    → IsGraphOf (body_code (sites_of seen body) block) g
is_graph seen told body block sites c g tells is_code is file =
    ap (changed_graph node_event_view) (is ∙ ap graph_of is_code)
    ∙ sym (changed_graph_of node_event_view (body_code sites block))
    ∙ ap graph_of (sym (of_body node_event_view sites block))
    ∙ ap (λ s. graph_of (body_code s block)) (same_sites seen told body sites file tells)

pub of_built : {X : Type 0} (built : Result (KeptGraph NodeEvent) X) (told : Told) (body : ℕ) (block : Block)
    (sites : Sites NodeEvent) (c : Code NodeEvent)
    → TellsSites told body sites
    → c ≡ body_code sites block
    → IfOk built (λ g. graph_view g ≡ graph_of c)
    → IfOk built (λ g. (seen : Seen) → TellsFile seen told → IsGraphOf (body_code (sites_of seen body) block) g)
of_built (Ok g) told body block sites c tells is_code is =
    λ seen file. is_graph seen told body block sites c g tells is_code is file
of_built (Err e) told body block sites c tells is_code is = is
