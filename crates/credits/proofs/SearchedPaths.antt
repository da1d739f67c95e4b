-- From what a search of a body's graph tells to the paths of the body.
use Rattle.std.proofs.Common.{◌≡◌, ℕ, Bool, List, map, Some, sym, ap, ◌∙◌, subst}
use Rattle.std.specs.Prelude.{is_some}
use Rattle.bodies.specs.Bodies.{TellsBody, code_in}
use Rattle.bodies.specs.Classified.{Classifies}
use Rattle.bodies.specs.NodeEvents.{IsGraphOf}
use Rattle.bodies.specs.declared.body.Body.{Body as KeptBody}
use Rattle.bodies.specs.declared.graph.BodyGraph.{BodyGraph as KeptGraph}
use Rattle.credits.proofs.OwnGroups.{starts_in_own_groups}
use Rattle.credits.proofs.SettledBodies.{few_followed, followed_there}
use Rattle.credits.specs.PathNodes.{TellsNodes}
use Rattle.credits.specs.BodyPaths.{TellsPaths}
use Rattle.events.specs.VariableViews.{variable_view}
use Rattle.events.specs.declared.variable.Variable.{Variable as KeptVariable}
use Rattle.bodies.specs.AtNodes.{ClassifiesNodes}
use Rattle.bodies.specs.Places.{HavePlaces}
use Rattle.meaning.specs.BodyEvents.{variables_of}
use Rattle.meaning.specs.Classes.{CancelClass, GroupClass}
use Rattle.meaning.specs.Code.{Code}
use Rattle.meaning.specs.Mentions.{BodyPlace}
use Rattle.meaning.specs.Uses.{Callee, Event, Seen}
use Rattle.meaning_packages.specs.Credits.{Credits, promises_in}
use Rattle.meaning_packages.specs.PathFaults.{paths_of}

module _ (file : ℕ) (seen : Seen) (b : BodyPlace) (body : KeptBody) (tells : TellsBody file seen b body)
    (kept : KeptGraph) (is_kept : body.graph ≡ Some kept)
    (calls : Callee → ℕ → Bool) (credits : Credits)
    (cancels : ℕ → ℕ → CancelClass → Bool) (groups : ℕ → ℕ → GroupClass → Bool) where
  have_places : HavePlaces (code_in seen b) (variables_of seen b.at)
  have_places = record {
    are_few = few_followed seen b (followed_there seen b (sym tells.has_graph ∙ ap is_some is_kept));
    own_groups = starts_in_own_groups seen b;
  }

  places_for : (vs : List KeptVariable) → vs ≡ body.variables.items → HavePlaces (code_in seen b) (map variable_view vs)
  places_for vs same =
      subst (HavePlaces (code_in seen b)) (sym (ap (map variable_view) same ∙ tells.are_variables)) have_places

  pub nodes_told : (vs : List KeptVariable) → vs ≡ body.variables.items
      → ((c : Code Event) → IsGraphOf c kept.graph
      → HavePlaces c (map variable_view vs)
      → ClassifiesNodes c (promises_in calls credits body.place.at) (map variable_view vs) cancels groups)
      → TellsNodes (paths_of seen (promises_in calls credits b.at) b) cancels groups
  nodes_told vs same classified =
      let is_graph = (tells.is_graph kept is_kept).is_graph in
      let at_place = subst (λ (p : BodyPlace). ClassifiesNodes (code_in seen b) (promises_in calls credits p.at) (map variable_view vs) cancels groups)
      tells.is_place (classified (code_in seen b) is_graph (places_for vs same)) in
      let of_body = subst (λ us. ClassifiesNodes (code_in seen b) (promises_in calls credits b.at) (map variable_view us) cancels groups)
      same at_place in
      subst (λ us. ClassifiesNodes (code_in seen b) (promises_in calls credits b.at) us cancels groups)
      tells.are_variables of_body

  pub paths_told : (vs : List KeptVariable) → vs ≡ body.variables.items
      → ((c : Code Event) → IsGraphOf c kept.graph
      → HavePlaces c (map variable_view vs)
      → Classifies c (promises_in calls credits body.place.at) (map variable_view vs) cancels groups)
      → TellsPaths (paths_of seen (promises_in calls credits b.at) b) kept.graph
      (map variable_view body.variables.items) cancels groups
  paths_told vs same classified =
      let is_graph = (tells.is_graph kept is_kept).is_graph in
      let at_place = subst (λ (p : BodyPlace). Classifies (code_in seen b) (promises_in calls credits p.at) (map variable_view vs) cancels groups)
      tells.is_place (classified (code_in seen b) is_graph (places_for vs same)) in
      let of_body = subst (λ us. Classifies (code_in seen b) (promises_in calls credits b.at) (map variable_view us) cancels groups)
      same at_place in
      record {
        is_graph = is_graph;
        are_variables = sym tells.are_variables;
        classifies = subst (λ us. Classifies (code_in seen b) (promises_in calls credits b.at) us cancels groups) tells.are_variables of_body;
      }
