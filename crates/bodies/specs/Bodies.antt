-- The bodies of a file in memory: each made once, with its variables and its graph, for whoever asks for its paths.
use Rattle.std.specs.Prelude.{ℕ, ◌≡◌, ◌==◌, not, ◌&&◌, Bool, List, length, map, Option, Some, is_some}
use Rattle.std.specs.List.{AllZip, list_any}
use Rattle.std.specs.List.Sorted.{IsPermutation}
use Rattle.bodies.specs.declared.body.Body.{Body as KeptBody}
use Rattle.bodies.specs.declared.graph.BodyGraph.{BodyGraph as KeptGraph}
use Rattle.bodies.specs.NodeEvents.{IsGraphOf}
use Rattle.code.specs.CodeViews.{block_of}
use Rattle.events.specs.declared.found.Variables.{Variables}
use Rattle.events.specs.declared.told.Told.{Told}
use Rattle.events.specs.ToldViews.{TellsFile}
use Rattle.events.specs.VariableViews.{variable_view, ordered_in}
use Rattle.flow.specs.GraphViews.{occurrences_of}
use Rattle.flow.specs.NodeOrder.{places, AreInOrder}
use Rattle.meaning.specs.BodyEvents.{bodies_of, sites_of, variables_of, unfollowed_faults}
use Rattle.meaning.specs.Code.{Code}
use Rattle.meaning.specs.Mentions.{BodyPlace}
use Rattle.meaning.specs.StatementCode.{body_code}
use Rattle.meaning.specs.Uses.{Seen, Event}
use Rattle.meaning_packages.specs.Credits.{binds_captured}
use Rattle.mentions.specs.MarkViews.{body_view}

-- the paths of the body are not followed
abbrev pub is_unfollowed : Seen → BodyPlace → Bool
is_unfollowed seen b = not (length (unfollowed_faults seen b) == 0)

-- the paths of the body are judged: it has variables, and its paths are followed
abbrev pub has_paths : Seen → BodyPlace → Bool
has_paths seen b = not (length (variables_of seen b.at) == 0) && (length (unfollowed_faults seen b) == 0)

-- the graph is that of the code, and each of its nodes stands once in the order, which is that of the text
pub record IsOrderedGraph (c : Code Event) (kept : KeptGraph) : Type 0 where
  pub is_graph : IsGraphOf c kept.graph
  pub same : IsPermutation (places 0 (occurrences_of kept.graph.nodes.items)) kept.order.items
  pub ordered : AreInOrder kept.order.items

-- the code of a body of the file
abbrev pub code_in : Seen → BodyPlace → Code Event
code_in seen b = body_code (sites_of seen b.at) (block_of b.statements b.braces)

-- what is kept of that body of the file of that number
pub record TellsBody (file : ℕ) (seen : Seen) (b : BodyPlace) (kept : KeptBody) : Type 0 where
  pub is_file : kept.file ≡ file
  pub is_place : body_view kept.place ≡ b
  pub are_variables : map variable_view kept.variables.items ≡ variables_of seen b.at
  pub unfollowed : kept.is_unfollowed ≡ is_unfollowed seen b
  pub is_edition : kept.edition ≡ seen.known.edition
  -- what it, or a literal in it, may bind
  pub binds : (number : ℕ)
      → list_any (λ n. n == number) kept.bound.now ≡ binds_captured seen.known.edition seen b.at number
  pub has_graph : is_some kept.graph ≡ has_paths seen b
  pub is_graph : (g : KeptGraph) → kept.graph ≡ Some g → IsOrderedGraph (code_in seen b) g

-- one for each body of the file, in their order
abbrev pub TellBodies : ℕ → Seen → List KeptBody → Type 0
TellBodies file seen bodies = AllZip (TellsBody file seen) (bodies_of seen) bodies

-- What one step makes

-- where the paths of a body of a file that was told of are judged, its graph is there, and else none
pub record IsGraphIf (are_judged : Bool) (told : Told) (b : BodyPlace) (kept : Option KeptGraph) : Type 0 where
  pub has_graph : is_some kept ≡ are_judged
  pub is_graph : (seen : Seen) → TellsFile seen told → (g : KeptGraph) → kept ≡ Some g
      → IsOrderedGraph (code_in seen b) g

-- it is what is kept of the body, if this was told of the file of that number, and these are its variables
abbrev pub TellsPlace : ℕ → Told → Variables → BodyPlace → KeptBody → Type 0
TellsPlace file told variables b kept = (seen : Seen)
    → TellsFile seen told
    → ((at : ℕ) → ordered_in variables at ≡ variables_of seen at)
    → TellsBody file seen b kept
