-- What is known of a body with a graph: its variables have places in states, and what it relies on is told by its place.
use Rattle.std.proofs.Common.{◌≡◌, ℕ, Bool, Some, sym, ap, ◌∙◌}
use Rattle.std.specs.Prelude.{is_some}
use Rattle.bodies.specs.Bodies.{TellsBody, code_in}
use Rattle.bodies.specs.Places.{HavePlaces}
use Rattle.bodies.specs.declared.body.Body.{Body as KeptBody}
use Rattle.bodies.specs.declared.graph.BodyGraph.{BodyGraph as KeptGraph}
use Rattle.credits.proofs.OwnGroups.{starts_in_own_groups}
use Rattle.credits.proofs.SettledBodies.{few_followed, followed_there}
use Rattle.meaning.specs.BodyEvents.{variables_of}
use Rattle.meaning.specs.Mentions.{BodyPlace}
use Rattle.meaning.specs.Uses.{Callee, Seen}
use Rattle.meaning_packages.specs.Credits.{Credits, promises_in}

module _ (file : ℕ) (seen : Seen) (b : BodyPlace) (body : KeptBody) (tells : TellsBody file seen b body) where
  pub have_places : (kept : KeptGraph) → body.graph ≡ Some kept → HavePlaces (code_in seen b) (variables_of seen b.at)
  have_places kept is_kept = record {
    are_few = few_followed seen b (followed_there seen b (sym tells.has_graph ∙ ap is_some is_kept));
    own_groups = starts_in_own_groups seen b;
  }

  pub its_promises : (calls : Callee → ℕ → Bool) (credits : Credits)
      → promises_in calls credits b.at ≡ promises_in calls credits body.place.at
  its_promises calls credits = ap (λ (p : BodyPlace). promises_in calls credits p.at) (sym tells.is_place)
