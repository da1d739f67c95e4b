-- The bodies of a file that was told of, each with its variables and its graph.
use Rattle.std.proofs.Common.{◌≡◌, ℕ, Bool, true, false, ◌&&◌, List, length, map, refl, sym, ap, ◌∙◌, subst}
use Rattle.std.specs.Prelude.{◌==◌, not}
use Rattle.std.proofs.lemmas.List.{length-map}
use Rattle.std.specs.List.{AllZip, list_any}
use Rattle.lists.specs.ListViews.{items_at}
use Rattle.bodies.specs.declared.body.Body.{Body as KeptBody}
use Rattle.bodies.specs.Bodies.{is_unfollowed, IsGraphIf, TellsBody, TellsPlace, TellBodies}
use Rattle.bodies.proofs.ZippedLists.{zipped_views, zipped_at}
use Rattle.events.specs.declared.found.Variables.{Variables}
use Rattle.events.specs.declared.told.Told.{Told}
use Rattle.events.specs.ToldViews.{TellsFile}
use Rattle.events.specs.VariableViews.{variable_view, ordered_in}
use Rattle.meaning.specs.BodyEvents.{variables_of, unfollowed_faults}
use Rattle.meaning.specs.Uses.{Seen}
use Rattle.mentions.specs.declared.mark.BodyPlace.{BodyPlace as KeptPlace}
use Rattle.mentions.specs.MarkViews.{body_view}

pub tells_place : (file : ℕ) (told : Told) (variables : Variables) (place : KeptPlace) (kept : KeptBody)
    (are_judged : Bool)
    → kept.file ≡ file
    → kept.place ≡ place
    → map variable_view kept.variables.items ≡ ordered_in variables place.at
    → ((seen : Seen) → map variable_view kept.variables.items ≡ variables_of seen place.at
    → kept.is_unfollowed ≡ is_unfollowed seen (body_view place))
    → are_judged ≡ (not (length kept.variables.items == 0) && not kept.is_unfollowed)
    → IsGraphIf are_judged told (body_view place) kept.graph
    → kept.edition ≡ told.edition
    → kept.bound.now ≡ items_at told.bound place.at
    → TellsPlace file told variables (body_view place) kept
tells_place file told variables place kept are_judged is_file is_place are unfollowed judged graph by bound seen of_file of_all =
    let are_variables = are ∙ of_all place.at in
    let size : length kept.variables.items ≡ length (variables_of seen place.at) =
    sym (length-map kept.variables.items variable_view) ∙ ap length are_variables in
    record {
      is_file = is_file;
      is_place = ap body_view is_place;
      are_variables = are_variables;
      unfollowed = unfollowed seen are_variables;
      is_edition = by ∙ of_file.edition;
      binds = λ number. ap (list_any (λ n. n == number)) bound ∙ of_file.bound place.at number;
      has_graph =
          graph.has_graph
          ∙ (judged
          ∙ λ i. not (size i == 0)
          && (ap not (unfollowed seen are_variables) ∙ not_twice (length (unfollowed_faults seen (body_view place)) == 0)) i);
      is_graph = graph.is_graph seen of_file;
    }
  where
    not_twice : (t : Bool) → not (not t) ≡ t
    not_twice true = refl
    not_twice false = refl

-- what is kept of the body at a place that was told of
abbrev pub TellsAt : ℕ → Told → Variables → KeptPlace → KeptBody → Type 0
TellsAt file told variables p b = TellsPlace file told variables (body_view p) b

pub tell_bodies : (file : ℕ) (told : Told) (variables : Variables) (bodies : List KeptBody)
    → AllZip (TellsAt file told variables) told.opened.items bodies
    → (seen : Seen)
    → TellsFile seen told
    → ((at : ℕ) → ordered_in variables at ≡ variables_of seen at)
    → TellBodies file seen bodies
tell_bodies file told variables bodies each seen of_file of_all =
    subst (λ bs. AllZip (TellsBody file seen) bs bodies) of_file.opened
    (zipped_views (TellsBody file seen) body_view told.opened.items bodies
    (zipped_at (TellsAt file told variables) (λ p b. TellsBody file seen (body_view p) b)
    (λ p b tells. tells seen of_file of_all) told.opened.items bodies each))
