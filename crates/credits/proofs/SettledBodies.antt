-- What a body settles.
use Rattle.std.proofs.Common.{◌≡◌, inl, inr, ℕ, true, false, ◌&&◌, List, [], ◌∷◌, Some, None, length, map, Contains, sym, ap, ◌∙◌, subst, arith}
use Rattle.std.specs.Prelude.{◌↔◌, ◌==◌, not, is_some}
use Rattle.std.proofs.lemmas.Bool.{false≢true, and_parts, and_from, ne_eqb, or_left, or_right}
use Rattle.std.proofs.lemmas.Bool.Decides.{Decides-eqb}
use Rattle.std.proofs.lemmas.List.{nil_from_length}
use Rattle.meaning.proofs.Membership.{contains_nil, contains_cases}
use Rattle.meaning.specs.BodyEvents.{Variable, captured, variables_of, jump_faults, too_many_faults, unfollowed_faults}
use Rattle.meaning.specs.Mentions.{BodyPlace}
use Rattle.meaning.specs.Uses.{Seen}
use Rattle.meaning_packages.specs.Credits.{Credits}
use Rattle.bodies.proofs.FewVariables.{none_at_first}
use Rattle.bodies.specs.Bodies.{has_paths, TellsBody}
use Rattle.bodies.specs.declared.body.Body.{Body as KeptBody}
use Rattle.bodies.specs.declared.graph.BodyGraph.{BodyGraph as KeptGraph}
use Rattle.events.specs.VariableViews.{variable_view}
use Rattle.credits.specs.CreditViews.{has, is_among, SettlesThese}
use Rattle.credits.specs.declared.table.Credits.{Credits as KeptCredits}
use Rattle.credits.specs.SettledVariables.{is_captured, captures_any}
use Rattle.credits.specs.FoundCredits.{IsReliedOn, IsSettledBy, SettlesBody}

captures : (vs : List Variable) (v : Variable) → Contains vs v → v.role ≡ captured → captures_any vs ≡ true
captures [] v h e = absurd (contains_nil v h)
captures (w ∷ vs) v h e =
    elim (contains_cases w v vs h) [
      | inl same ↦ or_left (is_captured w.role) (captures_any vs) (ap (λ x. is_captured x.role) same ∙ ap is_captured e)
      | inr later ↦ or_right (is_captured w.role) (captures_any vs) (captures vs v later e)
    ]

-- a body with a variable whose paths are followed has paths
pub paths_there : (seen : Seen) (b : BodyPlace) (v : Variable) → Contains (variables_of seen b.at) v
    → unfollowed_faults seen b ≡ []
    → has_paths seen b ≡ true
paths_there seen b v h followed = by (variables_of seen b.at) h
  where
    by : (vs : List Variable) → Contains vs v
        → (not (length vs == 0) && (length (unfollowed_faults seen b) == 0)) ≡ true
    by [] h = absurd (contains_nil v h)
    by (w ∷ vs) h =
        and_from (not (length (w ∷ vs) == 0)) (length (unfollowed_faults seen b) == 0)
        (ap not (ne_eqb (length (w ∷ vs)) 0 (λ e. omega (arith, e)))) (ap (λ fs. length fs == 0) followed)

pub followed_there : (seen : Seen) (b : BodyPlace) → has_paths seen b ≡ true → unfollowed_faults seen b ≡ []
followed_there seen b e =
    let both = and_parts (not (length (variables_of seen b.at) == 0)) (length (unfollowed_faults seen b) == 0) e in
    nil_from_length (unfollowed_faults seen b) ((Decides-eqb (length (unfollowed_faults seen b)) 0).0 both.1)

-- and then it has not too many variables
pub few_followed : (seen : Seen) (b : BodyPlace) → unfollowed_faults seen b ≡ []
    → too_many_faults (variables_of seen b.at) ≡ []
few_followed seen b followed = none_at_first (too_many_faults (variables_of seen b.at)) (jump_faults seen b) followed

module _ (file : ℕ) (seen : Seen) (b : BodyPlace) (body : KeptBody) (tells : TellsBody file seen b body)
    (credits : Credits) (number : ℕ) where
  pub none_captured : captures_any (map variable_view body.variables.items) ≡ false
      → (is_among [] number ≡ true) ↔ IsSettledBy seen credits b number
  none_captured none = (
    λ bad. absurd (false≢true bad),
    λ h. absurd (false≢true
        (sym none ∙ ap captures_any tells.are_variables
        ∙ captures (variables_of seen b.at) h.relied.settles.variable h.relied.settles.is_of_body h.relied.settles.is_captured)),
  )

  pub no_graph : body.graph ≡ None → (is_among [] number ≡ true) ↔ IsSettledBy seen credits b number
  no_graph none = (
    λ bad. absurd (false≢true bad),
    λ h. absurd (false≢true
        (ap is_some (sym none) ∙ tells.has_graph
        ∙ paths_there seen b h.relied.settles.variable h.relied.settles.is_of_body h.is_followed)),
  )

  pub of_graph : (kept : KeptGraph) → body.graph ≡ Some kept → (is_it : Type 0)
      → is_it ↔ IsReliedOn seen credits b number
      → is_it ↔ IsSettledBy seen credits b number
  of_graph kept is is_it relied = (
    λ e. record {
      is_followed = followed_there seen b (sym tells.has_graph ∙ ap is_some is);
      relied = relied.0 e;
    },
    λ h. relied.1 h.relied,
  )

-- what is told of a body's offset is told of the body
pub settles_body : (file : ℕ) (seen : Seen) (b : BodyPlace) (body : KeptBody) → TellsBody file seen b body
    → (numbers : List ℕ) (before after : KeptCredits)
    → SettlesThese body.place.at numbers before after
    → ((number : ℕ) → (is_among numbers number ≡ true) ↔ IsSettledBy seen (has before) b number)
    → SettlesBody seen b (has before) (has after)
settles_body file seen b body tells numbers before after these settled =
    let at : SettlesThese b.at numbers before after =
    subst (λ (p : BodyPlace). SettlesThese p.at numbers before after) tells.is_place these in
    record {
      there = λ number.
          (λ e. (settled number).0 (sym (at.there number) ∙ e), λ h. at.there number ∙ (settled number).1 h);
      others = at.others;
    }
