-- What a body passes to a function is a variable that it declares, and none that it captures.
use Rattle.std.proofs.Common.{◌≡◌, ℕ, ◌≤◌, true, List, [], Some, None, Contains, refl, sym, ap, ◌∙◌, arith}
use Rattle.std.proofs.lemmas.Bool.{true≢false, eq-eqb}
use Rattle.std.proofs.lemmas.Option.{none-some}
use Rattle.meaning.specs.Code.{Occurrence}
use Rattle.meaning.specs.Lists.{Reaches}
use Rattle.meaning.specs.Mentions.{BodyPlace, Mark, mentions, of_fields, runs_literal, returns, opens, closes}
use Rattle.meaning.specs.Tracked.{variable_of}
use Rattle.meaning.specs.Uses.{Seen, found, is_body, Event, other, defer_literal, go_literal, go, return_event, go_call}
use Rattle.meaning.specs.BodyEvents.{Variable, VariableRole, own_parameter, own_receiver, declared_in_body, captured, handed_on, mark_events}
use Rattle.meaning.proofs.Membership.{contains_nil}
use Rattle.meaning_runs.specs.Bodies.{Body, code_of, variables_in}
use Rattle.meaning_runs.specs.EventSources.{HasSource, says_nothing, falls_off, of_mark}
use Rattle.meaning_runs.proofs.Bindings.{same_body}
use Rattle.meaning_runs.proofs.CaredFor.{level_in, level}
use Rattle.meaning_runs.proofs.EventSources.{events_have_sources}
use Rattle.meaning_runs.proofs.KeptEvents.{IsOfObject, by_renew, by_call, by_deferred, by_give, by_keep, by_outer, by_obtaining, by_gift, field_events_are}
use Rattle.meaning_runs.proofs.MentionEvents.{passes, one_fits, mention_events_fit, variable_fits}
use Rattle.meaning_runs.proofs.OwnNumbers.{declares_it, is_own, captured_is_not}
use Rattle.meaning_runs.proofs.OwnVariables.{found_is}
use Rattle.meaning_runs.proofs.SentEvents.{literal_event_fits}

object_passes_nothing : {seen : Seen} {bodies : List BodyPlace} {mark : Mark} (e : Event)
    → IsOfObject seen bodies mark e
    → passes e ≡ None
object_passes_nothing e (by_renew k h) = refl
object_passes_nothing e (by_call k h) = refl
object_passes_nothing e (by_deferred k h) = refl
object_passes_nothing e (by_give k h) = refl
object_passes_nothing e (by_keep k h fits) = refl
object_passes_nothing e (by_outer k h fits) = refl
object_passes_nothing e (by_obtaining k site l a is h told) = refl
object_passes_nothing e (by_gift x v c q) = refl

module _ (b : Body) where
  -- what the event passes the body declares
  abbrev PassesItsOwn : Event → Type 0
  PassesItsOwn e = (n : ℕ) → passes e ≡ Some n → is_own b n ≡ true

  passes_none : (e : Event) → passes e ≡ None → PassesItsOwn e
  passes_none e none n is = absurd (none-some n (sym none ∙ is))

  by_mark : (bodies : List BodyPlace) → is_body b.place.at bodies ≡ true → (mark : Mark) (e : Event)
      → Contains (mark_events b.file bodies mark) e
      → PassesItsOwn e
  by_mark bodies here (mentions m) e h =
      mention_events_fit PassesItsOwn b.file bodies m (λ v n q. absurd (none-some n q))
      (λ x is. passes_none x (object_passes_nothing x is)) (λ x is. passes_none x (ap passes is.is_event))
      (variable_fits PassesItsOwn b.file bodies m (λ second v. passes_none (go (go_call v)) refl) (λ l is x told own n q.
      let w = own n q in
      let same = same_body bodies l.body b.place.at w.0 here in
      ap (λ k. declares_it b.place.at (found b.file (Some k))) (sym w.1)
      ∙ ap (declares_it b.place.at) (found_is b.file (variable_of b.file.known m) l is).0
      ∙ eq-eqb l.body b.place.at same)) e h
  by_mark bodies here (of_fields site m) e h =
      passes_none e (object_passes_nothing e (field_events_are b.file bodies site m e h))
  by_mark bodies here (runs_literal moment site at) e h =
      literal_event_fits PassesItsOwn b.file.known.edition moment at (passes_none (defer_literal at) refl)
      (passes_none (go (go_literal at)) refl) e h
  by_mark bodies here (returns site es) e h =
      let back = return_event (handed_on b.file bodies 0 es) in
      one_fits PassesItsOwn back (passes_none back refl) e h
  by_mark bodies here (opens x) e h = absurd (contains_nil e h)
  by_mark bodies here closes e h = absurd (contains_nil e h)

  by_source : (e : Event) → HasSource b e → PassesItsOwn e
  by_source e says_nothing = passes_none other refl
  by_source e falls_off = passes_none (return_event []) refl
  by_source e (of_mark mark among here h) = by_mark mark.bodies here mark.mark e h

  -- so it stands no deeper than a parameter
  pub passed_is_high : (t : List (Occurrence Event)) (o : Occurrence Event) (n : ℕ) → Reaches (code_of b) t o
      → passes o.event ≡ Some n
      → (v : Variable)
      → Contains (variables_in b) v
      → n ≡ v.number
      → level b v ≤ 1
  passed_is_high t o n reached is v among same = by v.role refl
    where
      by : (r : VariableRole) → v.role ≡ r → level_in b.place.at r ≤ 1
      by declared_in_body e = omega arith
      by (own_parameter k) e = omega arith
      by own_receiver e = omega arith
      by captured e =
          absurd (true≢false (sym (by_source o.event (events_have_sources b t o reached) n is)
          ∙ ap (is_own b) same ∙ captured_is_not b v among e))
