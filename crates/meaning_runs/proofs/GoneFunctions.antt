-- A `go` statement with a function has a step: what it sends has each position once, and so the function's parameters have
-- contents.
use Rattle.std.proofs.Common.{◌≡◌, ℕ, false, inl, inr, List, [], ◌∷◌, map, Contains, refl, sym, ap, subst, ◌∙◌}
use Rattle.std.proofs.lemmas.Bool.{false≢true}
use Rattle.meaning.specs.Mentions.{BodyPlace, Mark, mentions, of_fields, runs_literal, returns, opens, closes}
use Rattle.meaning.specs.Uses.{Seen, Callee, Sent, Event, defer_literal, call, go_call, go_pass, go_literal, go, return_event}
use Rattle.meaning.specs.BodyEvents.{mark_events, handed_on}
use Rattle.meaning.proofs.Membership.{contains_here, contains_there, contains_cases, contains_nil}
use Rattle.meaning_runs.specs.Bodies.{Body}
use Rattle.meaning_runs.specs.World.{Store, held, IsAny, Given, Frame, put_at, new_frame, nothing_around}
use Rattle.meaning_runs.specs.Steps.{at_code, IsFree, sending, starts_function, starts_foreign, of_go}
use Rattle.meaning_runs.specs.CallSteps.{AreApart, SentAreApart, GoneFunctionsHaveSteps}
use Rattle.meaning_runs.specs.EventSources.{HasSource, says_nothing, falls_off, of_mark}
use Rattle.meaning_runs.proofs.CallSteps.{any_held, run_kept}
use Rattle.meaning_runs.proofs.Contexts.{put_at-same, put_at-other}
use Rattle.meaning_runs.proofs.EventSources.{events_have_sources}
use Rattle.meaning_runs.proofs.FirstEdition.{is_go, told_does_not_go, object_does_not_go}
use Rattle.meaning_runs.proofs.Followed.{cons_is_some}
use Rattle.meaning_runs.proofs.FreeGoroutines.{goroutines_are_free}
use Rattle.meaning_runs.proofs.GivenValues.{IsGiven, given_values, given_groups, contents_are_given}
use Rattle.meaning_runs.proofs.KeptEvents.{field_events_are}
use Rattle.meaning_runs.proofs.MentionEvents.{mention_events_fit, variable_fits}
use Rattle.meaning_runs.proofs.SentEvents.{only_one, literal_event_fits}

-- what it sends, if it is such an event, has each position once
abbrev SendsApart : Event → Type 0
SendsApart e = (callee : Callee) (xs : List Sent) → e ≡ go (go_pass callee xs) → AreApart xs

goes_not : (e : Event) → is_go e ≡ false → SendsApart e
goes_not e none callee xs is = absurd (false≢true (sym none ∙ ap is_go is))

no_call : (v : ℕ) (callee : Callee) (xs : List Sent) → go (go_call v) ≡ go (go_pass callee xs) → ⊥
no_call v callee xs is = cc

no_literal : (at : ℕ) (callee : Callee) (xs : List Sent) → go (go_literal at) ≡ go (go_pass callee xs) → ⊥
no_literal at callee xs is = cc

calls_apart : (v : ℕ) → SendsApart (go (go_call v))
calls_apart v callee xs is = absurd (no_call v callee xs is)

literals_apart : (at : ℕ) → SendsApart (go (go_literal at))
literals_apart at callee xs is = absurd (no_literal at callee xs is)

same_sent : (f callee : Callee) (xs ys : List Sent) → go (go_pass f xs) ≡ go (go_pass callee ys) → xs ≡ ys
same_sent f callee xs ys e = cc

marks_apart : (seen : Seen) (bodies : List BodyPlace) (mark : Mark) (e : Event)
    → Contains (mark_events seen bodies mark) e → SendsApart e
marks_apart seen bodies (mentions m) e h =
    mention_events_fit SendsApart seen bodies m (λ v. goes_not (call v) refl) (λ x is. goes_not x (object_does_not_go x is))
    (λ x is callee xs same. subst AreApart (same_sent _ callee is.sent xs (sym is.is_event ∙ same)) is.are_apart)
    (variable_fits SendsApart seen bodies m (λ second v. calls_apart v) (λ l is x told own. goes_not x (told_does_not_go x told)))
    e h
marks_apart seen bodies (of_fields site m) e h =
    goes_not e (object_does_not_go e (field_events_are seen bodies site m e h))
marks_apart seen bodies (runs_literal moment site at) e h =
    literal_event_fits SendsApart seen.known.edition moment at (goes_not (defer_literal at) refl) (literals_apart at) e h
marks_apart seen bodies (returns at es) e h =
    subst SendsApart (only_one (return_event (handed_on seen bodies 0 es)) e h)
    (goes_not (return_event (handed_on seen bodies 0 es)) refl)
marks_apart seen bodies (opens b) e h = absurd (contains_nil e h)
marks_apart seen bodies closes e h = absurd (contains_nil e h)

source_apart : (b : Body) (e : Event) → HasSource b e → SendsApart e
source_apart b e says_nothing = goes_not e refl
source_apart b e falls_off = goes_not e refl
source_apart b e (of_mark mark is here h) = marks_apart b.file mark.bodies mark.mark e h

pub sent_are_apart : SentAreApart
sent_are_apart b t o callee xs reached is = source_apart b o.event (events_have_sources b t o reached) callee xs is

-- what is given came from what is sent
module _ (s : Store) (f : Frame) where
  given_by : Sent → Given
  given_by x = record { position = x.position; value = held s f x.number }

  sent_back : (xs : List Sent) (y : Given)
      → Contains (map (λ (x : Sent). record { position = x.position; value = held s f x.number }) xs) y
      → (x : Sent) × Contains xs x × (x.position ≡ y.position) × (held s f x.number ≡ y.value)
  sent_back [] y h = absurd (contains_nil y h)
  sent_back (x ∷ xs) y h =
      elim (contains_cases record { position = x.position; value = held s f x.number } y
      (map (λ (z : Sent). record { position = z.position; value = held s f z.number }) xs) h) [
        | inl same ↦ (x, contains_here x xs, ap (λ (z : Given). z.position) same, ap (λ (z : Given). z.value) same)
        | inr more ↦ let k = sent_back xs y more in (k.0, contains_there x k.0 xs k.1, k.2, k.3)
      ]

pub gone_functions_have_steps : GoneFunctionsHaveSteps
gone_functions_have_steps p w g f others callee xs rest run running does apart = record {
  of_function = λ b is. record {
    next = _;
    step =
        of_go (starts_function g free.0 b (given_values b (sending w.store f callee xs)) (given_groups b (sending w.store f callee xs))
        record { is_running = running; does_next = does } free.1 is (contents_are_given w.store b (sending w.store f callee xs) given));
    goroutine = free.0;
    was_free = free.1;
    begins = put_at-same (put_at w.stacks g (at_code f rest ∷ others)) free.0 (new_frame w.store b nothing_around ∷ []);
    goes_on =
        put_at-other (put_at w.stacks g (at_code f rest ∷ others)) free.0 (new_frame w.store b nothing_around ∷ []) g other_one
        ∙ put_at-same w.stacks g (at_code f rest ∷ others);
  };
  of_none = λ none. (
    _,
    of_go (starts_foreign g record { is_running = running; does_next = does } none),
    put_at-same w.stacks g (at_code f rest ∷ others),
  );
}
  where
    free : (h : ℕ) × IsFree w h
    free = goroutines_are_free p w run

    other_one : g ≡ (goroutines_are_free p w run).0 → ⊥
    other_one same =
        cons_is_some f others (sym running ∙ (ap w.stacks same ∙ (goroutines_are_free p w run).1.has_no_frame))

    given : IsGiven w.store (sending w.store f callee xs)
    given = record {
      any = λ y c. let k = sent_back w.store f xs y c in
          subst (IsAny w.store) k.3 (any_held w.store (run_kept p w run).cells f k.0.number);
      one = λ y z c d e.
          let k = sent_back w.store f xs y c in
          let l = sent_back w.store f xs z d in
          sym k.3 ∙ (ap (held w.store f) (apart k.0 l.0 k.1 l.1 (k.2 ∙ (e ∙ sym l.2))) ∙ l.3);
      one_lent = λ y z c d e. absurd (contains_nil y c);
    }
