-- In the tree of a text each literal whose call a body saves is there, and is called under `defer`; and so each that is
-- called under `go`.
use Rattle.std.proofs.Common.{◌≡◌, ℕ, true, inl, inr, List, [], ◌∷◌, Contains, refl, sym, ap, ◌∙◌, subst}
use Rattle.meaning.specs.Code.{Occurrence}
use Rattle.meaning.specs.Lists.{Exit, Lists}
use Rattle.meaning.specs.Mentions.{LiteralUse, Moment, at_return, in_goroutine, BodyPlace, Mark, mentions, runs_literal, returns, opens, closes, file_marks, marks_by, of_fields}
use Rattle.meaning.specs.Tracked.{Placed, placed, some_keep}
use Rattle.meaning.specs.Uses.{Seen, Handed, Event, other, defer_literal, go_literal, go, return_event, is_body}
use Rattle.meaning.specs.BodyEvents.{handed_on, mark_events, sites_of}
use Rattle.meaning.proofs.Membership.{contains_nil, contains_cases}
use Rattle.meaning_packages.specs.PathFaults.{block_of}
use Rattle.meaning_runs.specs.Bodies.{Body, IsLiteralIn, code_of}
use Rattle.meaning_runs.specs.RunLists.{IsOfText, DeferredLiteralsAreThere, GoneLiteralsAreThere}
use Rattle.meaning_runs.proofs.EventSources.{list_has, of_body, marked}
use Rattle.meaning_runs.proofs.MarksBeside.{OpensLiteral, IsBeside, AreInForm, in_form}
use Rattle.meaning_runs.proofs.MarkForms.{use_at}
use Rattle.meaning_runs.proofs.MentionEvents.{mentions_run_no_literal, objects_run_no_literal}
use Rattle.meaning_runs.proofs.SentEvents.{run_event, literal_events_are}
use Rattle.meaning_runs.proofs.KeptEvents.{IsOfObject, field_events_are}

-- a literal at that offset stands in the body, and is used so
pub record HasLiteral (b : Body) (at : ℕ) (used : LiteralUse) : Type 0 where
  pub literal : Body
  pub is_literal : IsLiteralIn b literal
  pub begins_there : literal.place.at ≡ at
  pub is_used_so : literal.place.literal ≡ used

pub literal_there : (b : Body) (bodies : List BodyPlace) (at : ℕ) (used : LiteralUse)
    → is_body b.place.at bodies ≡ true
    → OpensLiteral b.file.marks bodies at used
    → HasLiteral b at used
literal_there b bodies at used here h = record {
  literal = record { home = b.home; file = b.file; place = h.body };
  is_literal = record {
    mark = record { mark = opens h.body; bodies = h.body ∷ bodies };
    is_of_file = h.is_there;
    opens_it = refl;
    stands_in_it = here;
    same_file = refl;
    same_home = refl;
  };
  begins_there = h.begins_there;
  is_used_so = h.is_used_so;
}

-- the literal of the event is there
abbrev IsThere : Body → Event → Type 0
IsThere b e = (moment : Moment) (at : ℕ) → e ≡ run_event moment at → HasLiteral b at (use_at moment)

no_other : (moment : Moment) (at : ℕ) → other ≡ run_event moment at → ⊥
no_other at_return at e = cc
no_other in_goroutine at e = cc

no_return : (handed : List Handed) (moment : Moment) (at : ℕ) → return_event handed ≡ run_event moment at → ⊥
no_return handed at_return at e = cc
no_return handed in_goroutine at e = cc

-- one event is of one moment, and of one literal
same_run : (m n : Moment) (at offset : ℕ) → run_event m at ≡ run_event n offset → (m ≡ n) × (at ≡ offset)
same_run at_return at_return at offset e = let same : at ≡ offset = cc in (refl, same)
same_run at_return in_goroutine at offset e = let bad : defer_literal at ≡ go (go_literal offset) = e in absurd cc
same_run in_goroutine at_return at offset e = let bad : go (go_literal at) ≡ defer_literal offset = e in absurd cc
same_run in_goroutine in_goroutine at offset e = let same : at ≡ offset = cc in (refl, same)

module _ (b : Body) (form : AreInForm b.file.marks) where
  abbrev IsBesideMark : Placed → Mark → Type 0
  IsBesideMark p m = IsBeside b.file.marks p.bodies m

  by_mark : (p : Placed)
      → Contains b.file.marks p
      → is_body b.place.at p.bodies ≡ true
      → (m : Mark)
      → p.mark ≡ m
      → (e : Event)
      → Contains (mark_events b.file p.bodies m) e
      → IsThere b e
  by_mark p among here (mentions m) is e h moment at q =
      absurd (mentions_run_no_literal b.file p.bodies m moment at
      (subst (λ (x : Event). Contains (mark_events b.file p.bodies (mentions m)) x) q h))
  by_mark p among here (of_fields site x) is e h moment at q =
      absurd (objects_run_no_literal moment at (subst (IsOfObject b.file p.bodies (of_fields site x)) q
      (field_events_are b.file p.bodies site x e h)))
  by_mark p among here (runs_literal its site offset) is e h moment at q =
      let opened = subst (λ m. IsBesideMark p m) is (form.beside p among) in
      let same = same_run its moment offset at (sym (literal_events_are b.file.known.edition its offset e h) ∙ q) in
      subst (λ n. HasLiteral b n (use_at moment)) same.1
      (subst (λ m. HasLiteral b offset (use_at m)) same.0 (literal_there b p.bodies offset (use_at its) here opened))
  by_mark p among here (returns site es) is e h moment at q =
      let handed = handed_on b.file p.bodies 0 es in
      elim (contains_cases (return_event handed) e [] h) [
        | inl same ↦ absurd (no_return handed moment at (same ∙ q))
        | inr none ↦ absurd (contains_nil e none)
      ]
  by_mark p among here (opens x) is e h moment at q = absurd (contains_nil e h)
  by_mark p among here closes is e h moment at q = absurd (contains_nil e h)

  pub run_literal_there : (t : List (Occurrence Event)) (x : Exit)
      → Lists (code_of b) t x
      → (o : Occurrence Event)
      → Contains t o
      → (moment : Moment) (at : ℕ)
      → o.event ≡ run_event moment at
      → HasLiteral b at (use_at moment)
  run_literal_there t x lists =
      list_has (IsThere b) (code_of b) t x lists
      (of_body (IsThere b) (sites_of b.file b.place.at) (λ moment at q. absurd (no_other moment at q))
      (λ moment at q. absurd (no_return [] moment at q))
      (λ at e h. let r = marked b.file b.place.at b.file.marks at e h in by_mark r.0 r.1 r.2 r.0.mark refl e r.3)
      (block_of b.place))

pub of_text_in_form : (b : Body) → IsOfText b → AreInForm b.file.marks
of_text_in_form b text =
    let keeps = some_keep text.known.fields in
    let marks = marks_by text.known.edition keeps (file_marks text.tree) in
    let same : b.file.marks ≡ placed [] marks = ap (λ (s : Seen). s.marks) text.is_file in
    subst AreInForm (sym same) (in_form text.known.edition keeps text.tree)

pub deferred_literals_are_there : DeferredLiteralsAreThere
deferred_literals_are_there b t x o at text lists among q =
    let h = run_literal_there b (of_text_in_form b text) t x lists o among at_return at q in
    (h.literal, h.is_literal, h.begins_there)

pub gone_literals_are_there : GoneLiteralsAreThere
gone_literals_are_there b t x o at text lists among q =
    let h = run_literal_there b (of_text_in_form b text) t x lists o among in_goroutine at q in
    (h.literal, h.is_literal, h.begins_there)
