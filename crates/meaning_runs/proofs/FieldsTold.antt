-- Each field into which a body puts what it obtained is one that a verdict tells of.
use Rattle.std.proofs.Common.{◌≡◌, ℕ, ◌⊎◌, Bool, true, false, inl, inr, List, [], ◌∷◌, ◌++◌, Some, Contains, refl, sym, ap, ◌∙◌, subst}
use Rattle.std.specs.Prelude.{◌&&◌, if◌then◌else◌}
use Rattle.std.specs.List.{filter}
use Rattle.std.proofs.lemmas.Bool.{and_from, true≢false, false≢true}
use Rattle.std.proofs.lemmas.List.Elements.{Contains-append_left, Contains-append_right}
use Rattle.meaning.specs.Mentions.{BodyPlace, writes_field, Mark, mentions, of_fields, runs_literal, returns, opens, closes}
use Rattle.meaning.specs.Tracked.{Placed}
use Rattle.meaning.specs.Uses.{Seen, Work, Event, call, go, return_event, go_call}
use Rattle.meaning.specs.Kept.{Keep, keeps_there, belongs}
use Rattle.meaning.specs.KeepingFields.{is_obtained_in, field_of_obtained, carried_field, kept_variables, carried_fields, obtained_fields, given_elements, fields_kept_there, fields_kept}
use Rattle.meaning.specs.BodyEvents.{handed_on, mark_events}
use Rattle.meaning.proofs.Membership.{contains_here, contains_there, contains_nil, contains_cases, contains_map}
use Rattle.meaning_reports.proofs.ImportsOf.{gives as gives_in, only_one}
use Rattle.meaning_runs.specs.Bodies.{Body}
use Rattle.meaning_runs.specs.EventSources.{HasSource, says_nothing, falls_off, of_mark}
use Rattle.meaning_runs.specs.ToldFields.{PutsObtained, obtains_into, keeps, gives, FieldsAreTold}
use Rattle.meaning_runs.proofs.EventSources.{events_have_sources}
use Rattle.meaning_runs.proofs.KeptEvents.{IsOfObject, by_renew, by_call, by_deferred, by_give, by_keep, by_outer, by_obtaining, by_gift, field_events_are}
use Rattle.meaning_runs.proofs.SentEvents.{literal_event_fits}
use Rattle.meaning_runs.proofs.MentionEvents.{is_told_of_mention, mention_events_fit, variable_fits}

filter_has : {X : Type 0} (p : X → Bool) (xs : List X) (x : X) → Contains xs x → p x ≡ true → Contains (filter p xs) x
filter_has p [] x h e = absurd (contains_nil x h)
filter_has {X} p (y ∷ ys) x h e = by (p y) refl (contains_cases y x ys h) (λ more. filter_has p ys x more e)
  where
    by : (b : Bool) → p y ≡ b → (y ≡ x) ⊎ Contains ys x → (Contains ys x → Contains (filter p ys) x)
        → Contains (if b then y ∷ filter p ys else filter p ys) x
    by true q (inl same) rest = subst (λ (z : X). Contains (y ∷ filter p ys) z) same (contains_here y (filter p ys))
    by true q (inr more) rest = contains_there y x (filter p ys) (rest more)
    by false q (inl same) rest = absurd (true≢false (sym e ∙ ap p (sym same) ∙ q))
    by false q (inr more) rest = rest more

module _ (seen : Seen) (bodies : List BodyPlace) where
  -- some field is told of there
  abbrev IsTold : Mark → Type 0
  IsTold mark = (field : List ℕ) × Contains (fields_kept_there seen bodies mark) field

  kept_told : (mark : Mark) (k : Keep) → Contains (keeps_there seen bodies mark) k → belongs seen k ≡ true
      → is_obtained_in seen k.variable ≡ true
      → IsTold mark
  kept_told mark k h fits obtained =
      let told : Keep → Bool = λ q. belongs seen q && is_obtained_in seen q.variable in
      let among = filter_has told (keeps_there seen bodies mark) k h
      (and_from (belongs seen k) (is_obtained_in seen k.variable) fits obtained) in (
        k.field,
        Contains-append_left (kept_variables seen bodies mark)
            (obtained_fields seen mark ++ carried_fields seen bodies (given_elements seen mark)) k.field
            (contains_map (λ (q : Keep). q.field) (filter told (keeps_there seen bodies mark)) k among),
      )

  told_there : (mark : Mark) (e : Event) → IsOfObject seen bodies mark e → PutsObtained seen e → IsTold mark
  told_there mark e (by_renew k h) puts = elim puts [ ]
  told_there mark e (by_call k h) puts = elim puts [ ]
  told_there mark e (by_deferred k h) puts = elim puts [ ]
  told_there mark e (by_give k h) puts = elim puts [ ]
  told_there mark e (by_keep k h fits) (keeps obtained) = kept_told mark k h fits obtained
  told_there mark e (by_outer k h fits) (gives obtained) = kept_told mark k h fits obtained
  told_there mark e (by_obtaining k site l a is h told) obtains_into =
      let m : Mark = of_fields site (writes_field l (Some a)) in
      let text = l.field.text in
      subst IsTold (sym is) (
        text,
        Contains-append_right (kept_variables seen bodies m)
            (obtained_fields seen m ++ carried_fields seen bodies (given_elements seen m)) text
            (Contains-append_left (obtained_fields seen m) (carried_fields seen bodies (given_elements seen m)) text
            (subst (λ b. Contains (if b then text ∷ [] else []) text) (sym told) (contains_here text []))),
      )
  told_there mark e (by_gift x v c q) (gives obtained) = (
    x.field,
    Contains-append_right (kept_variables seen bodies mark)
        (obtained_fields seen mark ++ carried_fields seen bodies (given_elements seen mark)) x.field
        (Contains-append_right (obtained_fields seen mark) (carried_fields seen bodies (given_elements seen mark)) x.field
        (gives_in (carried_field seen bodies) (given_elements seen mark) x x.field c
        (subst (λ o. Contains (field_of_obtained seen x.field o) x.field) (sym q)
        (subst (λ b. Contains (if b then x.field ∷ [] else []) x.field) (sym obtained) (contains_here x.field []))))),
  )

  -- what a mention's own variable gives puts nothing into a field
  puts_nothing : (e : Event) → is_told_of_mention e ≡ true → PutsObtained seen e → ⊥
  puts_nothing e told obtains_into = false≢true told
  puts_nothing e told (keeps obtained) = false≢true told
  puts_nothing e told (gives obtained) = false≢true told

  -- nor does a `go` statement
  sends_nothing : {work : Work} (e : Event) → e ≡ go work → PutsObtained seen e → ⊥
  sends_nothing e is obtains_into = cc
  sends_nothing e is (keeps obtained) = cc
  sends_nothing e is (gives obtained) = cc

  mark_told : (mark : Mark) (e : Event) → Contains (mark_events seen bodies mark) e → PutsObtained seen e → IsTold mark
  mark_told (mentions m) e h puts =
      mention_events_fit (λ x. PutsObtained seen x → IsTold (mentions m)) seen bodies m
      (λ v p. absurd (puts_nothing (call v) refl p))
      (told_there (mentions m))
      (λ x is p. absurd (sends_nothing x is.is_event p))
      (variable_fits (λ x. PutsObtained seen x → IsTold (mentions m)) seen bodies m
      (λ second v p. absurd (sends_nothing (go (go_call v)) refl p)) (λ l found x told passed p. absurd (puts_nothing x told p)))
      e h puts
  mark_told (of_fields site m) e h puts =
      told_there (of_fields site m) e (field_events_are seen bodies site m e h) puts
  mark_told (runs_literal moment site at) e h puts =
      absurd (literal_event_fits (λ x. PutsObtained seen x → ⊥) seen.known.edition moment at (λ p. elim p [ ])
      (λ p. elim p [ ]) e h puts)
  mark_told (returns at es) e h puts =
      absurd (subst (λ x. PutsObtained seen x → ⊥) (only_one (return_event (handed_on seen bodies 0 es)) e h)
      (λ p. elim p [ ]) puts)
  mark_told (opens b) e h puts = absurd (contains_nil e h)
  mark_told closes e h puts = absurd (contains_nil e h)

by_source : (b : Body) (e : Event) → HasSource b e → PutsObtained b.file e
    → (field : List ℕ) × Contains (fields_kept b.file) field
by_source b e says_nothing puts = elim puts [ ]
by_source b e falls_off puts = elim puts [ ]
by_source b e (of_mark mark among here h) puts =
    let w = mark_told b.file mark.bodies mark.mark e h puts in
    (w.0, gives_in (λ (q : Placed). fields_kept_there b.file q.bodies q.mark) b.file.marks mark w.0 among w.1)

pub fields_are_told : FieldsAreTold
fields_are_told b t o reached puts = by_source b o.event (events_have_sources b t o reached) puts
