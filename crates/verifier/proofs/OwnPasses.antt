-- A variable is passed in the body that declares it, and in no literal in it: so no event of a body passes a variable
-- that the body captures.
use Rattle.std.proofs.Common.{◌≡◌, ℕ, true, List, [], ◌∷◌, Option, Some, None, Contains, ◌⊎◌, inl, inr, Bool, false, refl, sym, ap, ◌∙◌, subst}
use Rattle.std.proofs.lemmas.Bool.{false≢true, true≢false}
use Rattle.std.proofs.lemmas.Bool.Decides.{Decides-eqb}
use Rattle.meaning.specs.BodyEvents.{Variable, captured, variables_of, handed_on, mark_events}
use Rattle.meaning.specs.Mentions.{BodyPlace, Mention, Mark, mentions, of_fields, runs_literal, returns, opens, closes}
use Rattle.meaning.specs.Tracked.{variable_of, Local}
use Rattle.meaning.specs.Uses.{Seen, found, Callee, callee_of, Sent, Work, go_call, go_pass, go_literal, Event, other, call, renew, keep, call_kept, defer_kept, give, give_field, defer_literal, go, return_event, is_body}
use Rattle.meaning.specs.Kept.{obtained_event}
use Rattle.meaning_runs.proofs.Captured.{captured_is_none_of_its_own}
use Rattle.meaning_runs.proofs.KeptEvents.{IsOfObject, by_renew, by_call, by_deferred, by_give, by_keep, by_outer, by_obtaining, by_gift, field_events_are}
use Rattle.meaning_runs.proofs.MentionEvents.{is_told_of_mention, passes, none_given, one_fits, variable_fits, mention_events_fit}
use Rattle.meaning_runs.proofs.SentEvents.{IsSentOut, literal_event_fits}
use Rattle.meaning_runs.proofs.OwnVariables.{find_is}
use Rattle.meaning_runs.specs.Bodies.{Body}
use Rattle.meaning_runs.specs.EventSources.{HasSource, says_nothing, falls_off, of_mark}

same_body : (bodies : List BodyPlace) (m n : ℕ) → is_body m bodies ≡ true → is_body n bodies ≡ true → m ≡ n
same_body [] m n h k = absurd (false≢true h)
same_body (b ∷ bs) m n h k = sym ((Decides-eqb b.at m).0 h) ∙ (Decides-eqb b.at n).0 k

-- the local of that number is one of the body
abbrev DeclaresIt : Seen → ℕ → ℕ → Type 0
DeclaresIt seen body n = (l : Local) × (found seen (Some n) ≡ Some l) × (l.body ≡ body)

found_so : (seen : Seen) (o : Option ℕ) (l : Local) → found seen o ≡ Some l → found seen (Some l.number) ≡ Some l
found_so seen None l is = let bad : None ≡ Some l = is in cc
found_so seen (Some n) l is = ap (λ m. found seen (Some m)) (find_is seen.locals n l is).1 ∙ is

-- the event starts a function that gets the variable
pub record SendsIt (e : Event) (n : ℕ) : Type 0 where
  pub callee : Callee
  pub sent : List Sent
  pub one : Sent
  pub is_event : e ≡ go (go_pass callee sent)
  pub is_sent : Contains sent one
  pub is_it : one.number ≡ n

-- the event passes the variable on, or starts a function that gets it
abbrev pub HandsOn : Event → ℕ → Type 0
HandsOn e n = (passes e ≡ Some n) ⊎ SendsIt e n

abbrev starts_function : Work → Bool
starts_function (go_call v) = false
starts_function (go_pass f xs) = true
starts_function (go_literal at) = false

abbrev sends : Event → Bool
sends (go work) = starts_function work
sends e = false

-- each variable that the event hands on is declared in the body
abbrev PassesItsOwn : Seen → ℕ → Event → Type 0
PassesItsOwn seen body e = (n : ℕ) → HandsOn e n → DeclaresIt seen body n

passes_none : (seen : Seen) (body : ℕ) (e : Event) → passes e ≡ None → sends e ≡ false → PassesItsOwn seen body e
passes_none seen body e none unsent n (inl is) = let bad : None ≡ Some n = sym none ∙ is in cc
passes_none seen body e none unsent n (inr it) = absurd (false≢true (sym unsent ∙ ap sends it.is_event))

-- what is done to what an object keeps passes nothing on
of_object : (seen : Seen) (body : ℕ) (bodies : List BodyPlace) (mark : Mark) (e : Event) → IsOfObject seen bodies mark e
    → PassesItsOwn seen body e
of_object seen body bodies mark _ (by_renew k among) = passes_none seen body (renew k.variable k.object) refl refl
of_object seen body bodies mark _ (by_call k among) = passes_none seen body (call_kept k.variable k.object) refl refl
of_object seen body bodies mark _ (by_deferred k among) = passes_none seen body (defer_kept k.variable k.object) refl refl
of_object seen body bodies mark _ (by_give k among) = passes_none seen body (give k.variable k.object) refl refl
of_object seen body bodies mark _ (by_keep k among fits) = passes_none seen body (keep k.variable k.object) refl refl
of_object seen body bodies mark _ (by_outer k among fits) = passes_none seen body (give_field k.variable) refl refl
of_object seen body bodies mark _ (by_obtaining k site l a is among lefts) =
    passes_none seen body (obtained_event seen l a k) refl refl
of_object seen body bodies mark _ (by_gift x v among is) = passes_none seen body (give_field v) refl refl

-- what a function under `go` gets is declared in the body
sent_are_own : (seen : Seen) (body : ℕ) (bodies : List BodyPlace) (m : Mention) → is_body body bodies ≡ true
    → (e : Event) → IsSentOut seen bodies m e → PassesItsOwn seen body e
sent_are_own seen body bodies m here e out n (inl passed) =
    let bad : None ≡ Some n = sym (ap passes out.is_event) ∙ passed in cc
sent_are_own seen body bodies m here e out n (inr it) =
    let same : go (go_pass it.callee it.sent) ≡ go (go_pass (callee_of seen.known out.call.callee) out.sent) =
    sym it.is_event ∙ out.is_event in
    let sent : it.sent ≡ out.sent = ap sent_by same in
    let own = out.are_own it.one (subst (λ xs. Contains xs it.one) sent it.is_sent) in
    subst (DeclaresIt seen body) it.is_it
    (own.local, own.is_found, same_body bodies own.local.body body own.is_own_there here)
  where
    work_sent : Work → List Sent
    work_sent (go_call v) = []
    work_sent (go_pass f xs) = xs
    work_sent (go_literal at) = []

    sent_by : Event → List Sent
    sent_by (go work) = work_sent work
    sent_by e = []

by_mark : (seen : Seen) (body : ℕ) (bodies : List BodyPlace) (mark : Mark) → is_body body bodies ≡ true
    → (e : Event) → Contains (mark_events seen bodies mark) e
    → PassesItsOwn seen body e
by_mark seen body bodies (mentions m) here =
    mention_events_fit (PassesItsOwn seen body) seen bodies m (λ v. passes_none seen body (call v) refl refl)
    (of_object seen body bodies (mentions m)) (λ e out. sent_are_own seen body bodies m here e out)
    (variable_fits (PassesItsOwn seen body) seen bodies m (λ second v. passes_none seen body (go (go_call v)) refl refl)
    λ l is e told own n handed. elim handed [
      | inl passed ↦
          let it = own n passed in
          subst (DeclaresIt seen body) it.1
          (l, found_so seen (variable_of seen.known m) l is, same_body bodies l.body body it.0 here)
      | inr it ↦ absurd (false≢true (sym (ap is_told_of_mention it.is_event) ∙ told))
    ])
by_mark seen body bodies (of_fields site m) here =
    λ e h. of_object seen body bodies (of_fields site m) e (field_events_are seen bodies site m e h)
by_mark seen body bodies (runs_literal moment site at) here =
    literal_event_fits (PassesItsOwn seen body) seen.known.edition moment at
    (passes_none seen body (defer_literal at) refl refl) (passes_none seen body (go (go_literal at)) refl refl)
by_mark seen body bodies (returns at es) here =
    let returned = return_event (handed_on seen bodies 0 es) in
    one_fits (PassesItsOwn seen body) returned (passes_none seen body returned refl refl)
by_mark seen body bodies (opens b) here = none_given (PassesItsOwn seen body)
by_mark seen body bodies closes here = none_given (PassesItsOwn seen body)

by_source : (b : Body) (e : Event) → HasSource b e → PassesItsOwn b.file b.place.at e
by_source b e says_nothing = passes_none b.file b.place.at other refl refl
by_source b e falls_off = passes_none b.file b.place.at (return_event []) refl refl
by_source b e (of_mark mark among here h) = by_mark b.file b.place.at mark.bodies mark.mark here e h

pub captured_is_not_passed : (b : Body) (e : Event) → HasSource b e
    → (v : Variable) → Contains (variables_of b.file b.place.at) v → v.role ≡ captured
    → HandsOn e v.number
    → ⊥
captured_is_not_passed b e source v among role is =
    let d = by_source b e source v.number is in
    true≢false
    (sym ((Decides-eqb d.0.body b.place.at).1 d.2)
    ∙ captured_is_none_of_its_own b.file b.place.at v d.0 among role d.1)
