-- No node of a body keeps anything where no field keeps, and nothing is asked of fields, as in the first edition.
use Rattle.std.proofs.Common.{◌≡◌, ℕ, Bool, true, false, inl, inr, List, [], ◌∷◌, ◌++◌, Option, Some, Contains, refl, sym, ap, ◌∙◌, subst, true≢false}
use Rattle.std.specs.Prelude.{not, ◌||◌, if◌then◌else◌, flat_map, is_some, slice_get}
use Rattle.std.specs.List.{filter}
use Rattle.certificates.proofs.NodesInRange.{contains_at}
use Rattle.certificates.specs.LeastLaws.{keeps}
use Rattle.credits.proofs.OwnGroups.{node_has}
use Rattle.flow.specs.GraphOfCode.{nodes}
use Rattle.meaning.proofs.Membership.{contains_nil, contains_here, contains_there, contains_cases}
use Rattle.meaning.specs.BodyEvents.{mark_events, sites_of, seen_file}
use Rattle.meaning.specs.Classes.{Promises}
use Rattle.meaning.specs.Code.{Occurrence}
use Rattle.meaning.specs.Kept.{Element, field_value, holder, kept_in, kept_element, role_fields, object_kind_of, keeps_there}
use Rattle.meaning.specs.Mentions.{BodyPlace, Mention, Mark, mentions, of_fields, runs_literal, returns, opens, closes, is_found, is_of_fields, marks_by, file_marks}
use Rattle.meaning.specs.Tracked.{Known, has_field, some_keep, declared_by, Placed, outer, placed}
use Rattle.meaning.specs.Uses.{Seen, Event, other, obtain, obtain_kept, renew, keep, call_kept, defer_kept, give, give_field, clear, call, defer_call, pass, defer_pass, lend, start, try, wait, defer_wait, make, defer_literal, go, return_event}
use Rattle.meaning_packages.specs.PathFaults.{paths_of}
use Rattle.meaning_runs.proofs.EventSources.{of_body, marked}
use Rattle.meaning_runs.proofs.KeptEvents.{IsOfObject, by_renew, by_call, by_deferred, by_give, by_keep, by_outer, by_obtaining, by_gift}
use Rattle.meaning_runs.proofs.MentionEvents.{is_told_of_mention, variable_fits, mention_events_fit}
use Rattle.meaning_runs.proofs.SentEvents.{literal_event_fits}
use Rattle.tree.specs.Syntax.{SourceFile}
use Rattle.tree.specs.declared.edition.Edition.{Edition}
use Rattle.tree.specs.declared.edition.Edition.TheVariants.{First, Second}

-- What a mention gives

told_keeps_none : (e : Event) → is_told_of_mention e ≡ true → keeps e ≡ false
told_keeps_none (keep u x) h = absurd (true≢false (sym h))
told_keeps_none (obtain_kept u f k x) h = absurd (true≢false (sym h))
told_keeps_none other h = refl
told_keeps_none (obtain u f k is_declared) h = refl
told_keeps_none (renew u x) h = refl
told_keeps_none (call_kept u x) h = refl
told_keeps_none (defer_kept u x) h = refl
told_keeps_none (give u x) h = refl
told_keeps_none (give_field u) h = refl
told_keeps_none (clear u) h = refl
told_keeps_none (call u) h = refl
told_keeps_none (defer_call u) h = refl
told_keeps_none (pass u f k) h = refl
told_keeps_none (defer_pass u f k) h = refl
told_keeps_none (lend g f k) h = refl
told_keeps_none (start g literal) h = refl
told_keeps_none (try g literal) h = refl
told_keeps_none (wait g) h = refl
told_keeps_none (defer_wait g) h = refl
told_keeps_none (make u state) h = refl
told_keeps_none (defer_literal at) h = refl
told_keeps_none (go work) h = refl
told_keeps_none (return_event handed) h = refl

nothing_of : {A B : Type 0} (f : A → List B) → ((x : A) → f x ≡ []) → (xs : List A) → flat_map f xs ≡ []
nothing_of f none [] = refl
nothing_of f none (x ∷ xs) = ap (λ l. l ++ flat_map f xs) (none x) ∙ nothing_of f none xs

module _ (seen : Seen) (none : (f : List ℕ) → has_field seen.known.fields f ≡ false) (bodies : List BodyPlace)
    (m : Mention) where
  no_element : (x : Option ℕ) (e : Element) → kept_element seen bodies x e ≡ []
  no_element x e =
      ap (λ b. if b then kept_in (field_value seen bodies e) x e.field else []) (none e.field)

  no_keep : keeps_there seen bodies (mentions m) ≡ []
  no_keep =
      ap (filter (λ k. is_some (object_kind_of seen bodies k.object)))
      (nothing_of (kept_element seen bodies (holder seen (declared_by seen.known m)))
      (no_element (holder seen (declared_by seen.known m)))
      (role_fields m.role))

  of_object : (e : Event) → IsOfObject seen bodies (mentions m) e → keeps e ≡ false
  of_object e (by_renew k h) = refl
  of_object e (by_call k h) = refl
  of_object e (by_deferred k h) = refl
  of_object e (by_give k h) = refl
  of_object e (by_keep k h own) = absurd (contains_nil k (subst (λ ks. Contains ks k) no_keep h))
  of_object e (by_outer k h own) = refl
  of_object e (by_obtaining k site l a is h lefts) = absurd (contains_nil k (subst (λ ks. Contains ks k) no_keep h))
  of_object e (by_gift x v among is) = refl

  of_mention : (e : Event) → Contains (mark_events seen bodies (mentions m)) e → keeps e ≡ false
  of_mention =
      mention_events_fit (λ e. keeps e ≡ false) seen bodies m (λ v. refl) of_object (λ e sent. ap keeps sent.is_event)
      (variable_fits (λ e. keeps e ≡ false) seen bodies m (λ second v. refl) (λ l is e told own. told_keeps_none e told))

one_event : (x : Event) → keeps x ≡ false → (e : Event) → Contains (x ∷ []) e → keeps e ≡ false
one_event x is e h =
    elim (contains_cases x e [] h) [
      | inl same ↦ subst (λ y. keeps y ≡ false) same is
      | inr none ↦ absurd (contains_nil e none)
    ]

-- All nodes of a body

module _ (seen : Seen) (none : (f : List ℕ) → has_field seen.known.fields f ≡ false) where
  by_mark : (bodies : List BodyPlace) (mark : Mark)
      → is_of_fields mark ≡ false
      → (e : Event)
      → Contains (mark_events seen bodies mark) e
      → keeps e ≡ false
  by_mark bodies (mentions m) unasked e h = of_mention seen none bodies m e h
  by_mark bodies (of_fields site m) unasked e h = absurd (true≢false unasked)
  by_mark bodies (runs_literal moment site at) unasked e h =
      literal_event_fits (λ x. keeps x ≡ false) seen.known.edition moment at refl refl e h
  by_mark bodies (returns at es) unasked e h = one_event _ refl e h
  by_mark bodies (opens b) unasked e h = absurd (contains_nil e h)
  by_mark bodies closes unasked e h = absurd (contains_nil e h)

  module _ (unasked : (p : Placed) → Contains seen.marks p → is_of_fields p.mark ≡ false) where
    pub keeps_nothing : (b : BodyPlace) (promises : Promises) (n : ℕ) (o : Occurrence Event)
        → slice_get (nodes (paths_of seen promises b).code) n ≡ Some o
        → keeps o.event ≡ false
    keeps_nothing b promises n o is =
        node_has (λ e. keeps e ≡ false) (paths_of seen promises b).code
        (of_body (λ e. keeps e ≡ false) (sites_of seen b.at) refl refl
        (λ at e h.
        let r = marked seen b.at seen.marks at e h in
        by_mark r.0.bodies r.0.mark (unasked r.0 r.1) e r.3)
        record { statements = b.statements; braces = b.braces })
        o (contains_at (nodes (paths_of seen promises b).code) n o is)

-- Files of the first edition

second_is_not_first : Second ≡ First → ⊥
second_is_not_first e = cc

kept_if : {A : Type 0} (test : A → Bool) (y x : A) (rest : List A) (b : Bool)
    → test y ≡ b
    → (Contains rest x → test x ≡ true)
    → Contains (if b then y ∷ rest else rest) x
    → test x ≡ true
kept_if test y x rest true is later h =
    elim (contains_cases y x rest h) [ inl same ↦ ap test (sym same) ∙ is | inr more ↦ later more ]
kept_if test y x rest false is later h = later h

passes_filter : {A : Type 0} (test : A → Bool) (xs : List A) (x : A) → Contains (filter test xs) x → test x ≡ true
passes_filter test [] x h = absurd (contains_nil x h)
passes_filter test (y ∷ ys) x h = kept_if test y x (filter test ys) (test y) refl (passes_filter test ys x) h

neither : (a b : Bool) → not (a || b) ≡ true → b ≡ false
neither true b e = absurd (true≢false (sym e))
neither false true e = absurd (true≢false (sym e))
neither false false e = refl

abbrev IsUnasked : Placed → Type 0
IsUnasked p = is_of_fields p.mark ≡ false

abbrev AreUnasked : List Mark → Type 0
AreUnasked ms = (m : Mark) → Contains ms m → is_of_fields m ≡ false

module _ (m : Mark) (ms : List Mark) (all : AreUnasked (m ∷ ms)) where
  rest : AreUnasked ms
  rest n h = all n (contains_there m n ms h)

  first_or_later : (bodies : List BodyPlace) (ps : List Placed) (p : Placed)
      → (Contains ps p → IsUnasked p)
      → Contains (record { mark = m; bodies = bodies } ∷ ps) p
      → IsUnasked p
  first_or_later bodies ps p later h =
      elim (contains_cases (record { mark = m; bodies = bodies }) p ps h) [
        | inl same ↦ subst IsUnasked same (all m (contains_here m ms))
        | inr more ↦ later more
      ]

places_unasked : (bodies : List BodyPlace) (ms : List Mark) → AreUnasked ms → (p : Placed) → Contains (placed bodies ms) p
    → IsUnasked p
unfolding placed
places_unasked bodies [] all p h = absurd (contains_nil p h)
places_unasked bodies (mentions m ∷ ms) all p h =
    first_or_later (mentions m) ms all bodies (placed bodies ms) p
    (places_unasked bodies ms (rest (mentions m) ms all) p) h
places_unasked bodies (of_fields site m ∷ ms) all p h =
    first_or_later (of_fields site m) ms all bodies (placed bodies ms) p
    (places_unasked bodies ms (rest (of_fields site m) ms all) p) h
places_unasked bodies (runs_literal moment site at ∷ ms) all p h =
    first_or_later (runs_literal moment site at) ms all bodies (placed bodies ms) p
    (places_unasked bodies ms (rest (runs_literal moment site at) ms all) p) h
places_unasked bodies (returns at es ∷ ms) all p h =
    first_or_later (returns at es) ms all bodies (placed bodies ms) p
    (places_unasked bodies ms (rest (returns at es) ms all) p) h
places_unasked bodies (opens b ∷ ms) all p h =
    first_or_later (opens b) ms all (b ∷ bodies) (placed (b ∷ bodies) ms) p
    (places_unasked (b ∷ bodies) ms (rest (opens b) ms all) p) h
places_unasked bodies (closes ∷ ms) all p h = places_unasked (outer bodies) ms (rest closes ms all) p h

by_edition : (edition : Edition) (some : Bool) (ms : List Mark) → edition ≡ First → AreUnasked (marks_by edition some ms)
by_edition First some ms is m h =
    neither (is_found m) (is_of_fields m) (passes_filter (λ n. not (is_found n || is_of_fields n)) ms m h)
by_edition Second some ms is m h = absurd (second_is_not_first is)

-- no node of a file of the first edition keeps anything, where no field of its package keeps
pub first_keeps_nothing : (known : Known) (file : SourceFile)
    → known.edition ≡ First
    → ((f : List ℕ) → has_field known.fields f ≡ false)
    → (b : BodyPlace) (promises : Promises) (n : ℕ) (o : Occurrence Event)
    → slice_get (nodes (paths_of (seen_file known file) promises b).code) n ≡ Some o
    → keeps o.event ≡ false
first_keeps_nothing known file is_first none =
    keeps_nothing (seen_file known file) none
    (places_unasked [] (marks_by known.edition (some_keep known.fields) (file_marks file))
    (by_edition known.edition (some_keep known.fields) (file_marks file) is_first))
