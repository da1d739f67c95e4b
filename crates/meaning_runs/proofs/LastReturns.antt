-- In the tree of a text no event of a body's list but the last one is a return.
use Rattle.std.proofs.Common.{◌≡◌, ℕ, Bool, true, false, inl, inr, List, [], ◌∷◌, ◌++◌, Contains, refl, sym, ap, subst, true≢false}
use Rattle.std.specs.Prelude.{◌&&◌, if◌then◌else◌}
use Rattle.std.proofs.lemmas.List.Elements.{Contains-append_cases}
use Rattle.tree.specs.Syntax.{Expressions}
use Rattle.meaning.specs.Mentions.{BodyPlace, Mark, mentions, runs_literal, returns, opens, closes, file_marks, marks_by, of_fields}
use Rattle.meaning.specs.Tracked.{Placed, placed, outer, some_keep}
use Rattle.meaning.specs.Uses.{Seen, Event, is_body}
use Rattle.meaning.specs.BodyEvents.{mark_events, is_site, events_at, sites_of, opened_in}
use Rattle.meaning_packages.proofs.BodyPlaces.{placed_only}
use Rattle.meaning.proofs.Membership.{contains_here, contains_there}
use Rattle.meaning_packages.specs.PathFaults.{block_of}
use Rattle.meaning_runs.specs.RunLists.{is_return, ReturnsAreLast}
use Rattle.meaning_runs.proofs.Places.{eqb_is}
use Rattle.meaning_runs.proofs.LeftSides.{is_placed}
use Rattle.meaning_runs.proofs.MentionEvents.{AreQuiet, none_given, object_is_no_return, mentions_are_quiet}
use Rattle.meaning_runs.proofs.KeptEvents.{field_events_are}
use Rattle.meaning_runs.proofs.AskedSites.{asked_at, asked_statements}
use Rattle.meaning_runs.proofs.SitesWithin.{MayFollow, ReturnsEnd}
use Rattle.meaning_runs.proofs.BodyOffsets.{opens_one, are_sited}
use Rattle.meaning_runs.proofs.LeavingLists.{IsLastReturn, quiet_before, body_lists_end}
use Rattle.meaning_runs.proofs.EditionMarks.{among_all, returns_end}
use Rattle.meaning_runs.proofs.SentEvents.{literal_event_fits}

-- marks where they stand
abbrev PlacedEnd : List Placed → Type 0
PlacedEnd [] = Unit {0}
PlacedEnd (p ∷ ps) = ((q : Placed) → Contains ps q → MayFollow p.mark q.mark) × PlacedEnd ps

placed_end : (bodies : List BodyPlace) (ms : List Mark) → ReturnsEnd ms → PlacedEnd (placed bodies ms)
unfolding placed
placed_end bodies [] h = tt
placed_end bodies (mentions m ∷ ms) h = (λ q among. tt, placed_end bodies ms h.1)
placed_end bodies (of_fields site m ∷ ms) h = (λ q among. tt, placed_end bodies ms h.1)
placed_end bodies (runs_literal moment site at ∷ ms) h = (λ q among. tt, placed_end bodies ms h.1)
placed_end bodies (returns at es ∷ ms) h =
    (λ q among. h.0 q.mark (is_placed bodies ms q among), placed_end bodies ms h.1)
placed_end bodies (opens b ∷ ms) h = (λ q among. tt, placed_end (b ∷ bodies) ms h.1)
placed_end bodies (closes ∷ ms) h = placed_end (outer bodies) ms h.1

-- the mark is that of no return
abbrev IsNoReturn : Mark → Type 0
IsNoReturn (returns s es) = ⊥
IsNoReturn mark = Unit {0}

module _ (seen : Seen) (body : ℕ) where
  quiet_mark : (bodies : List BodyPlace) (m : Mark) → IsNoReturn m → AreQuiet (mark_events seen bodies m)
  quiet_mark bodies (mentions m) h = mentions_are_quiet seen bodies m
  quiet_mark bodies (of_fields site m) h =
      λ e k. object_is_no_return e (field_events_are seen bodies site m e k)
  quiet_mark bodies (runs_literal moment site at) h =
      literal_event_fits (λ e. is_return e ≡ false) seen.known.edition moment at refl refl
  quiet_mark bodies (returns site es) h = absurd h
  quiet_mark bodies (opens b) h = none_given (λ e. is_return e ≡ false)
  quiet_mark bodies closes h = none_given (λ e. is_return e ≡ false)

  -- a site at which no return stands
  quiet_at : (at : ℕ) (ps : List Placed)
      → ((p : Placed) → Contains ps p → is_site p.mark at ≡ true → IsNoReturn p.mark)
      → AreQuiet (events_at seen body ps at)
  quiet_at at [] h = none_given (λ e. is_return e ≡ false)
  quiet_at at (p ∷ ps) h =
      by (is_body body p.bodies) (is_site p.mark at) refl (quiet_at at ps λ q among. h q (contains_there p q ps among))
    where
      by : (b c : Bool)
          → is_site p.mark at ≡ c
          → AreQuiet (events_at seen body ps at)
          → AreQuiet (if b && c then mark_events seen p.bodies p.mark ++ events_at seen body ps at else events_at seen body ps at)
      by true true is rest e among =
          elim (Contains-append_cases (mark_events seen p.bodies p.mark) (events_at seen body ps at) e among) [
            | inl x ↦ quiet_mark p.bodies p.mark (h p (contains_here p ps) is) e x
            | inr x ↦ rest e x
          ]
      by true false is rest e among = rest e among
      by false c is rest e among = rest e among

  none_at : (at : ℕ) (ps : List Placed)
      → ((p : Placed) → Contains ps p → is_site p.mark at ≡ false)
      → events_at seen body ps at ≡ []
  none_at at [] h = refl
  none_at at (p ∷ ps) h =
      by (is_body body p.bodies) (is_site p.mark at) (h p (contains_here p ps))
      (none_at at ps λ q among. h q (contains_there p q ps among))
    where
      by : (b c : Bool)
          → c ≡ false
          → events_at seen body ps at ≡ []
          → (if b && c then mark_events seen p.bodies p.mark ++ events_at seen body ps at else events_at seen body ps at) ≡ []
      by true true is rest = absurd (true≢false is)
      by true false is rest = rest
      by false c is rest = rest

  one_return : (at : ℕ) (p : Placed) (ps : List Placed)
      → is_site p.mark at ≡ true
      → ((q : Placed) → Contains ps q → MayFollow p.mark q.mark)
      → IsLastReturn (events_at seen body ps at)
      → IsLastReturn (mark_events seen p.bodies p.mark ++ events_at seen body ps at)
  one_return at p ps is after rest = by p.bodies p.mark is after
    where
      by : (bodies : List BodyPlace) (m : Mark)
          → is_site m at ≡ true
          → ((q : Placed) → Contains ps q → MayFollow m q.mark)
          → IsLastReturn (mark_events seen bodies m ++ events_at seen body ps at)
      by bodies (mentions m) here behind =
          quiet_before (mark_events seen bodies (mentions m)) (events_at seen body ps at)
          (quiet_mark bodies (mentions m) tt) rest
      by bodies (of_fields site x) here behind =
          quiet_before (mark_events seen bodies (of_fields site x)) (events_at seen body ps at)
          (quiet_mark bodies (of_fields site x) tt) rest
      by bodies (runs_literal moment site l) here behind =
          quiet_before (mark_events seen bodies (runs_literal moment site l)) (events_at seen body ps at)
          (quiet_mark bodies (runs_literal moment site l) tt) rest
      by bodies (returns site es) here behind =
          subst (λ (l : List Event). IsLastReturn (mark_events seen bodies (returns site es) ++ l))
          (sym (none_at at ps λ q among. subst (λ (n : ℕ). is_site q.mark n ≡ false) (eqb_is site at here)
          (behind q among))) tt
      by bodies (opens b) here behind = rest
      by bodies closes here behind = rest

  last_at : (at : ℕ) (ps : List Placed) → PlacedEnd ps → IsLastReturn (events_at seen body ps at)
  last_at at [] h = tt
  last_at at (p ∷ ps) h = by (is_body body p.bodies) (is_site p.mark at) refl (last_at at ps h.1)
    where
      by : (b c : Bool)
          → is_site p.mark at ≡ c
          → IsLastReturn (events_at seen body ps at)
          → IsLastReturn (if b && c then mark_events seen p.bodies p.mark ++ events_at seen body ps at else events_at seen body ps at)
      by true true is rest = one_return at p ps is h.0 rest
      by true false is rest = rest
      by false c is rest = rest

-- a mark of the site is no return where none stands there
no_return_there : (marks : List Mark) (s : ℕ)
    → ((es : Expressions) → Contains marks (returns s es) → ⊥)
    → (m : Mark)
    → Contains marks m
    → is_site m s ≡ true
    → IsNoReturn m
no_return_there marks s none (mentions m) among e = tt
no_return_there marks s none (of_fields site m) among e = tt
no_return_there marks s none (runs_literal moment site at) among e = tt
no_return_there marks s none (returns site es) among e =
    none es (subst (λ (n : ℕ). Contains marks (returns n es)) (eqb_is site s e) among)
no_return_there marks s none (opens b) among e = tt
no_return_there marks s none closes among e = tt

pub returns_are_last : ReturnsAreLast
returns_are_last b t x text among lists =
    let file = are_sited text.known.edition text.text text.tree text.is_tree in
    let edition = text.known.edition in
    let all = file_marks text.tree in
    let keeps = some_keep text.known.fields in
    let marks = marks_by edition keeps all in
    let same : b.file.marks ≡ placed [] marks = ap (λ (s : Seen). s.marks) text.is_file in
    let opened = among_all edition keeps all (opens b.place) (opens_one marks b.place
    (subst (λ (ps : List Placed). Contains (opened_in ps) b.place) same
    (placed_only (opened_in b.file.marks) b.place among))) in
    let ends = subst PlacedEnd (sym same) (placed_end [] marks (returns_end edition keeps all file.sited.last)) in
    let quiet = λ (s : ℕ) (asked : Contains
    (asked_statements b.place.statements) (asked_at s)). quiet_at b.file b.place.at s b.file.marks λ p there is.
    no_return_there marks s (λ es returned. file.sited.differ s es
    (inr record { body = b.place; opened = opened; among = asked }) (among_all edition keeps all (returns s es) returned))
    p.mark (is_placed [] marks p (subst (λ (ps : List Placed). Contains ps p) same there)) is in
    body_lists_end (sites_of b.file b.place.at) refl (λ at. last_at b.file b.place.at at b.file.marks ends)
    (block_of b.place) t x quiet lists
