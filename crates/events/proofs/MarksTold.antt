-- Marks in their order, each with the bodies around it: what a loop over them tells.
use Rattle.std.proofs.Common.{◌≡◌, ℕ, ◌+◌, ◌<◌, ◌≤◌, false, ◌&&◌, ◌||◌, List, [], ◌∷◌, ◌++◌, length, get_or, drop, map, flat_map, refl, sym, ap, ◌∙◌, subst, Vec, Global, Bor}
use Rattle.std.proofs.lemmas.List.{at_drop_all}
use Rattle.tree.proofs.Depths.{drop_item}
use Rattle.mentions.specs.declared.mark.BodyPlace.{BodyPlace as KeptBody}
use Rattle.mentions.specs.declared.mark.Mark.{Mark as KeptMark}
use Rattle.mentions.specs.MarkViews.{body_view, mark_view, marks_view}
use Rattle.meaning.specs.Mentions.{BodyPlace, Mark, mentions, of_fields, runs_literal, returns, opens, closes}
use Rattle.meaning.specs.Tracked.{Placed, placed}
use Rattle.meaning.specs.Uses.{Seen, is_body, is_outside}
use Rattle.meaning.specs.KeepingFields.{fields_kept_there}
use Rattle.meaning.specs.BodyEvents.{by_place, opened_by, opened_in, mark_faults, outer_faults_of, faults_of, mark_events, events_at, is_site, panics_there}
use Rattle.tracked.specs.LocalViews.{bodies_at}
use Rattle.uses.specs.OutcomeViews.{fault_view}
use Rattle.events.specs.declared.told.Told.{Told}
use Rattle.events.specs.ToldViews.{faults_at, events_in, has_panic, has_bound, is_second, binds_in, if_there, panics_in, TellsNothing, AddsMark, TellsFile}
use Rattle.meaning_packages.specs.Credits.{binds_there}
use Rattle.events.proofs.Bounds.{binds_of}
use Rattle.events.proofs.Grown.{then_or_none, nothing_there, grows, grown, holds_on, holds_at_end}

-- the fields that these marks keep
abbrev pub fields_among : Seen → List Placed → List (List ℕ)
fields_among s ps = flat_map (λ p. fields_kept_there s p.bodies p.mark) ps

-- what was told so far, with what the marks that are left give, is what is told of all
pub record TellsSoFar (s : Seen) (left all : List Placed) (told : Told) : Type 0 where
  pub outer : map fault_view told.outer.items ++ outer_faults_of s left ≡ outer_faults_of s all
  pub faults : (body : ℕ) → faults_at told.faults body ++ faults_of s body left ≡ faults_of s body all
  pub events : (body at : ℕ) → events_in told.events body at ++ events_at s body left at ≡ events_at s body all at
  pub panics : (body at : ℕ) → (has_panic told.panics body at || panics_in s.known body at left) ≡ panics_in s.known body at all
  pub bound : (body number : ℕ) → (has_bound told.bound body number || binds_in s body number left) ≡ binds_in s body number all
  pub keeping : map (λ (n : Bor (List ℕ)). n.now) told.keeping.items ++ fields_among s left ≡ fields_among s all
  pub opened : map body_view told.opened.items ++ opened_in left ≡ opened_in all
  pub edition : told.edition ≡ s.known.edition

module _ (s : Seen) (bs : List BodyPlace) where
  outer-mark : (m : Mark) (ms : List Mark)
      → outer_faults_of s (placed bs (m ∷ ms))
      ≡ if_there (is_outside (bodies_at bs m)) (mark_faults s (bodies_at bs m) m) ++ outer_faults_of s (placed (bodies_at bs m) ms)
  unfolding placed
  outer-mark (mentions m) ms = then_or_none (is_outside bs) _ _
  outer-mark (of_fields site m) ms = then_or_none (is_outside bs) _ _
  outer-mark (runs_literal moment site at) ms = then_or_none (is_outside bs) _ _
  outer-mark (returns at es) ms = then_or_none (is_outside bs) _ _
  outer-mark (opens b) ms = then_or_none (is_outside (b ∷ bs)) (mark_faults s (b ∷ bs) (opens b)) _
  outer-mark closes ms = nothing_there (is_outside (bodies_at bs closes)) _

  faults-mark : (body : ℕ) (m : Mark) (ms : List Mark)
      → faults_of s body (placed bs (m ∷ ms))
      ≡ if_there (is_body body (bodies_at bs m)) (mark_faults s (bodies_at bs m) m) ++ faults_of s body (placed (bodies_at bs m) ms)
  unfolding placed
  faults-mark body (mentions m) ms = then_or_none (is_body body bs) _ _
  faults-mark body (of_fields site m) ms = then_or_none (is_body body bs) _ _
  faults-mark body (runs_literal moment site at) ms = then_or_none (is_body body bs) _ _
  faults-mark body (returns at es) ms = then_or_none (is_body body bs) _ _
  faults-mark body (opens b) ms = then_or_none (is_body body (b ∷ bs)) (mark_faults s (b ∷ bs) (opens b)) _
  faults-mark body closes ms = nothing_there (is_body body (bodies_at bs closes)) _

  events-mark : (body at : ℕ) (m : Mark) (ms : List Mark)
      → events_at s body (placed bs (m ∷ ms)) at
      ≡ if_there (is_body body (bodies_at bs m) && is_site m at) (mark_events s (bodies_at bs m) m)
      ++ events_at s body (placed (bodies_at bs m) ms) at
  unfolding placed
  events-mark body at (mentions m) ms = then_or_none (is_body body bs && is_site (mentions m) at) _ _
  events-mark body at (of_fields site m) ms = then_or_none (is_body body bs && is_site (of_fields site m) at) _ _
  events-mark body at (runs_literal moment site literal) ms = then_or_none (is_body body bs && is_site (runs_literal moment site literal) at) _ _
  events-mark body at (returns site es) ms = then_or_none (is_body body bs && is_site (returns site es) at) _ _
  events-mark body at (opens b) ms = then_or_none (is_body body (b ∷ bs) && is_site (opens b) at) [] _
  events-mark body at closes ms = nothing_there (is_body body (bodies_at bs closes) && false) _

  panics-mark : (body at : ℕ) (m : Mark) (ms : List Mark)
      → panics_in s.known body at (placed bs (m ∷ ms))
      ≡ (panics_there s.known body at (bodies_at bs m) m || panics_in s.known body at (placed (bodies_at bs m) ms))
  unfolding placed
  panics-mark body at (mentions m) ms = refl
  panics-mark body at (of_fields site m) ms = refl
  panics-mark body at (runs_literal moment site literal) ms = refl
  panics-mark body at (returns site es) ms = refl
  panics-mark body at (opens b) ms = refl
  panics-mark body at closes ms = refl

  binds-mark : (body number : ℕ) (m : Mark) (ms : List Mark)
      → binds_in s body number (placed bs (m ∷ ms))
      ≡ ((binds_there s body number (bodies_at bs m) m && is_second s.known.edition)
      || binds_in s body number (placed (bodies_at bs m) ms))
  unfolding placed
  binds-mark body number (mentions m) ms = refl
  binds-mark body number (of_fields site m) ms = refl
  binds-mark body number (runs_literal moment site literal) ms = refl
  binds-mark body number (returns site es) ms = refl
  binds-mark body number (opens b) ms = refl
  binds-mark body number closes ms = refl

  opened-mark : (m : Mark) (ms : List Mark)
      → opened_in (placed bs (m ∷ ms)) ≡ opened_by m ++ opened_in (placed (bodies_at bs m) ms)
  unfolding placed
  opened-mark (mentions m) ms = refl
  opened-mark (of_fields site m) ms = refl
  opened-mark (runs_literal moment site literal) ms = refl
  opened-mark (returns site es) ms = refl
  opened-mark (opens b) ms = refl
  opened-mark closes ms = refl

  keeping-mark : (m : Mark) (ms : List Mark)
      → fields_among s (placed bs (m ∷ ms))
      ≡ fields_kept_there s (bodies_at bs m) m ++ fields_among s (placed (bodies_at bs m) ms)
  unfolding placed
  keeping-mark (mentions m) ms = refl
  keeping-mark (of_fields site m) ms = refl
  keeping-mark (runs_literal moment site at) ms = refl
  keeping-mark (returns at es) ms = refl
  keeping-mark (opens b) ms = refl
  keeping-mark closes ms = refl

  -- one mark more
  pub tells_more : (m : Mark) (ms : List Mark) (all : List Placed) (before after : Told)
      → AddsMark s (bodies_at bs m) m before after → TellsSoFar s (placed bs (m ∷ ms)) all before
      → TellsSoFar s (placed (bodies_at bs m) ms) all after
  tells_more m ms all before after adds so_far = record {
    outer = grows _ _ _ _ _ _ adds.outer (outer-mark m ms) so_far.outer;
    faults = λ body. grows _ _ _ _ _ _ (adds.faults body) (faults-mark body m ms) (so_far.faults body);
    events = λ body at. grows _ _ _ _ _ _ (adds.events body at) (events-mark body at m ms) (so_far.events body at);
    panics = λ body at. holds_on _ _ _ _ _ _ (adds.panics body at) (panics-mark body at m ms) (so_far.panics body at);
    bound = λ body number. holds_on _ _ _ _ _ _ (adds.bound body number) (binds-mark body number m ms) (so_far.bound body number);
    keeping = grows _ _ _ _ _ _ adds.keeping (keeping-mark m ms) so_far.keeping;
    opened = grows _ _ _ _ _ _ adds.opened (opened-mark m ms) so_far.opened;
    edition = adds.edition ∙ so_far.edition;
  }

pub tells_first : (s : Seen) (all : List Placed) (told : Told) → TellsNothing s.known.edition told → TellsSoFar s all all told
tells_first s all told nothing = record {
  outer = ap (λ fs. map fault_view fs ++ outer_faults_of s all) nothing.outer;
  faults = λ body. ap (λ fs. map fault_view fs ++ faults_of s body all) (nothing.faults body);
  events = λ body at. ap (λ es. Rattle.events.specs.ToldViews.events_of_site at es ++ events_at s body all at) (nothing.events body);
  panics = λ body at. ap (λ ps. Rattle.std.specs.List.list_any (λ site. Rattle.std.specs.Prelude.nat_eq site at) ps || panics_in s.known body at all) (nothing.panics body);
  bound = λ body number. ap (λ ns. Rattle.std.specs.List.list_any (λ n. Rattle.std.specs.Prelude.nat_eq n number) ns || binds_in s body number all) (nothing.bound body);
  keeping = ap (λ ns. map (λ (n : Bor (List ℕ)). n.now) ns ++ fields_among s all) nothing.keeping;
  opened = ap (λ bs. map body_view bs ++ opened_in all) nothing.opened;
  edition = nothing.edition;
}

-- the same, with these bodies in place of those
abbrev with_opened : Told → Vec KeptBody Global → Told
with_opened told opened = record {
  edition = told.edition;
  outer = told.outer;
  faults = told.faults;
  events = told.events;
  panics = told.panics;
  bound = told.bound;
  keeping = told.keeping;
  opened = opened;
}

pub tells_all : (s : Seen) (all : List Placed) → all ≡ s.marks → (left : List Placed) → left ≡ [] → (told : Told)
    → TellsSoFar s left all told
    → (opened : Vec KeptBody Global) → map body_view opened.items ≡ by_place (map body_view told.opened.items)
    → TellsFile s (with_opened told opened)
tells_all s all same left none told so_far opened ordered = record {
  outer = grown _ _ _ (ap (outer_faults_of s) none) so_far.outer ∙ ap (outer_faults_of s) same;
  faults = λ body. grown _ _ _ (ap (faults_of s body) none) (so_far.faults body) ∙ ap (faults_of s body) same;
  events = λ body at. grown _ _ _ (ap (λ ps. events_at s body ps at) none) (so_far.events body at) ∙ ap (λ ps. events_at s body ps at) same;
  panics = λ body at. holds_at_end _ _ _ (ap (panics_in s.known body at) none) (so_far.panics body at) ∙ ap (panics_in s.known body at) same;
  bound = λ body number.
      holds_at_end _ _ _ (ap (binds_in s body number) none) (so_far.bound body number) ∙ ap (binds_in s body number) same
      ∙ binds_of s.known.edition s body number;
  keeping = grown _ _ _ (ap (fields_among s) none) so_far.keeping ∙ ap (fields_among s) same;
  opened = ordered ∙ ap by_place (grown _ _ _ (ap opened_in none) so_far.opened ∙ ap opened_in same);
  edition = so_far.edition;
}

-- a loop over the marks
module _ (s : Seen) (marks : List KeptMark) (i : ℕ) where
  pub tells_next : (m : KeptMark) → i < length marks → m ≡ get_or marks i m → (before after slice : List KeptBody)
      → map body_view after ≡ bodies_at (map body_view before) (mark_view m) → slice ≡ after
      → (all : List Placed) (told told_after : Told) → AddsMark s (map body_view slice) (mark_view m) told told_after
      → TellsSoFar s (placed (map body_view before) (marks_view (drop i marks))) all told
      → TellsSoFar s (placed (map body_view after) (marks_view (drop (i + 1) marks))) all told_after
  tells_next m within is before after slice around same all told told_after adds so_far =
      let rest : List Mark = marks_view (drop (i + 1) marks) in
      let here : drop i marks ≡ m ∷ drop (i + 1) marks = drop_item marks i m within is in
      let adds_there : AddsMark s (bodies_at (map body_view before) (mark_view m)) (mark_view m) told told_after =
      subst (λ bs. AddsMark s bs (mark_view m) told told_after) around
      (subst (λ (bs : List KeptBody). AddsMark s (map body_view bs) (mark_view m) told told_after) same adds) in
      let so_far_there : TellsSoFar s (placed (map body_view before) (mark_view m ∷ rest)) all told =
      subst (λ (ms : List KeptMark). TellsSoFar s (placed (map body_view before) (marks_view ms)) all told) here so_far in
      subst (λ bs. TellsSoFar s (placed bs rest) all told_after) (sym around)
      (tells_more s (map body_view before) (mark_view m) rest all told told_after adds_there so_far_there)

  pub tells_last : length marks ≤ i → (bs : List BodyPlace) (all : List Placed) → all ≡ s.marks → (told : Told)
      → TellsSoFar s (placed bs (marks_view (drop i marks))) all told
      → (opened : Vec KeptBody Global) → map body_view opened.items ≡ by_place (map body_view told.opened.items)
      → TellsFile s (with_opened told opened)
  unfolding placed
  tells_last past bs all same told so_far opened ordered =
      tells_all s all same _ (at_drop_all (λ (ms : List KeptMark). placed bs (marks_view ms)) marks i past) told so_far
      opened ordered
