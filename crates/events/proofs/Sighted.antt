-- What the sightings of a local say of the bodies in which it is mentioned.
use Rattle.std.proofs.Common.{◌≡◌, ℕ, ◌+◌, ◌<◌, ◌≤◌, length, get_or, drop, map, Bool, true, false, ◌&&◌, ◌||◌, if◌then◌else◌, List, [], ◌∷◌, ◌++◌, Option, Some, None, refl, sym, ap, ◌∙◌}
use Rattle.std.specs.Prelude.{◌==◌}
use Rattle.std.specs.List.{list_any}
use Rattle.std.proofs.lemmas.List.{at_drop_all}
use Rattle.tree.proofs.Depths.{drop_item}
use Rattle.mentions.specs.declared.mark.BodyPlace.{BodyPlace as KeptBody}
use Rattle.mentions.specs.declared.mark.Mark.{Mark as KeptMark}
use Rattle.mentions.specs.MarkViews.{body_view, mark_view, marks_view}
use Rattle.lists.specs.declared.Lists.{Lists}
use Rattle.events.proofs.Grown.{grows, grown}
use Rattle.meaning.specs.Mentions.{BodyPlace, Mention, Mark, mentions, of_fields, runs_literal, returns, opens, closes}
use Rattle.meaning.specs.Tracked.{variable_of, is_variable, Placed, placed, Local}
use Rattle.meaning.specs.Uses.{Seen, is_of_local}
use Rattle.meaning.specs.BodyEvents.{least, is_around, is_declared_around, occurs_in, is_captured_there, occurrence, first_occurrence}
use Rattle.tracked.specs.LocalViews.{bodies_at}
use Rattle.events.specs.ToldViews.{if_there}
use Rattle.lists.specs.ListViews.{items_at}
use Rattle.events.specs.declared.sightings.Sighting.{Sighting}
use Rattle.events.specs.VariableViews.{body_sightings, tracked_local, local_sightings, mark_sightings, sightings_of, AddsSightings, both, merged_of, first_of}
use Rattle.events.proofs.Joined.{lesser-itself, merged-append}

sightings-mark : (s : Seen) (n : ℕ) (bs : List BodyPlace) (m : Mark) (ms : List Mark)
    → sightings_of s n (placed bs (m ∷ ms))
    ≡ mark_sightings s n (bodies_at bs m) m ++ sightings_of s n (placed (bodies_at bs m) ms)
unfolding placed
sightings-mark s n bs (mentions m) ms = refl
sightings-mark s n bs (of_fields site m) ms = refl
sightings-mark s n bs (runs_literal moment site at) ms = refl
sightings-mark s n bs (returns at es) ms = refl
sightings-mark s n bs (opens b) ms = refl
sightings-mark s n bs closes ms = refl

-- a loop over the marks
module _ (s : Seen) (n : ℕ) (marks : List KeptMark) (i : ℕ) where
  pub sightings_next : (m : KeptMark) → i < length marks → m ≡ get_or marks i m → (before after slice : List KeptBody)
      → map body_view after ≡ bodies_at (map body_view before) (mark_view m) → slice ≡ after
      → (a b : Lists Sighting) → AddsSightings s (map body_view slice) (mark_view m) a b → (whole : List Sighting)
      → items_at a n ++ sightings_of s n (placed (map body_view before) (marks_view (drop i marks))) ≡ whole
      → items_at b n ++ sightings_of s n (placed (map body_view after) (marks_view (drop (i + 1) marks))) ≡ whole
  sightings_next m within is before after slice around same a b adds whole so_far =
      let rest : List Mark = marks_view (drop (i + 1) marks) in
      let there : List BodyPlace → List Sighting = λ bs. mark_sightings s n bs (mark_view m) in
      let others : List BodyPlace → List Sighting = λ bs. sightings_of s n (placed bs rest) in
      let split
      : sightings_of s n (placed (map body_view before) (marks_view (drop i marks)))
      ≡ there (map body_view after) ++ others (map body_view after) =
      ap (λ (ms : List KeptMark). sightings_of s n (placed (map body_view before) (marks_view ms)))
      (drop_item marks i m within is)
      ∙ sightings-mark s n (map body_view before) (mark_view m) rest
      ∙ sym (ap (λ (bs : List BodyPlace). there bs ++ others bs) around) in
      grows (items_at a n) (items_at b n) (there (map body_view after)) _ (others (map body_view after)) whole
      (adds n ∙ ap (λ (bs : List KeptBody). items_at a n ++ there (map body_view bs)) same) split so_far

  pub sightings_last : length marks ≤ i → (bs : List BodyPlace) → {all : List KeptMark} → marks ≡ all → (a : Lists Sighting)
      → items_at a n ++ sightings_of s n (placed bs (marks_view (drop i marks))) ≡ sightings_of s n (placed [] (marks_view marks))
      → items_at a n ≡ sightings_of s n (placed [] (marks_view all))
  unfolding placed
  sightings_last past bs same a so_far =
      grown (items_at a n) _ _
      (at_drop_all (λ (ms : List KeptMark). sightings_of s n (placed bs (marks_view ms))) marks i past) so_far
      ∙ ap (λ (ms : List KeptMark). sightings_of s n (placed [] (marks_view ms))) same

-- What they say

abbrev pub is_captured_of : Option Sighting → Bool
is_captured_of None = false
is_captured_of (Some s) = s.is_captured

abbrev least_of : Option ℕ → Option ℕ → Option ℕ
least_of None o = o
least_of (Some m) o = Some (least m o)

first-both : (a b : Option Sighting) → first_of (both a b) ≡ least_of (first_of a) (first_of b)
first-both None b = refl
first-both (Some s) None = refl
first-both (Some s) (Some t) = refl

or-false : (a : Bool) → a ≡ (a || false)
or-false true = refl
or-false false = refl

captured-both : (a b : Option Sighting) → is_captured_of (both a b) ≡ (is_captured_of a || is_captured_of b)
captured-both None b = refl
captured-both (Some s) None = or-false s.is_captured
captured-both (Some s) (Some t) = refl

abbrev if_seen : Bool → ℕ → Option ℕ
if_seen b at = if b then Some at else None

first_more : (t a : Bool) (at : ℕ) (f : Option ℕ) → f ≡ if_seen a at → least_of f (if_seen t at) ≡ if_seen (t || a) at
first_more true true at f e = ap (λ g. least_of g (Some at)) e ∙ ap Some (lesser-itself at)
first_more true false at f e = ap (λ g. least_of g (Some at)) e
first_more false true at f e = ap (λ g. least_of g None) e
first_more false false at f e = ap (λ g. least_of g None) e

first_there : (t : Bool) (x : Sighting) → first_of (if t then both (Some x) None else None) ≡ if_seen t x.first
first_there true x = refl
first_there false x = refl

captured_there : (t : Bool) (x : Sighting)
    → is_captured_of (if t then both (Some x) None else None) ≡ (if t then x.is_captured else false)
captured_there true x = refl
captured_there false x = refl

-- one mention

module _ (declaring at body : ℕ) where
  body_first : (bs : List BodyPlace)
      → first_of (merged_of body (body_sightings declaring at bs)) ≡ if_seen (is_around body bs) at
  body_first [] = refl
  body_first (b ∷ bs) =
      let x : Sighting = record { body = b.at; first = at; is_captured = list_any (λ c. c.at == declaring) bs } in
      let rest : List Sighting = body_sightings declaring at bs in
      ap first_of (merged-append body rest (x ∷ []))
      ∙ first-both (merged_of body rest) (if b.at == body then both (Some x) None else None)
      ∙ ap (least_of (first_of (merged_of body rest))) (first_there (b.at == body) x)
      ∙ first_more (b.at == body) (is_around body bs) at (first_of (merged_of body rest)) (body_first bs)

  around_one : (t d any more : Bool) → (any ≡ true → more ≡ true) → (if t then more else any) ≡ true → (d || more) ≡ true
  around_one true true any more h e = refl
  around_one true false any more h e = e
  around_one false true any more h e = refl
  around_one false false any more h e = h e

  -- a body that stands around it is among those outside
  declared_outside : (bs : List BodyPlace) → is_declared_around declaring body bs ≡ true
      → list_any (λ c. c.at == declaring) bs ≡ true
  declared_outside [] e = e
  declared_outside (b ∷ bs) e =
      around_one (b.at == body) (b.at == declaring) (is_declared_around declaring body bs)
      (list_any (λ c. c.at == declaring) bs) (declared_outside bs) e

  captured_more : (t c any : Bool) → (c ≡ true → any ≡ true)
      → (c || (if t then any else false)) ≡ (if t then any else c)
  captured_more true true any h = sym (h refl)
  captured_more true false any h = refl
  captured_more false true any h = refl
  captured_more false false any h = refl

  body_captured : (bs : List BodyPlace)
      → is_captured_of (merged_of body (body_sightings declaring at bs)) ≡ is_declared_around declaring body bs
  body_captured [] = refl
  body_captured (b ∷ bs) =
      let any : Bool = list_any (λ c. c.at == declaring) bs in
      let x : Sighting = record { body = b.at; first = at; is_captured = any } in
      let rest : List Sighting = body_sightings declaring at bs in
      ap is_captured_of (merged-append body rest (x ∷ []))
      ∙ captured-both (merged_of body rest) (if b.at == body then both (Some x) None else None)
      ∙ ap (λ t. is_captured_of (merged_of body rest) || t) (captured_there (b.at == body) x)
      ∙ ap (λ c. c || (if b.at == body then any else false)) (body_captured bs)
      ∙ captured_more (b.at == body) (is_declared_around declaring body bs) any (declared_outside bs)

-- all marks

-- what the sightings of a local say of a body
pub record Tells (s : Seen) (l : Local) (ss : List Sighting) (body : ℕ) : Type 0 where
  pub first : first_of (merged_of body ss) ≡ first_occurrence s.known body l s.marks
  pub captured : is_captured_of (merged_of body ss)
      ≡ list_any (λ p. is_captured_there s.known body l p.bodies p.mark) s.marks

-- the local of a number, if it is tracked
module _ (s : Seen) (n : ℕ) (l : Local) (tracked : tracked_local s (Some n) ≡ Some l) (same : l.number ≡ n) (body : ℕ) where
  of_local : (o : Option ℕ) → is_variable o n ≡ is_of_local l o
  of_local None = refl
  of_local (Some k) = ap (λ j. k == j) (sym same)

  one_first : (t a : Bool) (ss : List Sighting) (at : ℕ) → first_of (merged_of body ss) ≡ if_seen a at
      → first_of (merged_of body (if_there t ss)) ≡ if_seen (a && t) at
  one_first true true ss at e = e
  one_first true false ss at e = e
  one_first false true ss at e = refl
  one_first false false ss at e = refl

  one_captured : (t c : Bool) (ss : List Sighting) → is_captured_of (merged_of body ss) ≡ c
      → is_captured_of (merged_of body (if_there t ss)) ≡ (c && t)
  one_captured true true ss e = e
  one_captured true false ss e = e
  one_captured false true ss e = refl
  one_captured false false ss e = refl

  mention_there : (bs : List BodyPlace) (m : Mention)
      → mark_sightings s n bs (mentions m)
      ≡ if_there (is_of_local l (variable_of s.known m)) (body_sightings l.body m.named.at bs)
  mention_there bs m =
      ap (λ o. if_there (is_variable (variable_of s.known m) n) (local_sightings o m.named.at bs)) tracked
      ∙ ap (λ t. if_there t (body_sightings l.body m.named.at bs)) (of_local (variable_of s.known m))

  mark_first : (bs : List BodyPlace) (m : Mark)
      → first_of (merged_of body (mark_sightings s n bs m)) ≡ if_seen (occurs_in s.known body l bs m) (occurrence m)
  mark_first bs (mentions m) =
      ap (λ ss. first_of (merged_of body ss)) (mention_there bs m)
      ∙ one_first (is_of_local l (variable_of s.known m)) (is_around body bs) (body_sightings l.body m.named.at bs)
      m.named.at (body_first l.body m.named.at body bs)
  mark_first bs (of_fields site m) = refl
  mark_first bs (runs_literal moment site at) = refl
  mark_first bs (returns at es) = refl
  mark_first bs (opens b) = refl
  mark_first bs closes = refl

  mark_captured : (bs : List BodyPlace) (m : Mark)
      → is_captured_of (merged_of body (mark_sightings s n bs m)) ≡ is_captured_there s.known body l bs m
  mark_captured bs (mentions m) =
      ap (λ ss. is_captured_of (merged_of body ss)) (mention_there bs m)
      ∙ one_captured (is_of_local l (variable_of s.known m)) (is_declared_around l.body body bs)
      (body_sightings l.body m.named.at bs) (body_captured l.body m.named.at body bs)
  mark_captured bs (of_fields site m) = refl
  mark_captured bs (runs_literal moment site at) = refl
  mark_captured bs (returns at es) = refl
  mark_captured bs (opens b) = refl
  mark_captured bs closes = refl

  then_least : (t : Bool) (at : ℕ) (o : Option ℕ) → least_of (if_seen t at) o ≡ (if t then Some (least at o) else o)
  then_least true at o = refl
  then_least false at o = refl

  all_first : (ps : List Placed) → first_of (merged_of body (sightings_of s n ps)) ≡ first_occurrence s.known body l ps
  all_first [] = refl
  all_first (p ∷ ps) =
      let there : List Sighting = mark_sightings s n p.bodies p.mark in
      let rest : List Sighting = sightings_of s n ps in
      ap first_of (merged-append body there rest) ∙ first-both (merged_of body there) (merged_of body rest)
      ∙ ap (λ f. least_of f (first_of (merged_of body rest))) (mark_first p.bodies p.mark)
      ∙ ap (least_of (if_seen (occurs_in s.known body l p.bodies p.mark) (occurrence p.mark))) (all_first ps)
      ∙ then_least (occurs_in s.known body l p.bodies p.mark) (occurrence p.mark) (first_occurrence s.known body l ps)

  all_captured : (ps : List Placed)
      → is_captured_of (merged_of body (sightings_of s n ps))
      ≡ list_any (λ p. is_captured_there s.known body l p.bodies p.mark) ps
  all_captured [] = refl
  all_captured (p ∷ ps) =
      let there : List Sighting = mark_sightings s n p.bodies p.mark in
      let rest : List Sighting = sightings_of s n ps in
      ap is_captured_of (merged-append body there rest) ∙ captured-both (merged_of body there) (merged_of body rest)
      ∙ ap (λ c. c || is_captured_of (merged_of body rest)) (mark_captured p.bodies p.mark)
      ∙ ap (λ c. is_captured_there s.known body l p.bodies p.mark || c) (all_captured ps)

  pub sightings_tell : Tells s l (sightings_of s n s.marks) body
  sightings_tell = record { first = all_first s.marks; captured = all_captured s.marks }
