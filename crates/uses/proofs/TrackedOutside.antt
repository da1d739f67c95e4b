-- Marks in their order: whether one names a tracked variable outside the bodies that open among them.
use Rattle.std.proofs.Common.{◌≡◌, ℕ, ◌+◌, ◌<◌, ◌≤◌, Bool, true, false, ◌&&◌, ◌||◌, List, ◌∷◌, length, get_or, drop, map, refl, sym, ap, ◌∙◌}
use Rattle.std.specs.List.{list_any}
use Rattle.std.proofs.lemmas.List.{at_drop_all}
use Rattle.tree.proofs.Depths.{drop_item}
use Rattle.mentions.specs.declared.mark.BodyPlace.{BodyPlace as KeptBody}
use Rattle.mentions.specs.declared.mark.Mark.{Mark as KeptMark}
use Rattle.mentions.specs.MarkViews.{body_view, mark_view, marks_view}
use Rattle.meaning.specs.Mentions.{BodyPlace, Mark, mentions, of_fields, runs_literal, returns, opens, closes}
use Rattle.meaning.specs.Tracked.{placed}
use Rattle.meaning.specs.Uses.{Seen, is_outside, names_tracked, names_tracked_outside}
use Rattle.tracked.specs.LocalViews.{bodies_at}

module _ (s : Seen) where
  ends_nothing : (b rest : Bool) → rest ≡ ((b && false) || rest)
  ends_nothing true rest = refl
  ends_nothing false rest = refl

  any-mark : (bs : List BodyPlace) (m : Mark) (ms : List Mark)
      → list_any (names_tracked_outside s) (placed bs (m ∷ ms))
      ≡ ((is_outside (bodies_at bs m) && names_tracked s m)
      || list_any (names_tracked_outside s) (placed (bodies_at bs m) ms))
  unfolding placed
  any-mark bs (mentions m) ms = refl
  any-mark bs (of_fields site m) ms = refl
  any-mark bs (runs_literal moment site at) ms = refl
  any-mark bs (returns at es) ms = refl
  any-mark bs (opens b) ms = refl
  any-mark bs closes ms = ends_nothing (is_outside (bodies_at bs closes)) _

  module _ (marks : List KeptMark) (i : ℕ) (m : KeptMark) (within : i < length marks) (is : m ≡ get_or marks i m)
      (before after slice : List KeptBody) (around : map body_view after ≡ bodies_at (map body_view before) (mark_view m))
      (same : slice ≡ after) (test : Bool)
      (tested : test ≡ (is_outside (map body_view slice) && names_tracked s (mark_view m))) (whole : Bool)
      (so_far : list_any (names_tracked_outside s) (placed (map body_view before) (marks_view (drop i marks))) ≡ whole) where
    split : (test || list_any (names_tracked_outside s) (placed (map body_view after) (marks_view (drop (i + 1) marks)))) ≡ whole
    split =
        let rest : List Mark = marks_view (drop (i + 1) marks) in
        let others : List BodyPlace → Bool = λ bs. list_any (names_tracked_outside s) (placed bs rest) in
        ap (λ b. b || others (map body_view after))
        (tested ∙ ap (λ (bs : List KeptBody). is_outside (map body_view bs) && names_tracked s (mark_view m)) same)
        ∙ ap (λ (bs : List BodyPlace). (is_outside bs && names_tracked s (mark_view m)) || others bs) around
        ∙ sym (any-mark (map body_view before) (mark_view m) rest)
        ∙ sym (ap (λ (ms : List KeptMark). list_any (names_tracked_outside s) (placed (map body_view before) (marks_view ms)))
        (drop_item marks i m within is))
        ∙ so_far

    pub one_found : test ≡ true → true ≡ whole
    one_found e =
        ap (λ b. b || list_any (names_tracked_outside s) (placed (map body_view after) (marks_view (drop (i + 1) marks)))) (sym e)
        ∙ split

    pub none_found : test ≡ false
        → list_any (names_tracked_outside s) (placed (map body_view after) (marks_view (drop (i + 1) marks))) ≡ whole
    none_found e =
        ap (λ b. b || list_any (names_tracked_outside s) (placed (map body_view after) (marks_view (drop (i + 1) marks)))) (sym e)
        ∙ split

  pub none_left : (marks : List KeptMark) (i : ℕ) → length marks ≤ i → (bs : List BodyPlace) (whole : Bool)
      → list_any (names_tracked_outside s) (placed bs (marks_view (drop i marks))) ≡ whole → false ≡ whole
  unfolding placed
  none_left marks i past bs whole so_far =
      sym (at_drop_all (λ (ms : List KeptMark). list_any (names_tracked_outside s) (placed bs (marks_view ms))) marks i past)
      ∙ so_far
