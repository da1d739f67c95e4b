-- Tests of the marks of a file, one after the other: of each alone, and of each with the bodies around it.
use Rattle.std.proofs.Common.{◌≡◌, ℕ, ◌+◌, ◌<◌, ◌≤◌, Bool, true, false, ◌||◌, List, [], ◌∷◌, length, get_or, drop, map, refl, sym, ap, ◌∙◌}
use Rattle.std.specs.List.{list_any}
use Rattle.std.proofs.lemmas.List.{at_drop_all}
use Rattle.tree.proofs.Depths.{drop_item}
use Rattle.mentions.specs.declared.mark.BodyPlace.{BodyPlace as KeptBody}
use Rattle.mentions.specs.declared.mark.Mark.{Mark as KeptMark}
use Rattle.mentions.specs.MarkViews.{body_view, mark_view, marks_view}
use Rattle.meaning.specs.Mentions.{BodyPlace, Mark, mentions, of_fields, runs_literal, returns, opens, closes}
use Rattle.meaning.specs.Tracked.{Placed, placed, outer}
use Rattle.tracked.specs.LocalViews.{bodies_at}

-- the bodies around a mark don't matter
module _ (test : Mark → Bool) (quiet : test closes ≡ false) where
  pub any_placed : (bs : List BodyPlace) (ms : List Mark)
      → list_any (λ (p : Placed). test p.mark) (placed bs ms) ≡ list_any test ms
  unfolding placed
  any_placed bs [] = refl
  any_placed bs (mentions m ∷ ms) = ap (λ b. test (mentions m) || b) (any_placed bs ms)
  any_placed bs (of_fields site m ∷ ms) = ap (λ b. test (of_fields site m) || b) (any_placed bs ms)
  any_placed bs (runs_literal moment site at ∷ ms) = ap (λ b. test (runs_literal moment site at) || b) (any_placed bs ms)
  any_placed bs (returns at es ∷ ms) = ap (λ b. test (returns at es) || b) (any_placed bs ms)
  any_placed bs (opens o ∷ ms) = ap (λ b. test (opens o) || b) (any_placed (o ∷ bs) ms)
  any_placed bs (closes ∷ ms) = any_placed (outer bs) ms ∙ ap (λ b. b || list_any test ms) (sym quiet)

module _ (test : List BodyPlace → Mark → Bool) (quiet : (bs : List BodyPlace) → test bs closes ≡ false) where
  any-mark : (bs : List BodyPlace) (m : Mark) (ms : List Mark)
      → list_any (λ (p : Placed). test p.bodies p.mark) (placed bs (m ∷ ms))
      ≡ (test (bodies_at bs m) m || list_any (λ (p : Placed). test p.bodies p.mark) (placed (bodies_at bs m) ms))
  unfolding placed
  any-mark bs (mentions m) ms = refl
  any-mark bs (of_fields site m) ms = refl
  any-mark bs (runs_literal moment site at) ms = refl
  any-mark bs (returns at es) ms = refl
  any-mark bs (opens b) ms = refl
  any-mark bs closes ms =
      ap (λ b. b || list_any (λ (p : Placed). test p.bodies p.mark) (placed (outer bs) ms)) (sym (quiet (outer bs)))

  -- a loop that looks for a mark
  module _ (marks : List KeptMark) (i : ℕ) (m : KeptMark) (within : i < length marks) (is : m ≡ get_or marks i m)
      (before after slice : List KeptBody) (around : map body_view after ≡ bodies_at (map body_view before) (mark_view m))
      (same : slice ≡ after) (found : Bool) (tested : found ≡ test (map body_view slice) (mark_view m)) (whole : Bool)
      (so_far : list_any (λ (p : Placed). test p.bodies p.mark) (placed (map body_view before) (marks_view (drop i marks))) ≡ whole) where
    split : (found || list_any (λ (p : Placed). test p.bodies p.mark) (placed (map body_view after) (marks_view (drop (i + 1) marks))))
        ≡ whole
    split =
        let rest : List Mark = marks_view (drop (i + 1) marks) in
        let others : List BodyPlace → Bool = λ bs. list_any (λ (p : Placed). test p.bodies p.mark) (placed bs rest) in
        ap (λ b. b || others (map body_view after))
        (tested ∙ ap (λ (bs : List KeptBody). test (map body_view bs) (mark_view m)) same)
        ∙ ap (λ (bs : List BodyPlace). test bs (mark_view m) || others bs) around
        ∙ sym (any-mark (map body_view before) (mark_view m) rest)
        ∙ sym
        (ap (λ (ms : List KeptMark). list_any (λ (p : Placed). test p.bodies p.mark) (placed (map body_view before) (marks_view ms)))
        (drop_item marks i m within is))
        ∙ so_far

    pub one_found : found ≡ true → true ≡ whole
    one_found e =
        ap
        (λ b. b || list_any (λ (p : Placed). test p.bodies p.mark) (placed (map body_view after) (marks_view (drop (i + 1) marks))))
        (sym e)
        ∙ split

    pub none_found : found ≡ false
        → list_any (λ (p : Placed). test p.bodies p.mark) (placed (map body_view after) (marks_view (drop (i + 1) marks))) ≡ whole
    none_found e =
        ap
        (λ b. b || list_any (λ (p : Placed). test p.bodies p.mark) (placed (map body_view after) (marks_view (drop (i + 1) marks))))
        (sym e)
        ∙ split

  pub none_left : (marks : List KeptMark) (i : ℕ) → length marks ≤ i → (bs : List BodyPlace) (whole : Bool)
      → list_any (λ (p : Placed). test p.bodies p.mark) (placed bs (marks_view (drop i marks))) ≡ whole → false ≡ whole
  unfolding placed
  none_left marks i past bs whole so_far =
      sym
      (at_drop_all (λ (ms : List KeptMark). list_any (λ (p : Placed). test p.bodies p.mark) (placed bs (marks_view ms))) marks i past)
      ∙ so_far
