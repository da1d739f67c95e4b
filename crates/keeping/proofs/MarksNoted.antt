-- Marks in their order, each with the bodies around it: what a loop over them says of fields.
use Rattle.std.proofs.Common.{◌≡◌, ℕ, ◌+◌, ◌<◌, ◌≤◌, List, [], ◌∷◌, ◌++◌, length, get_or, drop, map, refl, sym, ap, ◌∙◌, append_assoc}
use Rattle.std.specs.Prelude.{flat_map}
use Rattle.std.proofs.lemmas.List.{append-nil, at_drop_all}
use Rattle.tree.proofs.Depths.{drop_item}
use Rattle.mentions.specs.declared.mark.BodyPlace.{BodyPlace as KeptBody}
use Rattle.mentions.specs.declared.mark.Mark.{Mark as KeptMark}
use Rattle.mentions.specs.MarkViews.{body_view, mark_view, marks_view}
use Rattle.meaning.specs.Mentions.{BodyPlace, Mark, mentions, of_fields, runs_literal, returns, opens, closes}
use Rattle.meaning.specs.Tracked.{outer, Placed, placed}
use Rattle.tracked.specs.LocalViews.{bodies_at}
use Rattle.noted_fields.specs.NotedFields.{Note}

-- by what a mark says in the bodies around it
abbrev pub there : (List BodyPlace → Mark → List Note) → List BodyPlace → List Mark → List Note
there says bs ms = flat_map (λ (p : Placed). says p.bodies p.mark) (placed bs ms)

-- what a mark says, and then those after it
one_mark : (says : List BodyPlace → Mark → List Note) → ((bs : List BodyPlace) → says bs closes ≡ [])
    → (bs : List BodyPlace) (m : Mark) (ms : List Mark)
    → there says bs (m ∷ ms) ≡ says (bodies_at bs m) m ++ there says (bodies_at bs m) ms
unfolding placed
one_mark says none bs (mentions m) ms = refl
one_mark says none bs (of_fields site m) ms = refl
one_mark says none bs (runs_literal moment site at) ms = refl
one_mark says none bs (returns at es) ms = refl
one_mark says none bs (opens b) ms = refl
one_mark says none bs closes ms = ap (λ l. l ++ there says (outer bs) ms) (sym (none (outer bs)))

-- what was said so far, and then what the rest says, is the whole
module _ (says : List BodyPlace → Mark → List Note) (none : (bs : List BodyPlace) → says bs closes ≡ [])
    (marks : List KeptMark) (i : ℕ) (m : KeptMark)
    (within : i < length marks) (is : m ≡ get_or marks i m) (before after slice : List KeptBody)
    (around : map body_view after ≡ bodies_at (map body_view before) (mark_view m)) (same : slice ≡ after) where
  pub more_notes : (a b whole : List Note)
      → b ≡ a ++ says (map body_view slice) (mark_view m)
      → a ++ there says (map body_view before) (marks_view (drop i marks)) ≡ whole
      → b ++ there says (map body_view after) (marks_view (drop (i + 1) marks)) ≡ whole
  more_notes a b whole adds so_far =
      let rest : List Mark = marks_view (drop (i + 1) marks) in
      let one : List BodyPlace → List Note = λ bs. says bs (mark_view m) in
      let split
      : there says (map body_view before) (marks_view (drop i marks))
      ≡ one (map body_view after) ++ there says (map body_view after) rest =
      ap (λ (ms : List KeptMark). there says (map body_view before) (marks_view ms)) (drop_item marks i m within is)
      ∙ one_mark says none (map body_view before) (mark_view m) rest
      ∙ sym (ap (λ (bs : List BodyPlace). one bs ++ there says bs rest) around) in
      ap (λ (l : List Note). l ++ there says (map body_view after) rest)
      (adds ∙ ap (λ (bs : List KeptBody). a ++ one (map body_view bs)) same)
      ∙ append_assoc a (one (map body_view after)) (there says (map body_view after) rest)
      ∙ ap (λ (l : List Note). a ++ l) (sym split)
      ∙ so_far

-- after the last mark
pub all_noted : (says : List BodyPlace → Mark → List Note) (marks : List KeptMark) (i : ℕ) → length marks ≤ i
    → (bs : List BodyPlace) (a whole : List Note)
    → a ++ there says bs (marks_view (drop i marks)) ≡ whole
    → a ≡ whole
unfolding placed
all_noted says marks i past bs a whole so_far =
    sym (at_drop_all (λ (ms : List KeptMark). a ++ there says bs (marks_view ms)) marks i past ∙ append-nil a) ∙ so_far
