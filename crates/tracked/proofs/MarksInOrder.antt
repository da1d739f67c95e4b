-- Marks in their order, each with the bodies around it: what a loop over them adds to locals, and does to them.
use Rattle.std.proofs.Common.{◌≡◌, ℕ, ◌+◌, ◌<◌, ◌≤◌, List, [], ◌∷◌, ◌++◌, length, get_or, drop, map, Option, Some, None, option_map, refl, sym, ap, ◌∙◌}
use Rattle.std.proofs.lemmas.List.{at_drop_all}
use Rattle.tree.proofs.Depths.{drop_item}
use Rattle.mentions.specs.declared.mark.BodyPlace.{BodyPlace as KeptBody}
use Rattle.mentions.specs.declared.mark.Mark.{Mark as KeptMark}
use Rattle.mentions.specs.MarkViews.{body_view, mark_view, marks_view}
use Rattle.meaning.specs.Mentions.{BodyPlace, Mark, mentions, of_fields, runs_literal, returns, opens, closes}
use Rattle.meaning.specs.Tracked.{Known, Local, placed, locals_of, locals_there}
use Rattle.tracked.specs.declared.table.Entries.{Entries}
use Rattle.tracked.specs.declared.table.Locals.{Locals}
use Rattle.tracked.specs.LocalViews.{SeenLocal, bodies_at, entry_in, noted, noted_all, HasNoLocals, AddsLocals, HasLocals, NotesMark}
use Rattle.tracked.proofs.Added.{adds_then, adds_nothing, adds_same, has_added}

module _ (known : Known) (bs : List BodyPlace) where
  -- what a mark gives, and then those after it

  locals_of-mark : (m : Mark) (ms : List Mark)
      → locals_of known (placed bs (m ∷ ms))
      ≡ locals_there known (bodies_at bs m) m ++ locals_of known (placed (bodies_at bs m) ms)
  unfolding placed locals_of
  locals_of-mark (mentions m) ms = refl
  locals_of-mark (of_fields site m) ms = refl
  locals_of-mark (runs_literal moment site at) ms = refl
  locals_of-mark (returns at es) ms = refl
  locals_of-mark (opens b) ms = refl
  locals_of-mark closes ms = refl

  noted_all-mark : (n : ℕ) (m : Mark) (ms : List Mark) (e : SeenLocal)
      → noted_all known n (placed bs (m ∷ ms)) e
      ≡ noted_all known n (placed (bodies_at bs m) ms) (noted known n (bodies_at bs m) m e)
  unfolding placed
  noted_all-mark n (mentions m) ms e = refl
  noted_all-mark n (of_fields site m) ms e = refl
  noted_all-mark n (runs_literal moment site at) ms e = refl
  noted_all-mark n (returns at es) ms e = refl
  noted_all-mark n (opens b) ms e = refl
  noted_all-mark n closes ms e = refl

-- a function after another one
twice : (f g h : SeenLocal → SeenLocal) → ((e : SeenLocal) → h e ≡ g (f e)) → (o : Option SeenLocal)
    → option_map g (option_map f o) ≡ option_map h o
twice f g h same None = refl
twice f g h same (Some e) = ap Some (sym (same e))

-- a loop over the marks: what was done so far, and then what the rest does, is the whole
module _ (known : Known) (marks : List KeptMark) (i : ℕ) (m : KeptMark)
    (within : i < length marks) (is : m ≡ get_or marks i m) (before after slice : List KeptBody)
    (around : map body_view after ≡ bodies_at (map body_view before) (mark_view m)) (seen : slice ≡ after) where
  pub more_locals : (a b : Locals) (Whole : Locals → Type 0)
      → AddsLocals a b (locals_there known (map body_view slice) (mark_view m))
      → ((end : Locals)
      → AddsLocals a end (locals_of known (placed (map body_view before) (marks_view (drop i marks)))) → Whole end)
      → (end : Locals)
      → AddsLocals b end (locals_of known (placed (map body_view after) (marks_view (drop (i + 1) marks)))) → Whole end
  more_locals a b Whole adds so_far end others_added =
      let rest : List Mark = marks_view (drop (i + 1) marks) in
      let there : List BodyPlace → List Local = λ bs. locals_there known bs (mark_view m) in
      let others : List BodyPlace → List Local = λ bs. locals_of known (placed bs rest) in
      let split
      : locals_of known (placed (map body_view before) (marks_view (drop i marks)))
      ≡ there (map body_view after) ++ others (map body_view after) =
      ap (λ (ms : List KeptMark). locals_of known (placed (map body_view before) (marks_view ms)))
      (drop_item marks i m within is)
      ∙ locals_of-mark known (map body_view before) (mark_view m) rest
      ∙ sym (ap (λ (bs : List BodyPlace). there bs ++ others bs) around) in
      so_far end
      (adds_same a end (there (map body_view after) ++ others (map body_view after))
      (locals_of known (placed (map body_view before) (marks_view (drop i marks)))) (sym split)
      (adds_then a b end (there (map body_view after)) (others (map body_view after))
      (adds_same a b (there (map body_view slice)) (there (map body_view after))
      (ap (λ (bs : List KeptBody). there (map body_view bs)) seen) adds) others_added))

  pub more_noted : (n : ℕ) (a b : Entries) (whole : Option SeenLocal)
      → NotesMark known (map body_view slice) (mark_view m) a b
      → option_map (noted_all known n (placed (map body_view before) (marks_view (drop i marks)))) (entry_in a n) ≡ whole
      → option_map (noted_all known n (placed (map body_view after) (marks_view (drop (i + 1) marks)))) (entry_in b n)
      ≡ whole
  more_noted n a b whole notes so_far =
      let rest : List Mark = marks_view (drop (i + 1) marks) in
      let one : List BodyPlace → SeenLocal → SeenLocal = λ bs. noted known n bs (mark_view m) in
      let others : List BodyPlace → SeenLocal → SeenLocal = λ bs. noted_all known n (placed bs rest) in
      let split
      : (e : SeenLocal) → noted_all known n (placed (map body_view before) (marks_view (drop i marks))) e
      ≡ others (map body_view after) (one (map body_view after) e) =
      λ e.
      ap (λ (ms : List KeptMark). noted_all known n (placed (map body_view before) (marks_view ms)) e)
      (drop_item marks i m within is)
      ∙ noted_all-mark known (map body_view before) n (mark_view m) rest e
      ∙ sym (ap (λ (bs : List BodyPlace). others bs (one bs e)) around) in
      let noted_there : entry_in b n ≡ option_map (one (map body_view after)) (entry_in a n) =
      notes n ∙ ap (λ (bs : List KeptBody). option_map (one (map body_view bs)) (entry_in a n)) seen in
      ap (option_map (others (map body_view after))) noted_there
      ∙ twice (one (map body_view after)) (others (map body_view after))
      (noted_all known n (placed (map body_view before) (marks_view (drop i marks)))) split (entry_in a n)
      ∙ so_far

-- before the first mark there is no local
pub adds_from_none : (none : Locals) (known : Known) (marks : List KeptMark) (bs : List BodyPlace) → bs ≡ [] → HasNoLocals none
    → (end : Locals) → AddsLocals none end (locals_of known (placed bs (marks_view marks)))
    → HasLocals end (locals_of known (placed [] (marks_view marks)))
adds_from_none none known marks bs outside is_none end adds =
    has_added none end (locals_of known (placed [] (marks_view marks))) is_none
    (adds_same none end (locals_of known (placed bs (marks_view marks))) (locals_of known (placed [] (marks_view marks)))
    (ap (λ os. locals_of known (placed os (marks_view marks))) outside) adds)

mapped : (o : Option SeenLocal) → option_map (λ e. e) o ≡ o
mapped None = refl
mapped (Some e) = refl

-- after the last mark
module _ (known : Known) (marks : List KeptMark) (i : ℕ) (past : length marks ≤ i) (bs : List BodyPlace) where
  pub all_locals : (a : Locals) (Whole : Locals → Type 0)
      → ((end : Locals) → AddsLocals a end (locals_of known (placed bs (marks_view (drop i marks)))) → Whole end)
      → Whole a
  unfolding placed locals_of
  all_locals a Whole so_far =
      so_far a
      (adds_same a a [] (locals_of known (placed bs (marks_view (drop i marks))))
      (sym (at_drop_all (λ (ms : List KeptMark). locals_of known (placed bs (marks_view ms))) marks i past)) (adds_nothing a))

  pub all_noted_there : (n : ℕ) (a : Entries) (whole : Option SeenLocal)
      → option_map (noted_all known n (placed bs (marks_view (drop i marks)))) (entry_in a n) ≡ whole
      → entry_in a n ≡ whole
  unfolding placed
  all_noted_there n a whole so_far =
      sym
      (at_drop_all (λ (ms : List KeptMark). option_map (noted_all known n (placed bs (marks_view ms))) (entry_in a n))
      marks i past
      ∙ mapped (entry_in a n))
      ∙ so_far
