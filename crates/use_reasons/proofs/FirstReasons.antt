-- Tables of reasons of which the first one of a number counts: what is added to them, and what a loop over the marks
-- of a file puts there.
use Rattle.std.proofs.Common.{◌≡◌, ℕ, ◌+◌, ◌<◌, ◌≤◌, List, [], ◌∷◌, ◌++◌, length, get_or, drop, map, Option, None, refl, sym, ap, ◌∙◌, append_assoc}
use Rattle.std.proofs.lemmas.List.{at_drop_all, append-nil, map-append}
use Rattle.tree.proofs.Depths.{drop_item, drop_past}
use Rattle.tree.specs.declared.expression.Param.{Param}
use Rattle.tree.specs.declared.expression.Param.TheVariants.{Named', Unnamed', NameAlone}
use Rattle.tree.specs.Syntax.{Parameters, no_parameter}
use Rattle.tree.specs.View.{parameter_and}
use Rattle.meaning.specs.Mentions.{BodyPlace, Mark, mentions, of_fields, runs_literal, returns, opens, closes}
use Rattle.meaning.specs.OuterBlocks.{or_else}
use Rattle.meaning.specs.Scopes.{parameters_named}
use Rattle.meaning.specs.Tracked.{placed}
use Rattle.mentions.specs.declared.mark.BodyPlace.{BodyPlace as KeptBody}
use Rattle.mentions.specs.declared.mark.Mark.{Mark as KeptMark}
use Rattle.mentions.specs.MarkViews.{body_view, mark_view, marks_view}
use Rattle.names.proofs.Adding.{or_else-assoc, or_else-none}
use Rattle.tracked.specs.LocalViews.{bodies_at}
use Rattle.use_reasons.specs.UseReasons.{UseReason, result_named, first_by}

-- nothing is added
pub adds_none : (table f : ℕ → Option UseReason) → ((n : ℕ) → None ≡ f n) → (n : ℕ) → table n ≡ or_else (table n) (f n)
adds_none table f none n = sym (or_else-none (table n)) ∙ ap (or_else (table n)) (none n)

-- Results with names

pub results_more : (n : ℕ) (p : Param) (ps : Parameters)
    → result_named n (parameters_named (parameter_and p ps))
    ≡ or_else (result_named n (parameters_named (parameter_and p no_parameter))) (result_named n (parameters_named ps))
unfolding parameter_and
results_more n (Named' name ellipsis t span) ps =
    ap (λ o. or_else o (result_named n (parameters_named ps))) (sym (or_else-none _))
results_more n (Unnamed' ellipsis t span) ps = refl
results_more n (NameAlone name) ps =
    ap (λ o. or_else o (result_named n (parameters_named ps))) (sym (or_else-none _))

-- Marks in their order

module _ (f : List BodyPlace → Mark → Option UseReason) (none : (bs : List BodyPlace) → f bs closes ≡ None) where
  split : (bs : List BodyPlace) (m : Mark) (ms : List Mark)
      → first_by f (placed bs (m ∷ ms)) ≡ or_else (f (bodies_at bs m) m) (first_by f (placed (bodies_at bs m) ms))
  unfolding placed
  split bs (mentions m) ms = refl
  split bs (of_fields site m) ms = refl
  split bs (runs_literal moment site at) ms = refl
  split bs (returns at es) ms = refl
  split bs (opens b) ms = refl
  split bs closes ms =
      sym (ap (λ o. or_else o (first_by f (placed (bodies_at bs closes) ms))) (none (bodies_at bs closes)))

  -- one more mark
  pub next_mark : (marks : List KeptMark) (i : ℕ) (m : KeptMark) → i < length marks → m ≡ get_or marks i m
      → (before after slice : List KeptBody) → map body_view after ≡ bodies_at (map body_view before) (mark_view m)
      → slice ≡ after → (old new whole : Option UseReason) → new ≡ or_else old (f (map body_view slice) (mark_view m))
      → or_else old (first_by f (placed (map body_view before) (marks_view (drop i marks)))) ≡ whole
      → or_else new (first_by f (placed (map body_view after) (marks_view (drop (i + 1) marks)))) ≡ whole
  next_mark marks i m within is before after slice around same old new whole added so_far =
      let rest : List BodyPlace → Option UseReason = λ bs. first_by f (placed bs (marks_view (drop (i + 1) marks))) in
      ap (λ o. or_else o (rest (map body_view after)))
      (added ∙ ap (λ (bs : List KeptBody). or_else old (f (map body_view bs) (mark_view m))) same)
      ∙ or_else-assoc old (f (map body_view after) (mark_view m)) (rest (map body_view after))
      ∙ ap (or_else old)
      (ap (λ (bs : List BodyPlace). or_else (f bs (mark_view m)) (rest bs)) around
      ∙ sym (split (map body_view before) (mark_view m) (marks_view (drop (i + 1) marks)))
      ∙ sym (ap (λ (ms : List KeptMark). first_by f (placed (map body_view before) (marks_view ms)))
      (drop_item marks i m within is)))
      ∙ so_far

  -- after the last one
  pub last_mark : (marks : List KeptMark) (i : ℕ) → length marks ≤ i → (bs : List BodyPlace) (found whole : Option UseReason)
      → or_else found (first_by f (placed bs (marks_view (drop i marks)))) ≡ whole → found ≡ whole
  unfolding placed
  last_mark marks i past bs found whole so_far =
      sym
      (at_drop_all (λ (ms : List KeptMark). or_else found (first_by f (placed bs (marks_view ms)))) marks i past
      ∙ or_else-none found)
      ∙ so_far

-- Answers one after the other

module _ {X Y Z : Type 0} (view : Y → Z) (f : X → Z) where
  pub next_answer : (xs : List X) (i : ℕ) (x : X) → i < length xs → x ≡ get_or xs i x
      → (before after : List Y) (y : Y) → after ≡ before ++ y ∷ [] → view y ≡ f x
      → map view before ++ map f (drop i xs) ≡ map f xs
      → map view after ++ map f (drop (i + 1) xs) ≡ map f xs
  next_answer xs i x within is before after y pushed answers so_far =
      let rest : List Z = map f (drop (i + 1) xs) in
      ap (λ l. map view l ++ rest) pushed
      ∙ ap (λ l. l ++ rest) (map-append view before (y ∷ []) ∙ ap (λ z. map view before ++ z ∷ []) answers)
      ∙ append_assoc (map view before) (f x ∷ []) rest
      ∙ sym (ap (λ l. map view before ++ map f l) (drop_item xs i x within is))
      ∙ so_far

  pub last_answer : (xs : List X) (i : ℕ) → length xs ≤ i → (ys : List Y)
      → map view ys ++ map f (drop i xs) ≡ map f xs → map view ys ≡ map f xs
  last_answer xs i past ys so_far =
      sym (ap (λ l. map view ys ++ map f l) (drop_past xs i past) ∙ append-nil (map view ys)) ∙ so_far
