-- What left sides stand for, found by a loop over the rows.
use Rattle.std.proofs.Common.{◌≡◌, ℕ, ◌+◌, ◌<◌, ◌≤◌, Bool, true, false, if◌then◌else◌, List, [], ◌∷◌, ◌++◌, length, get_or, drop, map, Option, Some, None, refl, sym, ap, ◌∙◌}
use Rattle.std.specs.Prelude.{◌==◌}
use Rattle.std.proofs.lemmas.List.{at_drop_all}
use Rattle.tree.proofs.Depths.{drop_item}
use Rattle.meaning.specs.OuterBlocks.{or_else}
use Rattle.meaning.specs.Tracked.{ObjectLeft}
use Rattle.meaning.specs.Objects.{ObjectRow, left_by, first_place, object_left}
use Rattle.names.proofs.Adding.{or_else-assoc, or_else-none}
use Rattle.tracked.specs.declared.object_rows.ObjectRow.{ObjectRow as KeptRow}
use Rattle.tracked.specs.LocalViews.{object_row_view}
use Rattle.tracked_rows.specs.declared.fields.PlacedLeft.{PlacedLeft}
use Rattle.tracked_rows.specs.RowViews.{object_left_view, left_among}

-- one that is added at the end
one_more : (ls : List PlacedLeft) (p : PlacedLeft) (at : ℕ)
    → left_among (ls ++ p ∷ []) at
    ≡ or_else (left_among ls at) (if p.at == at then Some (object_left_view p.left) else None)
one_more [] p at = refl
one_more (l ∷ ls) p at = by (l.at == at) (one_more ls p at)
  where
    by : (t : Bool)
        → left_among (ls ++ p ∷ []) at
        ≡ or_else (left_among ls at) (if p.at == at then Some (object_left_view p.left) else None)
        → (if t then Some (object_left_view l.left) else left_among (ls ++ p ∷ []) at)
        ≡ or_else (if t then Some (object_left_view l.left) else left_among ls at)
        (if p.at == at then Some (object_left_view p.left) else None)
    by true others = refl
    by false others = others

module _ (all : List ObjectRow) (at : ℕ) where
  first_left : (r : ObjectRow) (rs : List ObjectRow)
      → object_left all (r ∷ rs) at
      ≡ or_else (if r.field.span.start == at then Some (left_by r.kind r.object (first_place r all)) else None)
      (object_left all rs at)
  first_left r rs = by (r.field.span.start == at)
    where
      by : (t : Bool)
          → (if t then Some (left_by r.kind r.object (first_place r all)) else object_left all rs at)
          ≡ or_else (if t then Some (left_by r.kind r.object (first_place r all)) else None) (object_left all rs at)
      by true = refl
      by false = refl

  pub next_left : (rows : List KeptRow) (i : ℕ) (q : KeptRow) → i < length rows → q ≡ get_or rows i q
      → (old new : List PlacedLeft) (p : PlacedLeft) (place : ℕ) → new ≡ old ++ p ∷ [] → p.at ≡ (object_row_view q).field.span.start
      → object_left_view p.left ≡ left_by (object_row_view q).kind (object_row_view q).object place
      → place ≡ first_place (object_row_view q) all → (whole : Option ObjectLeft)
      → or_else (left_among old at) (object_left all (map object_row_view (drop i rows)) at) ≡ whole
      → or_else (left_among new at) (object_left all (map object_row_view (drop (i + 1) rows)) at) ≡ whole
  next_left rows i q within is old new p place pushed stands left first whole so_far =
      let r : ObjectRow = object_row_view q in
      let rest : List ObjectRow = map object_row_view (drop (i + 1) rows) in
      let given : ℕ → Option ObjectLeft → Option ObjectLeft = λ start l. if start == at then l else None in
      ap (λ (ls : List PlacedLeft). or_else (left_among ls at) (object_left all rest at)) pushed
      ∙ ap (λ (o : Option ObjectLeft). or_else o (object_left all rest at))
      (one_more old p at
      ∙ ap (λ (s : ℕ). or_else (left_among old at) (given s (Some (object_left_view p.left)))) stands
      ∙ ap (λ (l : ObjectLeft). or_else (left_among old at) (given r.field.span.start (Some l)))
      (left ∙ ap (left_by r.kind r.object) first))
      ∙ or_else-assoc (left_among old at) (given r.field.span.start (Some (left_by r.kind r.object (first_place r all))))
      (object_left all rest at)
      ∙ ap (or_else (left_among old at)) (sym (first_left r rest))
      ∙ sym
      (ap (λ (rs : List KeptRow). or_else (left_among old at) (object_left all (map object_row_view rs) at))
      (drop_item rows i q within is))
      ∙ so_far

  pub all_lefts : (rows : List KeptRow) (i : ℕ) → length rows ≤ i → (lefts : List PlacedLeft) (whole : Option ObjectLeft)
      → or_else (left_among lefts at) (object_left all (map object_row_view (drop i rows)) at) ≡ whole
      → left_among lefts at ≡ whole
  all_lefts rows i past lefts whole so_far =
      sym
      (at_drop_all (λ (rs : List KeptRow). or_else (left_among lefts at) (object_left all (map object_row_view rs) at)) rows i past
      ∙ or_else-none (left_among lefts at))
      ∙ so_far
