-- The first place of a field, by a loop that goes back through the rows; and the variables that fields are.
use Rattle.std.proofs.Common.{◌≡◌, ℕ, ◌+◌, ◌<◌, List, length, get_or, drop, map, sym, ap, ◌∙◌, arith}
use Rattle.std.proofs.lemmas.List.{at_drop_all}
use Rattle.tree.proofs.Depths.{drop_item}
use Rattle.meaning.specs.Objects.{ObjectRow, first_place}
use Rattle.tracked.specs.declared.object_rows.ObjectRow.{ObjectRow as KeptRow}
use Rattle.tracked.specs.LocalViews.{object_row_view, lesser_place}

module _ (r : ObjectRow) (rows : List KeptRow) where
  -- before the first step no row was looked at
  pub none_yet : r.field.span.start ≡ first_place r (map object_row_view (drop (length rows) rows))
  none_yet = sym (at_drop_all (λ (rs : List KeptRow). first_place r (map object_row_view rs)) rows (length rows) (omega arith))

  -- one row more, from the last one on
  pub one_back : (i : ℕ) (q : KeptRow) → i < length rows → q ≡ get_or rows i q → (place lesser : ℕ)
      → place ≡ first_place r (map object_row_view (drop (i + 1) rows))
      → lesser ≡ lesser_place r (object_row_view q) place
      → lesser ≡ first_place r (map object_row_view (drop i rows))
  one_back i q within is place lesser so_far less =
      less ∙ ap (lesser_place r (object_row_view q)) so_far
      ∙ sym (ap (λ (rs : List KeptRow). first_place r (map object_row_view rs)) (drop_item rows i q within is))
