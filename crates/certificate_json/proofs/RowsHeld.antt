-- Rows of masks that are held one after the other.
use Rattle.std.proofs.Common.{◌≡◌, ◌<◌, ◌+◌, ℕ, suc, List, [], ◌∷◌, ◌++◌, drop, get_or, length, map, take, refl, sym, ap, subst, ◌∙◌}
use Rattle.std.proofs.lemmas.List.{append_assoc, append-nil, at_drop_more}
use Rattle.certificate_json.specs.Certificates.{rows_in}
use Rattle.certificate_json.specs.RowsHeld.{GoOn}

-- How many there are

pub rows_counted : (widths masks : List ℕ) → length (rows_in widths masks) ≡ length widths
rows_counted [] masks = refl
rows_counted (width ∷ widths) masks = ap suc (rows_counted widths (drop width masks))

-- One row more

take_row : (row more : List ℕ) → take (length row) (row ++ more) ≡ row
take_row [] more = refl
take_row (mask ∷ row) more = ap (λ masks. mask ∷ masks) (take_row row more)

drop_row : (row more : List ℕ) → drop (length row) (row ++ more) ≡ more
drop_row [] more = refl
drop_row (mask ∷ row) more = drop_row row more

module _ (widths masks row : List ℕ) (whole : GoOn widths masks) where
  row_then : (others more : List ℕ)
      → rows_in ((widths ++ length row ∷ []) ++ others) ((masks ++ row) ++ more)
      ≡ rows_in widths masks ++ row ∷ rows_in others more
  row_then others more =
      (λ i. rows_in (append_assoc widths (length row ∷ []) others i) (append_assoc masks row more i))
      ∙ whole (length row ∷ others) (row ++ more)
      ∙ (λ i. rows_in widths masks ++ take_row row more i ∷ rows_in others (drop_row row more i))

  row_last : rows_in (widths ++ length row ∷ []) (masks ++ row) ≡ rows_in widths masks ++ row ∷ []
  row_last =
      (λ i. rows_in (sym (append-nil (widths ++ length row ∷ [])) i) (sym (append-nil (masks ++ row)) i)) ∙ row_then [] []

  still_whole : GoOn (widths ++ length row ∷ []) (masks ++ row)
  still_whole others more =
      row_then others more
      ∙ sym (append_assoc (rows_in widths masks) (row ∷ []) (rows_in others more))
      ∙ ap (λ rows. rows ++ rows_in others more) (sym row_last)

pub row_pushed : (widths masks row then_widths then_masks given : List ℕ) (width : ℕ) → given ≡ row → width ≡ length row
    → then_widths ≡ widths ++ width ∷ []
    → then_masks ≡ masks ++ given
    → GoOn widths masks
    → GoOn then_widths then_masks × (rows_in then_widths then_masks ≡ rows_in widths masks ++ row ∷ [])
row_pushed widths masks row then_widths then_masks given width same is_width more_widths more_masks whole =
    subst (λ ws. GoOn ws then_masks × (rows_in ws then_masks ≡ rows_in widths masks ++ row ∷ []))
    (sym (more_widths ∙ ap (λ n. widths ++ n ∷ []) is_width))
    (subst (λ ms. GoOn (widths ++ length row ∷ []) ms × (rows_in (widths ++ length row ∷ []) ms ≡ rows_in widths masks ++ row ∷ []))
    (sym (more_masks ∙ ap (λ ms. masks ++ ms) same))
    (still_whole widths masks row whole, row_last widths masks row whole))

-- Lists that become rows

module _ {V : Type 0} (seen : V → List ℕ) where
  pub next_pushed : (rows then_rows all : List (List ℕ)) (lists : List V) (i : ℕ) (list : V) → i < length lists
      → list ≡ get_or lists i list
      → then_rows ≡ rows ++ seen list ∷ []
      → rows ++ map seen (drop i lists) ≡ all
      → then_rows ++ map seen (drop (i + 1) lists) ≡ all
  next_pushed rows then_rows all lists i list within is more so_far =
      ap (λ rs. rs ++ map seen (drop (i + 1) lists)) more
      ∙ append_assoc rows (seen list ∷ []) (map seen (drop (i + 1) lists))
      ∙ sym (at_drop_more (λ ls. rows ++ map seen ls) lists i list within
      ∙ ap (λ l. rows ++ seen l ∷ map seen (drop (i + 1) lists)) (sym is))
      ∙ so_far
