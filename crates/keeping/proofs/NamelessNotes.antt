-- What the marks of files say of fields by names that only keys, assignments and methods have: what is put, given
-- something else or called says nothing of these.
use Rattle.std.proofs.Common.{◌≡◌, ℕ, Bool, true, false, List, [], ◌∷◌, ◌++◌, Some, None, is_some, refl, sym, ap, ◌∙◌}
use Rattle.std.specs.Prelude.{if◌then◌else◌, flat_map}
use Rattle.tree.specs.Syntax.{Expression, missing_expression}
use Rattle.meaning.specs.Mentions.{BodyPlace, FieldLeft}
use Rattle.meaning.specs.Uses.{Seen}
use Rattle.meaning.specs.Kept.{Element, Gift, named_gift, element_gift, gifts, field_value}
use Rattle.keeping.specs.Notes.{one_note, element_notes, gift_notes, given_notes}
use Rattle.noted_fields.specs.NotedFields.{Note, is_called, is_put, is_spoiled}
use Rattle.keeping.proofs.KeptFields.{flat_flat, nothing}

module _ (g : Note → List (List ℕ)) (put : (f : List ℕ) → g (is_put f) ≡ [])
    (spoiled : (f : List ℕ) → g (is_spoiled f) ≡ []) (called : (f : List ℕ) → g (is_called f) ≡ [])
    (seen : Seen) (bodies : List BodyPlace) where
  one_none : (n : Note) → g n ≡ [] → flat_map g (n ∷ []) ≡ []
  one_none n e = ap (λ l. l ++ []) e

  element_none : (e : Element) → flat_map g (element_notes seen bodies e) ≡ []
  element_none e = by (is_some (field_value seen bodies e))
    where
      by : (b : Bool) → flat_map g (if b then is_put e.field ∷ [] else []) ≡ []
      by true = one_none (is_put e.field) (put e.field)
      by false = refl

  pub elements_none : (es : List Element) → flat_map g (flat_map (element_notes seen bodies) es) ≡ []
  elements_none es =
      flat_flat g (element_notes seen bodies) es
      ∙ nothing (λ e. flat_map g (element_notes seen bodies e)) element_none es

  gift_none : (gift : Gift) → flat_map g (gift_notes seen bodies gift) ≡ []
  gift_none (named_gift n) = refl
  gift_none (element_gift e) = element_none e

  pub given_none : (e : Expression) → flat_map g (given_notes seen bodies e) ≡ []
  given_none e =
      flat_flat g (gift_notes seen bodies) (gifts missing_expression e)
      ∙ nothing (λ gift. flat_map g (gift_notes seen bodies gift)) gift_none (gifts missing_expression e)

  pub items_none : (es : List Expression) → flat_map g (flat_map (given_notes seen bodies) es) ≡ []
  items_none es =
      flat_flat g (given_notes seen bodies) es ∙ nothing (λ e. flat_map g (given_notes seen bodies e)) given_none es

  pub written_none : (l : FieldLeft) (h k : Bool)
      → [] ≡ flat_map g
      (one_note (if h then Some (is_put l.field.text) else if k then None else Some (is_spoiled l.field.text)))
  written_none l true k = sym (one_none (is_put l.field.text) (put l.field.text))
  written_none l false true = refl
  written_none l false false = sym (one_none (is_spoiled l.field.text) (spoiled l.field.text))

  pub called_none : (f : List ℕ) (b : Bool) → [] ≡ flat_map g (one_note (if b then None else Some (is_called f)))
  called_none f true = refl
  called_none f false = sym (one_none (is_called f) (called f))
