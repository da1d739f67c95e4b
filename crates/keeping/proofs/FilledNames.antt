-- The names that may be fields' are those of which the marks of files say so, but for those of methods.
use Rattle.std.proofs.Common.{◌≡◌, ℕ, Bool, true, false, not, List, [], ◌∷◌, ◌++◌, refl, sym, ap, ◌∙◌}
use Rattle.std.specs.Prelude.{if◌then◌else◌, flat_map}
use Rattle.std.specs.List.{filter}
use Rattle.meaning.specs.FunctionFacts.{listed}
use Rattle.meaning.specs.Mentions.{BodyPlace, calls_field, writes_field, hands_over, hands_literal, renews, imports_all, Mark, mentions, of_fields, runs_literal, returns, opens, closes}
use Rattle.meaning.specs.Uses.{Seen, is_outside}
use Rattle.meaning.specs.Kept.{role_fields, is_key}
use Rattle.meaning.specs.KeepingFields.{holds_after, may_keep, filled_there as filled_by_mark, filled_in}
use Rattle.meaning_reports.specs.MethodNames.{method_named, methods_in, has_method}
use Rattle.keeping.specs.Notes.{element_notes, notes_there, notes_in}
use Rattle.noted_fields.specs.NotedFields.{Note, is_called, is_put, is_spoiled, is_filled, is_method, is_among, filled_there, filled_by, methods_by}
use Rattle.keeping.proofs.KeptFields.{flat_flat, no_method_name}
use Rattle.keeping.proofs.NamelessNotes.{elements_none, given_none, items_none, written_none, called_none}
use Rattle.keeping.proofs.MethodNotes.{all_methods}

abbrev filled_name : Note → List (List ℕ)
filled_name (is_called f) = []
filled_name (is_put f) = []
filled_name (is_spoiled f) = []
filled_name (is_filled f) = f ∷ []
filled_name (is_method f) = []

module _ (seen : Seen) (bodies : List BodyPlace) where
  key_fills : (b : Bool) (name : List ℕ) (notes : List Note) → flat_map filled_name notes ≡ []
      → flat_map filled_name ((if b then is_filled name ∷ [] else []) ++ notes) ≡ (if b then name ∷ [] else [])
  key_fills true name notes none = ap (λ l. name ∷ l) none
  key_fills false name notes none = none

  mark_fills : (mark : Mark) → filled_by_mark mark ≡ flat_map filled_name (notes_there seen bodies mark)
  mark_fills (mentions m) = sym
      (key_fills (is_key m.role) m.named.name (flat_map (element_notes seen bodies) (role_fields m.role))
      (elements_none filled_name (λ f. refl) (λ f. refl) (λ f. refl) seen bodies (role_fields m.role)))
  mark_fills (of_fields site (calls_field g)) =
      called_none filled_name (λ f. refl) (λ f. refl) (λ f. refl) seen bodies g (is_outside bodies)
  mark_fills (of_fields site (writes_field l by)) =
      ap (λ names. l.field.text ∷ names)
      (written_none filled_name (λ f. refl) (λ f. refl) (λ f. refl) seen bodies l (holds_after seen bodies by)
      (may_keep seen bodies by))
  mark_fills (of_fields site (hands_over taker e)) =
      sym (given_none filled_name (λ f. refl) (λ f. refl) (λ f. refl) seen bodies e)
  mark_fills (of_fields site (hands_literal taker at)) = refl
  mark_fills (of_fields site (renews n)) = refl
  mark_fills (of_fields site imports_all) = refl
  mark_fills (runs_literal moment site at) = refl
  mark_fills (returns at es) =
      sym (items_none filled_name (λ f. refl) (λ f. refl) (λ f. refl) seen bodies (listed es))
  mark_fills (opens b) = sym (no_method_name filled_name (λ f. refl) (method_named b.name b.receiver))
  mark_fills closes = refl

file_fills : (seen : Seen) → filled_in seen ≡ flat_map filled_name (notes_in seen)
file_fills seen =
    (λ i. flat_map (λ p. mark_fills seen p.bodies p.mark i) seen.marks)
    ∙ sym (flat_flat filled_name (λ p. notes_there seen p.bodies p.mark) seen.marks)

all_names : (seens : List Seen) → flat_map filled_in seens ≡ flat_map filled_name (flat_map notes_in seens)
all_names seens =
    (λ i. flat_map (λ seen. file_fills seen i) seens) ∙ sym (flat_flat filled_name notes_in seens)

-- those that no method has

but_one : (f : List ℕ) (b : Bool) (rest left : List (List ℕ)) → rest ≡ left
    → (if not b then f ∷ rest else rest) ≡ (if b then [] else f ∷ []) ++ left
but_one f true rest left e = e
but_one f false rest left e = ap (λ l. f ∷ l) e

but_some : (methods : List (List ℕ)) (ns : List Note)
    → filter (λ f. not (is_among methods f)) (flat_map filled_name ns) ≡ flat_map (filled_there methods) ns
but_some methods [] = refl
but_some methods (is_called f ∷ ns) = but_some methods ns
but_some methods (is_put f ∷ ns) = but_some methods ns
but_some methods (is_spoiled f ∷ ns) = but_some methods ns
but_some methods (is_filled f ∷ ns) =
    but_one f (is_among methods f) (filter (λ f. not (is_among methods f)) (flat_map filled_name ns))
    (flat_map (filled_there methods) ns) (but_some methods ns)
but_some methods (is_method f ∷ ns) = but_some methods ns

pub all_filled : (seens : List Seen)
    → filter (λ f. not (has_method (flat_map methods_in seens) f)) (flat_map filled_in seens)
    ≡ filled_by (flat_map notes_in seens)
all_filled seens =
    (λ i. filter (λ f. not (has_method (all_methods seens i) f)) (all_names seens i))
    ∙ but_some (methods_by (flat_map notes_in seens)) (flat_map notes_in seens)
