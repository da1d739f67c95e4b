-- The names of methods are those that the marks of files tell.
use Rattle.std.proofs.Common.{◌≡◌, ℕ, Bool, true, false, List, [], ◌∷◌, ◌++◌, map, refl, sym, ap, ◌∙◌}
use Rattle.std.specs.Prelude.{if◌then◌else◌, flat_map}
use Rattle.meaning.specs.FunctionFacts.{listed}
use Rattle.meaning.specs.Mentions.{BodyPlace, calls_field, writes_field, hands_over, hands_literal, renews, imports_all, Mark, mentions, of_fields, runs_literal, returns, opens, closes}
use Rattle.meaning.specs.Uses.{Seen, is_outside}
use Rattle.meaning.specs.Kept.{role_fields, is_key}
use Rattle.meaning.specs.KeepingFields.{holds_after, may_keep}
use Rattle.meaning_reports.specs.MethodNames.{method_named, methods_there, methods_in}
use Rattle.keeping.specs.Notes.{element_notes, notes_there, notes_in}
use Rattle.noted_fields.specs.NotedFields.{Note, is_filled, is_method, method_name, methods_by}
use Rattle.keeping.proofs.KeptFields.{flat_flat}
use Rattle.keeping.proofs.NamelessNotes.{elements_none, given_none, items_none, written_none, called_none}

names_back : (ms : List (List ℕ)) → ms ≡ methods_by (map is_method ms)
names_back [] = refl
names_back (m ∷ ms) = ap (λ l. m ∷ l) (names_back ms)

module _ (seen : Seen) (bodies : List BodyPlace) where
  key_names : (b : Bool) (name : List ℕ) (notes : List Note) → methods_by notes ≡ []
      → methods_by ((if b then is_filled name ∷ [] else []) ++ notes) ≡ []
  key_names true name notes none = none
  key_names false name notes none = none

  mark_names : (mark : Mark) → methods_there mark ≡ methods_by (notes_there seen bodies mark)
  mark_names (mentions m) = sym
      (key_names (is_key m.role) m.named.name (flat_map (element_notes seen bodies) (role_fields m.role))
      (elements_none method_name (λ f. refl) (λ f. refl) (λ f. refl) seen bodies (role_fields m.role)))
  mark_names (of_fields site (calls_field g)) =
      called_none method_name (λ f. refl) (λ f. refl) (λ f. refl) seen bodies g (is_outside bodies)
  mark_names (of_fields site (writes_field l by)) =
      written_none method_name (λ f. refl) (λ f. refl) (λ f. refl) seen bodies l (holds_after seen bodies by)
      (may_keep seen bodies by)
  mark_names (of_fields site (hands_over taker e)) =
      sym (given_none method_name (λ f. refl) (λ f. refl) (λ f. refl) seen bodies e)
  mark_names (of_fields site (hands_literal taker at)) = refl
  mark_names (of_fields site (renews n)) = refl
  mark_names (of_fields site imports_all) = refl
  mark_names (runs_literal moment site at) = refl
  mark_names (returns at es) =
      sym (items_none method_name (λ f. refl) (λ f. refl) (λ f. refl) seen bodies (listed es))
  mark_names (opens b) = names_back (method_named b.name b.receiver)
  mark_names closes = refl

file_names : (seen : Seen) → methods_in seen ≡ methods_by (notes_in seen)
file_names seen =
    (λ i. flat_map (λ p. mark_names seen p.bodies p.mark i) seen.marks)
    ∙ sym (flat_flat method_name (λ p. notes_there seen p.bodies p.mark) seen.marks)

pub all_methods : (seens : List Seen) → flat_map methods_in seens ≡ methods_by (flat_map notes_in seens)
all_methods seens =
    (λ i. flat_map (λ seen. file_names seen i) seens) ∙ sym (flat_flat method_name notes_in seens)
