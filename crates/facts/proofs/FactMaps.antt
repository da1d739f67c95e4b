-- Maps in which the first value of a name counts, seen through what their values stand for.
use Rattle.std.proofs.Common.{◌≡◌, ℕ, Bool, true, false, if◌then◌else◌, List, Option, Some, None, option_map, bytes_eq, refl, ap, ◌∙◌}
use Rattle.std.specs.Option.{option_or}
use Rattle.first_values.specs.ValuesByName.{only_at}
use Rattle.meaning.specs.OuterBlocks.{or_else}

module _ {V W : Type 0} (view : V → W) where
  seen_or : (o : Option V) (test : Bool) (value : V)
      → option_map view (option_or o (if test then Some value else None))
      ≡ or_else (option_map view o) (if test then Some (view value) else None)
  seen_or None true value = refl
  seen_or None false value = refl
  seen_or (Some a) test value = refl

  -- a name was given a value, under a text and with a value that are seen as these
  pub seen_as : (before after : List ℕ → Option V) (key : List ℕ) (value : V)
      → ((name : List ℕ) → after name ≡ option_or (before name) (only_at key value name))
      → (text : List ℕ) → key ≡ text → (seen : W) → view value ≡ seen
      → (name : List ℕ) → option_map view (after name) ≡ or_else (option_map view (before name)) (only_at text seen name)
  seen_as before after key value added text same seen is name =
      ap (option_map view) (added name)
      ∙ (seen_or (before name) (bytes_eq key name) value
      ∙ λ i. or_else (option_map view (before name)) (only_at (same i) (is i) name))
