-- Words that are kept one after the other.
use Rattle.std.proofs.Common.{Option, Some, None, false, true, ◌≡◌, ◌+◌, ◌<◌, ℕ, List, ◌∷◌, length, map, drop, get_or, drop-cons, add-one, refl, sym, ap, ◌∙◌}
use Rattle.command_line.specs.KeptWords.{ends_options}
use Rattle.command_line.specs.Words.{named_after, only_packages}
use Rattle.command_line.specs.declared.options.ValueOption.{ValueOption}

-- behind a word that ends options each is the word of a package
pub named_behind : (awaited : Option ValueOption) (word : List ℕ) (rest : List (List ℕ)) → ends_options awaited word ≡ true
    → named_after awaited (word ∷ rest) ≡ only_packages rest
named_behind None word rest ends = rw ends refl
named_behind (Some option) word rest ends = let bad : false ≡ true = ends in cc

module _ {A : Type 0} (text : A → List ℕ) (words : List A) (i : ℕ) (x : A) (lt : i < length words)
    (is : x ≡ get_or words i x) where
  this_word : drop i words ≡ x ∷ drop (i + 1) words
  this_word = drop-cons words i x lt ∙ (rw add-one refl ∙ ap (λ (y : A). y ∷ drop (i + 1) words) (sym is))

  -- the texts of the words that are left are this one and those of the rest
  pub texts_left : (word : List ℕ) → text x ≡ word → map text (drop i words) ≡ word ∷ map text (drop (i + 1) words)
  texts_left word same =
      ap (map text) this_word ∙ ap (λ (w : List ℕ). w ∷ map text (drop (i + 1) words)) same
