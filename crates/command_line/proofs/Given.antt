-- Which words are given.
use Rattle.std.proofs.Common.{◌≡◌, ◌<◌, ℕ, List, [], ◌∷◌, length, get_or, map, Any, Contains, refl, sym, ap, ◌∙◌, subst}
use Rattle.std.proofs.lemmas.List.{get_or-map, length-map}

-- one of the words has this text
pub text_of_any : {A : Type 0} (text : A → List ℕ) (words : List A) (word : List ℕ) → Any (λ given. text given ≡ word) words → Contains (map text words) word
text_of_any text words word h =
    let bound : h.0 < length (map text words) = rw (length-map words text) h.2 in
    (h.0, bound, get_or-map text words h.0 h.1 word h.2 ∙ (ap text h.3 ∙ h.4))
