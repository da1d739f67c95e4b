-- Lists of length 0 are empty; so texts without one stand for no name, and those with one for some.
use Rattle.std.proofs.Common.{◌≡◌, ◌≢◌, ℕ, true, false, List, [], ◌∷◌, length, Bor, refl, sym, ap, ◌∙◌, arith}
use Rattle.std.specs.Prelude.{◌==◌}
use Rattle.std.proofs.lemmas.Bool.{false≢true}
use Rattle.std.proofs.lemmas.Bool.Decides.{Decides-eqb}
use Rattle.imports.specs.Views.{text_views}

pub no_item : {A : Type 0} (xs : List A) (len : ℕ) → length xs ≡ len → true ≡ (len == 0) → xs ≡ []
no_item [] len l e = refl
no_item (x ∷ xs) len l e = absurd (let none = (Decides-eqb len 0).0 (sym e) in omega (arith, l, none))

pub no_text : (texts : List (Bor (List ℕ))) (len : ℕ) → length texts ≡ len → true ≡ (len == 0) → text_views texts ≡ []
no_text texts len l e = ap text_views (no_item texts len l e)

pub some_text : (texts : List (Bor (List ℕ))) (len : ℕ) → length texts ≡ len → false ≡ (len == 0) → text_views texts ≢ []
some_text [] len l e same = absurd (false≢true (e ∙ (Decides-eqb len 0).1 (sym l)))
some_text (t ∷ ts) len l e same = cc
