-- What is known once the parameters of claims are added, one after the other.
use Rattle.std.proofs.Common.{◌≡◌, Bool, true, false, ◌||◌, refl, sym, ap, ◌∙◌}

or_false : (t : Bool) → t ≡ (t || false)
or_false true = refl
or_false false = refl

or_assoc : (t p rest : Bool) → (t || p || rest) ≡ (t || (p || rest))
or_assoc true p rest = refl
or_assoc false p rest = refl

-- what was added, or is claimed by what is left
pub claimed_next : (before after p rest all : Bool) → after ≡ (before || p) → (before || (p || rest)) ≡ all
    → (after || rest) ≡ all
claimed_next before after p rest all e h = ap (λ t. t || rest) e ∙ (or_assoc before p rest ∙ h)

pub claimed_last : (found rest all : Bool) → rest ≡ false → (found || rest) ≡ all → found ≡ all
claimed_last found rest all none h = or_false found ∙ (ap (λ t. found || t) (sym none) ∙ h)
