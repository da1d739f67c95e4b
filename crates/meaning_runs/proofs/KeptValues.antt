-- What an object keeps that came from a variable, as more is kept, or less.
use Rattle.std.proofs.Common.{◌≡◌, ℕ, Bool, true, false, cond, List, [], ◌∷◌, refl, sym, ap, ◌∙◌}
use Rattle.std.specs.Prelude.{◌==◌, ◌&&◌, not}
use Rattle.std.proofs.lemmas.Bool.{and_parts, and_from, eq-eqb, ne_eqb}
use Rattle.meaning_runs.specs.World.{InObject, is_in, kept_value, without_kept}
use Rattle.meaning_runs.proofs.Places.{eqb_is}

pub kept_first : (ks : List InObject) (k : InObject) (v x : ℕ) → k.variable ≡ v → k.object ≡ x
    → kept_value (k ∷ ks) v x ≡ k.value
kept_first ks k v x same_variable same_object =
    ap (λ b. cond b k.value (kept_value ks v x))
    (and_from (k.variable == v) (k.object == x) (eq-eqb k.variable v same_variable) (eq-eqb k.object x same_object))

-- what came from another variable
pub kept_other : (ks : List InObject) (k : InObject) (v x : ℕ) → (k.variable ≡ v → ⊥)
    → kept_value (k ∷ ks) v x ≡ kept_value ks v x
kept_other ks k v x ne =
    ap (λ b. cond (b && (k.object == x)) k.value (kept_value ks v x)) (ne_eqb k.variable v ne)

pub without_other : (ks : List InObject) (v x w y : ℕ) → (v ≡ w → ⊥)
    → kept_value (without_kept ks v x) w y ≡ kept_value ks w y
without_other [] v x w y ne = refl
without_other (k ∷ ks) v x w y ne = by (is_in v x k) refl (without_other ks v x w y ne)
  where
    by : (b : Bool) → is_in v x k ≡ b
        → kept_value (without_kept ks v x) w y ≡ kept_value ks w y
        → kept_value (cond (not b) (k ∷ without_kept ks v x) (without_kept ks v x)) w y ≡ kept_value (k ∷ ks) w y
    by true e rest =
        rest
        ∙ sym (kept_other ks k w y
        (λ same. ne (sym (eqb_is k.variable v (and_parts (k.variable == v) (k.object == x) e).0) ∙ same)))
    by false e rest = ap (λ z. cond (is_in w y k) k.value z) rest
