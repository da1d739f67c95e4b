-- A reading that failed makes the whole one fail.
use Rattle.std.proofs.Common.{◌≡◌, ℕ, Option, None, subst}
use Rattle.parser_base.specs.declared.fault.Stop.{Stop}
use Rattle.parser_base.specs.declared.fault.Stop.TheVariants.{Unexpected, LeftOut, TooDeep, Memory}
use Rattle.parser_base.specs.Gives.{Stops}

pub fails_too : {A B : Type 0} (e : Stop) (a : Option A) (b : Option B) → Stops e a → (a ≡ None → b ≡ None) → Stops e b
fails_too (Unexpected at) a b h then_none = then_none h
fails_too (LeftOut form at) a b h then_none = then_none h
fails_too TooDeep a b h then_none = then_none h
fails_too Memory a b h then_none = tt

-- any fault may come where nothing is read
pub is_stopped : {A : Type 0} (e : Stop) (a : Option A) → a ≡ None → Stops e a
is_stopped (Unexpected at) a h = h
is_stopped (LeftOut form at) a h = h
is_stopped TooDeep a h = h
is_stopped Memory a h = tt

-- a fault at another place
pub stopped_too : (e f : Stop) (at : ℕ) → e ≡ Unexpected at → {A : Type 0} → (a : Option A) → Stops e a → Stops f a
stopped_too e f at is a h = is_stopped f a (subst (λ s. Stops s a) is h)
