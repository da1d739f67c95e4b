-- What the trait asks of solutions.
use Rattle.std.specs.Prelude.{ℕ, ◌≡◌, Bool, true, Option, Some, None, Contains}
use Rattle.std.proofs.Common.{refl, sym, true≢false}
use Rattle.meaning.specs.Classes.{pending}
use Rattle.bodies.specs.Flags.{is_marked_flag}
use Rattle.bodies.specs.Solutions.{found_in, cancel_arrives}
use Rattle.bodies.specs.declared.solution.Solution.{Solution}
use Rattle.bodies.specs.Bits.{cancel_bit}
use Rattle.bodies.specs.PendingGroups.{pending_among}

-- What is pending somewhere is pending in one of the groups

marked_flag : (has : ℕ → Bool) (o : Option ℕ) → is_marked_flag has o ≡ true → (m : ℕ) × (o ≡ Some m)
marked_flag has None e = absurd (true≢false (sym e))
marked_flag has (Some m) e = (m, refl)

pub pending_in_group : (s : Solution) (place n g : ℕ)
    → cancel_arrives s place n (pending g) ≡ true
    → Contains s.groups.items g
pending_in_group s place n g e =
    let m = marked_flag (found_in s place n) (cancel_bit s.groups.items (pending g)) e in
    pending_among s.groups.items g m.0 m.1
