use Rattle.std.proofs.Common.{◌≡◌, ◌*◌, ◌%◌, ◌^◌, ◌&&◌, ◌||◌, nat_eq, sym, subst, bit_or}
use Rattle.bodies.specs.Masks.{is_set}
use Rattle.certificates.proofs.SetBits.{bit_set, set_below}
use Rattle.certificates.proofs.masks.with_bit.Goals as goal

pub returns-then-is_to_be-clause-below : goal.returns-then-is_to_be-clause-below
returns-then-is_to_be-clause-below c = set_below c.args.mask c.args.bit

pub returns-then-is_to_be-clause-bits : goal.returns-then-is_to_be-clause-bits
returns-then-is_to_be-clause-bits c =
    λ other.
    subst (λ b. is_set (bit_or c.args.mask (1 * 2 ^ c.args.bit % 2 ^ 16)) other
    ≡ (is_set c.args.mask other || (nat_eq other c.args.bit && b))) (sym c.if-is_to_be.true)
    (bit_set c.args.mask c.args.bit other c.requires.within)
