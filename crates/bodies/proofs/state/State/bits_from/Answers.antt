use Rattle.std.proofs.Common.{◌-◌, ◌/◌, ◌%◌, ◌^◌, ap, ◌∙◌, get_or, arith}
use Rattle.std.proofs.lemmas.Nat.{one_shl, and_mask}
use Rattle.std.specs.Prelude.{bit_and}
use Rattle.bodies.specs.Masks.{is_set}
use Rattle.bodies.proofs.StateBits.{bits_there}
use Rattle.bodies.proofs.state.State.bits_from.Goals as goal

pub returns : goal.returns
returns c bit =
    let word = get_or c.args.self.now.words (c.args.first / 64) 0 / 2 ^ (c.args.first % 64) in
    let small = c.requires.small in
    ap (λ x. is_set (bit_and word (x - 1)) bit) (one_shl c.args.count 64 (omega (arith, small)))
    ∙ ap (λ x. is_set x bit) (and_mask word c.args.count)
    ∙ bits_there c.args.self.now.words c.args.first c.args.count bit c.requires.in_word
