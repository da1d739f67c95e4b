use Rattle.std.proofs.Common.{◌≡◌, ◌-◌, ◌++◌, ap, arith}
use Rattle.package_pieces.proofs.Numbered.{next_numbers, all_numbers}
use Rattle.package_pieces.proofs.numbers.add_numbers.Goals as goal
use Rattle.package_pieces.specs.Numbers.{numbers_from}

pub loop-body-init : goal.loop-body-init
loop-body-init c =
    let none : c.args.count - 0 ≡ c.args.count = omega arith in
    ap (λ count. c.args.numbers.now.items ++ numbers_from c.args.file 0 count) none

pub loop-body-preserved : goal.loop-body-preserved
loop-body-preserved c =
    next_numbers c.args.file c.loop-body.body c.args.count _ c.loop-body.numbers.items c.push.new.self.items
    c.loop-body-test.true c.loop-body.invariant c.in_ok-push.ensures.items

pub returns : goal.returns
returns c = all_numbers c.args.file c.loop-body.body c.args.count _ _ c.loop-body-test.false c.loop-body.invariant
