use Rattle.std.proofs.Common.{◌≡◌, [], arith}
use Rattle.std.proofs.lemmas.List.{nil_from_length}
use Rattle.load.specs.GivenPackages.{IsReadAs}
use Rattle.load.proofs.ZippedLists.{zips_all}
use Rattle.load.proofs.packages.load_all.Goals as goal

pub returns : goal.returns
returns c =
    let left = c.loop-one.one-iterator.rest in
    let none : left.items ≡ [] = nil_from_length left.items (omega (arith, left.ok, c.in-None.ensures.steps.0)) in
    zips_all IsReadAs c.args.packages.items left.items c.loop-one.loaded.items none c.loop-one.invariant.0
