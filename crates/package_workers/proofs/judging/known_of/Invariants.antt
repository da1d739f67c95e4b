use Rattle.std.proofs.Common.{map, take}
use Rattle.one_package.specs.Results.{KnowsJudged}
use Rattle.package_workers.specs.Results.{judged_of}
use Rattle.package_workers.proofs.KnownResults.{AreTold}
use Rattle.package_workers.proofs.judging.known_of.Given as goal

-- those before are known, and are told so
abbrev pub invariant-loop-one : goal.invariant-loop-one
invariant-loop-one g l =
    let before = take l.one-index l.imported in
    KnowsJudged (map judged_of before) l.known × AreTold g.B.Naming.told before
