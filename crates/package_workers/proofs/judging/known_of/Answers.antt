use Rattle.std.proofs.Common.{arith, map, subst}
use Rattle.std.proofs.lemmas.List.{take_all}
use Rattle.meaning.proofs.Membership.{contains_nil}
use Rattle.one_package.specs.Results.{KnowsJudged}
use Rattle.package_workers.specs.Results.{judged_of}
use Rattle.package_workers.proofs.KnownResults.{AreTold, knows_more, told_more}
use Rattle.package_workers.proofs.judging.known_of.Goals as goal

pub loop-one-init : goal.loop-one-init
loop-one-init g c = (c.new-known.ensures, λ k h. absurd (contains_nil k h))

pub loop-one-preserved : goal.loop-one-preserved
loop-one-preserved g c =
    let ks = c.args.imported.now in
    let at = c.loop-one.one-index in (
      knows_more ks at c.one-item.result (omega arith) c.one-item.is c.loop-one.known c.add.new.self c.judged.result.now
          c.judged.ensures.is c.in_ok-add.ensures c.loop-one.invariant.0,
      told_more ks at c.one-item.result (omega arith) c.one-item.is g.B.Naming.told c.loop-one.invariant.1 c.judged.ensures.right,
    )

pub returns-clause-known : goal.returns-clause-known
returns-clause-known g c =
    let ks = c.args.imported.now in
    c.in_ok-add_outside.ensures (map judged_of ks)
    (subst (λ those. KnowsJudged (map judged_of those) c.loop-one.known)
    (take_all c.loop-one.one-index ks c.loop-one-test.false) c.loop-one.invariant.0)

pub returns-clause-right : goal.returns-clause-right
returns-clause-right g c =
    subst (AreTold g.B.Naming.told) (take_all c.loop-one.one-index c.args.imported.now c.loop-one-test.false)
    c.loop-one.invariant.1
