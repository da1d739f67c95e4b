use Rattle.std.proofs.Common.{◌-◌, ◌++◌, length, arith}
use Rattle.meaning.specs.declared.TheConstants.{MOST_GROUPS}
use Rattle.checker.specs.Certificates.{spare}
use Rattle.checker.proofs.NodeRows.{next_spare}
use Rattle.checker.proofs.laid_out.groups_with_bits.Goals as goal

pub loop-spare-preserved : goal.loop-spare-preserved
loop-spare-preserved c = (
  omega (arith, c.loop-spare.invariant.0),
  next_spare c.loop-spare.groups.items c.push.new.self.items (c.args.own.now ++ spare (MOST_GROUPS - length c.args.own.now))
      c.loop-spare.spare c.loop-spare-test.true c.in_ok-push.ensures.items c.loop-spare.invariant.1,
)
