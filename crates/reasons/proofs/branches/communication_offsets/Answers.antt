use Rattle.std.proofs.Common.{ap, ◌∙◌}
use Rattle.tree.proofs.Depths.{drop_item}
use Rattle.tree.specs.View.{communications_syntax}
use Rattle.tree.specs.declared.statement.CommClause.{out-CommClause}
use Rattle.reasons.proofs.AddedBranches.{offsets_next, first_communication}
use Rattle.reasons.specs.Branches.{communication_offsets}
use Rattle.reasons.proofs.branches.communication_offsets.Goals as goal

pub loop-clause-preserved : goal.loop-clause-preserved
loop-clause-preserved c =
    let i = c.loop-clause.clause-index in
    let clause = c.clause-item.result in
    let items = drop_item c.args.clauses.now i clause c.loop-clause-test.true c.clause-item.is in
    offsets_next c.loop-clause.offsets.items c.push.new.self.items (out-CommClause clause).span.start _ _ _
    c.in_ok-push.ensures.items (ap (λ l. communication_offsets (communications_syntax l)) items ∙ first_communication clause _) c.loop-clause.invariant
