use Rattle.std.proofs.Common.{ap, ◌∙◌}
use Rattle.tree.proofs.Depths.{drop_item, drop_past}
use Rattle.tree.specs.View.{cases_syntax}
use Rattle.meaning.specs.StatementCode.{clauses_fall}
use Rattle.body_code.proofs.FallingClauses.{clauses_more, fall_next, falls_all}
use Rattle.body_code.proofs.falls.clauses_fall.Goals as goal

pub loop-clause-preserved : goal.loop-clause-preserved
loop-clause-preserved c =
    let items = drop_item c.args.clauses.now c.loop-clause.clause-index c.clause-item.result c.loop-clause-test.true c.clause-item.is in
    fall_next _ _ _ _ _ _ c.loop-clause.invariant
    (ap (λ l. clauses_fall (cases_syntax l)) items ∙ clauses_more c.clause-item.result _) c.in_ok-add_fall.ensures

pub returns : goal.returns
returns c =
    let nothing = drop_past c.args.clauses.now c.loop-clause.clause-index c.loop-clause-test.false in
    falls_all _ _ _ c.loop-clause.invariant (ap (λ l. clauses_fall (cases_syntax l)) nothing)
