use Rattle.std.proofs.Common.{true, false, sym, ap, ◌∙◌}
use Rattle.tree.proofs.Depths.{drop_item}
use Rattle.tree.specs.View.{cases_syntax}
use Rattle.meaning.specs.StatementCode.{has_default}
use Rattle.body_code.proofs.CaseLists.{more_clauses}
use Rattle.body_code.proofs.clauses.has_default.Goals as goal

pub returns-then-is_default : goal.returns-then-is_default
returns-then-is_default c =
    let items = drop_item c.args.clauses.now c.loop-clause.clause-index c.clause-item.result c.loop-clause-test.true c.clause-item.is in
    sym (ap (λ l. has_default (cases_syntax l)) items ∙ more_clauses c.clause-item.result _ true c.if-is_default.ensures)
    ∙ c.loop-clause.invariant

pub loop-clause-preserved : goal.loop-clause-preserved
loop-clause-preserved c =
    let items = drop_item c.args.clauses.now c.loop-clause.clause-index c.clause-item.result c.loop-clause-test.true c.clause-item.is in
    sym (ap (λ l. has_default (cases_syntax l)) items ∙ more_clauses c.clause-item.result _ false c.if-is_default.ensures)
    ∙ c.loop-clause.invariant
