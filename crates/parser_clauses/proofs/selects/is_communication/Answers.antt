use Rattle.std.proofs.Common.{◌∙◌}
use Rattle.parser_clauses.proofs.Communications.{waits-Expr, waits-Send, waits-Assign, waits-Define, waits-other}
use Rattle.parser_clauses.proofs.selects.is_communication.Goals as goal

pub returns-in-Expr : goal.returns-in-Expr
returns-in-Expr c = waits-Expr _ _ c.in-Expr.is

pub returns-in-Send : goal.returns-in-Send
returns-in-Send c = waits-Send _ _ _ c.in-Send.is

pub returns-in-Assign : goal.returns-in-Assign
returns-in-Assign c = waits-Assign _ _ c.in-Assign.right _ c.in-Assign.is (c.len.ensures ∙ c.in-Assign.right.ok.0)

pub returns-in-Define : goal.returns-in-Define
returns-in-Define c = waits-Define _ _ c.in-Define.right _ c.in-Define.is (c.len-in-Define.ensures ∙ c.in-Define.right.ok.0)

pub returns-in_default : goal.returns-in_default
returns-in_default c =
    waits-other _ c.in_default.not-Expr c.in_default.not-Send c.in_default.not-Assign c.in_default.not-Define
