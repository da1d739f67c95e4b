use Rattle.std.proofs.Common.{sym}
use Rattle.std.proofs.lemmas.Result.{err_from_is_err_and}
use Rattle.parser_base.proofs.Faults.{is_stopped}
use Rattle.parser_clauses.proofs.TypeGuards.{guard-Expr, guard-named, guard-unnamed, guard-stops, guard-other}
use Rattle.parser_clauses.proofs.switches.type_guard.Goals as goal

pub returns-in_err-operand-in-Define : goal.returns-in_err-operand-in-Define
returns-in_err-operand-in-Define c =
    let p = err_from_is_err_and c.from_residual.result c.from_residual.ensures.1 in
    rw (p.1, p.2) (guard-stops _ c.in-Define.names c.in-Define.values c.in-Define.is c.in_err-operand-in-Define.field-0.0 c.in_err-operand-in-Define.ensures)

pub returns-in-Expr : goal.returns-in-Expr
returns-in-Expr c = rw (guard-Expr _ c.in-Expr.operand c.in-Expr.is) c.primary_guard.ensures

pub returns-in-Some : goal.returns-in-Some
returns-in-Some c =
    rw (guard-named _ c.in-Define.names c.in-Define.values c.in-Define.is c.in-Some.name _ (sym c.in-Some.ensures) c.in_ok-operand-in-Define.ensures) c.primary_guard-in-Some.ensures

pub returns-in-None : goal.returns-in-None
returns-in-None c =
    is_stopped c.unexpected.result _ (guard-unnamed _ c.in-Define.names c.in-Define.values c.in-Define.is (sym c.in-None.ensures))

pub returns-in_default : goal.returns-in_default
returns-in_default c =
    is_stopped c.unexpected-in_default.result _ (guard-other _ c.in_default.not-Expr c.in_default.not-Define)
