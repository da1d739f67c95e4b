use Rattle.parser_base.specs.Places.{parts_of, go_text}
use Rattle.parser_base.proofs.Faults.{is_stopped}
use Rattle.parser_clauses.proofs.SimpleParts.{no_expression_statement, expression_statement}
use Rattle.parser_clauses.proofs.simple.only_expression.Goals as goal

pub returns-in-Expr : goal.returns-in-Expr
returns-in-Expr c = expression_statement (go_text c.args.source) (parts_of c.args.source) c.args.source.below _ c.in-Expr.only c.in-Expr.is

pub returns-in_default : goal.returns-in_default
returns-in_default c = is_stopped c.unexpected.result _ (no_expression_statement (go_text c.args.source) (parts_of c.args.source) c.args.source.below _ c.in_default.not-Expr)
