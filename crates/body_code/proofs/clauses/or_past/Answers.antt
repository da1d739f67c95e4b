use Rattle.std.proofs.Common.{◌∙◌}
use Rattle.meaning.specs.Code.{skip, either}
use Rattle.meaning.specs.StatementCode.{or_past}
use Rattle.tree.specs.View.{cases_syntax}
use Rattle.code.proofs.Codes.{code_view-Skip, same_code}
use Rattle.body_code.proofs.CaseLists.{none_passed, may_pass}
use Rattle.body_code.proofs.clauses.or_past.Goals as goal

pub returns-then-is_empty : goal.returns-then-is_empty
returns-then-is_empty g c = λ a made. code_view-Skip ∙ none_passed c.args.clauses.now a c.if-is_empty.ensures

pub returns : goal.returns
returns g c = λ a made.
    same_code c.either.result (either a skip) (or_past (cases_syntax c.args.clauses.now) a)
    (may_pass c.args.clauses.now a c.if-is_empty.ensures c.if-has_default.ensures)
    (c.either.ensures a skip made code_view-Skip)
