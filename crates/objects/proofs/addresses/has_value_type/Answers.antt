use Rattle.std.proofs.Common.{sym, ◌∙◌}
use Rattle.tree.specs.View.{expression_syntax, expressions_syntax}
use Rattle.objects.proofs.Literals.{starred_row, unstarred_row}
use Rattle.objects.proofs.addresses.has_value_type.Goals as goal

pub returns-then-is_star : goal.returns-then-is_star
returns-then-is_star c =
    starred_row (expression_syntax c.args.kind.now) (sym c.if-is_star.true ∙ c.is_star.ensures) (expressions_syntax c.args.values.now)

pub returns : goal.returns
returns c = λ names.
    c.is_empty.ensures
    ∙ unstarred_row (expression_syntax c.args.kind.now) (sym c.if-is_star.false ∙ c.is_star.ensures) c.args.values.now names
