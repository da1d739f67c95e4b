use Rattle.std.proofs.Common.{◌≡◌, drop}
use Rattle.meaning.specs.WellFormed.{are_types}
use Rattle.tree.specs.View.{expressions_syntax}
use Rattle.parser_base.proofs.shapes.+types.Given as goal

-- what is left is written as types where all of them are
abbrev pub invariant-are_types-loop-expression : goal.invariant-are_types-loop-expression
invariant-are_types-loop-expression l =
    are_types (expressions_syntax (drop l.expression-index l.expressions)) ≡ are_types (expressions_syntax l.expressions)
