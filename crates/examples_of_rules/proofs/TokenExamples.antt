-- The tokens of the pieces are computed.
use Rattle.std.proofs.Common.{refl}
use Rattle.lexer.specs.Semicolons.{tokens_from}
use Rattle.examples_of_rules.specs.TokenExamples.{LinesEndStatements}

pub lines_end_statements : LinesEndStatements
unfolding tokens_from
lines_end_statements = record {
  behind_return = refl;
  not_behind_an_operator = refl;
  behind_comments = refl;
  of_nothing = refl;
}
