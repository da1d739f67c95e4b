use Rattle.std.proofs.Common.{Some, sym, ap, ◌∙◌, subst}
use Rattle.tree.specs.View.{expression_syntax}
use Rattle.lexer.specs.declared.token.TokenKind.TheVariants.{Identifier}
use Rattle.meaning.specs.Cursor.{is_next}
use Rattle.tree_reader.specs.Reading.{stands, behind}
use Rattle.parser_base.specs.Gives.{Gives}
use Rattle.parser_base.specs.Places.{cursor, seen, parts_of, go_text}
use Rattle.parser_expressions.specs.Alone.{ends_expression}
use Rattle.parser_expressions.proofs.Alone.{both, expression-alone, expression-literal}
use Rattle.parser_expressions.proofs.expressions.expression_of.Goals as goal

pub name-requires : goal.name-requires
name-requires g c =
    (both (stands Identifier (cursor c.args.source c.args.place)) (is_next (ends_expression c.args.wanted.in_header) (behind (cursor c.args.source c.args.place))) (sym c.is_lone_expression.ensures ∙ c.if-is_lone_expression.true)).0

pub returns-then-is_lone_expression : goal.returns-then-is_lone_expression
returns-then-is_lone_expression g c =
    subst (Gives (seen c.args.source expression_syntax) c.name.result) (expression-alone (go_text c.args.source) (parts_of c.args.source) c.args.source.below c.args.wanted.in_header (cursor c.args.source c.args.place) c.args.wanted.least (sym c.is_lone_expression.ensures ∙ c.if-is_lone_expression.true)) c.name.ensures

pub returns-in-Some : goal.returns-in-Some
returns-in-Some g c =
    sym (expression-literal (go_text c.args.source) (parts_of c.args.source) c.args.source.below c.args.wanted.in_header (cursor c.args.source c.args.place) c.args.wanted.least c.in-Some.kind c.in-Some.ensures) ∙ ap Some (sym c.literal.ensures)
