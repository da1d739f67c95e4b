use Rattle.std.proofs.Common.{Some, sym, ap, ◌∙◌, subst}
use Rattle.tree.specs.View.{expression_syntax}
use Rattle.lexer.specs.declared.token.TokenKind.TheVariants.{Identifier}
use Rattle.meaning.specs.Cursor.{is_next}
use Rattle.tree_reader.specs.Reading.{stands, behind}
use Rattle.parser_base.specs.Gives.{Gives}
use Rattle.parser_base.specs.Places.{cursor, seen, parts_of, go_text}
use Rattle.parser_expressions.specs.Alone.{ends_primary}
use Rattle.parser_expressions.proofs.Alone.{both, primary-alone, primary-literal}
use Rattle.parser_expressions.proofs.primaries.primary.Goals as goal

pub name-requires : goal.name-requires
name-requires g c =
    (both (stands Identifier (cursor c.args.source c.args.place)) (is_next (ends_primary c.args.header) (behind (cursor c.args.source c.args.place))) (sym c.is_lone_primary.ensures ∙ c.if-is_lone_primary.true)).0

pub returns-then-is_lone_primary : goal.returns-then-is_lone_primary
returns-then-is_lone_primary g c =
    subst (Gives (seen c.args.source expression_syntax) c.name.result) (primary-alone (go_text c.args.source) (parts_of c.args.source) c.args.source.below c.args.header (cursor c.args.source c.args.place) (sym c.is_lone_primary.ensures ∙ c.if-is_lone_primary.true)) c.name.ensures

pub returns-in-Some : goal.returns-in-Some
returns-in-Some g c =
    sym (primary-literal (go_text c.args.source) (parts_of c.args.source) c.args.source.below c.args.header (cursor c.args.source c.args.place) c.in-Some.kind c.in-Some.ensures) ∙ ap Some (sym c.literal.ensures)
