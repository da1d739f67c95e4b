use Rattle.std.proofs.Common.{sym, ◌∙◌, ap}
use Rattle.lexer.specs.declared.token.TokenKind.TheVariants.{Semicolon}
use Rattle.tree_reader.specs.Reading.{skip_semicolons}
use Rattle.parser_base.proofs.Places.{shorter, skip-semicolon, skip-done}
use Rattle.parser_base.proofs.cursor.SourceTokens.skip_semicolons.Goals as goal

pub loop-self-smaller : goal.loop-self-smaller
loop-self-smaller c = shorter Semicolon _ _ (sym c.stands.ensures ∙ c.loop-self-test.true) c.behind_semicolon-after.ensures

pub loop-self-preserved : goal.loop-self-preserved
loop-self-preserved c =
    ap skip_semicolons c.behind_semicolon-after.ensures ∙ (sym (skip-semicolon _ (sym c.stands.ensures ∙ c.loop-self-test.true)) ∙ c.loop-self.invariant)

pub returns : goal.returns
returns c = sym (skip-done _ (sym c.stands.ensures ∙ c.loop-self-test.false)) ∙ c.loop-self.invariant
