-- The tree of a text in an edition: the text's tokens spell it, all of them, and it is not too deep.
-- (The Go specification, "Source code representation" and "Source file organization".)
use Rattle.std.specs.Prelude.{◌≡◌, ℕ, ◌≤◌, List, []}
use Rattle.lexer.specs.declared.token.Token.{Token}
use Rattle.lexer.specs.Tokens.{IsTokens}
use Rattle.tree.specs.declared.edition.Edition.{Edition}
use Rattle.tree.specs.Syntax.{SourceFile}
use Rattle.tree.specs.Depth.{file_depth}
use Rattle.meaning.specs.Cursor.{Cursor, read_in}
use Rattle.meaning.specs.Grammar.{SpellsFile}
use Rattle.meaning.specs.declared.TheConstants.{MOST_DEPTH}

abbrev pub first_place : List Token → Cursor
first_place tokens = record { left = tokens; end = 0 }

pub record IsTreeOf (edition : Edition) (text : List ℕ) (file : SourceFile) : Type 0 where
  pub tokens : List Token
  pub cut : IsTokens text tokens
  pub last : Cursor
  pub spelled : SpellsFile (read_in edition text) file (first_place tokens) last
  pub none_left : last.left ≡ []
  pub shallow : file_depth file ≤ MOST_DEPTH
