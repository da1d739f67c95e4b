-- Parts of a file, as the parser reads them one after the other: what stands before the declarations, and a declaration
-- with the semicolon after it.
use Rattle.std.specs.Prelude.{ℕ, List, Some}
use Rattle.tree.specs.Syntax.{Identifier, ImportDeclaration, TopLevelDeclaration}
use Rattle.lexer.specs.declared.token.TokenKind.TheVariants.{PackageKeyword}
use Rattle.meaning.specs.Cursor.{Cursor, GoText}
use Rattle.tree_reader.specs.Reader.{read_imports, read_top_level}
use Rattle.tree_reader.specs.Reading.{Read, ◌>>=◌, take, steps, take_semicolon, read_identifier}

unfoldable pub read_declared : GoText → Cursor → Read TopLevelDeclaration
read_declared text place = do
  first ← read_top_level text place
  end ← take_semicolon first.1
  Some (first.0, end)

unfoldable pub read_front : GoText → Cursor → Read (Identifier × List ImportDeclaration)
read_front text place = do
  word ← take PackageKeyword place
  n ← read_identifier text word
  end ← take_semicolon n.1
  imports ← read_imports text (steps end) end
  Some ((n.0, imports.0), imports.1)
