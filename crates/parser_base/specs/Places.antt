-- The place among a text's tokens that a `TokenPlace` stands for: the tokens from its index on. How the text is read
-- depends on the edition.
use Rattle.std.specs.Prelude.{drop}
use Rattle.meaning.specs.Cursor.{GoText, Cursor, read_in}
use Rattle.tree_reader.specs.Reader.{Readers, readers}
use Rattle.parser_base.specs.declared.cursor.SourceTokens.{SourceTokens}
use Rattle.parser_base.specs.declared.cursor.TokenPlace.{TokenPlace}

abbrev pub cursor : SourceTokens → TokenPlace → Cursor
cursor source place = record { left = drop place.at source.tokens.now; end = place.end }

-- what was read, seen by view, and the place after it
abbrev pub seen : {A B : Type 0} → SourceTokens → (A → B) → A × TokenPlace → B × Cursor
seen source view x = (view x.0, cursor source x.1)

-- the text as its edition reads it
abbrev pub go_text : SourceTokens → GoText
go_text source = read_in source.edition source.text.now

-- how the parts of what is read from a source are read
abbrev pub parts_of : SourceTokens → Readers
parts_of source = readers (go_text source) source.below
