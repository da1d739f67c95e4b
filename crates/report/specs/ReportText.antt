-- What a report says of a source: its name and its text. A source that is not there has the name `-` and no text.
use Rattle.std.specs.Prelude.{ℕ, List, [], Some, None, Option, string_bytes, codes}
use Rattle.lexer.specs.declared.source.Source.{Source}

abbrev pub name_of : Option Source → List ℕ
name_of None = codes "-"
name_of (Some source) = string_bytes source.name

abbrev pub bytes_of : Option Source → List ℕ
bytes_of None = []
bytes_of (Some source) = source.bytes.items
