-- What was read of a header, seen as the reader's.
use Rattle.std.specs.Prelude.{option_map}
use Rattle.tree.specs.View.{optional_statement_syntax, statement_syntax}
use Rattle.tree_reader.specs.Reader.{Header}
use Rattle.parser_clauses.specs.declared.headers.Header.{Header as KeptHeader}

abbrev pub header_syntax : KeptHeader → Header
header_syntax h = record {
  init = optional_statement_syntax h.init;
  has_semicolon = h.has_semicolon;
  first = option_map statement_syntax h.first;
}
