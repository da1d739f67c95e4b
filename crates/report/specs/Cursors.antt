-- A cursor stands at a byte of a source, or at its end, with the place of that byte.
use Rattle.std.specs.Prelude.{◌≡◌, ◌≤◌, List, length, slice_get}
use Rattle.lexer.specs.declared.source.Source.{Source}
use Rattle.lexer.specs.Place.{line_of, column_of}
use Rattle.report.specs.ReportText.{bytes_of}
use Rattle.report.specs.declared.cursors.Cursor.{Cursor}

pub record IsAt (sources : List Source) (cursor : Cursor) : Type 0 where
  pub within : cursor.offset ≤ length (bytes_of (slice_get sources cursor.file))
  pub line : cursor.place.line ≡ line_of (bytes_of (slice_get sources cursor.file)) cursor.offset
  pub column : cursor.place.column ≡ column_of (bytes_of (slice_get sources cursor.file)) cursor.offset
