-- What the pieces of a line stand for.
use Rattle.std.specs.Prelude.{ℕ, List, decimal}
use Rattle.report.specs.declared.pieces.TextPiece.{TextPiece}
use Rattle.report.specs.declared.pieces.TextPiece.TheVariants.{Text, Number}

abbrev pub piece_text : TextPiece → List ℕ
piece_text (Text text) = text.now
piece_text (Number number) = decimal number
