use Rattle.std.proofs.lemmas.Str.{IsUtf8-from_is_utf8}
use Rattle.parser_base.proofs.names.text_between.Goals as goal

pub from_utf8_unchecked-requires : goal.from_utf8_unchecked-requires
from_utf8_unchecked-requires c = rw c.bytes_between.ensures (IsUtf8-from_is_utf8 _ c.requires)
