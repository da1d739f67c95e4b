use Rattle.std.proofs.Common.{rules}
use Rattle.json.specs.Print.{escape_byte}
use Rattle.format_parts.proofs.strings.put_escape.Goals as goal

pub returns-then-letter-gt0-clause-taken : goal.returns-then-letter-gt0-clause-taken
unfolding escape_byte
returns-then-letter-gt0-clause-taken g c = search rules

pub returns-then-byte-lt32-clause-taken : goal.returns-then-byte-lt32-clause-taken
unfolding escape_byte
returns-then-byte-lt32-clause-taken g c = search rules

pub returns-else-byte-lt32-clause-taken : goal.returns-else-byte-lt32-clause-taken
unfolding escape_byte
returns-else-byte-lt32-clause-taken g c = search rules
