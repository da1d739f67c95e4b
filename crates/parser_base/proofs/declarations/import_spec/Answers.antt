use Rattle.std.proofs.Common.{sym, ◌∙◌}
use Rattle.parser_base.specs.Places.{cursor, go_text}
use Rattle.parser_base.proofs.Imports.{dot-import}
use Rattle.parser_base.proofs.declarations.import_spec.Goals as goal

pub returns-then-not-is_second : goal.returns-then-not-is_second
returns-then-not-is_second c =
    dot-import (go_text c.args.source) (cursor c.args.source c.args.place)
    (sym c.is_second.ensures ∙ c.if-not-is_second.true) (sym c.stands.ensures ∙ c.if-stands.true)
