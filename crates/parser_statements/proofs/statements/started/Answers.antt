use Rattle.parser_base.specs.Places.{cursor, go_text}
use Rattle.parser_statements.proofs.ShallowCalls.{none-started}
use Rattle.parser_statements.proofs.statements.started.Goals as goal

pub returns-then-source-lt2 : goal.returns-then-source-lt2
returns-then-source-lt2 g c =
    none-started (go_text c.args.source) c.args.source.below c.if-source-lt2.true _ (cursor c.args.source c.args.place)
