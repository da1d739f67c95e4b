use Rattle.plain_tables.proofs.PlainNames.{none_is}
use Rattle.plain_tables.proofs.tables.is_none_of.Goals as goal

pub returns : goal.returns
returns g c = none_is c.is_empty.result c.args.items.now c.is_empty.ensures
