use Rattle.std.proofs.Common.{ap}
use Rattle.scopes.proofs.ReceiverNames.{identifier_at}
use Rattle.scopes.proofs.declared.bare.Goals as goal

pub returns : goal.returns
returns c = ap (identifier_at c.args.name.now.span) c.as_str.ensures
