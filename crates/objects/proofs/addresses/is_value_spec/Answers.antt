use Rattle.std.proofs.Common.{map}
use Rattle.tree.specs.View.{identifier_syntax}
use Rattle.objects.proofs.addresses.is_value_spec.Goals as goal

pub returns-in-Some : goal.returns-in-Some
returns-in-Some c =
    rw (c.in-Some.is, ← c.deref.ensures) (c.has_value_type.ensures (map identifier_syntax c.args.names.now))
