use Rattle.std.specs.Str.Parse.{without_leading_plus}
use Rattle.command_line.proofs.VetNumbers.{none_read, number_read}
use Rattle.command_line.proofs.vet_flags.number_of.Goals as goal

pub returns-in-Ok : goal.returns-in-Ok
returns-in-Ok c =
    number_read (without_leading_plus c.args.text.now) c.parse.result c.in-Ok.number c.parse.ensures.value.0 c.in-Ok.is

pub returns-in-Err : goal.returns-in-Err
returns-in-Err c =
    none_read (without_leading_plus c.args.text.now) c.parse.result c.in-Err.field-0 c.parse.ensures.value.0 c.in-Err.is
