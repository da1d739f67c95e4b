use Rattle.kept.proofs.PlacesGiven.{no_names_brought}
use Rattle.kept.proofs.own.brings_names.Goals as goal

pub returns-in_default : goal.returns-in_default
returns-in_default c = no_names_brought c.args.field c.in_default.not-ImportsAll
