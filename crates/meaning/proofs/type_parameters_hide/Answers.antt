use Rattle.meaning.proofs.NameExamples.{type_parameters_hide}
use Rattle.meaning.proofs.type_parameters_hide.Goals as goal

pub returns : goal.returns
returns c = type_parameters_hide
