use Rattle.std.proofs.Common.{ap}
use Rattle.meaning.specs.Mentions.{type_parameters_marks}
use Rattle.tree.specs.View.{parameters_syntax}
use Rattle.marks.proofs.AddingBy.{adds_same, three_adds}
use Rattle.marks.proofs.file.function_types.Goals as goal

pub returns : goal.returns
returns c =
    three_adds _ _ _ _ _ _ _ _ c.in_ok-receiver.ensures
    (adds_same _ _ _ _ (ap (λ l. type_parameters_marks c.args.function.now.span.start (parameters_syntax l)) c.deref.ensures.value)
    c.in_ok-type_parameters.ensures)
    c.signature.ensures
