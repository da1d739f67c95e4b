use Rattle.std.proofs.Common.{ap, ◌∙◌}
use Rattle.tree.proofs.Depths.{deeper_of, at_parameters}
use Rattle.tree.proofs.file.Func.depth.Goals as goal

pub returns : goal.returns
returns c =
    deeper_of _ _ _ _ _ c.max-2.ensures c.receiver_depth.ensures
    (deeper_of _ _ _ _ _ c.max.ensures (c.parameters_depth.ensures ∙ ap at_parameters c.deref.ensures.value)
    (deeper_of _ _ _ _ _ c.max-body.ensures c.signature_depth.ensures c.body_depth.ensures))
