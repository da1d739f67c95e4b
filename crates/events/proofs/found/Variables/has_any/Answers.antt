use Rattle.std.proofs.Common.{map, ap, ◌∙◌}
use Rattle.meaning.specs.BodyEvents.{in_their_order}
use Rattle.meaning.specs.OuterBlocks.{has_any}
use Rattle.events.specs.VariableViews.{variable_view}
use Rattle.events.proofs.VariableFaults.{some_ordered}
use Rattle.events.proofs.found.Variables.has_any.Goals as goal

pub returns : goal.returns
returns c =
    some_ordered c.at.result.now c.is_empty.result c.is_empty.ensures
    ∙ ap (λ vs. has_any (in_their_order (map variable_view vs))) c.at.ensures
