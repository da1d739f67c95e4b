use Rattle.body_parts.proofs.AddedParts.{all_alone}
use Rattle.body_parts.proofs.jumps.parts_of.Goals as goal

pub returns : goal.returns
returns c = all_alone _ _ _ c.new-parts.ensures.items c.in_ok-add_statements.ensures
