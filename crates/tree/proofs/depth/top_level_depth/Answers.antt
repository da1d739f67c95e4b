use Rattle.std.proofs.Common.{ap, ◌∙◌}
use Rattle.tree.specs.Depth.{declaration_depth}
use Rattle.tree.proofs.Depths.{at_specs}
use Rattle.tree.proofs.depth.top_level_depth.Goals as goal

pub returns-in-Decl : goal.returns-in-Decl
unfolding declaration_depth
returns-in-Decl c = rw c.in-Decl.is (c.specs_depth.ensures ∙ ap at_specs c.deref.ensures.value)
