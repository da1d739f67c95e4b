use Rattle.std.proofs.Common.{sym, ◌∙◌}
use Rattle.tree.specs.View.{function_syntax}
use Rattle.names.proofs.Adding.{adds_as}
use Rattle.names.proofs.LevelNames.{function_names}
use Rattle.names.proofs.package_block.add_function.Goals as goal

pub returns : goal.returns
returns c =
    adds_as c.args.block.now c.add_name.new.block _ _
    (function_names (function_syntax c.args.function.now) (sym c.can_be_meant.ensures ∙ c.if-not-can_be_meant.false))
    c.add_name.result c.add_name.ensures
