use Rattle.std.proofs.Common.{ap, ◌∙◌, map}
use Rattle.tree.specs.Depth.{top_levels_depth}
use Rattle.tree.specs.View.{top_level_syntax}
use Rattle.tree.proofs.Depths.{drop_item, drop_past, and_next, at_end}
use Rattle.tree.proofs.file.File.depth.Invariants.{at_declarations}
use Rattle.tree.proofs.file.File.depth.Goals as goal

pub loop-declaration-preserved : goal.loop-declaration-preserved
loop-declaration-preserved c =
    let items = drop_item c.deref-declaration-items.result.now c.loop-declaration.declaration-index c.declaration-item.result c.loop-declaration-test.true c.declaration-item.is in
    and_next _ _ _ _ _ _ _ c.loop-declaration.invariant (ap (λ l. top_levels_depth (map top_level_syntax l)) items) c.top_level_depth.ensures c.max-depth.ensures

pub returns : goal.returns
returns c =
    let nothing = drop_past c.deref-declaration-items.result.now c.loop-declaration.declaration-index c.loop-declaration-test.false in
    at_end _ _ _ c.loop-declaration.invariant (ap (λ l. top_levels_depth (map top_level_syntax l)) nothing)
    ∙ ap at_declarations c.deref-declaration-items.ensures.value
