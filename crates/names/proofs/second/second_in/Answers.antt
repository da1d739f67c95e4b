use Rattle.std.proofs.Common.{◌+◌, map, drop, sym, ap, ◌∙◌}
use Rattle.tree.specs.View.{top_level_syntax, function_syntax, declaration_syntax}
use Rattle.names.proofs.SecondFunctions.{has_name, walked_item, walked_function, walked_other}
use Rattle.names.proofs.second.second_in.Goals.{in-Func+in_ok-is_second+else-branch, in_default}
use Rattle.names.proofs.second.second_in.Goals as goal

pub loop-declaration-preserved : goal.loop-declaration-preserved
loop-declaration-preserved c =
    let old = has_name c.args.seen.now in
    let seen = has_name c.loop-declaration.seen in
    let new = has_name c.match-declaration.seen in
    let ds = c.args.declarations.now in
    let all = map top_level_syntax ds in
    let i = c.loop-declaration.declaration-index in
    let rest = map top_level_syntax (drop (i + 1) ds) in
    elim c.match-declaration.branch [
      | in-Func+in_ok-is_second+else-branch w ↦
          let walked = walked_item old seen ds i c.declaration-item.result _ all c.loop-declaration-test.true c.declaration-item.is
          (ap top_level_syntax w.in-Func.is) c.loop-declaration.invariant in
          walked_function old seen new (function_syntax w.in-Func.function) rest all (sym w.if-branch.false ∙ w.in_ok-is_second.ensures.second)
          (λ name. ap (λ m. has_name m name) w.seen-is ∙ w.in_ok-is_second.ensures.seen name) walked
      | in_default w ↦
          let walked = walked_item old seen ds i c.declaration-item.result _ all c.loop-declaration-test.true c.declaration-item.is
          (ap top_level_syntax w.in_default.is) c.loop-declaration.invariant in
          walked_other old seen new (declaration_syntax w.in_default.field-0) rest all (λ name. ap (λ m. has_name m name) w.seen-is) walked
    ]
