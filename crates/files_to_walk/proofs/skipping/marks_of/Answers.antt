use Rattle.std.proofs.Common.{length, map, refl}
use Rattle.std.proofs.lemmas.Option.{slice_get_read}
use Rattle.tree.specs.View.{file_syntax}
use Rattle.files_to_walk.specs.Signs.{may_give}
use Rattle.files_to_walk.proofs.SkippedFiles.{no_mark, one_mark, tree_at}
use Rattle.files_to_walk.proofs.skipping.marks_of.Goals as goal

pub loop-number-init : goal.loop-number-init
loop-number-init c =
    no_mark (may_give c.args.known.now) (map file_syntax c.args.trees.now) c.args.sources.now c.new-marks.result.items
    c.new-marks.ensures.items

pub loop-number-preserved : goal.loop-number-preserved
loop-number-preserved c =
    let trees = c.args.trees.now in
    let number = c.loop-number.number in
    one_mark (may_give c.args.known.now) (map file_syntax trees) c.args.sources.now number c.loop-number.marks.items
    c.push.new.self.items c.in_ok-must_walk.field-0 (file_syntax c.index-trees-number.result) c.in_ok-push.ensures.items
    (tree_at trees number c.index-trees-number.result
    (slice_get_read trees (length trees) number c.index-trees-number.result refl c.loop-number-test.true
    c.index-trees-number.is))
    c.in_ok-must_walk.ensures c.loop-number.invariant

pub returns : goal.returns
returns c = c.loop-number.invariant.are_quiet
