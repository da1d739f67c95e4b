use Rattle.std.proofs.Common.{◌∙◌, length, refl, arith}
use Rattle.std.proofs.lemmas.Option.{slice_get_read}
use Rattle.package_pieces.proofs.Built.{none_built, file_built, all_built}
use Rattle.package_pieces.proofs.building.by_file.Goals as goal

pub loop-file-init : goal.loop-file-init
loop-file-init c = none_built c.args.files.now c.new-made.result.items c.args.bodies.items _ c.new-made.ensures.items c.into_iter-left.ensures.rest

pub loop-file-preserved : goal.loop-file-preserved
loop-file-preserved c = λ built.
    file_built c.args.files.now c.loop-file.file-index c.file-item.result c.loop-file.made.items c.push.new.self.items
    c.in_ok-with_credits.field-0 c.in_ok-own.own.items _ _
    (slice_get_read c.args.files.now (length c.args.files.now) c.loop-file.file-index c.file-item.result refl
    c.loop-file-test.true c.file-item.is)
    c.in_ok-own.ensures.sum (c.in_ok-own.ensures.size ∙ c.opened_count.ensures) c.in_ok-push.ensures.items
    (c.in_ok-with_credits.ensures c.loop-file.file-index) (c.loop-file.invariant built)

pub returns : goal.returns
returns c = λ built.
    all_built c.args.files.now c.loop-file.file-index c.loop-file.made.items _
    (omega (arith, c.loop-file.auto.file-index-end, c.loop-file-test.false)) (c.loop-file.invariant built)
