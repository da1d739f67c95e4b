use Rattle.std.proofs.Common.{◌≡◌, length, refl, arith}
use Rattle.std.proofs.lemmas.Option.{slice_get_read}
use Rattle.calls_flags.proofs.KeptFiles.{none_made, one_made, as_many_made, each_made}
use Rattle.calls_flags.specs.FilesBodies.{HasBodies}
use Rattle.calls_flags.proofs.file_bodies.bodies_of_files.Goals as goal

pub loop-number-init : goal.loop-number-init
loop-number-init c = none_made HasBodies c.args.files.now c.new-made.result.items c.new-made.ensures.items

pub loop-number-preserved : goal.loop-number-preserved
loop-number-preserved c =
    one_made HasBodies c.args.files.now c.loop-number.number c.loop-number.made.items c.push.new.self.items
    c.index-files-number.result c.in_ok-bodies_of_file.field-0
    (slice_get_read c.args.files.now (length c.args.files.now) c.loop-number.number c.index-files-number.result refl
    c.loop-number-test.true c.index-files-number.is)
    c.in_ok-push.ensures.items c.in_ok-bodies_of_file.ensures c.loop-number.invariant

pub returns : goal.returns
returns c = λ seens told.
    let size : length c.args.files.now ≡ c.loop-number.number =
    omega (arith, c.loop-number.auto.number-end, c.loop-number-test.false) in
    record {
      are_as_many = as_many_made HasBodies c.args.files.now c.loop-number.number c.loop-number.made.items size
          c.loop-number.invariant seens told;
      each = each_made HasBodies c.args.files.now c.loop-number.number c.loop-number.made.items size c.loop-number.invariant
          seens told;
    }
