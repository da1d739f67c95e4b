use Rattle.std.proofs.Common.{◌+◌, [], refl, drop, get_or}
use Rattle.std.proofs.lemmas.List.{drop_all, drop_more}
use Rattle.std.specs.Prelude.{slice_get}
use Rattle.all_packages.proofs.JudgedImports.{one_more, all_known}
use Rattle.explanations.proofs.known.known_imports.Goals as goal

pub loop-place-init : goal.loop-place-init
loop-place-init c = record { js = []; complete = refl; knows = c.new-known.ensures }

pub loop-place-preserved : goal.loop-place-preserved
loop-place-preserved c =
    let places = c.args.places.now in
    let at = c.loop-place.place-index in
    one_more (slice_get c.args.judged.now) places (get_or places at 0) (drop (at + 1) places) (drop at places)
    c.loop-place.known c.add_import.new.known (drop_more places at 0 c.loop-place-test.true) c.in_ok-add_import.ensures
    c.loop-place.invariant

pub returns : goal.returns
returns c =
    let places = c.args.places.now in
    let at = c.loop-place.place-index in
    let slot = slice_get c.args.judged.now in
    c.in_ok-add_outside.ensures _
    (all_known slot places (drop at places) c.loop-place.known (drop_all at places c.loop-place-test.false)
    c.loop-place.invariant)
