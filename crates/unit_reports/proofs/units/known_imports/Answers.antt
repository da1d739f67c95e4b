use Rattle.std.proofs.Common.{◌+◌, None, refl, drop}
use Rattle.std.proofs.lemmas.List.{drop_all}
use Rattle.tree.proofs.Depths.{drop_item}
use Rattle.unit_reports.proofs.UnitImports.{knows_one, knows_all}
use Rattle.unit_reports.specs.UnitParts.{told_by_read}
use Rattle.unit_reports.proofs.units.known_imports.Goals as goal

pub loop-one-init : goal.loop-one-init
loop-one-init c = record { told = λ path. None; complete = λ path. refl; knows = c.new-known.ensures }

pub loop-one-preserved : goal.loop-one-preserved
loop-one-preserved c =
    let read = c.args.read.now in
    let at = c.loop-one.one-index in
    let one = c.one-item.result in
    knows_one read one (drop at read) (drop (at + 1) read) c.loop-one.known c.add_told.new.self
    (drop_item read at one c.loop-one-test.true c.one-item.is) c.in_ok-add_told.ensures c.loop-one.invariant

pub returns : goal.returns
returns c =
    let read = c.args.read.now in
    let at = c.loop-one.one-index in
    c.in_ok-add_others.ensures (told_by_read read)
    (knows_all read (drop at read) c.loop-one.known (drop_all at read c.loop-one-test.false) c.loop-one.invariant)
