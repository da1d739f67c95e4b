use Rattle.std.proofs.Common.{◌+◌, sym, ap, ◌∙◌, subst, drop}
use Rattle.std.proofs.lemmas.List.{drop_all}
use Rattle.imports.specs.Views.{text_views}
use Rattle.tree.proofs.Depths.{drop_item}
use Rattle.unit_reports.proofs.UnitImports.{read_one, read_none, read_all}
use Rattle.unit_reports.specs.UnitParts.{AreReadSoFar}
use Rattle.unit_reports.proofs.units.read_imports.Goals as goal
use Rattle.unit_reports.proofs.units.read_imports.Goals.{then-is_named+in_ok-read_import+in_ok-push, else-is_named}

pub loop-one-preserved : goal.loop-one-preserved
loop-one-preserved c =
    let paths = text_views c.args.paths.now in
    let told = c.args.told.now in
    let at = c.loop-one.one-index in
    let one = c.one-item.result in
    let items = drop_item told at one c.loop-one-test.true c.one-item.is in
    elim c.if-is_named.branch [
      | then-is_named+in_ok-read_import+in_ok-push w ↦
          subst (AreReadSoFar paths (drop (at + 1) told) told) (sym (ap (λ v. v.items) w.read-is ∙ w.in_ok-push.ensures.items))
          (read_one paths told one (drop at told) (drop (at + 1) told) c.loop-one.read.items w.in_ok-read_import.field-0 items
          (sym c.is_named.ensures ∙ w.if-is_named.true) w.in_ok-read_import.ensures c.loop-one.invariant)
      | else-is_named w ↦
          subst (AreReadSoFar paths (drop (at + 1) told) told) (sym (ap (λ v. v.items) w.read-is))
          (read_none paths told one (drop at told) (drop (at + 1) told) c.loop-one.read.items items
          (sym c.is_named.ensures ∙ w.if-is_named.false) c.loop-one.invariant)
    ]

pub returns : goal.returns
returns c =
    let told = c.args.told.now in
    let at = c.loop-one.one-index in
    read_all (text_views c.args.paths.now) told (drop at told) c.loop-one.read.items (drop_all at told c.loop-one-test.false)
    c.loop-one.invariant
