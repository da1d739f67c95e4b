use Rattle.std.proofs.Common.{◌+◌, ap, drop, map, rules}
use Rattle.std.proofs.lemmas.List.{drop_all, drop_more}
use Rattle.unit_config.specs.UnitValues.{unit_of}
use Rattle.unit_reading.proofs.UnitImports.{read_none, told_all, told_next}
use Rattle.unit_reading.proofs.vetx_input.read_told.Goals as goal

pub loop-import-init : goal.loop-import-init
loop-import-init g c =
    let by = c.args.by in
    read_none by.edition by.digest.now (unit_of c.args.unit.now) _ _ _ _ (search rules) (search rules) (search rules)
    c.in_ok-imports.ensures

pub loop-import-preserved : goal.loop-import-preserved
loop-import-preserved g c =
    let by = c.args.by in
    let imports = c.deref-import-items.result.now in
    let at = c.loop-import.import-index in (
      c.loop-import.invariant.0,
      told_next by.edition by.digest.now (unit_of c.args.unit.now) _ (map (λ i. i.now) (drop at imports))
          (map (λ i. i.now) (drop (at + 1) imports)) c.loop-import.told.items c.keep_told.new.all.items _
          c.in_ok-told_of.field-0
          (ap (map (λ i. i.now)) (drop_more imports at _ c.loop-import-test.true))
          c.in_ok-told_of.ensures.told c.in_ok-keep_told.ensures c.loop-import.invariant.1,
    )

pub returns-clause-told : goal.returns-clause-told
returns-clause-told g c =
    let by = c.args.by in
    let imports = c.deref-import-items.result.now in
    let at = c.loop-import.import-index in
    told_all by.edition by.digest.now (unit_of c.args.unit.now) _ (map (λ i. i.now) (drop at imports))
    c.loop-import.told.items (ap (map (λ i. i.now)) (drop_all at imports c.loop-import-test.false))
    c.loop-import.invariant.0 c.loop-import.invariant.1
