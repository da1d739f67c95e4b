use Rattle.std.proofs.Common.{◌+◌, sym, ap, ◌∙◌, refl, subst, drop}
use Rattle.std.proofs.lemmas.List.{drop_all}
use Rattle.tree.proofs.Depths.{drop_item}
use Rattle.vet_units.specs.JudgedUnits.{AreCountedSoFar}
use Rattle.vet_units.proofs.TakenImports.{take_one, pass_one, take_all}
use Rattle.vet_units.proofs.unit_report.imports_in.Goals as goal
use Rattle.vet_units.proofs.unit_report.imports_in.Goals.{then-counts_in+in_ok-push, else-counts_in}

pub loop-one-preserved : goal.loop-one-preserved
loop-one-preserved c =
    let module_path = c.args.module_path.now in
    let told = c.args.told.now in
    let at = c.loop-one.one-index in
    let one = c.one-item.result in
    let items = drop_item told at one c.loop-one-test.true c.one-item.is in
    elim c.if-counts_in.branch [
      | then-counts_in+in_ok-push w ↦
          subst (AreCountedSoFar module_path (drop (at + 1) told) told)
          (sym (ap (λ v. v.items) w.imports-is ∙ w.in_ok-push.ensures.items))
          (take_one module_path told one (drop at told) (drop (at + 1) told) c.loop-one.imports.items _ items
          (sym c.counts_in.ensures ∙ w.if-counts_in.true) (record { is_path = w.as_str.ensures.value; is_kept = refl }) c.loop-one.invariant)
      | else-counts_in w ↦
          subst (AreCountedSoFar module_path (drop (at + 1) told) told) (sym (ap (λ v. v.items) w.imports-is))
          (pass_one module_path told one (drop at told) (drop (at + 1) told) c.loop-one.imports.items items
          (sym c.counts_in.ensures ∙ w.if-counts_in.false) c.loop-one.invariant)
    ]

pub returns : goal.returns
returns c =
    let told = c.args.told.now in
    let at = c.loop-one.one-index in
    take_all c.args.module_path.now told (drop at told) c.loop-one.imports.items (drop_all at told c.loop-one-test.false)
    c.loop-one.invariant
