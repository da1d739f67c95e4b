use Rattle.std.proofs.Common.{rules, ◌≡◌, [], ◌∷◌, IsErrAnd, map, sym, ap, ◌∙◌, subst}
use Rattle.std.specs.Prelude.{slice_get}
use Rattle.declared_json.specs.DeclaredPackages.{packages_of}
use Rattle.declared_tables.specs.DeclaredTables.{declared_tables}
use Rattle.unit_reports.proofs.UnitFaults.{handed_on, is_unit_fault}
use Rattle.unit_reports.proofs.UnitReports.{distinct_alone, tell_alone, marked_so}
use Rattle.unit_reports.specs.UnitParts.{IsGivenAlone}
use Rattle.unit_reports.specs.Units.{IsUnitFault, name_or_empty}
use Rattle.meaning_reports.specs.Loaded.{name_in}
use Rattle.tree.specs.View.{file_syntax}
use Rattle.vetx_tables.specs.declared.fault.KeptFault.TheVariants.{OutOfMemory}
use Rattle.whole_packages.specs.LoadedViews.{TellPackages}
use Rattle.whole_packages.specs.WholeEntries.{is_set}
use Rattle.unit_reports.proofs.units.unit_report_of.Goals as goal

pub returns-clause-report : goal.returns-clause-report
returns-clause-report c =
    let outside = packages_of c.args.outside.now in
    let given = c.in_ok-given.given in
    let alone : IsGivenAlone (declared_tables outside) c.args.loaded.now given =
    (λ p tells. c.in_ok-given.ensures.given (p ∷ [])
    (subst (TellPackages (p ∷ [])) (sym c.from_ref.ensures.value) (tell_alone p c.args.loaded.now tells)) (distinct_alone p)) in
    let unit = c.in_ok-unit.ensures outside alone in
    let mark = c.is_first_marked-has_whole_fault.ensures ∙ ap (λ ms. is_set (slice_get ms 0)) c.deref.ensures.value in
    record {
      judged = c.in_ok-unit.unit.judged;
      is_judged = unit.is_judged;
      is_text = unit.is_text;
      verdict = c.is_yes-is_yes.ensures;
      is_name = λ p tells.
          c.in_ok-name.ensures
          ∙ (ap (λ ts. name_or_empty (name_in (map file_syntax ts))) c.deref-2.ensures.value
          ∙ ap (λ ts. name_or_empty (name_in ts)) (sym tells.are_trees));
      is_fault = λ ps i p is_p tells distinct rank.
          let so = marked_so p ps i is_p distinct rank (declared_tables outside) given (alone p tells) in
          (λ e. so.0 (sym mark ∙ e), λ h. mark ∙ so.1 h);
      are_kept = λ ps known i p tells is_table. c.in_ok-functions.ensures.kept ps known i p tells is_table;
    }

pub returns-in_err-name-clause-fault : goal.returns-in_err-name-clause-fault
returns-in_err-name-clause-fault c =
    let told : IsErrAnd c.from_residual-in_err-name.result (λ fault. fault ≡ OutOfMemory) = search rules in
    handed_on c.from_residual-in_err-name.result OutOfMemory
    (IsUnitFault (packages_of c.args.outside.now) c.args.told.now c.args.loaded.now) told tt

pub returns-in_err-keeping-clause-fault : goal.returns-in_err-keeping-clause-fault
returns-in_err-keeping-clause-fault c =
    let told : IsErrAnd c.from_residual-in_err-keeping.result (λ fault. fault ≡ OutOfMemory) = search rules in
    handed_on c.from_residual-in_err-keeping.result OutOfMemory
    (IsUnitFault (packages_of c.args.outside.now) c.args.told.now c.args.loaded.now) told tt

pub returns-in_err-functions-clause-fault : goal.returns-in_err-functions-clause-fault
returns-in_err-functions-clause-fault c =
    let outside = packages_of c.args.outside.now in
    let given = c.in_ok-given.given in
    let alone : IsGivenAlone (declared_tables outside) c.args.loaded.now given =
    (λ p tells. c.in_ok-given.ensures.given (p ∷ [])
    (subst (TellPackages (p ∷ [])) (sym c.from_ref.ensures.value) (tell_alone p c.args.loaded.now tells)) (distinct_alone p)) in
    let unit = c.in_ok-unit.ensures outside alone in
    let fault = c.in_err-functions.field-0.0 in
    handed_on c.from_residual-in_err-functions.result fault (IsUnitFault outside c.args.told.now c.args.loaded.now)
    c.from_residual-in_err-functions.ensures.1
    (is_unit_fault outside c.args.told.now c.args.loaded.now c.in_ok-unit.unit.judged unit.is_judged fault
    c.in_err-functions.ensures.fault)
