use Rattle.std.proofs.Common.{◌≡◌, map, refl, rules, string_bytes, subst}
use Rattle.declared_json.specs.DeclaredPackages.{packages_of}
use Rattle.unit_reports.specs.OneUnit.{IsReportOfUnit}
use Rattle.vet_units.specs.JudgedUnits.{not_given, AreCounted, IsFormOf}
use Rattle.vet_units.proofs.unit_report.judge_unit.Goals as goal

pub returns-clause-judged : goal.returns-clause-judged
returns-clause-judged g c =
    let flags = c.args.flags.now in
    let input = c.args.input in
    let imports = c.in_ok-imports.imports.items in
    let form = c.form_of-form.result in
    let report = c.in-Ok.report in
    record {
      imports = imports;
      are_imports =
          subst (λ module_path. AreCounted module_path input.told.items imports) c.as_str.ensures.value
          (subst (λ told. AreCounted c.as_str.result.now told imports) c.deref.ensures.value c.in_ok-imports.ensures);
      form = form;
      is_form =
          subst (λ id. IsFormOf flags id input.baseline.findings.items form) c.as_str-3.ensures.value
          (subst (λ known. IsFormOf flags c.as_str-3.result.now known form) c.deref-2.ensures.value c.form_of-form.ensures);
      report = report;
      is_report =
          subst (λ told. IsReportOfUnit form (packages_of input.outside) told input.given report) c.deref-4.ensures.value
          c.in-Ok.ensures.report;
      is_text = refl;
      are_not_given =
          subst (λ module_path. map string_bytes c.in_ok-not_given.not_given.items ≡ not_given module_path input.told.items)
          c.as_str-4.ensures.value
          (subst (λ told. map string_bytes c.in_ok-not_given.not_given.items ≡ not_given c.as_str-4.result.now told)
          c.deref-5.ensures.value c.in_ok-not_given.ensures);
      is_kept = record { is_name = refl; is_fault = refl; is_yes = refl; are_functions = refl };
      is_edition = search rules;
      are_facts = refl;
      is_path = search rules;
      is_module = refl;
    }
