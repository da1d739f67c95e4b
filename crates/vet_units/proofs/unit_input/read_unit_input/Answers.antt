use Rattle.std.proofs.Common.{◌≡◌, rules, string_bytes, subst}
use Rattle.command_line.specs.Words.{edition_number}
use Rattle.folders.specs.GoModules.{IsModuleFileOf, IsModulePath}
use Rattle.folders.specs.ReadFaults.{IsReadFaultOf}
use Rattle.unit_config.specs.UnitValues.{unit_of}
use Rattle.unit_reading.specs.ToldImports.{AreTold}
use Rattle.folders.proofs.HandedOn.{handed_on}
use Rattle.vet_units.specs.UnitsRead.{digest_for, edition_of_unit, IsInputFaultOf}
use Rattle.vet_units.proofs.UnitFaults.{of_told_by, of_unit_files, of_unit_module}
use Rattle.vet_units.proofs.unit_input.read_unit_input.Goals as goal

pub returns-in_err-module_path-clause-fault : goal.returns-in_err-module_path-clause-fault
returns-in_err-module_path-clause-fault g c =
    let flags = c.args.flags.now in
    let unit = unit_of c.args.unit.now in
    let fault = c.in_err-module_path.field-0.0 in
    handed_on c.from_residual-in_err-module_path.result fault (IsInputFaultOf flags unit)
    c.from_residual-in_err-module_path.ensures.1
    (of_unit_module flags unit fault
    (subst (λ folder. IsReadFaultOf (IsModuleFileOf folder) fault) c.as_str-2.ensures.value
    c.in_err-module_path.ensures.fault))

pub returns-in_err-given-clause-fault : goal.returns-in_err-given-clause-fault
returns-in_err-given-clause-fault g c =
    let flags = c.args.flags.now in
    let unit = unit_of c.args.unit.now in
    handed_on c.from_residual-in_err-given.result c.in_err-given.field-0.0 (IsInputFaultOf flags unit)
    c.from_residual-in_err-given.ensures.1
    (of_unit_files flags unit c.in_err-given.field-0.0 c.in_err-given.ensures.fault)

pub returns-in_err-told-clause-fault : goal.returns-in_err-told-clause-fault
returns-in_err-told-clause-fault g c =
    let flags = c.args.flags.now in
    let unit = unit_of c.args.unit.now in
    let files = c.args.files in
    let fault = c.in_err-told.field-0.0 in
    handed_on c.from_residual-in_err-told.result fault (IsInputFaultOf flags unit)
    c.from_residual-in_err-told.ensures.1
    (of_told_by flags unit files.facts files.declared c.requires.are_declared c.number_of.result
    c.as_str.result.now (search rules) (search rules) fault c.in_err-told.ensures.fault)

pub returns-clause-read : goal.returns-clause-read
returns-clause-read g c =
    let flags = c.args.flags.now in
    let unit = unit_of c.args.unit.now in
    let files = c.args.files in
    let told = c.in_ok-told.told in
    let edition : c.number_of.result ≡ edition_number (edition_of_unit flags) = search rules in
    let digest : c.as_str.result.now ≡ digest_for flags files.facts = search rules in
    record {
      are_outside = record {
        declared = files.declared;
        are_declared = c.requires.are_declared;
        are_known = search rules;
      };
      is_digest = c.in_ok-digest.ensures;
      are_known = c.requires.are_known;
      are_told =
          subst (λ n. AreTold n (digest_for flags files.facts) unit told.items) edition
          (subst (λ d. AreTold c.number_of.result d unit told.items) digest c.in_ok-told.ensures.told);
      is_module =
          subst (λ folder. IsModulePath folder (string_bytes c.in_ok-module_path.module_path)) c.as_str-2.ensures.value
          c.in_ok-module_path.ensures.module;
      is_package = c.in_ok-given.ensures.read (search rules);
    }
