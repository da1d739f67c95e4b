use Rattle.std.proofs.Common.{◌≡◌, ℕ, List, Contains, Option, map, rules, string_bytes, ap, subst, ◌∙◌}
use Rattle.std.specs.Prelude.{flat_map}
use Rattle.folders.specs.ReadFaults.{IsReadFaultOf}
use Rattle.folders.proofs.HandedOn.{handed_on}
use Rattle.command_line.specs.Words.{texts_of}
use Rattle.package_list.specs.ListedValues.{package_of}
use Rattle.test_packages.specs.ReadPackages.{entry_of, packages_to_read}
use Rattle.inputs.specs.Packages.{shown_files, unasked, AreNamed}
use Rattle.inputs.specs.ReadingFaults.{IsReadSourcesFault}
use Rattle.inputs.proofs.FaultsRead.{of_baseline, of_facts, of_files, of_folders, of_list}
use Rattle.inputs.proofs.ListedPackages.{added_of}
use Rattle.inputs.proofs.input.read_input.Goals as goal

pub returns-in_err-declared-clause-fault : goal.returns-in_err-declared-clause-fault
returns-in_err-declared-clause-fault g c =
    let sources = c.args.sources.now in
    let fault = c.in_err-declared.field-0.0 in
    handed_on c.from_residual.result fault
    (λ told. AreNamed (texts_of sources.packages.items) c.args.packages.now → IsReadSourcesFault sources told)
    c.from_residual.ensures.1 (λ named. of_facts sources fault c.in_err-declared.ensures.fault)

pub returns-in_err-baseline-clause-fault : goal.returns-in_err-baseline-clause-fault
returns-in_err-baseline-clause-fault g c =
    let sources = c.args.sources.now in
    let fault = c.in_err-baseline.field-0.0 in
    handed_on c.from_residual-in_err-baseline.result fault
    (λ told. AreNamed (texts_of sources.packages.items) c.args.packages.now → IsReadSourcesFault sources told)
    c.from_residual-in_err-baseline.ensures.1 (λ named. of_baseline sources fault c.in_err-baseline.ensures.fault)

pub returns-in_err-listed-clause-fault : goal.returns-in_err-listed-clause-fault
returns-in_err-listed-clause-fault g c =
    let sources = c.args.sources.now in
    let fault = c.in_err-listed.field-0.0 in
    handed_on c.from_residual-in_err-listed.result fault
    (λ told. AreNamed (texts_of sources.packages.items) c.args.packages.now → IsReadSourcesFault sources told)
    c.from_residual-in_err-listed.ensures.1 (λ named. of_list sources fault c.in_err-listed.ensures.fault)

pub returns-in_err-given-clause-fault : goal.returns-in_err-given-clause-fault
returns-in_err-given-clause-fault g c =
    let sources = c.args.sources.now in
    let fault = c.in_err-given.field-0.0 in
    handed_on c.from_residual-in_err-given.result fault
    (λ told. AreNamed (texts_of sources.packages.items) c.args.packages.now → IsReadSourcesFault sources told)
    c.from_residual-in_err-given.ensures.1
    (λ named. of_folders sources c.args.packages.now named fault c.in_err-given.ensures.fault)

pub returns-in_err-add_listed-clause-fault : goal.returns-in_err-add_listed-clause-fault
returns-in_err-add_listed-clause-fault g c =
    let sources = c.args.sources.now in
    let listed = c.in_ok-listed.listed in
    let of_list = c.in_ok-of_list.of_list.items in
    let fault = c.in_err-add_listed.field-0.0 in
    let chosen : map entry_of of_list ≡ packages_to_read (map package_of listed.packages.items) = search rules in
    handed_on c.from_residual-in_err-add_listed.result fault
    (λ told. AreNamed (texts_of sources.packages.items) c.args.packages.now → IsReadSourcesFault sources told)
    c.from_residual-in_err-add_listed.ensures.1
    (λ named. of_files sources listed.file (map package_of listed.packages.items) (map entry_of of_list)
    c.in_ok-listed.ensures.listed chosen fault
    (subst (λ read. IsReadFaultOf (λ name. (here : Option (List ℕ)) × Contains (flat_map (shown_files here) (map entry_of read)) name) fault)
    c.deref-2.ensures.value c.in_err-add_listed.ensures.fault))

pub returns-clause-read : goal.returns-clause-read
returns-clause-read g c named =
    let listed = c.in_ok-listed.listed.packages.items in
    let of_list = c.in_ok-of_list.of_list.items in
    let chosen : map entry_of of_list ≡ packages_to_read (map package_of listed) = search rules in
    let others : map string_bytes c.in_ok-unasked.unasked.items ≡ unasked (map entry_of of_list) = search rules in
    record {
      are_outside = record {
        declared = c.in_ok-declared.declared.outside;
        are_declared = c.in_ok-declared.ensures.declared;
        are_known = search rules;
      };
      are_known = c.in_ok-baseline.ensures.known;
      are_given = record {
        packages = c.args.packages.now;
        are_named = named;
        of_words = c.in_ok-given.given.items;
        are_read = search rules;
        entries = map package_of listed;
        are_listed = c.in_ok-listed.ensures.listed;
        are_unasked = others ∙ ap unasked chosen;
        of_list = added_of _ (map entry_of of_list) _ _ _ chosen (search rules);
      };
    }
