use Rattle.std.proofs.Common.{◌≡◌, ap, sym, subst}
use Rattle.calls_flags.proofs.CreditedFiles.{all_credited, all_told}
use Rattle.called_parameters.specs.Called.{is_called, flags_by_path}
use Rattle.calls_flags.specs.FilesBodies.{TellAll}
use Rattle.findings.specs.FoundEntries.{IsFoundIn}
use Rattle.meaning_packages.specs.CallsFlags.{calls_by}
use Rattle.meaning_reports.specs.Loaded.{imported_flags}
use Rattle.silent_files.specs.WalkedFiles.{walked_files, AreWalked}
use Rattle.silent_files.proofs.WalkedFiles.{walks_are_enough}
use Rattle.one_package.specs.ToldPackages.{files_of}
use Rattle.one_package.proofs.by_paths.judge_bodies.Goals as goal

pub returns : goal.returns
returns g c = λ ps tables i p all told is_p around none.
    let ks = c.in_ok-files.field-0.files.items in
    let flags = is_called c.in_ok-files.field-0.called in
    let imported = flags_by_path c.args.around.calls.now in
    let are_flags : imported ≡ imported_flags p tables = λ j path name k. around.are_calls path name k j in
    let bodies = c.in_ok-files.ensures ps tables p all told around.are_calls in
    let seens = walked_files ps tables p told.walked in
    let files = files_of ps tables p told.walked c.in_ok-files.field-0 in
    let walked : AreWalked ps tables i p told.walked files flags = record {
      skip_silent = told.skip_silent;
      is_package = is_p;
      has_no_whole_fault = none;
      are_files = all_credited seens ks bodies.are_bodies;
      are_flags = bodies.are_flags;
    } in
    let found = c.in_ok-diagnostics.ensures files
    (subst (TellAll files) (sym c.deref.ensures.value) (all_told seens ks bodies.are_bodies)) in
    let says = walks_are_enough.says ps tables i p told.walked files flags walked in
    let calls = ap (calls_by flags) are_flags in
    record {
      are_bodies = bodies.are_bodies;
      are_flags = walks_are_enough.flags ps tables i p told.walked files flags walked;
      each = λ x. (
        λ h.
            let f = subst (λ cs. IsFoundIn files cs x) calls ((found x).0 h) in
            (says x).0 (record { number = f.number; file = f.file; is_file = f.is_file; is_finding = f.is_finding }),
        λ said.
            let f = (says x).1 said in
            (found x).1 (subst (λ cs. IsFoundIn files cs x) (sym calls)
            (record { number = f.number; file = f.file; is_file = f.is_file; is_finding = f.is_finding })),
      );
    }
