use Rattle.std.proofs.Common.{◌≡◌, sym, ap, subst}
use Rattle.std.proofs.lemmas.Result.{IfOk-weaker}
use Rattle.called_parameters.specs.Called.{is_called, flags_by_path}
use Rattle.calls_flags.proofs.CreditedFiles.{all_credited, all_told}
use Rattle.calls_flags.specs.FilesBodies.{TellAll, with_all_credits}
use Rattle.calls_flags.specs.ToldFiles.{TellAllSeen}
use Rattle.explanations.specs.ToldViews.{ways_view}
use Rattle.explanations.specs.Ways.{TellWays}
use Rattle.facts.specs.FactViews.{facts_by_name}
use Rattle.meaning_packages.specs.CallsFlags.{AreMost, calls_by}
use Rattle.meaning_reports.specs.Loaded.{imported_flags}
use Rattle.one_package.proofs.JudgedFiles.{have_facts}
use Rattle.silent_files.specs.WalkedFiles.{walked_files}
use Rattle.explanations.proofs.told_ways.package_ways.Goals as goal

pub returns : goal.returns
returns c =
    IfOk-weaker c.files_faults.result _ _
    (λ ways so ps tables i p is_p around none told.
    let seens = walked_files ps tables p told.walked in
    let ks = c.in_ok-files.files.items in
    let made = c.in_ok-files.ensures seens (subst (TellAllSeen seens) (sym c.deref.ensures.value) told.are_files) in
    let files = with_all_credits seens ks in
    let tell = all_told seens ks made in
    let flags = is_called c.in_ok-called.called in
    let are_imported : flags_by_path c.args.around.calls.now ≡ imported_flags p tables =
    λ j path name k. around.are_calls path name k j in
    let most = subst (λ imported. AreMost files imported flags) are_imported
    (c.in_ok-called.ensures files (subst (TellAll files) (sym c.deref-2.ensures.value) tell)
    (have_facts ps tables p told.walked (facts_by_name c.args.told.now.signatures) told.are_signatures ks)) in
    record {
      loaded = p;
      walked = told.walked;
      files = files;
      flags = flags;
      are_walked = record {
        skip_silent = told.skip_silent;
        is_package = is_p;
        has_no_whole_fault = none;
        are_files = all_credited seens ks made;
        are_flags = most;
      };
      are_ways = subst (λ cs. TellWays cs files (ways_view ways.items)) (ap (calls_by flags) are_imported)
          (so files (subst (TellAll files) (sym c.deref-3.ensures.value) tell));
    })
    c.files_faults.ensures
