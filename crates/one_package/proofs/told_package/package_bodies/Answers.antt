use Rattle.std.proofs.Common.{◌≡◌, sym, subst}
use Rattle.facts.specs.FactViews.{facts_by_name}
use Rattle.calls_flags.proofs.CreditedFiles.{all_told}
use Rattle.called_parameters.specs.Called.{is_called, flags_by_path}
use Rattle.calls_flags.specs.FilesBodies.{TellAll, with_all_credits}
use Rattle.calls_flags.specs.ToldFiles.{TellAllSeen}
use Rattle.meaning_packages.specs.CallsFlags.{AreMost}
use Rattle.meaning_reports.specs.Loaded.{imported_flags}
use Rattle.silent_files.specs.WalkedFiles.{walked_files}
use Rattle.one_package.proofs.JudgedFiles.{have_facts}
use Rattle.one_package.proofs.told_package.package_bodies.Goals as goal

pub returns : goal.returns
returns g c = λ ps tables p all told are_calls.
    let seens = walked_files ps tables p told.walked in
    let ks = c.in_ok-files.files.items in
    let made = c.in_ok-files.ensures seens (subst (TellAllSeen seens) (sym c.deref.ensures.value) told.are_files) in
    let files = with_all_credits seens ks in
    let are_flags : flags_by_path c.args.imported.now ≡ imported_flags p tables = λ j path name k. are_calls path name k j in
    record {
      are_bodies = made;
      are_flags = subst (λ im. AreMost files im (is_called c.in_ok-called.called)) are_flags
          (c.in_ok-called.ensures files (subst (TellAll files) (sym c.deref-2.ensures.value) (all_told seens ks made))
          (have_facts ps tables p told.walked (facts_by_name c.args.told.now.signatures) told.are_signatures ks));
    }
