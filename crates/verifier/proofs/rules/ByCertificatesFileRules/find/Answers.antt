use Rattle.std.proofs.Common.{refl, sym, ap, ◌∙◌, subst}
use Rattle.calls_flags.proofs.KeptFiles.{as_seen, tell_all}
use Rattle.calls_flags.specs.FilesBodies.{TellAll, with_all_credits}
use Rattle.calls_flags.specs.ToldFiles.{TellAllSeen}
use Rattle.called_parameters.specs.Called.{is_called, flags_by_path}
use Rattle.facts.specs.FactViews.{facts_by_name}
use Rattle.meaning_reports.specs.Loaded.{seen_files}
use Rattle.silent_files.proofs.WalkedFiles.{walks_are_enough}
use Rattle.verifier.proofs.FoundPackages.{have_facts, are_flags, each}
use Rattle.verifier.specs.GivenViews.{given_by, given_of, package_by_path, TellsGiven}
use Rattle.verifier.proofs.rules.ByCertificatesFileRules.find.Goals as goal

pub returns-clause-files : goal.returns-clause-files
returns-clause-files g c = λ declared ps tables i p is_p loaded around told none.
    let by = given_by c.args.self.now in
    let seens = seen_files ps tables p in
    let walked = walks_are_enough.all ps tables p told.walked (told.all refl) in
    let are_files =
    subst (TellAllSeen seens) (sym c.deref.ensures.value)
    (subst (λ ss. TellAllSeen ss c.args.told.now.files.items) walked told.are_files) in
    let bare = c.in_ok-files.ensures seens are_files in
    let fs = with_all_credits seens c.in_ok-files.files.items in
    let seen = as_seen seens c.in_ok-files.files.items bare.are_as_many in
    let told_all = tell_all seens c.in_ok-files.files.items bare.are_as_many bare.each in
    let to_claim = subst (TellAll fs) (sym c.deref-2.ensures.value) told_all in
    let to_say = subst (TellAll fs) (sym c.deref-3.ensures.value) told_all in
    let given : TellsGiven (by p.path) c.in_ok-given.given =
    subst (λ o. TellsGiven (given_of o) c.in_ok-given.given) (c.of.ensures ∙ ap (package_by_path c.args.self.now) (c.as_str.ensures.value ∙ sym loaded.is_path))
    c.in_ok-given.ensures in
    let flags = is_called c.in_ok-called.called in
    let imported = flags_by_path c.args.around.calls.now in
    let claimed = c.in_ok-called.ensures fs to_claim (have_facts ps tables p (facts_by_name c.args.told.now.signatures)
    told.are_signatures fs seen) (by p.path) given in
    let said = c.in_ok-diagnostics.ensures fs to_say (by p.path) given in
    record {
      are_flags = are_flags by ps tables i p is_p flags imported around.are_calls fs seen claimed
          c.in_ok-diagnostics.diagnostics.items said;
      each = each by ps tables i p is_p flags imported around.are_calls fs seen claimed
          c.in_ok-diagnostics.diagnostics.items said;
    }
