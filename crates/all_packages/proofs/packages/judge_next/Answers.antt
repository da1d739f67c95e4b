use Rattle.std.proofs.Common.{◌≡◌, length, refl, sym, ap, ◌∙◌, subst, filter_map}
use Rattle.std.specs.Prelude.{slice_get}
use Rattle.std.proofs.lemmas.Option.{slice_get_read}
use Rattle.gathering.specs.Results.{FollowsFrom}
use Rattle.gathering.proofs.Results.{have_results, what_follows_is_a_result_by}
use Rattle.one_package.specs.Certified.{AreCertified, CertificatesFollow}
use Rattle.all_packages.specs.Progress.{slots_in, slot_at, imports_at, IsNext}
use Rattle.one_package.specs.Judgments.{said_view}
use Rattle.one_package.specs.Results.{results_by_path, AreImported}
use Rattle.all_packages.proofs.FoundPackages.{imports_so, list_so}
use Rattle.all_packages.proofs.ImportedRows.{are_imported, results_so}
use Rattle.all_packages.proofs.KeptPackages.{package_of}
use Rattle.all_packages.proofs.NextPackage.{goes_next, stays, seen_some}
use Rattle.all_packages.proofs.packages.judge_next.Goals as goal

pub returns-then-is_some : goal.returns-then-is_some
returns-then-is_some g c = λ declared ps given distinct ready right.
    let slots = slots_in c.args.progress.now in
    stays (g.R.FileRules.rules c.args.by.now.rules.now declared) ps c.args.given.now.packages.now slots c.args.place right
    (λ p is. sym (seen_some c.at.result (slot_at slots c.args.place) c.at.ensures) ∙ (sym c.is_some.ensures ∙ c.if-is_some.true))

pub returns : goal.returns
returns g c = λ declared ps given distinct ready right.
    let rules = g.R.FileRules.rules c.args.by.now.rules.now declared in
    let rule = g.R.FileRules.certificates c.args.by.now.rules.now in
    let own = c.args.given.now in
    let packages = own.packages.now in
    let place = c.args.place in
    let loaded = c.in-Some-Some-Some.loaded.now in
    let lists = c.deref.result.now in
    let list = c.in-Some-Some-Some.list.now in
    let rows = c.deref-2.result.now in
    let row = c.in-Some-Some-Some.places.now in
    let slots = slots_in c.args.progress.now in
    let judged = c.in_ok-judged.judged in
    let is = slice_get_read packages (length packages) place loaded refl c.in-Some-Some-Some.ensures.lookup.3.0
    c.in-Some-Some-Some.ensures.lookup.1 in
    let is_list = ap (λ ls. slice_get ls place) (sym c.deref.ensures.value)
    ∙ slice_get_read lists (length lists) place list refl c.in-Some-Some-Some.ensures'.lookup.3.0
    c.in-Some-Some-Some.ensures'.lookup.1 in
    let is_row = ap (λ rs. slice_get rs place) (sym c.deref-2.ensures.value)
    ∙ slice_get_read rows (length rows) place row refl c.in-Some-Some-Some.ensures''.lookup.3.0
    c.in-Some-Some-Some.ensures''.lookup.1 in
    let it = package_of ps packages given.tell place loaded is in
    let same : c.as_slice.result.now ≡ imports_at ps place =
    c.as_slice.ensures.value ∙ imports_so declared ps own given place row is_row in
    let names = list_so declared ps own given place it.meant it.is_there list is_list in
    let determined = c.are_determined.ensures.flags declared in
    let follows = subst (λ places. AreImported ps place (filter_map (slot_at slots) places)
    → FollowsFrom rules ps place it.meant (results_by_path ps (filter_map (slot_at slots) places)) (said_view judged)) same
    (c.in_ok-judged.ensures.follows declared ps place it.meant given it.is_there it.tells names) in
    let too = subst (λ places. AreImported ps place (filter_map (slot_at slots) places)
    → CertificatesFollow rules rule ps place it.meant (results_by_path ps (filter_map (slot_at slots) places)) judged) same
    (c.in_ok-judged.ensures.certified declared ps place it.meant given it.is_there it.tells names) in
    let results = results_by_path ps (filter_map (slot_at slots) (imports_at ps place)) in
    let are_results = results_so rules ps packages given.tell slots right place distinct in
    let imported = are_imported rules ps packages given.tell slots right place ready in
    let result = what_follows_is_a_result_by rules determined ps place it.meant results (said_view judged)
    it.is_there are_results (follows imported) in
    let certified : AreCertified rules rule ps place it.meant judged = λ tables below.
    too imported tables (have_results rules determined ps tables place results below are_results) in
    subst (λ after. IsNext rules rule ps packages slots after place) (sym c.keep.ensures)
    (goes_next rules ps packages slots right place it.meant loaded it.is_there is judged c.in_ok-judged.ensures.told result
    certified)
