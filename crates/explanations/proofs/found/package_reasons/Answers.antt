use Rattle.std.proofs.Common.{◌≡◌, length, refl, sym, ap, ◌∙◌, subst, filter_map, arith}
use Rattle.std.specs.Prelude.{slice_get}
use Rattle.std.proofs.lemmas.Option.{slice_get_read}
use Rattle.std.proofs.lemmas.Result.{IfOk-weaker}
use Rattle.all_packages.proofs.FoundPackages.{imports_so, list_so}
use Rattle.all_packages.specs.Progress.{imports_at}
use Rattle.explanations.proofs.GivenPlaces.{package_there, list_there, row_there}
use Rattle.explanations.proofs.RightImports.{are_told, have_tables}
use Rattle.imports.specs.Views.{text_views}
use Rattle.one_package.specs.Results.{told_by, KnowsImports}
use Rattle.explanations.proofs.found.package_reasons.Goals as goal
use Rattle.explanations.proofs.found.package_reasons.Goals.{in_default-via-in-Some+in-Some+in_default, in_default-via-in-Some+in_default, in_default-via-in_default}

pub returns : goal.returns
returns c =
    IfOk-weaker c.reasons_around.result _ _
    (λ reasons so declared ps tables p given distinct right is_p none.
    let own = c.args.all.given.now in
    let judged = c.args.all.judged.now in
    let place = c.args.place in
    let packages = own.packages.now in
    let loaded = c.in-Some-Some-Some.loaded.now in
    let lists = c.deref.result.now in
    let list = c.in-Some-Some-Some.list.now in
    let rows = c.deref-2.result.now in
    let row = c.in-Some-Some-Some.places.now in
    let is = slice_get_read packages (length packages) place loaded refl c.in-Some-Some-Some.ensures.lookup.3.0
    c.in-Some-Some-Some.ensures.lookup.1 in
    let is_list = ap (λ ls. slice_get ls place) (sym c.deref.ensures.value)
    ∙ slice_get_read lists (length lists) place list refl c.in-Some-Some-Some.ensures'.lookup.3.0
    c.in-Some-Some-Some.ensures'.lookup.1 in
    let is_row = ap (λ rs. slice_get rs place) (sym c.deref-2.ensures.value)
    ∙ slice_get_read rows (length rows) place row refl c.in-Some-Some-Some.ensures''.lookup.3.0
    c.in-Some-Some-Some.ensures''.lookup.1 in
    let same : c.deref-4.result.now ≡ imports_at ps place =
    c.deref-4.ensures.value ∙ imports_so declared ps own given place row is_row in
    let names = ap text_views c.deref-3.ensures.value ∙ list_so declared ps own given place p is_p list is_list in
    let js = filter_map (slice_get judged) (imports_at ps place) in
    let knows = subst (λ paths. KnowsImports own paths js c.in_ok-imports.imports) names
    (subst (λ places. KnowsImports own (text_views c.deref-3.result.now) (filter_map (slice_get judged) places)
    c.in_ok-imports.imports) same c.in_ok-imports.ensures) in
    so ps tables place p is_p (given.tell.each place p loaded is_p is)
    (c.around.ensures.known declared ps tables p (told_by js) given knows
    (have_tables declared ps tables judged right place distinct p is_p own given)
    (are_told declared ps tables judged right place).are_marked)
    none)
    c.reasons_around.ensures

pub returns-in_default : goal.returns-in_default
returns-in_default c = λ declared ps tables p given distinct right is_p none.
    let own = c.args.all.given.now in
    let place = c.args.place in
    let in_packages = package_there declared ps own place p given is_p in
    let in_lists = list_there declared ps own place p given is_p in
    let in_rows = row_there declared ps own place p given is_p in
    let lists = ap length c.deref.ensures.value in
    let rows = ap length c.deref-2.ensures.value in
    elim c.in_default.branch [
      | in_default-via-in-Some+in-Some+in_default w ↦ absurd (omega (arith, in_rows, rows, w.in_default.ensures''.lookup.3))
      | in_default-via-in-Some+in_default w ↦ absurd (omega (arith, in_lists, lists, w.in_default.ensures'.lookup.3))
      | in_default-via-in_default w ↦ absurd (omega (arith, in_packages, w.in_default.ensures.lookup.3))
    ]
