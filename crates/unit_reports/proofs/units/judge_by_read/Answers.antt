use Rattle.std.proofs.Common.{ℕ, List, map, ap, ◌∙◌, subst}
use Rattle.std.proofs.lemmas.Result.{IfOk-weaker}
use Rattle.imports.specs.Views.{text_views}
use Rattle.unit_reports.proofs.UnitTexts.{text_too}
use Rattle.unit_reports.specs.UnitParts.{IsNearAmong, IsReadAmong, NotesByNear, NotesByRead, package_in, told_by_read}
use Rattle.meaning_reports.specs.Loaded.{LoadedPackage, Tables}
use Rattle.given_packages.specs.Neighbours.{nearby_view}
use Rattle.one_package.specs.Results.{KnowsAll}
use Rattle.given_packages.specs.ToldNeighbours.{KeepsImported}
use Rattle.unit_reports.proofs.units.judge_by_read.Goals as goal

pub returns : goal.returns
returns c =
    let kept = c.args.loaded.now in
    let imports = c.args.imports.now in
    let declared = c.args.declared.now in
    let told = told_by_read imports.read.items in
    let around = c.in_ok-around.around in
    let near = c.beside-near.result in
    let known = c.in_ok-known.known in
    let right : (tables : Tables) (ps : List LoadedPackage) (i : ℕ) (p : LoadedPackage)
    → IsReadAmong tables ps i p kept imports declared
    → IsNearAmong tables ps i p told kept (nearby_view near) known =
    (λ tables ps i p h. record {
      is_near =
          c.beside-near.ensures tables ps i p _
          (subst (λ xs. KeepsImported xs around)
          (c.deref-2.ensures.value ∙ (c.in_ok-imported.ensures ∙ ap (map package_in) c.deref.ensures.value)) c.in_ok-around.ensures) h.is_there h.rank
          h.are_imports h.are_declared h.are_marked;
      is_there = h.is_there;
      tells = h.tells;
      is_known =
          subst (λ names. KnowsAll (nearby_view near) names told known)
          (ap text_views c.deref-3.ensures.value ∙ h.are_paths)
          (subst (λ read. KnowsAll (nearby_view near) (text_views c.deref-3.result.now) (told_by_read read) known)
          c.deref-4.ensures.value c.in_ok-known.ensures);
      are_told = h.are_told;
    }) in
    IfOk-weaker c.judge_near.result _ _
    (λ unit says. record {
      tells = says.tells;
      follows = λ tables ps i p h. says.follows tables ps i p told (right tables ps i p h);
      is_text =
          text_too c.args.form unit.judged (NotesByNear kept (nearby_view near) known) (NotesByRead kept imports declared)
          unit.text.items (λ e notes tables ps i p h. notes tables ps i p told (right tables ps i p h)) says.is_text;
    })
    c.judge_near.ensures
