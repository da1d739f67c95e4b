use Rattle.std.proofs.Common.{◌≡◌, ◌++◌, ◌∷◌, [], map, sym, ap, ◌∙◌, arith}
use Rattle.std.proofs.lemmas.List.{append-nil, append_assoc, nil_from_length}
use Rattle.std.specs.Vec.Iter.{into_iter_items}
use Rattle.all_certificates.proofs.MadeCertificates.{made_first, made_next, made_all}
use Rattle.all_packages.specs.Reports.{report_in}
use Rattle.certificate_json.specs.Certificates.{package_of}
use Rattle.all_certificates.proofs.packages.certified_packages.Goals as goal

pub loop-one-init : goal.loop-one-init
loop-one-init c =
    let all = c.args.judged.items in
    let same = c.into_iter-one-iterator.ensures.into_iter_gives.0 in (
      λ j. c.new-reports.ensures.items j ++ map report_in (same j),
      made_first c.args.packages.now all (into_iter_items c.into_iter-one-iterator.result)
          (map package_of c.new-certified.result.items) same (ap (map package_of) c.new-certified.ensures.items),
    )

pub loop-one-preserved : goal.loop-one-preserved
loop-one-preserved c =
    let at = c.loop-one in
    let one = c.in-Some.one in
    let before = into_iter_items at.one-iterator in
    let after = into_iter_items c.next.new.self in
    let steps : before ≡ one ∷ after = c.in-Some.ensures.steps.0 in
    let told = at.reports.items in (
      (λ j. c.in_ok-add_package.ensures.reports j ++ map report_in after)
          ∙ (append_assoc told (report_in one ∷ []) (map report_in after)
          ∙ (ap (λ js. told ++ map report_in js) (sym steps) ∙ at.invariant.0)),
      made_next c.args.packages.now c.args.judged.items after before one (map package_of at.certified.items)
          (map package_of c.add_package.new.certified.items) steps c.in_ok-add_package.ensures.certified at.invariant.1,
    )

pub returns-clause-reports : goal.returns-clause-reports
returns-clause-reports c =
    let left = c.loop-one.one-iterator.rest in
    let told = c.loop-one.reports.items in
    let none : left.items ≡ [] = nil_from_length left.items (omega (arith, left.ok, c.in-None.ensures.steps.0)) in
    sym (append-nil told) ∙ (ap (λ js. told ++ map report_in js) (sym none) ∙ c.loop-one.invariant.0)

pub returns-clause-certified : goal.returns-clause-certified
returns-clause-certified c =
    let left = c.loop-one.one-iterator.rest in
    let none : left.items ≡ [] = nil_from_length left.items (omega (arith, left.ok, c.in-None.ensures.steps.0)) in
    made_all c.args.packages.now c.args.judged.items left.items (map package_of c.loop-one.certified.items) none
    c.loop-one.invariant.1
