use Rattle.std.proofs.Common.{◌≡◌, length, refl, arith}
use Rattle.std.proofs.lemmas.Option.{slice_get_read}
use Rattle.explanations.proofs.PackageWays.{all_explained, more_packages, one_explained}
use Rattle.explanations.proofs.packages.explain.Goals as goal

pub loop-place-preserved : goal.loop-place-preserved
loop-place-preserved c =
    let judged = c.args.judged.now in
    let i = c.loop-place.place in
    let one = c.index-judged-place.result in
    let e = c.in_ok-explained_package.field-0 in
    let is = slice_get_read judged (length judged) i one refl c.loop-place-test.true c.index-judged-place.is in (
      more_packages judged i one e c.loop-place.explained.items c.push.new.self.items c.loop-place-test.true is
          c.in_ok-push.ensures.items c.in_ok-explained_package.ensures.plain c.loop-place.invariant.0,
      one_explained _ judged i c.loop-place.explained.items c.push.new.self.items one e is
          c.in_ok-push.ensures.items c.in_ok-explained_package.ensures.notes c.loop-place.invariant.1,
    )

pub returns-clause-notes : goal.returns-clause-notes
returns-clause-notes c = λ ps tell distinct reports.
    let judged = c.args.judged.now in
    let i = c.loop-place.place in
    let size : length judged ≡ i = omega (arith, c.loop-place.auto.place-end, c.loop-place-test.false) in
    all_explained _ judged i c.loop-place.explained.items size c.loop-place.invariant.1
    _ ps c.args.packages.now (c.in_ok-given.ensures.given ps tell distinct) tell distinct reports
