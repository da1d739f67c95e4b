use Rattle.std.proofs.Common.{sym, subst}
use Rattle.all_packages.specs.Progress.{slots_in}
use Rattle.package_workers.proofs.Gathered.{one_kept}
use Rattle.package_workers.proofs.checking.keep.Goals as goal

pub returns-in-Some-clause-kept : goal.returns-in-Some-clause-kept
returns-in-Some-clause-kept g c =
    let told = g.B.Naming.told in
    let place = c.place-place.result in
    let judged = c.in-Some.judged in
    one_kept told (slots_in c.args.progress.now) (slots_in c.keep.new.self) place judged c.keep.ensures
    (subst (λ p. told p judged) (sym c.place-place.ensures)
    (subst (told c.args.found.place) (sym c.in-Some.ensures.is) c.in-Some.ensures.right))
