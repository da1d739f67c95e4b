use Rattle.std.proofs.Common.{subst, sym}
use Rattle.workers.specs.Outcomes.{AreOutcomes}
use Rattle.load.specs.Ahead.{files_of, AreReadAhead}
use Rattle.load.specs.Readings.{IsParsed}
use Rattle.load.proofs.ReadAhead.{of_outcomes}
use Rattle.load.proofs.ahead.read_ahead.Goals as goal

pub returns : goal.returns
returns g c =
    let files = c.in_ok-files.files.items in
    let read = c.in_ok-parsed.parsed.items in
    let outcomes =
    subst (λ fs. AreOutcomes (λ file parsed. IsParsed file.edition file.source.now parsed) fs read) c.deref.ensures.value c.in_ok-parsed.ensures
    in
    subst (AreReadAhead (files_of c.args.packages.now)) (sym c.into_iter.ensures.rest)
    (subst (λ fs. AreReadAhead fs read) c.in_ok-files.ensures (of_outcomes files read outcomes))
