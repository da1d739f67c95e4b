use Rattle.std.proofs.Common.{◌≡◌, false, true≢false, IsErrAnd, refl, rules, subst, true}
use Rattle.std.specs.Io.KnownBytes.{Appends}
use Rattle.folders.specs.declared.fault.Fault.TheVariants.{CannotWrite}
use Rattle.workers.specs.Counts.{count_of}
use Rattle.folders.proofs.HandedOn.{handed_on}
use Rattle.inputs.specs.ReadingFaults.{is_of_output}
use Rattle.driver.specs.Faults.{IsCheckFault}
use Rattle.printed.specs.Printing.{AppendsFront}
use Rattle.driver.proofs.FaultsOfCommands.{none_refused}
use Rattle.driver.proofs.GivenFaults.{of_read_sources, of_report}
use Rattle.inputs.proofs.ReadGiven.{on_err, read_words}
use Rattle.driver.proofs.check.check.Goals as goal

pub returns-in_err-input-clause-fault : goal.returns-in_err-input-clause-fault
returns-in_err-input-clause-fault g c =
    let sources = c.args.asked.now.sources in
    let workers = count_of c.args.asked.now.workers in
    handed_on c.from_residual.result c.in_err-input.field-0.0 (IsCheckFault sources workers)
    c.from_residual.ensures.1
    (of_read_sources sources workers c.in_err-input.field-0.0 c.in_err-input.ensures.fault)

pub returns-in_err-told-clause-fault : goal.returns-in_err-told-clause-fault
returns-in_err-told-clause-fault g c =
    let sources = c.args.asked.now.sources in
    let workers = count_of c.args.asked.now.workers in
    let input = c.in_ok-input.input in
    let fault = c.in_err-told.field-0.0 in
    handed_on c.from_residual-in_err-told.result fault (IsCheckFault sources workers)
    c.from_residual-in_err-told.ensures.1
    (of_report sources workers input.given.items input.files input.outside c.in_ok-input.ensures.read fault
    c.in_err-told.ensures.fault)

pub returns-in_err-print-clause-fault : goal.returns-in_err-print-clause-fault
returns-in_err-print-clause-fault g c =
    let sources = c.args.asked.now.sources in
    let workers = count_of c.args.asked.now.workers in
    let input = c.in_ok-input.input in
    let told : IsErrAnd c.from_residual-in_err-print.result (λ fault. fault ≡ CannotWrite) = search rules in
    handed_on c.from_residual-in_err-print.result CannotWrite (IsCheckFault sources workers) told
    (read_words sources input.files input.outside input.given.items c.in_ok-input.ensures.read)

pub returns-in_err-print-clause-begun : goal.returns-in_err-print-clause-begun
returns-in_err-print-clause-begun g c =
    let input = c.in_ok-input.input in
    let report = c.in_ok-told.told.report in
    let old = g.W.Write.contents c.args.out.now in
    let new = g.W.Write.contents c.print.new.out in
    on_err c.from_residual-in_err-print.result
    (λ fault e. (
      input.files,
      record {
        given = input.given.items;
        outside = input.outside;
        are_read = c.in_ok-input.ensures.read;
        report = report;
        telling = c.telling_for.result;
        is_telling = c.telling_for.ensures;
        is_report = c.in_ok-told.ensures.report;
        so = subst (AppendsFront old new) c.deref.ensures.value c.in_err-print.ensures.begun;
      },
    ))

pub returns-clause-written : goal.returns-clause-written
returns-clause-written g c =
    let input = c.in_ok-input.input in
    let report = c.in_ok-told.told.report in
    let old = g.W.Write.contents c.args.out.now in
    let new = g.W.Write.contents c.print.new.out in (
      report.passes,
      c.of_verdict.ensures,
      record {
        given = input.given.items;
        outside = input.outside;
        are_read = c.in_ok-input.ensures.read;
        report = report;
        telling = c.telling_for.result;
        is_telling = c.telling_for.ensures;
        is_report = c.in_ok-told.ensures.report;
        so = (refl, subst (Appends old new) c.deref.ensures.value c.in_ok-print.ensures.written);
      },
    )

pub returns-in_err-input-clause-begun : goal.returns-in_err-input-clause-begun
returns-in_err-input-clause-begun g c =
    handed_on c.from_residual.result c.in_err-input.field-0.0 _ c.from_residual.ensures.1
    (λ e. absurd (true≢false (subst (λ fault. is_of_output fault ≡ false) e c.in_err-input.ensures.other)))

pub returns-in_err-input-clause-refused : goal.returns-in_err-input-clause-refused
returns-in_err-input-clause-refused g c =
    none_refused c.args.refusals.now.any c.from_residual.result c.in_err-input.field-0.0 c.from_residual.ensures.1
    c.in_err-input.ensures.other
