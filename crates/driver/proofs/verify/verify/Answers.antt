use Rattle.std.proofs.Common.{◌≡◌, IsErrAnd, refl, rules, subst, false}
use Rattle.std.specs.Io.KnownBytes.{Appends}
use Rattle.folders.specs.declared.fault.Fault.TheVariants.{CannotWrite}
use Rattle.folders.proofs.HandedOn.{handed_on}
use Rattle.driver.specs.Faults.{IsVerificationFault}
use Rattle.printed.specs.Printing.{AppendsFront}
use Rattle.driver.proofs.FaultsOfCommands.{of_read_input, of_verdict}
use Rattle.inputs.proofs.ReadGiven.{on_err, read_words}
use Rattle.driver.proofs.verify.verify.Goals as goal

pub returns-in_err-told-clause-fault : goal.returns-in_err-told-clause-fault
returns-in_err-told-clause-fault g c =
    let sources = c.args.asked.now.sources in
    let read = c.in_ok-read.read in
    let fault = c.in_err-told.field-0.0 in
    handed_on c.from_residual-in_err-told.result fault (IsVerificationFault sources c.args.asked.now.file.now)
    c.from_residual-in_err-told.ensures.1
    (of_verdict sources read.input.given.items read.input.files read.input.outside read.certificates c.in_ok-read.ensures.read
    c.args.asked.now.file.now c.in_ok-read.ensures.certificates fault c.in_err-told.ensures.fault)

pub returns-in_err-print-clause-fault : goal.returns-in_err-print-clause-fault
returns-in_err-print-clause-fault g c =
    let sources = c.args.asked.now.sources in
    let input = c.in_ok-read.read.input in
    let told : IsErrAnd c.from_residual-in_err-print.result (λ fault. fault ≡ CannotWrite) = search rules in
    handed_on c.from_residual-in_err-print.result CannotWrite (IsVerificationFault sources c.args.asked.now.file.now) told
    (read_words sources input.files input.outside input.given.items c.in_ok-read.ensures.read)

pub returns-in_err-print-clause-begun : goal.returns-in_err-print-clause-begun
returns-in_err-print-clause-begun g c =
    let read = c.in_ok-read.read in
    let report = c.in_ok-told.told.report in
    let old = g.W.Write.contents c.args.out.now in
    let new = g.W.Write.contents c.print.new.out in
    on_err c.from_residual-in_err-print.result
    (λ fault e. (
      read.input.files,
      record {
        given = read.input.given.items;
        outside = read.input.outside;
        are_read = c.in_ok-read.ensures.read;
        certificates = read.certificates;
        stand_in = c.in_ok-read.ensures.certificates;
        report = report;
        telling = c.telling_for-telling.result;
        is_telling = c.telling_for-telling.ensures;
        is_report = c.in_ok-told.ensures.report;
        so = subst (AppendsFront old new) c.deref.ensures.value c.in_err-print.ensures.begun;
      },
    ))

pub returns-clause-written : goal.returns-clause-written
returns-clause-written g c =
    let read = c.in_ok-read.read in
    let report = c.in_ok-told.told.report in
    let old = g.W.Write.contents c.args.out.now in
    let new = g.W.Write.contents c.print.new.out in (
      report.passes,
      c.of_verdict.ensures,
      record {
        given = read.input.given.items;
        outside = read.input.outside;
        are_read = c.in_ok-read.ensures.read;
        certificates = read.certificates;
        stand_in = c.in_ok-read.ensures.certificates;
        report = report;
        telling = c.telling_for-telling.result;
        is_telling = c.telling_for-telling.ensures;
        is_report = c.in_ok-told.ensures.report;
        so = (refl, subst (Appends old new) c.deref.ensures.value c.in_ok-print.ensures.written);
      },
    )

pub returns-in_err-read-clause-fault : goal.returns-in_err-read-clause-fault
returns-in_err-read-clause-fault g c =
    let sources = c.args.asked.now.sources in
    let file = c.args.asked.now.file.now in
    let fault = c.in_err-read.field-0.0 in
    handed_on c.from_residual.result fault (IsVerificationFault sources file) c.from_residual.ensures.1
    (of_read_input sources file fault c.in_err-read.ensures.fault)
