use Rattle.std.proofs.Common.{inl, inr, map, subst}
use Rattle.command_line.specs.Words.{IsAsked}
use Rattle.folders.proofs.HandedOn.{handed_on}
use Rattle.driver.specs.Faults.{IsFaultOfCertify, IsFaultOfCheck, IsFaultOfVerify, IsRunFault}
use Rattle.driver.specs.WrittenReport.{IsBegun, IsWritten, LeavesBegun, LeavesWhole, OfCertified, OfCertify, OfCheck, OfExplain, OfVerify}
use Rattle.driver.proofs.AskedReports.{ends_so}
use Rattle.driver.proofs.program.answer_words.Goals as goal

pub returns-in_err-done-in-Check-clause-fault : goal.returns-in_err-done-in-Check-clause-fault
returns-in_err-done-in-Check-clause-fault g c =
    let words = map g.S.AsStr.text c.args.words.now in
    let asked = c.in-Check.asked in
    let asks = subst (IsAsked words) c.in-Check.is c.in_ok-asked.ensures in
    let fault = c.in_err-done-in-Check.field-0.0 in
    let of_command : IsFaultOfCheck words fault
    = record { asked = asked; asks = inl asks; is_fault = c.in_err-done-in-Check.ensures.fault } in
    handed_on c.from_residual-in_err-done-in-Check.result fault (IsRunFault words)
    c.from_residual-in_err-done-in-Check.ensures.1 (inr (inr (inl of_command)))

pub returns-in_err-done-in-Check-clause-begun : goal.returns-in_err-done-in-Check-clause-begun
returns-in_err-done-in-Check-clause-begun g c =
    let words = map g.S.AsStr.text c.args.words.now in
    let asked = c.in-Check.asked in
    let asks = subst (IsAsked words) c.in-Check.is c.in_ok-asked.ensures in
    let old = g.W.Write.contents c.args.out.now in
    let new = g.W.Write.contents c.check.new.out in
    let fault = c.in_err-done-in-Check.field-0.0 in
    handed_on c.from_residual-in_err-done-in-Check.result fault (λ told. LeavesBegun words told old new)
    c.from_residual-in_err-done-in-Check.ensures.1
    (λ e.
    let begun = c.in_err-done-in-Check.ensures.begun e in
    let report : OfCheck words (IsBegun old new)
    = record { asked = asked; asks = asks; files = begun.0; report = begun.1 } in
    inr (inl (report)))

pub returns-in_ok-done-in-Check-clause-written : goal.returns-in_ok-done-in-Check-clause-written
returns-in_ok-done-in-Check-clause-written g c =
    let words = map g.S.AsStr.text c.args.words.now in
    let asked = c.in-Check.asked in
    let asks = subst (IsAsked words) c.in-Check.is c.in_ok-asked.ensures in
    let old = g.W.Write.contents c.args.out.now in
    let new = g.W.Write.contents c.check.new.out in
    let done = c.in_ok-done-in-Check.done in
    let written = c.in_ok-done-in-Check.ensures.written in
    let report : OfCheck words (IsWritten old new written.0)
    = record { asked = asked; asks = asks; files = done.files; report = written.2 } in
    ends_so words old new done.status written.0 written.1 (inl (report))

pub returns-in_err-done-in-Explain-clause-fault : goal.returns-in_err-done-in-Explain-clause-fault
returns-in_err-done-in-Explain-clause-fault g c =
    let words = map g.S.AsStr.text c.args.words.now in
    let asked = c.in-Explain.asked in
    let asks = subst (IsAsked words) c.in-Explain.is c.in_ok-asked.ensures in
    let fault = c.in_err-done-in-Explain.field-0.0 in
    let of_command : IsFaultOfCheck words fault
    = record { asked = asked; asks = inr asks; is_fault = c.in_err-done-in-Explain.ensures.fault } in
    handed_on c.from_residual-in_err-done-in-Explain.result fault (IsRunFault words)
    c.from_residual-in_err-done-in-Explain.ensures.1 (inr (inr (inl of_command)))

pub returns-in_err-done-in-Explain-clause-begun : goal.returns-in_err-done-in-Explain-clause-begun
returns-in_err-done-in-Explain-clause-begun g c =
    let words = map g.S.AsStr.text c.args.words.now in
    let asked = c.in-Explain.asked in
    let asks = subst (IsAsked words) c.in-Explain.is c.in_ok-asked.ensures in
    let old = g.W.Write.contents c.args.out.now in
    let new = g.W.Write.contents c.explain.new.out in
    let fault = c.in_err-done-in-Explain.field-0.0 in
    handed_on c.from_residual-in_err-done-in-Explain.result fault (λ told. LeavesBegun words told old new)
    c.from_residual-in_err-done-in-Explain.ensures.1
    (λ e.
    let begun = c.in_err-done-in-Explain.ensures.begun e in
    let report : OfExplain words (IsBegun old new)
    = record { asked = asked; asks = asks; files = begun.0; report = begun.1 } in
    inr (inr (inl (report))))

pub returns-in_ok-done-in-Explain-clause-written : goal.returns-in_ok-done-in-Explain-clause-written
returns-in_ok-done-in-Explain-clause-written g c =
    let words = map g.S.AsStr.text c.args.words.now in
    let asked = c.in-Explain.asked in
    let asks = subst (IsAsked words) c.in-Explain.is c.in_ok-asked.ensures in
    let old = g.W.Write.contents c.args.out.now in
    let new = g.W.Write.contents c.explain.new.out in
    let done = c.in_ok-done-in-Explain.done in
    let written = c.in_ok-done-in-Explain.ensures.written in
    let report : OfExplain words (IsWritten old new written.0)
    = record { asked = asked; asks = asks; files = done.files; report = written.2 } in
    ends_so words old new done.status written.0 written.1 (inr (inl (report)))

pub returns-in_err-done-in-Certify-clause-fault : goal.returns-in_err-done-in-Certify-clause-fault
returns-in_err-done-in-Certify-clause-fault g c =
    let words = map g.S.AsStr.text c.args.words.now in
    let asked = c.in-Certify.asked in
    let asks = subst (IsAsked words) c.in-Certify.is c.in_ok-asked.ensures in
    let fault = c.in_err-done-in-Certify.field-0.0 in
    let of_command : IsFaultOfCertify words fault
    = record { asked = asked; asks = asks; is_fault = c.in_err-done-in-Certify.ensures.fault } in
    handed_on c.from_residual-in_err-done-in-Certify.result fault (IsRunFault words)
    c.from_residual-in_err-done-in-Certify.ensures.1 (inr (inr (inr (inl of_command))))

pub returns-in_err-done-in-Certify-clause-begun : goal.returns-in_err-done-in-Certify-clause-begun
returns-in_err-done-in-Certify-clause-begun g c =
    let words = map g.S.AsStr.text c.args.words.now in
    let asked = c.in-Certify.asked in
    let asks = subst (IsAsked words) c.in-Certify.is c.in_ok-asked.ensures in
    let old = g.W.Write.contents c.args.out.now in
    let new = g.W.Write.contents c.certify.new.out in
    let fault = c.in_err-done-in-Certify.field-0.0 in
    handed_on c.from_residual-in_err-done-in-Certify.result fault (λ told. LeavesBegun words told old new)
    c.from_residual-in_err-done-in-Certify.ensures.1
    (λ e.
    let begun = c.in_err-done-in-Certify.ensures.begun e in
    let report : OfCertify words (IsBegun old new)
    = record { asked = asked; asks = asks; files = begun.0; text = begun.1; report = begun.2 } in
    inr (inr (inr (inl (report)))))

pub returns-in_err-done-in-Certify-clause-whole : goal.returns-in_err-done-in-Certify-clause-whole
returns-in_err-done-in-Certify-clause-whole g c =
    let words = map g.S.AsStr.text c.args.words.now in
    let asked = c.in-Certify.asked in
    let asks = subst (IsAsked words) c.in-Certify.is c.in_ok-asked.ensures in
    let old = g.W.Write.contents c.args.out.now in
    let new = g.W.Write.contents c.certify.new.out in
    let fault = c.in_err-done-in-Certify.field-0.0 in
    handed_on c.from_residual-in_err-done-in-Certify.result fault (λ told. LeavesWhole words told old new)
    c.from_residual-in_err-done-in-Certify.ensures.1
    (λ name e.
    let whole = c.in_err-done-in-Certify.ensures.whole name e in
    let report : OfCertify words (IsWritten old new whole.0)
    = record { asked = asked; asks = asks; files = whole.1; text = whole.2; report = whole.3 } in
    (whole.0, report))

pub returns-in_ok-done-in-Certify-clause-written : goal.returns-in_ok-done-in-Certify-clause-written
returns-in_ok-done-in-Certify-clause-written g c =
    let words = map g.S.AsStr.text c.args.words.now in
    let asked = c.in-Certify.asked in
    let asks = subst (IsAsked words) c.in-Certify.is c.in_ok-asked.ensures in
    let old = g.W.Write.contents c.args.out.now in
    let new = g.W.Write.contents c.certify.new.out in
    let done = c.in_ok-done-in-Certify.done in
    let written = c.in_ok-done-in-Certify.ensures.written in
    let report : OfCertified words (IsWritten old new written.0)
    = record {
      asked = asked;
      asks = asks;
      files = done.files;
      file = done.file;
      is_file = c.in_ok-done-in-Certify.ensures.file;
      is_on_disk = c.in_ok-done-in-Certify.ensures.reach;
      report = written.2;
    } in
    ends_so words old new done.status written.0 written.1 (inr (inr (inl (report))))

pub returns-in_err-done-in-Verify-clause-fault : goal.returns-in_err-done-in-Verify-clause-fault
returns-in_err-done-in-Verify-clause-fault g c =
    let words = map g.S.AsStr.text c.args.words.now in
    let asked = c.in-Verify.asked in
    let asks = subst (IsAsked words) c.in-Verify.is c.in_ok-asked.ensures in
    let fault = c.in_err-done-in-Verify.field-0.0 in
    let of_command : IsFaultOfVerify words fault
    = record { asked = asked; asks = asks; is_fault = c.in_err-done-in-Verify.ensures.fault } in
    handed_on c.from_residual-in_err-done-in-Verify.result fault (IsRunFault words)
    c.from_residual-in_err-done-in-Verify.ensures.1 (inr (inr (inr (inr of_command))))

pub returns-in_err-done-in-Verify-clause-begun : goal.returns-in_err-done-in-Verify-clause-begun
returns-in_err-done-in-Verify-clause-begun g c =
    let words = map g.S.AsStr.text c.args.words.now in
    let asked = c.in-Verify.asked in
    let asks = subst (IsAsked words) c.in-Verify.is c.in_ok-asked.ensures in
    let old = g.W.Write.contents c.args.out.now in
    let new = g.W.Write.contents c.verify.new.out in
    let fault = c.in_err-done-in-Verify.field-0.0 in
    handed_on c.from_residual-in_err-done-in-Verify.result fault (λ told. LeavesBegun words told old new)
    c.from_residual-in_err-done-in-Verify.ensures.1
    (λ e.
    let begun = c.in_err-done-in-Verify.ensures.begun e in
    let report : OfVerify words (IsBegun old new)
    = record { asked = asked; asks = asks; files = begun.0; report = begun.1 } in
    inr (inr (inr (inr (report)))))

pub returns-in_ok-done-in-Verify-clause-written : goal.returns-in_ok-done-in-Verify-clause-written
returns-in_ok-done-in-Verify-clause-written g c =
    let words = map g.S.AsStr.text c.args.words.now in
    let asked = c.in-Verify.asked in
    let asks = subst (IsAsked words) c.in-Verify.is c.in_ok-asked.ensures in
    let old = g.W.Write.contents c.args.out.now in
    let new = g.W.Write.contents c.verify.new.out in
    let done = c.in_ok-done-in-Verify.done in
    let written = c.in_ok-done-in-Verify.ensures.written in
    let report : OfVerify words (IsWritten old new written.0)
    = record { asked = asked; asks = asks; files = done.files; report = written.2 } in
    ends_so words old new done.status written.0 written.1 (inr (inr (inr (report))))
