use Rattle.folders.proofs.HandedOn.{handed_on}
use Rattle.inputs.specs.ReadingFaults.{IsReadingFault, IsWordsFault}
use Rattle.inputs.proofs.FaultsRead.{of_all_words, of_input, of_sources}
use Rattle.inputs.proofs.ReadGiven.{none_bad}
use Rattle.command_line.specs.Words.{texts_of}
use Rattle.std.proofs.Common.{subst, sym}
use Rattle.inputs.specs.Packages.{AreNamed}
use Rattle.inputs.proofs.evidence.read_evidence.Goals as goal

pub returns-in_err-packages-clause-fault : goal.returns-in_err-packages-clause-fault
returns-in_err-packages-clause-fault g c =
    let sources = c.args.asked.now.sources in
    let file = c.args.asked.now.file.now in
    let fault = c.in_err-packages.field-0.0 in
    handed_on c.from_residual.result fault (IsReadingFault sources file) c.from_residual.ensures.1
    (of_all_words sources file fault
    (subst (λ words. IsWordsFault (texts_of words) fault) c.deref.ensures.value c.in_err-packages.ensures.fault))

pub returns-in_err-certificates-clause-fault : goal.returns-in_err-certificates-clause-fault
returns-in_err-certificates-clause-fault g c =
    let sources = c.args.asked.now.sources in
    let words = texts_of sources.packages.items in
    let packages = c.in_ok-packages.packages.items in
    let file = c.args.asked.now.file.now in
    let fault = c.in_err-certificates.field-0.0 in
    let named : AreNamed words packages
    = subst (λ ws. AreNamed (texts_of ws) packages) c.deref.ensures.value c.in_ok-packages.ensures.named in
    handed_on c.from_residual-in_err-certificates.result fault (IsReadingFault sources file)
    c.from_residual-in_err-certificates.ensures.1
    (of_input sources (λ bad. none_bad words packages named bad.0 bad.1) file fault c.in_err-certificates.ensures.fault)

pub returns-in_err-input-clause-fault : goal.returns-in_err-input-clause-fault
returns-in_err-input-clause-fault g c =
    let sources = c.args.asked.now.sources in
    let words = texts_of sources.packages.items in
    let packages = c.in_ok-packages.packages.items in
    let file = c.args.asked.now.file.now in
    let fault = c.in_err-input.field-0.0 in
    let named : AreNamed words packages
    = subst (λ ws. AreNamed (texts_of ws) packages) c.deref.ensures.value c.in_ok-packages.ensures.named in
    handed_on c.from_residual-in_err-input.result fault (IsReadingFault sources file)
    c.from_residual-in_err-input.ensures.1
    (of_sources sources (λ bad. none_bad words packages named bad.0 bad.1) file fault
    (c.in_err-input.ensures.fault (subst (λ ps. AreNamed words ps) (sym c.deref-2.ensures.value) named)))

pub returns-clause-read : goal.returns-clause-read
returns-clause-read g c =
    let words = texts_of c.args.asked.now.sources.packages.items in
    let packages = c.in_ok-packages.packages.items in
    let named : AreNamed words packages
    = subst (λ ws. AreNamed (texts_of ws) packages) c.deref.ensures.value c.in_ok-packages.ensures.named in
    c.in_ok-input.ensures.read (subst (λ ps. AreNamed words ps) (sym c.deref-2.ensures.value) named)
