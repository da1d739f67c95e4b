use Rattle.std.proofs.Common.{subst, sym}
use Rattle.command_line.specs.Words.{texts_of}
use Rattle.folders.proofs.HandedOn.{handed_on}
use Rattle.inputs.specs.Packages.{AreNamed}
use Rattle.inputs.specs.ReadingFaults.{IsSourcesFault, IsWordsFault}
use Rattle.inputs.proofs.FaultsRead.{of_reading, sources_are_no_output}
use Rattle.inputs.proofs.ReadGiven.{none_bad, of_words, weaker_on_err}
use Rattle.inputs.proofs.input.read_sources.Goals as goal

pub returns-in_err-packages-clause-fault : goal.returns-in_err-packages-clause-fault
returns-in_err-packages-clause-fault g c =
    let sources = c.args.sources.now in
    let fault = c.in_err-packages.field-0.0 in
    handed_on c.from_residual.result fault (IsSourcesFault sources) c.from_residual.ensures.1
    (of_words sources fault
    (subst (λ words. IsWordsFault (texts_of words) fault) c.deref.ensures.value c.in_err-packages.ensures.fault))

pub returns-clause-fault : goal.returns-clause-fault
returns-clause-fault g c =
    let sources = c.args.sources.now in
    let words = texts_of sources.packages.items in
    let packages = c.in_ok-packages.packages.items in
    let named : AreNamed words packages
    = subst (λ ws. AreNamed (texts_of ws) packages) c.deref.ensures.value c.in_ok-packages.ensures.named in
    weaker_on_err c.read_input.result
    (λ fault is. of_reading sources (λ bad. none_bad words packages named bad.0 bad.1) fault
    (is (subst (λ ps. AreNamed words ps) (sym c.deref-2.ensures.value) named))) c.read_input.ensures.fault

pub returns-clause-other : goal.returns-clause-other
returns-clause-other g c =
    let words = texts_of c.args.sources.now.packages.items in
    let packages = c.in_ok-packages.packages.items in
    let named : AreNamed words packages
    = subst (λ ws. AreNamed (texts_of ws) packages) c.deref.ensures.value c.in_ok-packages.ensures.named in
    weaker_on_err c.read_input.result
    (λ fault is. sources_are_no_output c.args.sources.now fault
    (is (subst (λ ps. AreNamed words ps) (sym c.deref-2.ensures.value) named))) c.read_input.ensures.fault
