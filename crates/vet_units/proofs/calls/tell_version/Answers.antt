use Rattle.std.proofs.Common.{◌∙◌, subst}
use Rattle.std.specs.Io.KnownBytes.{Appends}
use Rattle.printed.specs.Printing.{AppendsFront}
use Rattle.inputs.proofs.ReadGiven.{on_err}
use Rattle.vet_units.proofs.calls.tell_version.Goals as goal

pub returns-in_err-print-clause-begun : goal.returns-in_err-print-clause-begun
returns-in_err-print-clause-begun g c =
    let old = g.W.Write.contents c.args.out.now in
    let new = g.W.Write.contents c.print.new.out in
    let line = c.in_ok-line.ensures.line in
    on_err c.from_residual-in_err-print.result
    (λ fault e. (line.0, subst (AppendsFront old new) (c.as_bytes.ensures.value ∙ line.1) c.in_err-print.ensures.begun))

pub returns-clause-told : goal.returns-clause-told
returns-clause-told g c =
    let old = g.W.Write.contents c.args.out.now in
    let new = g.W.Write.contents c.print.new.out in
    let line = c.in_ok-line.ensures.line in
    (line.0, subst (Appends old new) (c.as_bytes.ensures.value ∙ line.1) c.in_ok-print.ensures.written)
