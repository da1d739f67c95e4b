use Rattle.std.proofs.Common.{map, sym, subst}
use Rattle.all_certificates.proofs.AddedEntries.{on_ok}
use Rattle.all_certificates.specs.AddedEntries.{Adds}
use Rattle.all_certificates.specs.CertifiedBodies.{AreOfBody}
use Rattle.calls_flags.specs.KnownCalls.{known_calls}
use Rattle.certificate_json.specs.Certificates.{body_of}
use Rattle.all_certificates.proofs.files.add_body.Goals as goal

pub returns : goal.returns
returns c =
    on_ok c.add_entry.result
    (λ added number f told b is_body.
    subst (λ credits. Adds (AreOfBody (known_calls c.args.calls) credits number f.seen b)
    (map body_of c.args.entries.now.items) (map body_of c.add_entry.new.entries.items))
    (sym told.are_credits) (added number f.seen b told.tells is_body))
    c.add_entry.ensures
