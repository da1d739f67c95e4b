use Rattle.std.proofs.Common.{map, sym, subst}
use Rattle.all_certificates.proofs.AddedEntries.{on_ok}
use Rattle.all_certificates.specs.AddedEntries.{Adds}
use Rattle.all_certificates.specs.CertifiedBodies.{AreOfBody, InTurn}
use Rattle.bodies.specs.Bodies.{TellBodies}
use Rattle.calls_flags.specs.KnownCalls.{known_calls}
use Rattle.certificate_json.specs.Certificates.{body_of}
use Rattle.meaning.specs.BodyEvents.{bodies_of}
use Rattle.all_certificates.proofs.files.add_file.Goals as goal

pub returns : goal.returns
returns c =
    on_ok c.add_entries.result
    (λ added number f told.
    subst (λ credits. Adds (InTurn (AreOfBody (known_calls c.args.calls) credits number f.seen) (bodies_of f.seen))
    (map body_of c.args.entries.now.items) (map body_of c.add_entries.new.entries.items))
    (sym told.are_credits)
    (added number f.seen told.tells (subst (TellBodies number f.seen) (sym c.deref.ensures.value) told.are_bodies)))
    c.add_entries.ensures
