use denote.Param.Send.{sendable}
use Rattle.std.proofs.Common.{◌∙◌, map, sym, subst}
use Rattle.all_certificates.specs.CertifiedBodies.{AreOfFiles}
use Rattle.calls_flags.specs.KnownCalls.{known_calls}
use Rattle.certificate_json.specs.Certificates.{body_of}
use Rattle.all_certificates.proofs.JoinedEntries.{entries_joined}
use Rattle.all_certificates.proofs.SharedJobs.{certifying_sync}
use Rattle.all_certificates.proofs.files.entries_with.Goals as goal

pub work_all-requires-sync-J : goal.work_all-requires-sync-J
work_all-requires-sync-J g c κs within = search (sendable, certifying_sync)

pub returns : goal.returns
returns g c = λ fs tell.
    let calls = known_calls c.args.calls in
    subst (λ es. AreOfFiles calls 0 fs (map body_of es)) (sym c.in_ok-joined.ensures)
    (entries_joined calls fs c.args.files.now c.deref.result.now c.in_ok-lists.lists.items
    (c.deref.ensures.value ∙ c.in_ok-numbers.ensures) c.in_ok-lists.ensures.all tell)
