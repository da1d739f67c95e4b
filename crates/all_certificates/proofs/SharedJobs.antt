-- Threads may share what tells them which certificates to make.
use denote.Param.Send.{IsSync, sendable}
use denote.Param.SendFields.{declared_sync}
use denote.Ref.{NamedLft}
use Rattle.all_certificates.specs.contracts.files.CertifyingBodies as certifying
use Rattle.calls_flags.proofs.known_calls.KnownCalls.TheSendSync as calls
use Rattle.package_pieces.proofs.Shared.{bodies_sync}

pub certifying_sync : (κ ι μ ν : NamedLft) → IsSync (certifying.the_row κ ι μ ν)
certifying_sync κ ι μ ν =
    declared_sync (certifying.the_type κ ι μ ν)
    (search (sendable, bodies_sync), (search (sendable, calls.the_sync), tt))
