-- Threads may share what tells them what to do.
use denote.Param.Send.{IsSync, sendable}
use denote.Param.SendFields.{declared_sync}
use denote.Ref.{NamedLft}
use Rattle.calls_flags.proofs.known_calls.KnownCalls.TheSendSync as calls
use Rattle.package_pieces.specs.contracts.building.Building as building
use Rattle.package_pieces.specs.contracts.claims.Keeping as keeping
use Rattle.package_pieces.specs.contracts.solving.Solving as solving
use Rattle.package_pieces.specs.contracts.telling.TellingFiles as telling
use Rattle.package_pieces.proofs.Shared.{file_sync, bodies_sync, telling_sync}

pub building_sync : (κ ι : NamedLft) → IsSync (building.the_row κ ι)
building_sync κ ι = declared_sync (building.the_type κ ι) (search (sendable, file_sync), tt)

pub keeping_sync : (κ ι μ ν : NamedLft) → IsSync (keeping.the_row κ ι μ ν)
keeping_sync κ ι μ ν =
    declared_sync (keeping.the_type κ ι μ ν) (search (sendable, bodies_sync), (search (sendable, calls.the_sync), tt))

pub solving_sync : (κ ι μ ν : NamedLft) → IsSync (solving.the_row κ ι μ ν)
solving_sync κ ι μ ν =
    declared_sync (solving.the_type κ ι μ ν) (search (sendable, bodies_sync), (search (sendable, calls.the_sync), tt))

pub telling_files_sync : (κ ι : NamedLft) → IsSync (telling.the_row κ ι)
telling_files_sync κ ι = declared_sync (telling.the_type κ ι) (search (sendable, telling_sync), tt)
