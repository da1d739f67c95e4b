-- The faults of a body's paths are those to which lists come, clause by clause.
use Rattle.std.proofs.Common.{List}
use Rattle.meaning.specs.BodyEvents.{Variable}
use Rattle.meaning.specs.Code.{Occurrence}
use Rattle.meaning.specs.Lists.{Reaches}
use Rattle.meaning.specs.Uses.{Event}
use Rattle.meaning_packages.specs.PathFaults.{Paths, PathFault, IsPathFault, loses_cancel, loses_group, returns_live, returns_open, returns_kept, returns_pending}
use Rattle.ways.specs.Ways.{IsFaultAfter, rebinds, remakes, leaves_live, leaves_open, leaves_kept, leaves_pending, SomeComesTo, FaultsHaveLists}

comes : (b : Paths) (f : PathFault) (v : Variable) (t : List (Occurrence Event)) (o : Occurrence Event)
    → Reaches b.code t o
    → IsFaultAfter b v t o f
    → SomeComesTo b f
comes b f v t o reaches is = record {
  list = t;
  there = o;
  comes = record { variable = v; reaches = reaches; is_fault = is };
}

of_fault : (b : Paths) (f : PathFault) → IsPathFault b f → SomeComesTo b f
of_fault b f (loses_cancel v u t o of_body kind reaches binds same lost) =
    comes b f v t o reaches (rebinds u of_body kind binds same lost)
of_fault b f (loses_group v u state t o reaches makes same live) =
    comes b f v t o reaches (remakes u state makes same live)
of_fault b f (returns_live v handed t o there declared live) =
    comes b f v t o there.reaches (leaves_live handed there.is_return declared live)
of_fault b f (returns_open v handed t o there owes class) =
    comes b f v t o there.reaches (leaves_open handed there.is_return owes class)
of_fault b f (returns_kept v handed t o there owes class not_handed) =
    comes b f v t o there.reaches (leaves_kept handed there.is_return owes class not_handed)
of_fault b f (returns_pending v handed t o there owes left) =
    comes b f v t o there.reaches (leaves_pending handed there.is_return owes left)

fault_of : (b : Paths) (f : PathFault) (v : Variable) (t : List (Occurrence Event)) (o : Occurrence Event)
    → Reaches b.code t o
    → IsFaultAfter b v t o f
    → IsPathFault b f
fault_of b f v t o reaches (rebinds u of_body kind binds same lost) =
    loses_cancel v u t o of_body kind reaches binds same lost
fault_of b f v t o reaches (remakes u state makes same live) = loses_group v u state t o reaches makes same live
fault_of b f v t o reaches (leaves_live handed is declared live) =
    returns_live v handed t o record { reaches = reaches; is_return = is } declared live
fault_of b f v t o reaches (leaves_open handed is owes class) =
    returns_open v handed t o record { reaches = reaches; is_return = is } owes class
fault_of b f v t o reaches (leaves_kept handed is owes class not_handed) =
    returns_kept v handed t o record { reaches = reaches; is_return = is } owes class not_handed
fault_of b f v t o reaches (leaves_pending handed is owes left) =
    returns_pending v handed t o record { reaches = reaches; is_return = is } owes left

pub faults_have_lists : FaultsHaveLists
faults_have_lists b f = (
  of_fault b f,
  λ w. fault_of b f w.comes.variable w.list w.there w.comes.reaches w.comes.is_fault,
)
