use Rattle.std.proofs.Common.{◌≡◌, ℕ, ◌++◌, map, drop}
use Rattle.bodies.specs.Bodies.{TellBodies}
use Rattle.calls_flags.specs.Claims.{claim_view, body_claims, bodies_claims}
use Rattle.facts.specs.FactViews.{facts_by_name}
use Rattle.meaning.specs.BodyEvents.{bodies_of}
use Rattle.meaning.specs.Uses.{Seen}
use Rattle.path_faults.specs.FoundFaults.{each_from}
use Rattle.calls_flags.proofs.claims.add_bodies.Given as goal

-- what was added, with what is left, is the whole
abbrev pub invariant-loop-place : goal.invariant-loop-place
invariant-loop-place l =
    (file : ℕ) (seen : Seen) → TellBodies file seen l.bodies
    → map claim_view l.claims.items
    ++ each_from (body_claims (facts_by_name l.table) seen file) l.place (drop l.place (bodies_of seen))
    ≡ map claim_view l.initial.claims.items ++ bodies_claims (facts_by_name l.table) file seen
