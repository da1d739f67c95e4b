use Rattle.std.proofs.Common.{◌≡◌, ◌++◌, drop, map}
use Rattle.certificate_json.specs.Certificates.{body_of}
use Rattle.certificate_json.proofs.written.bodies_to_write.Given as goal

-- those so far, with those that are left, are all
abbrev pub invariant-loop-body : goal.invariant-loop-body
invariant-loop-body l =
    map (λ b. body_of b.now) l.listed.items ++ map body_of (drop l.body-index l.bodies) ≡ map body_of l.bodies
