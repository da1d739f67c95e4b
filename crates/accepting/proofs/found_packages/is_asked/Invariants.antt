use Rattle.std.proofs.Common.{◌≡◌, drop, map, string_bytes}
use Rattle.accepting.specs.Found.{is_asked}
use Rattle.accepting.proofs.found_packages.is_asked.Given as goal

-- whether it is none of those that are left tells whether it is none of all
abbrev pub invariant-loop-one : goal.invariant-loop-one
invariant-loop-one l =
    is_asked (map string_bytes (drop l.one-index l.unasked)) l.path ≡ is_asked (map string_bytes l.unasked) l.path
