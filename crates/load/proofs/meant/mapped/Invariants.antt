use Rattle.std.proofs.Common.{◌≡◌, drop, map}
use Rattle.load.specs.MeantPaths.{mapped, meant_of}
use Rattle.load.proofs.meant.mapped.Given as goal

-- what those that are left say of the path is what all say
abbrev pub invariant-loop-import : goal.invariant-loop-import
invariant-loop-import l =
    mapped (map meant_of (drop l.import-index l.imports)) l.path ≡ mapped (map meant_of l.imports) l.path
