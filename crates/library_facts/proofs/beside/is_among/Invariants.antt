use Rattle.std.proofs.Common.{◌≡◌, drop, map}
use Rattle.std.specs.List.{list_any}
use Rattle.std.specs.Str.{bytes_eq}
use Rattle.library_facts.proofs.beside.is_among.Given as goal

-- the test of those that are left is that of all
abbrev pub invariant-loop-one : goal.invariant-loop-one
invariant-loop-one l =
    list_any (bytes_eq l.path) (map (λ path. path.now) (drop l.one-index l.paths))
    ≡ list_any (bytes_eq l.path) (map (λ path. path.now) l.paths)
