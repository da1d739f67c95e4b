use Rattle.std.proofs.Common.{◌≡◌, map, drop}
use Rattle.std.specs.List.{list_any}
use Rattle.tree.specs.View.{import_spec_syntax}
use Rattle.files_to_walk.proofs.skipping.any_among.Given as goal

-- the test of those that are left is that of all
abbrev pub invariant-loop-spec : goal.invariant-loop-spec
invariant-loop-spec g l =
    list_any (λ s. g.A.Among.among l.packages s.path) (map import_spec_syntax (drop l.spec-index l.specs))
    ≡ list_any (λ s. g.A.Among.among l.packages s.path) (map import_spec_syntax l.specs)
