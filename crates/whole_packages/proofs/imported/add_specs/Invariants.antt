use Rattle.std.proofs.Common.{◌≡◌, ◌++◌, map, drop}
use Rattle.imports.specs.Views.{text_views}
use Rattle.tree.specs.View.{import_spec_syntax}
use Rattle.whole_packages.proofs.imported.add_specs.Given as goal

-- what was added, with what is left, is the whole
abbrev pub invariant-loop-spec : goal.invariant-loop-spec
invariant-loop-spec l =
    text_views l.paths.items ++ map (λ s. s.path) (map import_spec_syntax (drop l.spec-index l.specs))
    ≡ text_views l.initial.paths.items ++ map (λ s. s.path) (map import_spec_syntax l.specs)
