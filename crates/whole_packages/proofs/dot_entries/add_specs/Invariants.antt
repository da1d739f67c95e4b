use Rattle.std.proofs.Common.{◌≡◌, ◌++◌, map, drop}
use Rattle.std.specs.Prelude.{flat_map}
use Rattle.whole_packages.specs.WholeEntries.{spec_dots}
use Rattle.report.specs.Entries.{entry_of}
use Rattle.tree.specs.View.{import_spec_syntax}
use Rattle.whole_packages.proofs.dot_entries.add_specs.Given as goal

-- what was added, with what is left, is the whole
abbrev pub invariant-loop-spec : goal.invariant-loop-spec
invariant-loop-spec g l =
    let gives = spec_dots (g.P.Picks.picked l.picked) l.file in
    map entry_of l.diagnostics.items ++ flat_map gives (map import_spec_syntax (drop l.spec-index l.specs))
    ≡ map entry_of l.initial.diagnostics.items ++ flat_map gives (map import_spec_syntax l.specs)
