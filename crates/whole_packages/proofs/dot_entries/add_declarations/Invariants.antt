use Rattle.std.proofs.Common.{◌≡◌, ◌++◌, map, drop}
use Rattle.std.specs.Prelude.{flat_map}
use Rattle.whole_packages.specs.WholeEntries.{spec_dots}
use Rattle.meaning.specs.OuterBlocks.{specs_of}
use Rattle.report.specs.Entries.{entry_of}
use Rattle.tree.specs.View.{import_syntax}
use Rattle.whole_packages.proofs.dot_entries.add_declarations.Given as goal

-- what was added, with what is left, is the whole
abbrev pub invariant-loop-declaration : goal.invariant-loop-declaration
invariant-loop-declaration g l =
    let gives = spec_dots (g.P.Picks.picked l.picked) l.file in
    map entry_of l.diagnostics.items
    ++ flat_map gives (specs_of (map import_syntax (drop l.declaration-index l.declarations)))
    ≡ map entry_of l.initial.diagnostics.items ++ flat_map gives (specs_of (map import_syntax l.declarations))
