use Rattle.std.proofs.Common.{◌≡◌, ◌++◌, map, drop}
use Rattle.std.specs.Prelude.{flat_map}
use Rattle.whole_packages.specs.LoadedViews.{numbered_view}
use Rattle.whole_packages.specs.WholeEntries.{tree_dots}
use Rattle.report.specs.Entries.{entry_of}
use Rattle.whole_packages.proofs.dot_entries.add_dots.Given as goal

-- what was added, with what is left, is the whole
abbrev pub invariant-loop-numbered : goal.invariant-loop-numbered
invariant-loop-numbered g l =
    let gives = tree_dots (g.P.Picks.picked l.picked) in
    map entry_of l.diagnostics.items ++ flat_map gives (map numbered_view (drop l.numbered-index l.trees))
    ≡ map entry_of l.initial.diagnostics.items ++ flat_map gives (map numbered_view l.trees)
