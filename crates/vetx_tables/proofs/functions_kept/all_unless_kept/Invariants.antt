use Rattle.std.proofs.Common.{◌≡◌, ◌++◌, drop, map}
use Rattle.std.specs.List.{list_all}
use Rattle.facts.specs.FactViews.{unless_view}
use Rattle.vetx_json.specs.KeptUnits.{unless_of}
use Rattle.vetx_tables.specs.KeptTables.{unless_fits, unless_kept}
use Rattle.vetx_tables.proofs.functions_kept.all_unless_kept.Given as goal

-- those so far, with those of what is left, are all; and whether those that are left fit is whether all do
abbrev pub invariant-loop-one : goal.invariant-loop-one
invariant-loop-one l =
    (map unless_of l.kept.items ++ map unless_kept (map unless_view (drop l.one-index l.unless))
    ≡ map unless_kept (map unless_view l.unless))
    × (list_all unless_fits (map unless_view (drop l.one-index l.unless))
    ≡ list_all unless_fits (map unless_view l.unless))
