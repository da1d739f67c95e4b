use Rattle.std.proofs.Common.{◌≡◌, ℕ, List, drop, map, option_map}
use Rattle.meaning.specs.OuterBlocks.{or_else}
use Rattle.first_values.specs.ValuesByName.{value_of}
use Rattle.declared_json.specs.DeclaredPackages.{package_of, packages_of, table_at}
use Rattle.declared_tables.specs.DeclaredTables.{table_of, table_view}
use Rattle.declared_tables.specs.MarkedGivers.{AreMarked}
use Rattle.declared_tables.proofs.tables.DeclaredTables.of.Given as goal

-- what was added, with what the packages that are left add, is the whole, and each table has its flag
abbrev pub invariant-loop-one : goal.invariant-loop-one
invariant-loop-one l =
    ((path : List ℕ)
    → or_else (option_map table_view (value_of l.packages path))
    (option_map table_of (table_at path (map package_of (drop l.one-index l.outside.packages.items))))
    ≡ option_map table_of (table_at path (packages_of l.outside)))
    × AreMarked l.packages
