use Rattle.std.proofs.Common.{◌≡◌, ◌++◌, map, drop}
use Rattle.std.specs.Prelude.{flat_map}
use Rattle.imports.specs.Views.{text_views}
use Rattle.table_json.specs.Tables.{entry_of}
use Rattle.one_package.specs.Judgments.{table_view}
use Rattle.plain_tables.specs.Tables.{entries_for}
use Rattle.plain_tables.proofs.tables.functions_of.Given as goal

-- what was found, with what is left, is the whole
abbrev pub invariant-loop-name : goal.invariant-loop-name
invariant-loop-name l =
    map entry_of l.functions.items
    ++ flat_map (entries_for (table_view l.judged)) (text_views (drop l.name-index l.names))
    ≡ flat_map (entries_for (table_view l.judged)) (text_views l.names)
