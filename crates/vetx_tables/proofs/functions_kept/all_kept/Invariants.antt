use Rattle.std.proofs.Common.{◌≡◌, ◌++◌, drop, map}
use Rattle.std.specs.Prelude.{flat_map}
use Rattle.std.specs.List.{list_all}
use Rattle.imports.specs.Views.{text_views}
use Rattle.one_package.specs.Judgments.{table_view}
use Rattle.vetx_json.specs.KeptUnits.{function_of}
use Rattle.vetx_tables.specs.KeptTables.{function_fits, kept_for}
use Rattle.vetx_tables.proofs.functions_kept.all_kept.Given as goal

-- those so far, with those of what is left, are all; and whether those that are left fit is whether all do
abbrev pub invariant-loop-name : goal.invariant-loop-name
invariant-loop-name l =
    (map function_of l.functions.items ++ flat_map (kept_for (table_view l.judged)) (text_views (drop l.name-index l.names))
    ≡ flat_map (kept_for (table_view l.judged)) (text_views l.names))
    × (list_all (function_fits (table_view l.judged)) (text_views (drop l.name-index l.names))
    ≡ list_all (function_fits (table_view l.judged)) (text_views l.names))
