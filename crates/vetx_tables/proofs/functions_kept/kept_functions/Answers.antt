use Rattle.std.proofs.Common.{true, ◌≡◌, map, ap, subst, ◌∙◌}
use Rattle.std.specs.List.{list_all}
use Rattle.std.specs.Prelude.{flat_map}
use Rattle.std.proofs.lemmas.Result.{IfOk-weaker}
use Rattle.imports.specs.Views.{text_views}
use Rattle.tree.specs.View.{file_syntax}
use Rattle.one_package.specs.Judgments.{table_view}
use Rattle.plain_tables.specs.Tables.{declared_names, AreInOrder}
use Rattle.vetx_json.specs.KeptUnits.{function_of}
use Rattle.vetx_tables.specs.KeptTables.{function_fits, kept_for}
use Rattle.vetx_tables.proofs.SoundTables.{kept_so}
use Rattle.vetx_tables.proofs.functions_kept.kept_functions.Goals as goal

pub returns-clause-kept : goal.returns-clause-kept
returns-clause-kept c =
    IfOk-weaker c.all_kept.result _ _
    (λ kept are ps tables i p tells is_table.
    let table = table_view c.args.judged.now in
    let names = text_views c.in_ok-names.names.items in
    kept_so ps tables i p table is_table c.args.loaded.now names (map function_of kept.items) tells
    (subst (λ trees. AreInOrder (declared_names (map file_syntax trees)) names) c.deref.ensures.value c.in_ok-names.ensures)
    (are.0 ∙ ap (λ ns. flat_map (kept_for table) (text_views ns)) c.deref-2.ensures.value)
    (subst (λ ns. list_all (function_fits table) (text_views ns) ≡ true) c.deref-2.ensures.value are.1))
    c.all_kept.ensures.ok
