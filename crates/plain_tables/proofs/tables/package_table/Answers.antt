use Rattle.std.proofs.Common.{map, subst}
use Rattle.std.proofs.lemmas.Result.{IfOk-weaker}
use Rattle.tree.specs.View.{file_syntax}
use Rattle.table_json.specs.Tables.{entries_of}
use Rattle.one_package.specs.Judgments.{table_view}
use Rattle.plain_tables.specs.Tables.{declared_names, TellsNames}
use Rattle.plain_tables.proofs.PlainTables.{is_plain}
use Rattle.plain_tables.proofs.tables.package_table.Goals as goal

pub returns : goal.returns
returns c =
    IfOk-weaker c.table_of.result _ _
    (λ table named ps tables i p tells is_table.
    let known = table_view c.args.judged.now in
    is_plain ps tables i p c.args.loaded.now known (entries_of table) tells is_table
    (subst (λ trees. TellsNames (declared_names (map file_syntax trees)) known (entries_of table)) c.deref.ensures.value
    named))
    c.table_of.ensures
