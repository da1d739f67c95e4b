use Rattle.std.proofs.Common.{ap, ◌∙◌}
use Rattle.std.specs.Prelude.{flat_map}
use Rattle.imports.specs.Views.{text_views}
use Rattle.one_package.specs.Judgments.{table_view}
use Rattle.plain_tables.specs.Tables.{entries_for}
use Rattle.plain_tables.proofs.tables.table_of.Goals as goal

pub returns : goal.returns
returns c = record {
  names = text_views c.in_ok-names.names.items;
  in_order = c.in_ok-names.ensures;
  are_told =
      c.in_ok-functions.ensures
      ∙ ap (λ ns. flat_map (entries_for (table_view c.args.judged.now)) (text_views ns)) c.deref.ensures.value;
}
