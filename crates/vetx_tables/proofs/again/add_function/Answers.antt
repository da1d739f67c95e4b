use Rattle.std.proofs.Common.{◌&&◌, ◌||◌, bytes_eq, ◌∙◌}
use Rattle.std.specs.List.{list_any}
use Rattle.facts.specs.FactViews.{facts_by_name}
use Rattle.called_parameters.specs.Called.{is_called}
use Rattle.first_values.specs.ValuesByName.{only_at}
use Rattle.meaning.specs.OuterBlocks.{or_else}
use Rattle.declared_tables.specs.DeclaredTables.{is_called_at}
use Rattle.vetx_tables.proofs.again.add_function.Goals as goal

pub returns : goal.returns
returns c = record {
  are_facts = λ name.
      c.in_ok-insert.ensures.ok name
      ∙ (λ i.
      or_else (facts_by_name c.args.signatures.now name)
      (only_at (c.as_str-name.ensures.value i) (c.in_ok-facts.ensures i) name));
  are_calls = λ name k.
      c.in_ok-add_calls.ensures name k
      ∙ (λ i.
      is_called c.args.called.now name k
      || (bytes_eq name (c.as_str-name.ensures.value i) && list_any (is_called_at k) (c.deref.ensures.value i)));
}
