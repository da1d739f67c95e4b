-- What the facts that the program keeps stand for.
use Rattle.std.specs.Prelude.{ℕ, List, Option, Some, None, option_map, map}
use Rattle.first_values.specs.ValuesByName.{value_of}
use Rattle.facts.specs.declared.kinds.VariableKind.{VariableKind as KeptKind}
use Rattle.facts.specs.declared.kinds.VariableKind.TheVariants.{Cancel, Group}
use Rattle.facts.specs.declared.kinds.CancelType.{CancelType as KeptCancelType}
use Rattle.facts.specs.declared.kinds.CancelType.TheVariants.{Plain, WithCause}
use Rattle.facts.specs.declared.kinds.TrackedType.{TrackedType as KeptType}
use Rattle.facts.specs.declared.kinds.TrackedType.TheVariants.{Cancel as CancelTyped, Group as GroupTyped}
use Rattle.facts.specs.declared.items.Item.{Item as KeptItem}
use Rattle.facts.specs.declared.facts.TrackedParameter.{TrackedParameter as KeptParameter}
use Rattle.facts.specs.declared.facts.CancelResult.{CancelResult as KeptResult}
use Rattle.facts.specs.declared.facts.Unless.{Unless as KeptUnless}
use Rattle.facts.specs.declared.facts.FunctionFacts.{FunctionFacts as KeptFacts}
use Rattle.facts.specs.declared.table.Table.{Table}
use Rattle.facts.specs.declared.table.Imported.{Imported}
use Rattle.tree.specs.View.{identifier_syntax, expression_syntax, optional_expression_of}
use Rattle.meaning.specs.FunctionFacts.{CancelType, plain, with_cause, TrackedType, cancel_type, group_type, VariableKind, cancel, group, Item, TrackedParameter, CancelResult, Unless, FunctionFacts}

abbrev pub kind_view : KeptKind → VariableKind
kind_view Cancel = cancel
kind_view Group = group

abbrev pub type_view : KeptCancelType → CancelType
type_view Plain = plain
type_view WithCause = with_cause

abbrev pub tracked_type_view : KeptType → TrackedType
tracked_type_view (CancelTyped t) = cancel_type (type_view t)
tracked_type_view GroupTyped = group_type

abbrev pub item_view : KeptItem → Item
item_view i = record {
  name = option_map (λ n. identifier_syntax n.now) i.name;
  is_variadic = i.is_variadic;
  type = optional_expression_of (option_map (λ t. expression_syntax t.now) i.kind);
}

abbrev pub parameter_view : KeptParameter → TrackedParameter
parameter_view p = record { position = p.position; typed = tracked_type_view p.typed }

abbrev pub cancel_result_view : KeptResult → CancelResult
cancel_result_view g = record { position = g.position; type = type_view g.cancel_type }

abbrev pub unless_view : KeptUnless → Unless
unless_view u = record { given = u.given; error = u.error }

abbrev pub facts_view : KeptFacts → FunctionFacts
facts_view f = record {
  parameters = map parameter_view f.parameters.items;
  gives = map cancel_result_view f.gives.items;
  results = f.results;
  unless = map unless_view f.unless.items;
}

-- the facts of the function of that name
abbrev pub facts_by_name : Table → List ℕ → Option FunctionFacts
facts_by_name table name = option_map facts_view (value_of table.functions name)

-- the table of the package of that path
abbrev pub table_by_path : Imported → List ℕ → Option Table
table_by_path imported path = option_map (λ t. t.now) (value_of imported.packages path)

abbrev pub facts_in_table : Option Table → List ℕ → Option FunctionFacts
facts_in_table None name = None
facts_in_table (Some table) name = facts_by_name table name

-- the facts of the function of that name in the package of that path
abbrev pub facts_by_path : Imported → List ℕ → List ℕ → Option FunctionFacts
facts_by_path imported path name = facts_in_table (table_by_path imported path) name
