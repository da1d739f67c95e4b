-- What the program keeps of what is known, and of rows, and what it stands for.
use Rattle.std.specs.Prelude.{ℕ, ◌==◌, Bool, false, if◌then◌else◌, List, [], ◌∷◌, Option, Some, None, length, map, codes}
use Rattle.std.specs.List.{list_any}
use Rattle.std.specs.Str.{bytes_eq}
use Rattle.tracked_rows.specs.declared.known.Known.{Known as KeptKnown}
use Rattle.tracked_rows.specs.declared.fields.Fields.{Fields as KeptFields}
use Rattle.tracked_rows.specs.declared.fields.Fields.TheVariants.{Each, These}
use Rattle.tracked_rows.specs.declared.fields.ObjectLeft.{ObjectLeft as KeptObjectLeft}
use Rattle.tracked_rows.specs.declared.fields.ObjectLeft.TheVariants.{Outer, New}
use Rattle.tracked_rows.specs.declared.fields.PlacedLeft.{PlacedLeft}
use Rattle.tracked_rows.specs.declared.lefts.Left.{Left as KeptLeft}
use Rattle.tracked_rows.specs.declared.lefts.Left.TheVariants.{Blank, Name, Field, Other}
use Rattle.tracked_rows.specs.declared.calls.Giving.{Giving as KeptGiving}
use Rattle.tracked_rows.specs.declared.makings.GroupState.{GroupState as KeptState}
use Rattle.tracked_rows.specs.declared.makings.GroupState.TheVariants.{Idle, Live}
use Rattle.names.specs.Answers.{declared_at}
use Rattle.facts.specs.FactViews.{cancel_result_view, facts_by_name, facts_by_path}
use Rattle.mentions.specs.MarkViews.{named_view}
use Rattle.tree.specs.Syntax.{Identifier, Expression, Expressions, no_expression, expression_and}
use Rattle.meaning.specs.Mentions.{Named, Row, Call}
use Rattle.meaning.specs.FunctionFacts.{context_path, errgroup_path, is_of, CancelType, plain, with_cause}
use Rattle.meaning.specs.Tracked.{Fields, each_field, these_fields, ObjectLeft, left_of_outer, left_of_new, Known, Left, blank_left, name_left, field_left, other_left, lefts_of, plain_makers, cause_makers, Giving, facts_giving, maker_giving, GroupState, idle, live, made_by_values}
use Rattle.meaning.specs.Uses.{clears_by_value}

abbrev pub fields_view : KeptFields → Fields
fields_view Each = each_field
fields_view (These keeping filled) = these_fields (map (λ f. f.now) keeping.now) (map (λ f. f.now) filled.now)

abbrev pub object_left_view : KeptObjectLeft → ObjectLeft
object_left_view Outer = left_of_outer
object_left_view (New object number) = left_of_new object number

-- the first of these at that offset
abbrev pub left_among : List PlacedLeft → ℕ → Option ObjectLeft
left_among [] at = None
left_among (l ∷ ls) at = if l.at == at then Some (object_left_view l.left) else left_among ls at

abbrev pub known_view : KeptKnown → Known
known_view k = record {
  edition = k.edition;
  means = declared_at k.names.now k.file;
  fields = fields_view k.fields;
  object_lefts = left_among k.object_lefts.now;
  functions = facts_by_name k.table.now;
  imported = facts_by_path k.imported.now;
}

abbrev pub left_view : KeptLeft → Left
left_view Blank = blank_left
left_view (Name n number) = name_left (named_view n) number
left_view (Field at) = field_left at
left_view Other = other_left

-- `e.f`, with n where e is a name n
abbrev pub field_of : Option Named → Identifier → Left
field_of None f = other_left
field_of (Some n) f = field_left f.span.start

abbrev pub giving_view : KeptGiving → Giving
giving_view g = record { gives = map cancel_result_view g.gives.now; results = g.results }

-- the type of what the maker of that name in `context` gives
abbrev pub maker_type : List ℕ → Option CancelType
maker_type name =
    if list_any (bytes_eq name) plain_makers then Some plain
    else if list_any (bytes_eq name) cause_makers then Some with_cause
    else None

abbrev pub maker_or_giver : Option CancelType → Option Giving → Option Giving
maker_or_giver None giving = giving
maker_or_giver (Some t) giving = Some (maker_giving t)

-- what the maker or giver of that name gives in the package of that path
abbrev pub imported_giving : Known → List ℕ → List ℕ → Option Giving
imported_giving known path name =
    maker_or_giver (if bytes_eq path context_path then maker_type name else None)
    (facts_giving (known.imported path name))

abbrev pub state_view : KeptState → GroupState
state_view Idle = idle
state_view Live = live

abbrev pub only_value_of : Expressions → Option Expression
only_value_of no_expression = None
only_value_of (expression_and e no_expression) = Some e
only_value_of (expression_and e (expression_and f es)) = None

-- what the only value of the row makes
abbrev pub made_by_only : Known → Row → Option GroupState
made_by_only known row = made_by_values known row (length (lefts_of row.form)) row.values

-- the call is that of `errgroup.WithContext`
abbrev pub makes_with_context : Known → Option Call → Bool
makes_with_context known None = false
makes_with_context known (Some c) = is_of known.means errgroup_path (codes "WithContext") c.callee

-- the only value of the row clears its only left side
abbrev pub clears_by_only : Known → Row → Bool
clears_by_only known row = clears_by_value known (length (lefts_of row.form)) row.values
