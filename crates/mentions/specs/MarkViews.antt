-- What the marks that the program keeps stand for.
use Rattle.std.specs.Prelude.{ℕ, List, [], ◌∷◌, Option, Some, None, option_map, map, ◌≡◌, ◌++◌}
use Rattle.std.specs.Borrow.{Bor}
use Rattle.mentions.specs.declared.mark.Named.{Named as KeptNamed}
use Rattle.mentions.specs.declared.mark.RowForm.{RowForm as KeptForm}
use Rattle.mentions.specs.declared.mark.RowForm.TheVariants.{Defines, Assigns, Declares}
use Rattle.mentions.specs.declared.mark.Standing.{Standing as KeptStanding}
use Rattle.mentions.specs.declared.mark.Standing.TheVariants.{Ordinary, FirstOfFor, Communication}
use Rattle.mentions.specs.declared.mark.Row.{Row as KeptRow}
use Rattle.mentions.specs.declared.mark.CallPlace.{CallPlace as KeptPlace}
use Rattle.mentions.specs.declared.mark.CallPlace.TheVariants.{Nowhere, Statement, OnlyValue, ReturnItem, Deferred, UnderGo}
use Rattle.mentions.specs.declared.mark.Call.{Call as KeptCall}
use Rattle.mentions.specs.declared.mark.LiteralUse.{LiteralUse as KeptUse}
use Rattle.mentions.specs.declared.mark.LiteralUse.TheVariants.{Other, DeferredCall, CallUnderGo, StartedBy}
use Rattle.mentions.specs.declared.mark.Role.{Role as KeptRole}
use Rattle.mentions.specs.declared.mark.Role.TheVariants.{Elsewhere, Key, Exposed, PointedTo, FoundNil, FoundError, Called, CalledInBrackets, Argument, Returned, Left, NamesType, NewLiteral, ParameterPointer}
use Rattle.mentions.specs.declared.mark.Mention.{Mention as KeptMention}
use Rattle.mentions.specs.declared.mark.BodyPlace.{BodyPlace as KeptBody}
use Rattle.mentions.specs.declared.mark.FieldLeft.{FieldLeft as KeptFieldLeft}
use Rattle.mentions.specs.declared.mark.Assigned.{Assigned as KeptAssigned}
use Rattle.mentions.specs.declared.mark.Taker.{Taker as KeptTaker}
use Rattle.mentions.specs.declared.mark.Taker.TheVariants.{Nobody, CalledFunction, Appending, Method, Someone}
use Rattle.mentions.specs.declared.mark.FieldMark.{FieldMark as KeptFieldMark}
use Rattle.mentions.specs.declared.mark.FieldMark.TheVariants.{CallsField, WritesField, HandsOver, HandsLiteral, Renews, ImportsAll}
use Rattle.mentions.specs.declared.mark.Moment.{Moment as KeptMoment}
use Rattle.mentions.specs.declared.mark.Moment.TheVariants.{AtReturn, InGoroutine}
use Rattle.mentions.specs.declared.mark.Mark.{Mark as KeptMark}
use Rattle.mentions.specs.declared.mark.Mark.TheVariants.{Mentions, OfFields, RunsLiteral, Returns, Opens, Closes}
use Rattle.mentions.specs.declared.mark.Spot.{Spot as KeptSpot}
use Rattle.mentions.specs.declared.found.NilTest.{NilTest as KeptTest}
use Rattle.tree.specs.declared.operator.UnaryOperator.{UnaryOperator}
use Rattle.tree.specs.declared.operator.UnaryOperator.TheVariants.{Address}
use Rattle.tree.specs.declared.span.Span.{Span}
use Rattle.tree.specs.Syntax.{Identifier}
use Rattle.tree.specs.View.{identifier_syntax, parameters_syntax, signature_syntax, expression_syntax, expressions_syntax, optional_expression_syntax, statements_syntax}
use Rattle.meaning.specs.Mentions.{Named, RowForm, defines, assigns, declares, Standing, ordinary, first_of_for, communication, Row, CallPlace, nowhere, as_statement, only_value, return_item, deferred, under_go, Call, LiteralUse, other_use, deferred_call, call_under_go, started_by, Role, elsewhere, as_key, exposed, pointed_to, found_nil, found_error, called, called_in_brackets, argument, returned, left, names_type, new_literal, parameter_pointer, Mention, BodyPlace, FieldLeft, Assigned, Taker, no_taker, called_function, appending, method, some_taker, called_name, FieldMark, calls_field, writes_field, hands_over, hands_literal, renews, imports_all, Moment, at_return, in_goroutine, Mark, mentions, of_fields, runs_literal, returns, opens, closes, Spot, NilTest}

abbrev pub identifier_at : List ℕ → Span → Identifier
identifier_at text span = record { text = text; span = span }

abbrev pub named_view : KeptNamed → Named
named_view n = record { name = n.name.now; at = n.at; selected = option_map (λ m. m.now) n.selected }

abbrev pub form_view : KeptForm → RowForm
form_view (Defines ns) = defines (map identifier_syntax ns.now)
form_view (Assigns ls) = assigns (expressions_syntax ls.now)
form_view (Declares keyword ns t) = declares keyword (map identifier_syntax ns.now) (optional_expression_syntax t.now)

abbrev pub standing_view : KeptStanding → Standing
standing_view Ordinary = ordinary
standing_view FirstOfFor = first_of_for
standing_view Communication = communication

abbrev pub row_view : KeptRow → Row
row_view r = record {
  form = form_view r.form;
  values = expressions_syntax r.values.now;
  statement = r.statement;
  standing = standing_view r.standing;
}

abbrev pub place_view : KeptPlace → CallPlace
place_view Nowhere = nowhere
place_view Statement = as_statement
place_view (OnlyValue row) = only_value (row_view row.now)
place_view (ReturnItem k) = return_item k
place_view Deferred = deferred
place_view UnderGo = under_go

abbrev pub call_view : KeptCall → Call
call_view c = record {
  callee = named_view c.callee;
  arguments = expressions_syntax c.arguments.now;
  has_ellipsis = c.has_ellipsis;
  place = place_view c.place;
}

-- a call that is kept, if there is one
abbrev pub optional_call : Option (Bor KeptCall) → Option Call
optional_call c = option_map (λ (k : Bor KeptCall). call_view k.now) c

abbrev pub use_view : KeptUse → LiteralUse
use_view Other = other_use
use_view DeferredCall = deferred_call
use_view CallUnderGo = call_under_go
use_view (StartedBy n) = started_by (named_view n)

abbrev pub role_view : KeptRole → Role
role_view Elsewhere = elsewhere
role_view Key = as_key
role_view Exposed = exposed
role_view PointedTo = pointed_to
role_view (FoundNil nil) = found_nil nil
role_view (FoundError nil row) = found_error nil (row_view row.now)
role_view (Called c) = called (call_view c.now)
role_view CalledInBrackets = called_in_brackets
role_view (Argument has_address k c) = argument k has_address (call_view c.now)
role_view (Returned k) = returned k
role_view (Left k row) = left k (row_view row.now)
role_view (NamesType row) = names_type (row_view row.now)
role_view (NewLiteral row) = new_literal (row_view row.now)
role_view ParameterPointer = parameter_pointer

abbrev pub mention_view : KeptMention → Mention
mention_view m = record {
  named = named_view m.named;
  role = role_view m.role;
  site = m.site;
  declares = m.declares;
}

abbrev pub body_view : KeptBody → BodyPlace
body_view b = record {
  at = b.at;
  name = option_map (λ n. identifier_syntax n.now) b.name;
  receiver = option_map (λ ps. parameters_syntax ps.now) b.receiver;
  signature = signature_syntax b.signature.now;
  statements = statements_syntax b.statements.now;
  braces = b.braces;
  literal = use_view b.literal;
}

abbrev pub field_left_view : KeptFieldLeft → FieldLeft
field_left_view l = record {
  field = identifier_syntax l.field.now;
  object = option_map named_view l.object;
  has_brackets = l.has_brackets;
}

abbrev pub assigned_view : KeptAssigned → Assigned
assigned_view a = record { left_side = a.left_side; row = row_view a.row.now }

abbrev pub taker_view : KeptTaker → Taker
taker_view Nobody = no_taker
taker_view (CalledFunction c) = called_function (called_name (optional_call c))
taker_view (Appending n) = appending (named_view n.now)
taker_view (Method m) = method m.now
taker_view Someone = some_taker

abbrev pub field_mark_view : KeptFieldMark → FieldMark
field_mark_view (CallsField f) = calls_field f.now
field_mark_view (WritesField l by) = writes_field (field_left_view l) (option_map assigned_view by)
field_mark_view (HandsOver taker e) = hands_over (taker_view taker) (expression_syntax e.now)
field_mark_view (HandsLiteral taker at) = hands_literal (taker_view taker) at
field_mark_view (Renews number) = renews number
field_mark_view ImportsAll = imports_all

abbrev pub moment_view : KeptMoment → Moment
moment_view AtReturn = at_return
moment_view InGoroutine = in_goroutine

abbrev pub mark_view : KeptMark → Mark
mark_view (Mentions m) = mentions (mention_view m)
mark_view (OfFields site m) = of_fields site (field_mark_view m.now)
mark_view (RunsLiteral moment site at) = runs_literal (moment_view moment) site at
mark_view (Returns at es) = returns at (expressions_syntax es.now)
mark_view (Opens b) = opens (body_view b.now)
mark_view Closes = closes

abbrev pub marks_view : List KeptMark → List Mark
marks_view ms = map mark_view ms

abbrev pub spot_view : KeptSpot → Spot
spot_view s = record {
  place = place_view s.place;
  literal = use_view s.literal;
  taker = taker_view s.taker;
  site = s.site;
}

abbrev pub test_view : KeptTest → NilTest
test_view t = record { named = named_view t.named; nil = t.nil }

-- n of `&n`, where the operand's object is n
abbrev pub addressed_object : UnaryOperator → Option Named → Option Named
addressed_object Address object = object
addressed_object operator object = None

abbrev pub listed_test : Option NilTest → List NilTest
listed_test None = []
listed_test (Some t) = t ∷ []

-- the marks are added at the end of those that were there
abbrev pub Adds : List KeptMark → List KeptMark → List Mark → Type 0
Adds before after marks = marks_view after ≡ marks_view before ++ marks
