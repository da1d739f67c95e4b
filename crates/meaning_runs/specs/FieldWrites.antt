-- What gives a field a value, by the form of a statement: each left side `e.f`, in brackets or not, is marked. And
-- where what a variable holds is kept in a field of an object, each such mark of that field of that object puts there
-- what this variable holds: the rule for fields sees all that the tree writes through the object.
-- (The Go specification, "Assignment statements", "IncDec statements", "For statements with range clause".)
use Rattle.std.specs.Prelude.{ℕ, ◌≡◌, ◌++◌, true, List, [], ◌∷◌, Option, Some, None, Contains}
use Rattle.std.specs.Str.{bytes_eq}
use Rattle.tree.specs.Syntax.{Expressions, no_expression, expression_and, StatementForm, empty_statement, declaration_statement, labeled_statement, expression_statement, send_statement, increment_statement, decrement_statement, assignment, operator_assignment, define_statement, go_statement, defer_statement, return_statement, break_statement, continue_statement, goto_statement, fallthrough_statement, block_statement, if_statement, for_statement, range_assignment, range_definition, switch_statement, type_switch_statement, select_statement}
use Rattle.meaning.specs.Mentions.{Standing, BodyPlace, FieldLeft, Assigned, writes_field, of_fields, field_left, statement_form_marks}
use Rattle.meaning.specs.Objects.{local_named}
use Rattle.meaning.specs.Uses.{Seen}
use Rattle.meaning.specs.Kept.{Keep, keeps_there, is_same_place, kept_of}

abbrev pub one_field : Option FieldLeft → List FieldLeft
one_field None = []
one_field (Some l) = l ∷ []

abbrev pub fields_on_left : Expressions → List FieldLeft
fields_on_left no_expression = []
fields_on_left (expression_and e es) = one_field (field_left e) ++ fields_on_left es

-- what the statement itself gives a value, and no statement in it
abbrev pub fields_written_by : StatementForm → List FieldLeft
fields_written_by empty_statement = []
fields_written_by (declaration_statement d) = []
fields_written_by (labeled_statement n s) = []
fields_written_by (expression_statement e) = []
fields_written_by (send_statement c v) = []
fields_written_by (increment_statement e) = one_field (field_left e)
fields_written_by (decrement_statement e) = one_field (field_left e)
fields_written_by (assignment ls rs) = fields_on_left ls
fields_written_by (operator_assignment op l r) = one_field (field_left l)
-- these declare names
fields_written_by (define_statement ns rs) = []
fields_written_by (go_statement e) = []
fields_written_by (defer_statement e) = []
fields_written_by (return_statement es) = []
fields_written_by (break_statement n) = []
fields_written_by (continue_statement n) = []
fields_written_by (goto_statement n) = []
fields_written_by fallthrough_statement = []
fields_written_by (block_statement ss braces) = []
fields_written_by (if_statement init has_semicolon c ss braces otherwise) = []
fields_written_by (for_statement init c post has_semicolons ss braces) = []
fields_written_by (range_assignment ls e ss braces) = fields_on_left ls
fields_written_by (range_definition ns e ss braces) = []
fields_written_by (switch_statement init has_semicolon tag cs) = []
fields_written_by (type_switch_statement init has_semicolon n e cs) = []
-- what a clause of a `select` waits for is a statement of its own
fields_written_by (select_statement cs) = []

abbrev pub FieldWritesAreMarked : Type 0
FieldWritesAreMarked = (standing : Standing) (at : ℕ) (form : StatementForm) (l : FieldLeft)
    → Contains (fields_written_by form) l
    → (by : Option Assigned) × Contains (statement_form_marks standing at form) (of_fields at (writes_field l by))

abbrev pub FieldWritesAreKept : Type 0
FieldWritesAreKept = (seen : Seen) (k : Keep) (bodies : List BodyPlace) (site : ℕ) (l : FieldLeft)
    (by : Option Assigned)
    → Contains (kept_of seen) k
    → Contains seen.marks record { mark = of_fields site (writes_field l by); bodies = bodies }
    → local_named seen.known l.object ≡ Some k.object
    → bytes_eq l.field.text k.field ≡ true
    → (q : Keep) × Contains (keeps_there seen bodies (of_fields site (writes_field l by))) q × (q.variable ≡ k.variable)

-- each variable has one object and field, and each of these one variable
abbrev pub KeptRowsAreApart : Type 0
KeptRowsAreApart = (seen : Seen) (k q : Keep)
    → Contains (kept_of seen) k
    → Contains (kept_of seen) q
    → (k.variable ≡ q.variable → is_same_place k q ≡ true) × (is_same_place k q ≡ true → k.variable ≡ q.variable)
