-- Small functions by both editions of the rules: what is a fault, and what stands at the braces of an `if`.
use Rattle.std.proofs.Common.{◌≡◌, ℕ, ◌+◌, true, false, List, [], ◌∷◌, None, refl, Some, ◌++◌}
use Rattle.std.specs.Prelude.{codes}
use Rattle.tree.specs.declared.operator.BinaryOperator.{BinaryOperator}
use Rattle.tree.specs.declared.operator.BinaryOperator.TheVariants.{Equal, NotEqual, LogicalAnd, LogicalOr, Add}
use Rattle.tree.specs.declared.operator.UnaryOperator.TheVariants.{Address}
use Rattle.tree.specs.Syntax.{Expression, parenthesized, unary_expression, binary_expression, no_expression, expression_and, expression_statement, assignment, if_statement, no_statement, statement_and, missing_statement, Function, Expressions, StatementForm, Statement, Statements, call_expression, increment_statement, operator_assignment, range_assignment, go_statement, define_statement, return_statement, no_parameter, named_and, unnamed_and, signature_of}
use Rattle.tree.specs.declared.edition.Edition.{Edition}
use Rattle.tree.specs.declared.edition.Edition.TheVariants.{First, Second}
use Rattle.meaning.specs.Uses.{Seen, Event, call, UseFault, fault_at, cancel_used_otherwise, clear}
use Rattle.meaning.specs.BodyEvents.{seen_file, events_at, body_faults}
use Rattle.meaning.specs.Kept.{gifts}
use Rattle.meaning_reports.specs.Loaded.{has_tree, LoadedPackage, no_tables, known_in}
use Rattle.meaning_runs.specs.Examples.{from_to, doing, node, use_of, call_at, binding_at, function_to, file_with, name, maker_at, of_context}
use Rattle.meaning_runs.specs.LoudReturns.{using}
use Rattle.meaning_runs.proofs.ExampleBodies.{seeing}

abbrev loaded_by : Edition → List Function → LoadedPackage
loaded_by edition fs = record { path = codes "a"; files = has_tree (file_with fs) ∷ []; edition = edition }

abbrev seen_by : Edition → Function → Seen
seen_by edition f = seen_file (known_in (loaded_by edition (f ∷ []) ∷ []) no_tables (loaded_by edition (f ∷ [])) 0) (file_with (f ∷ []))

abbrev faults_by : Edition → Function → List UseFault
faults_by edition f = body_faults (seen_by edition f) 29

abbrev events_by : Edition → Function → ℕ → List Event
events_by edition f at = events_at (seen_by edition f) 29 (seen_by edition f).marks at

-- `_ = cancel`
using_first : faults_by First using ≡ fault_at 98 cancel_used_otherwise (codes "cancel")
unfolding seeing
using_first = refl

using_second : faults_by Second using ≡ []
unfolding seeing gifts
using_second = refl

-- `_ = &cancel`, and `_ = &(cancel)`
abbrev addressing : Expression → Function
addressing e =
    function_to 109
    (statement_and (binding_at 58)
    (statement_and (doing 94 107 (assignment
    (expression_and (use_of (codes "_") 94) no_expression)
    (expression_and (node 98 107 (unary_expression Address e)) no_expression)))
    no_statement))

address_second : faults_by Second (addressing (use_of (codes "cancel") 99)) ≡ fault_at 99 cancel_used_otherwise (codes "cancel")
unfolding seeing gifts
address_second = refl

brackets_second : faults_by Second (addressing (node 99 107 (parenthesized (use_of (codes "cancel") 100)))) ≡ fault_at 100 cancel_used_otherwise (codes "cancel")
unfolding seeing gifts
brackets_second = refl

-- `(cancel) = nil`
abbrev rebinding : Function
rebinding =
    function_to 110
    (statement_and (binding_at 58)
    (statement_and (doing 94 108 (assignment
    (expression_and (node 94 102 (parenthesized (use_of (codes "cancel") 95))) no_expression)
    (expression_and (use_of (codes "nil") 105) no_expression)))
    no_statement))

rebinding_second : faults_by Second rebinding ≡ fault_at 95 cancel_used_otherwise (codes "cancel")
unfolding seeing gifts
rebinding_second = refl

-- `if cancel != nil { cancel() }`, or with `==`
abbrev guarding : BinaryOperator → Function
guarding op =
    function_to 128
    (statement_and (binding_at 58)
    (statement_and (doing 94 126 (if_statement missing_statement false
    (node 97 110 (binary_expression op (use_of (codes "cancel") 97) (use_of (codes "nil") 107)))
    (statement_and (doing 115 123 (expression_statement (call_at 115))) no_statement)
    (from_to 111 126) missing_statement))
    no_statement))

guard_first : faults_by First (guarding NotEqual) ≡ fault_at 97 cancel_used_otherwise (codes "cancel")
unfolding seeing
guard_first = refl

guard_first_gives_nothing : events_by First (guarding NotEqual) 125 ≡ []
unfolding seeing
guard_first_gives_nothing = refl

guard_second : faults_by Second (guarding NotEqual) ≡ []
unfolding seeing gifts
guard_second = refl

guard_second_past : events_by Second (guarding NotEqual) 125 ≡ call 61 ∷ []
unfolding seeing gifts
guard_second_past = refl

guard_second_block : events_by Second (guarding NotEqual) 111 ≡ []
unfolding seeing gifts
guard_second_block = refl

equal_second_past : events_by Second (guarding Equal) 125 ≡ []
unfolding seeing gifts
equal_second_past = refl

equal_second_block : events_by Second (guarding Equal) 111 ≡ call 61 ∷ []
unfolding seeing gifts
equal_second_block = refl

-- `if cancel != nil && p != nil { .. }` says nothing past it, and `if p == nil || cancel != nil { .. }` does
abbrev both_operands : BinaryOperator → BinaryOperator → Expression
both_operands op test =
    node 97 121 (binary_expression op
    (node 97 110 (binary_expression test (use_of (codes "cancel") 97) (use_of (codes "nil") 107)))
    (node 112 121 (binary_expression NotEqual (use_of (codes "p") 112) (use_of (codes "nil") 118))))

abbrev joined : BinaryOperator → BinaryOperator → Function
joined op test =
    function_to 139
    (statement_and (binding_at 58)
    (statement_and (doing 94 137 (if_statement missing_statement false (both_operands op test)
    (statement_and (doing 126 134 (expression_statement (call_at 126))) no_statement)
    (from_to 122 137) missing_statement))
    no_statement))

and_second : events_by Second (joined LogicalAnd NotEqual) 136 ≡ []
unfolding seeing gifts
and_second = refl

and_second_block : events_by Second (joined LogicalAnd Equal) 122 ≡ call 61 ∷ []
unfolding seeing gifts
and_second_block = refl

or_second : events_by Second (joined LogicalOr NotEqual) 136 ≡ call 61 ∷ []
unfolding seeing gifts
or_second = refl

or_second_block : events_by Second (joined LogicalOr Equal) 122 ≡ []
unfolding seeing gifts
or_second_block = refl

-- A second statement behind `_, cancel := context.WithCancel(p)`, from offset 94 to that one

abbrev beside : ℕ → StatementForm → Function
beside end form =
    function_to (end + 2) (statement_and (binding_at 58) (statement_and (doing 94 end form) no_statement))

abbrev one_of : Expression → Expressions
one_of e = expression_and e no_expression

abbrev said_at : ℕ → List UseFault
said_at at = fault_at at cancel_used_otherwise (codes "cancel")

-- `cancel = p`
abbrev clearing : Function
clearing = beside 104 (assignment (one_of (use_of (codes "cancel") 94)) (one_of (use_of (codes "p") 103)))

clear_first : faults_by First clearing ≡ said_at 94
unfolding seeing
clear_first = refl

clear_second : faults_by Second clearing ≡ []
unfolding seeing gifts
clear_second = refl

clear_second_events : events_by Second clearing 94 ≡ clear record { number = 61; at = 94 } ∷ []
unfolding seeing gifts
clear_second_events = refl

-- `cancel, p = p, context.WithCancel(p)`: a pair whose other value is a maker's call clears, and the call is a fault
abbrev pairing : Function
pairing =
    beside 131 (assignment
    (expression_and (use_of (codes "cancel") 94) (one_of (use_of (codes "p") 102)))
    (expression_and (use_of (codes "p") 106) (one_of (maker_at 109))))

pair_second : events_by Second pairing 94 ≡ clear record { number = 61; at = 94 } ∷ []
unfolding seeing gifts
pair_second = refl

pair_second_said : faults_by Second pairing ≡ fault_at 109 cancel_used_otherwise (codes "WithCancel")
unfolding seeing gifts
pair_second_said = refl

-- `cancel, p = context.WithCancel(p), p`: the value of the pair is the call
abbrev crossing : Function
crossing =
    beside 131 (assignment
    (expression_and (use_of (codes "cancel") 94) (one_of (use_of (codes "p") 102)))
    (expression_and (maker_at 106) (one_of (use_of (codes "p") 129))))

cross_second : events_by Second crossing 94 ≡ []
unfolding seeing gifts
cross_second = refl

cross_second_said : faults_by Second crossing ≡ fault_at 106 cancel_used_otherwise (codes "WithCancel") ++ said_at 94
unfolding seeing gifts
cross_second_said = refl

-- `cancel, p = p()`: one call for several names
abbrev spreading : Function
spreading =
    beside 109 (assignment
    (expression_and (use_of (codes "cancel") 94) (one_of (use_of (codes "p") 102)))
    (one_of (node 106 109 (call_expression (use_of (codes "p") 106) no_expression false))))

spread_first : faults_by First spreading ≡ said_at 94
unfolding seeing
spread_first = refl

spread_second : events_by Second spreading 94 ≡ clear record { number = 61; at = 94 } ∷ []
unfolding seeing gifts
spread_second = refl

-- `cancel, p, p = p, p`: two values for three names bind nothing
abbrev missing_one : Function
missing_one =
    beside 121 (assignment
    (expression_and (use_of (codes "cancel") 94) (expression_and (use_of (codes "p") 102) (one_of (use_of (codes "p") 105))))
    (expression_and (use_of (codes "p") 109) (one_of (use_of (codes "p") 112))))

missing_second : events_by Second missing_one 94 ≡ []
unfolding seeing gifts
missing_second = refl

missing_second_said : faults_by Second missing_one ≡ said_at 94
unfolding seeing gifts
missing_second_said = refl

-- `cancel++`
incrementing_second : faults_by Second (beside 102 (increment_statement (use_of (codes "cancel") 94))) ≡ said_at 94
unfolding seeing gifts
incrementing_second = refl

incrementing_first : faults_by First (beside 102 (increment_statement (use_of (codes "cancel") 94))) ≡ said_at 94
unfolding seeing
incrementing_first = refl

-- `cancel += p`
adding_second
    : faults_by Second (beside 105 (operator_assignment Add (use_of (codes "cancel") 94) (use_of (codes "p") 104))) ≡ said_at 94
unfolding seeing gifts
adding_second = refl

-- `for cancel = range p {}`
ranging_second
    : faults_by Second (beside 117 (range_assignment (one_of (use_of (codes "cancel") 98)) (use_of (codes "p") 113) no_statement (from_to 115 117)))
    ≡ said_at 98
unfolding seeing gifts
ranging_second = refl

-- `go p(cancel)`
abbrev going : Function
going = beside 106 (go_statement (node 97 106 (call_expression (use_of (codes "p") 97) (one_of (use_of (codes "cancel") 99)) false)))

going_first : faults_by First going ≡ said_at 99
unfolding seeing
going_first = refl

going_second : faults_by Second going ≡ []
unfolding seeing gifts
going_second = refl

going_second_events : events_by Second going 94 ≡ []
unfolding seeing gifts
going_second_events = refl

-- `if nil == cancel { cancel() }`
abbrev turned : Function
turned =
    beside 126 (if_statement missing_statement false
    (node 97 110 (binary_expression Equal (use_of (codes "nil") 97) (use_of (codes "cancel") 104)))
    (statement_and (doing 115 123 (expression_statement (call_at 115))) no_statement)
    (from_to 111 126) missing_statement)

turned_second : events_by Second turned 111 ≡ call 61 ∷ []
unfolding seeing gifts
turned_second = refl

turned_second_past : events_by Second turned 125 ≡ []
unfolding seeing gifts
turned_second_past = refl

-- A giver with an error:
--     func f(p context.Context) {
--         _, cancel, err := g(p)
--         if err != nil {
--             return
--         }
--         cancel()
--     }
-- where something may stand between the row and the `if`, and `==` for `!=`
abbrev row_of_giver : Statement
row_of_giver =
    doing 58 80 (define_statement
    (name (codes "_") 58 ∷ name (codes "cancel") 61 ∷ name (codes "err") 69 ∷ [])
    (one_of (node 76 80 (call_expression (use_of (codes "g") 76) (one_of (use_of (codes "p") 78)) false))))

abbrev if_error : BinaryOperator → Statement
if_error op =
    doing 82 109 (if_statement missing_statement false
    (node 85 95 (binary_expression op (use_of (codes "err") 85) (use_of (codes "nil") 92)))
    (statement_and (doing 100 106 (return_statement no_expression)) no_statement)
    (from_to 96 109) missing_statement)

abbrev asking : (Statements → Statements) → BinaryOperator → Function
asking between op =
    function_to 121
    (statement_and row_of_giver
    (between (statement_and (if_error op)
    (statement_and (doing 111 119 (expression_statement (call_at 111))) no_statement))))

-- which gives nothing where it gives an error:
--     func g(p context.Context) (context.Context, context.CancelFunc, error) {
--         if p == nil {
--             return nil, nil, p
--         }
--         ctx, cancel := context.WithCancel(p)
--         return ctx, cancel, nil
--     }
-- where the last item may be another one
abbrev three : Expression → Expression → Expression → Expressions
three a b c = expression_and a (expression_and b (one_of c))

abbrev giving : Expression → Function
giving last = record {
  receiver = None;
  name = name (codes "g") 128;
  type_parameters = no_parameter;
  signature =
      signature_of (named_and (name (codes "p") 130) false (of_context (codes "Context") 132) no_parameter)
      (unnamed_and false (of_context (codes "Context") 150)
      (unnamed_and false (of_context (codes "CancelFunc") 167)
      (unnamed_and false (use_of (codes "error") 187) no_parameter)))
      true;
  body =
      Some record {
        statements =
            statement_and (doing 197 233 (if_statement missing_statement false
            (node 200 208 (binary_expression Equal (use_of (codes "p") 200) (use_of (codes "nil") 205)))
            (statement_and (doing 212 230 (return_statement (three
            (use_of (codes "nil") 219) (use_of (codes "nil") 224) (use_of (codes "p") 229)))) no_statement)
            (from_to 209 233) missing_statement))
            (statement_and (doing 235 271 (define_statement
            (name (codes "ctx") 235 ∷ name (codes "cancel") 240 ∷ [])
            (one_of (maker_at 250))))
            (statement_and (doing 273 296 (return_statement (three
            (use_of (codes "ctx") 280) (use_of (codes "cancel") 285) last)))
            no_statement));
        braces = from_to 194 298;
      };
  span = from_to 123 298;
}

abbrev no_error : Expression
no_error = use_of (codes "nil") 293

abbrev seen_of : Edition → List Function → Seen
seen_of edition fs = seen_file (known_in (loaded_by edition fs ∷ []) no_tables (loaded_by edition fs) 0) (file_with fs)

abbrev given_at : Edition → Function → Function → ℕ → List Event
given_at edition f g at = events_at (seen_of edition (f ∷ g ∷ [])) 29 (seen_of edition (f ∷ g ∷ [])).marks at

abbrev at_once : Statements → Statements
at_once ss = ss

-- `p()` stands between
abbrev later : Statements → Statements
later ss = statement_and (doing 81 82 (expression_statement (node 81 82 (call_expression (use_of (codes "p") 81) no_expression false)))) ss

error_first : given_at First (asking at_once NotEqual) (giving no_error) 96 ≡ []
unfolding seeing
error_first = refl

error_second : given_at Second (asking at_once NotEqual) (giving no_error) 96 ≡ call 61 ∷ []
unfolding seeing gifts
error_second = refl

error_second_past : given_at Second (asking at_once NotEqual) (giving no_error) 108 ≡ []
unfolding seeing gifts
error_second_past = refl

no_error_second : given_at Second (asking at_once Equal) (giving no_error) 96 ≡ []
unfolding seeing gifts
no_error_second = refl

no_error_second_past : given_at Second (asking at_once Equal) (giving no_error) 108 ≡ call 61 ∷ []
unfolding seeing gifts
no_error_second_past = refl

-- where something stands between, and where the giver may give both, nothing is known
later_second : given_at Second (asking later NotEqual) (giving no_error) 96 ≡ []
unfolding seeing gifts
later_second = refl

both_given_second : given_at Second (asking at_once NotEqual) (giving (use_of (codes "p") 293)) 96 ≡ []
unfolding seeing gifts
both_given_second = refl
