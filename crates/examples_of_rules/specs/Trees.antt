-- How the trees of the examples are written, and what is known of a package of one file. Offsets are those of no text:
-- only their order counts. Each function stands in a comment above its tree.
use Rattle.std.specs.Prelude.{ℕ, ◌+◌, ◌≡◌, false, List, [], ◌∷◌, map, Option, None, Some, codes}
use Rattle.tree.specs.declared.edition.Edition.{Edition}
use Rattle.tree.specs.Syntax.{Expression, selector_expression, call_expression, function_literal, Expressions, no_expression, expression_and, Parameters, no_parameter, signature_of, Statement, expression_statement, define_statement, Statements, no_statement, statement_and, Function, function_declaration, ImportSpec, SourceFile}
use Rattle.meaning.specs.Declarations.{declaration_of_use}
use Rattle.meaning.specs.TreeExamples.{from_to, node, doing, name, use_of, only}
use Rattle.meaning.specs.FunctionFacts.{Meanings, FunctionFacts, package_facts}
use Rattle.meaning.specs.Tracked.{these_fields, Known}
use Rattle.meaning.specs.Uses.{Seen, Event, UseFault}
use Rattle.meaning.specs.BodyEvents.{Variable, seen_file, events_at, variables_of, body_faults}

-- Parts of functions

-- `n.m`
abbrev pub member : List ℕ → List ℕ → ℕ → Expression
member n m at = node at (at + 9) (selector_expression (use_of n at) (name m (at + 5)))

-- `f(es)`
abbrev pub call_of : Expression → Expressions → ℕ → Expression
call_of f es at = node at (at + 30) (call_expression f es false)

-- `n(es)`
abbrev pub calling : List ℕ → Expressions → ℕ → Expression
calling n es at = call_of (use_of n at) es at

abbrev pub expressions : List Expression → Expressions
expressions [] = no_expression
expressions (e ∷ es) = expression_and e (expressions es)

abbrev pub block : List Statement → Statements
block [] = no_statement
block (s ∷ ss) = statement_and s (block ss)

-- an expression alone
abbrev pub doing_alone : Expression → ℕ → Statement
doing_alone e at = doing at (at + 30) (expression_statement e)

-- `func() { ss }`
abbrev pub literal : Statements → ℕ → Expression
literal ss at =
    node at (at + 60) (function_literal (signature_of no_parameter no_parameter false) ss (from_to (at + 8) (at + 60)))

-- `context.WithCancel(p)`
abbrev pub making : ℕ → Expression
making at =
    call_of (member (codes "context") (codes "WithCancel") at) (only (use_of (codes "p") (at + 20))) at

-- `_, n := context.WithCancel(p)`
abbrev pub obtaining : List ℕ → ℕ → Statement
obtaining n at =
    doing at (at + 50) (define_statement (name (codes "_") at ∷ name n (at + 3) ∷ []) (only (making (at + 10))))

-- Functions and files

-- `func n(ps) rs { ss }`, whose body begins 90 behind it
abbrev pub function_of : List ℕ → ℕ → Parameters → Parameters → List Statement → Function
function_of n at ps rs ss = record {
  receiver = None;
  name = name n (at + 5);
  type_parameters = no_parameter;
  signature = signature_of ps rs false;
  body = Some record { statements = block ss; braces = from_to (at + 90) (at + 1900) };
  span = from_to at (at + 1900);
}

abbrev pub importing : List ℕ → ℕ → ImportSpec
importing path at = record { name = None; path = path; path_span = from_to at (at + 9); span = from_to at (at + 9) }

-- a file that imports `context` and `golang.org/x/sync/errgroup`, and has these functions
abbrev pub file_of : List Function → SourceFile
file_of fs = record {
  package_name = name (codes "a") 8;
  imports =
      record {
        specs = importing (codes "context") 20 ∷ importing (codes "golang.org/x/sync/errgroup") 30 ∷ [];
        is_grouped = false;
        span = from_to 10 40;
      }
      ∷ [];
  declarations = map function_declaration fs;
  span = from_to 0 9000;
}

-- What is known of such a file, as the only one of its package

abbrev pub means_in : List Function → Meanings
means_in fs = declaration_of_use (file_of fs ∷ []) (λ path. None) 0

abbrev pub facts_in : Edition → List Function → List ℕ → Option FunctionFacts
facts_in edition fs = package_facts edition (λ file. means_in fs) (file_of fs ∷ [])

abbrev pub known_in : Edition → List Function → Known
known_in edition fs = record {
  edition = edition;
  means = means_in fs;
  fields = these_fields [] [];
  object_lefts = λ at. None;
  functions = facts_in edition fs;
  imported = λ path name. None;
}

abbrev pub seen_in_file : Edition → List Function → Seen
seen_in_file edition fs = seen_file (known_in edition fs) (file_of fs)

-- the body whose `func` stands at the offset does this at a site
abbrev pub Does : Edition → List Function → ℕ → ℕ → List Event → Type 0
Does edition fs body at events =
    events_at (seen_in_file edition fs) body (seen_in_file edition fs).marks at ≡ events

-- it has these variables
abbrev pub HasVariables : Edition → List Function → ℕ → List Variable → Type 0
HasVariables edition fs body vs = variables_of (seen_in_file edition fs) body ≡ vs

-- and these uses are not allowed
abbrev pub HasFaults : Edition → List Function → ℕ → List UseFault → Type 0
HasFaults edition fs body faults = body_faults (seen_in_file edition fs) body ≡ faults
