-- What is known of functions by their signatures.
--     func f(a int, c, d context.CancelFunc, e context.CancelCauseFunc, g *errgroup.Group)
--     func v(cs ...context.CancelFunc)
--     func mk() (context.Context, context.CancelCauseFunc, context.CancelFunc)
--     func init(c context.CancelFunc)
-- Each has a block without a statement. (This tool's rules.)
use Rattle.std.specs.Prelude.{ℕ, ◌≡◌, true, false, List, [], ◌∷◌, None, Some, codes}
use Rattle.tree.specs.declared.edition.Edition.{Edition}
use Rattle.tree.specs.declared.edition.Edition.TheVariants.{First, Second}
use Rattle.tree.specs.Syntax.{Expression, star_expression, no_parameter, named_and, unnamed_and, name_alone_and, Function}
use Rattle.meaning.specs.FunctionFacts.{plain, with_cause, cancel_type, group_type, TrackedParameter, CancelResult, FunctionFacts}
use Rattle.meaning.specs.TreeExamples.{node, name, use_of}
use Rattle.examples_of_rules.specs.Trees.{member, function_of, facts_in}

abbrev pub of_context : List ℕ → ℕ → Expression
of_context = member (codes "context")

abbrev pub taking : Function
taking =
    function_of (codes "f") 1000
    (named_and (name (codes "a") 1010) false (use_of (codes "int") 1012)
    (name_alone_and (name (codes "c") 1020)
    (named_and (name (codes "d") 1022) false (of_context (codes "CancelFunc") 1024)
    (named_and (name (codes "e") 1040) false (of_context (codes "CancelCauseFunc") 1042)
    (named_and (name (codes "g") 1060) false
    (node 1062 1080 (star_expression (member (codes "errgroup") (codes "Group") 1063)))
    no_parameter)))))
    no_parameter []

abbrev pub taking_many : Function
taking_many =
    function_of (codes "v") 3000
    (named_and (name (codes "cs") 3010) true (of_context (codes "CancelFunc") 3016) no_parameter) no_parameter []

abbrev pub giving : Function
giving =
    function_of (codes "mk") 5000 no_parameter
    (unnamed_and false (of_context (codes "Context") 5010)
    (unnamed_and false (of_context (codes "CancelCauseFunc") 5030)
    (unnamed_and false (of_context (codes "CancelFunc") 5050) no_parameter)))
    []

abbrev pub initial : Function
initial =
    function_of (codes "init") 7000
    (named_and (name (codes "c") 7010) false (of_context (codes "CancelFunc") 7012) no_parameter) no_parameter []

abbrev pub functions : List Function
functions = taking ∷ taking_many ∷ giving ∷ initial ∷ []

abbrev pub facts : List TrackedParameter → List CancelResult → ℕ → FunctionFacts
facts parameters gives results = record { parameters = parameters; gives = gives; results = results; unless = [] }

-- in both editions
pub record InBoth (edition : Edition) : Type 0 where
  -- a name alone has the type of the next one
  pub takes : facts_in edition functions (codes "f")
      ≡ Some (facts
      (record { position = 1; typed = cancel_type plain } ∷ record { position = 2; typed = cancel_type plain }
      ∷ record { position = 3; typed = cancel_type with_cause } ∷ record { position = 4; typed = group_type } ∷ [])
      [] 0)
  pub variadic_is_not_tracked : facts_in edition functions (codes "v") ≡ Some (facts [] [] 0)
  pub gives : facts_in edition functions (codes "mk")
      ≡ Some (facts [] (record { position = 1; type = with_cause } ∷ record { position = 2; type = plain } ∷ []) 3)
  pub nobody_calls_init : facts_in edition functions (codes "init") ≡ None
  pub of_no_function : facts_in edition functions (codes "g") ≡ None

pub record SignaturesTell : Type 0 where
  pub in_the_first : InBoth First
  pub in_the_second : InBoth Second
