-- What two functions do to a cancel variable. Each statement is a site; the numbers are the sites.
--     func f(p context.Context) context.CancelFunc {
--         _, c := context.WithCancel(p)     1100
--         c()                               1200
--         defer c()                         1300
--         go c()                            1400
--         h(c)                              1500
--         use(c)                            1600
--         defer func() { c() }()            1700, and 1720 in the literal
--         c = nil                           1800
--         return c                          1900
--     }
--     func h(c context.CancelFunc) { c() }
--     func k(p context.Context) {
--         _, c := context.WithCancel(p)     5100
--         c = q                             5200
--         context.WithCancel(p)             5300
--     }
-- (The documentation of `context`; this tool's rules.)
use Rattle.std.specs.Prelude.{ℕ, ◌+◌, true, false, List, [], ◌∷◌, ◌++◌, None, Some, codes}
use Rattle.tree.specs.declared.edition.Edition.{Edition}
use Rattle.tree.specs.declared.edition.Edition.TheVariants.{First, Second}
use Rattle.tree.specs.Syntax.{no_expression, Parameters, no_parameter, named_and, unnamed_and, Statement, assignment, go_statement, defer_statement, return_statement, Function}
use Rattle.meaning.specs.FunctionFacts.{cancel}
use Rattle.meaning.specs.Uses.{go_call, obtain, clear, call, defer_call, pass, defer_literal, go, return_event, cancel_discarded, cancel_used_otherwise, bound_again, fault_at}
use Rattle.meaning.specs.BodyEvents.{declared_in_body, captured}
use Rattle.meaning.specs.TreeExamples.{doing, name, use_of, only}
use Rattle.examples_of_rules.specs.Trees.{member, call_of, calling, block, doing_alone, literal, making, obtaining, function_of, Does, HasVariables, HasFaults}

-- `p context.Context`
abbrev pub context_at : ℕ → Parameters
context_at at = named_and (name (codes "p") at) false (member (codes "context") (codes "Context") (at + 2)) no_parameter

-- `context.CancelFunc`
abbrev pub cancel_result : ℕ → Parameters
cancel_result at = unnamed_and false (member (codes "context") (codes "CancelFunc") at) no_parameter

abbrev pub c_at : ℕ → Statement
c_at at = doing_alone (calling (codes "c") no_expression at) at

abbrev pub using : Function
using =
    function_of (codes "f") 1000 (context_at 1010) (cancel_result 1040)
    (obtaining (codes "c") 1100
    ∷ c_at 1200
    ∷ doing 1300 1330 (defer_statement (calling (codes "c") no_expression 1306))
    ∷ doing 1400 1430 (go_statement (calling (codes "c") no_expression 1403))
    ∷ doing_alone (calling (codes "h") (only (use_of (codes "c") 1502)) 1500) 1500
    ∷ doing_alone (calling (codes "use") (only (use_of (codes "c") 1604)) 1600) 1600
    ∷ doing 1700 1780 (defer_statement (call_of (literal (block (c_at 1720 ∷ [])) 1706) no_expression 1706))
    ∷ doing 1800 1810 (assignment (only (use_of (codes "c") 1800)) (only (use_of (codes "nil") 1804)))
    ∷ doing 1900 1910 (return_statement (only (use_of (codes "c") 1907)))
    ∷ [])

abbrev pub calling_it : Function
calling_it =
    function_of (codes "h") 3000
    (named_and (name (codes "c") 3010) false (member (codes "context") (codes "CancelFunc") 3012) no_parameter)
    no_parameter
    (c_at 3100 ∷ [])

abbrev pub clearing : Function
clearing =
    function_of (codes "k") 5000 (context_at 5010) no_parameter
    (obtaining (codes "c") 5100
    ∷ doing 5200 5210 (assignment (only (use_of (codes "c") 5200)) (only (use_of (codes "q") 5204)))
    ∷ doing_alone (making 5300) 5300
    ∷ [])

abbrev pub functions : List Function
functions = using ∷ calling_it ∷ clearing ∷ []

-- in both editions
pub record InBoth (edition : Edition) : Type 0 where
  pub obtained : Does edition functions 1000 1100
      (obtain record { number = 1103; at = 1103 } record { path = Some (codes "context"); name = codes "WithCancel" } 1
      true ∷ [])
  pub called : Does edition functions 1000 1200 (call 1103 ∷ [])
  pub deferred : Does edition functions 1000 1300 (defer_call 1103 ∷ [])
  pub passed : Does edition functions 1000 1500
      (pass record { number = 1103; at = 1502 } record { path = None; name = codes "h" } 0 ∷ [])
  pub given_elsewhere : Does edition functions 1000 1600 []
  pub by_a_literal : Does edition functions 1000 1700 (defer_literal 1706 ∷ [])
  pub within_the_literal : Does edition functions 1706 1720 (call 1103 ∷ [])
  pub bound_to_nil : Does edition functions 1000 1800 (clear record { number = 1103; at = 1800 } ∷ [])
  pub handed_on : Does edition functions 1000 1900
      (return_event (record { number = 1103; position = 0; object = None } ∷ []) ∷ [])
  pub variables : HasVariables edition functions 1000
      (record { number = 1103; name = codes "c"; kind = cancel; role = declared_in_body; first = 1103 } ∷ [])
  pub captured_by_the_literal : HasVariables edition functions 1706
      (record { number = 1103; name = codes "c"; kind = cancel; role = captured; first = 1720 } ∷ [])

pub record CancelFunctionsAreFollowed : Type 0 where
  pub in_the_first : InBoth First
  pub in_the_second : InBoth Second
  -- under `go` a goroutine calls it in the second
  pub under_go_in_the_first : Does First functions 1000 1400 []
  pub under_go_in_the_second : Does Second functions 1000 1400 (go (go_call 1103) ∷ [])
  -- as an argument of a function that takes none it is only read there
  pub faults_in_the_first : HasFaults First functions 1000
      (fault_at 1403 cancel_used_otherwise (codes "c") ++ (fault_at 1604 cancel_used_otherwise (codes "c")
      ++ fault_at 1800 bound_again (codes "c")))
  pub faults_in_the_second : HasFaults Second functions 1000 (fault_at 1800 bound_again (codes "c"))
  -- another value than `nil` clears it in the second
  pub bound_in_the_first : Does First functions 5000 5200 []
  pub bound_in_the_second : Does Second functions 5000 5200 (clear record { number = 5103; at = 5200 } ∷ [])
  pub discarded_in_the_first : HasFaults First functions 5000
      (fault_at 5200 cancel_used_otherwise (codes "c") ++ fault_at 5300 cancel_discarded (codes "WithCancel"))
  pub discarded_in_the_second : HasFaults Second functions 5000 (fault_at 5300 cancel_discarded (codes "WithCancel"))
