-- What conditions tell. At the last brace of a block stands what is nil past it, at its first brace what is so in it.
--     func f(p context.Context) {
--         _, c := context.WithCancel(p)     1100
--         if c != nil { c() }               1200, braces at 1220 and 1259
--     }
--     func mk() (context.CancelFunc, error) {
--         if b { return nil, e }
--         return q, nil
--     }
--     func k() {
--         c, err := mk()                    5100
--         if err != nil { q }               5200, braces at 5220 and 5259
--     }
-- (This tool's rules.)
use Rattle.std.specs.Prelude.{◌≡◌, true, false, List, [], ◌∷◌, None, Some, codes}
use Rattle.tree.specs.declared.edition.Edition.TheVariants.{First, Second}
use Rattle.tree.specs.declared.operator.BinaryOperator.TheVariants.{NotEqual}
use Rattle.tree.specs.Syntax.{binary_expression, no_expression, no_parameter, unnamed_and, define_statement, return_statement, if_statement, missing_statement, Function}
use Rattle.meaning.specs.FunctionFacts.{plain, Unless, FunctionFacts}
use Rattle.meaning.specs.Uses.{obtain, call, cancel_used_otherwise, fault_at}
use Rattle.meaning.specs.TreeExamples.{from_to, node, doing, name, use_of, only}
use Rattle.examples_of_rules.specs.Trees.{member, calling, expressions, block, doing_alone, obtaining, function_of, facts_in, Does, HasFaults}
use Rattle.examples_of_rules.specs.CancelExamples.{context_at, c_at}

abbrev pub guarding : Function
guarding =
    function_of (codes "f") 1000 (context_at 1010) no_parameter
    (obtaining (codes "c") 1100
    ∷ doing 1200 1260 (if_statement missing_statement false
    (node 1203 1211 (binary_expression NotEqual (use_of (codes "c") 1203) (use_of (codes "nil") 1208)))
    (block (c_at 1230 ∷ [])) (from_to 1220 1260) missing_statement)
    ∷ [])

abbrev pub giving : Function
giving =
    function_of (codes "mk") 3000 no_parameter
    (unnamed_and false (member (codes "context") (codes "CancelFunc") 3010)
    (unnamed_and false (use_of (codes "error") 3025) no_parameter))
    (doing 3100 3150 (if_statement missing_statement false (use_of (codes "b") 3103)
    (block (doing 3120 3140
    (return_statement (expressions (use_of (codes "nil") 3127 ∷ use_of (codes "e") 3132 ∷ []))) ∷ []))
    (from_to 3110 3150) missing_statement)
    ∷ doing 3200 3220 (return_statement (expressions (use_of (codes "q") 3207 ∷ use_of (codes "nil") 3210 ∷ [])))
    ∷ [])

abbrev pub asking : Function
asking =
    function_of (codes "k") 5000 no_parameter no_parameter
    (doing 5100 5140 (define_statement (name (codes "c") 5100 ∷ name (codes "err") 5103 ∷ [])
    (only (calling (codes "mk") no_expression 5110)))
    ∷ doing 5200 5260 (if_statement missing_statement false
    (node 5203 5213 (binary_expression NotEqual (use_of (codes "err") 5203) (use_of (codes "nil") 5210)))
    (block (doing_alone (use_of (codes "q") 5230) 5230 ∷ [])) (from_to 5220 5260) missing_statement)
    ∷ [])

abbrev pub functions : List Function
functions = guarding ∷ giving ∷ asking ∷ []

-- what is known of `mk`, where so much is known of its error
abbrev pub facts_of_giver : List Unless → FunctionFacts
facts_of_giver unless = record {
  parameters = [];
  gives = record { position = 0; type = plain } ∷ [];
  results = 2;
  unless = unless;
}

pub record ConditionsTell : Type 0 where
  -- where it is nil nothing is left to call
  pub in_the_block : Does Second functions 1000 1220 []
  pub in_it_it_is_called : Does Second functions 1000 1230 (call 1103 ∷ [])
  pub past_the_block : Does Second functions 1000 1259 (call 1103 ∷ [])
  pub is_read : HasFaults Second functions 1000 []
  pub tells_nothing_in_the_first : Does First functions 1000 1259 []
  pub is_a_fault_in_the_first : HasFaults First functions 1000 (fault_at 1203 cancel_used_otherwise (codes "c"))
  -- one of the two results is nil at each return
  pub gives_or_fails : facts_in Second functions (codes "mk")
      ≡ Some (facts_of_giver (record { given = 0; error = 1 } ∷ []))
  pub gives_in_the_first : facts_in First functions (codes "mk") ≡ Some (facts_of_giver [])
  -- where the error is not nil nothing was given
  pub giver_gives : Does Second functions 5000 5100
      (obtain record { number = 5100; at = 5100 } record { path = None; name = codes "mk" } 0 true ∷ [])
  pub where_it_failed : Does Second functions 5000 5220 (call 5100 ∷ [])
  pub where_it_did_not : Does Second functions 5000 5259 []
  pub fails_in_the_first : Does First functions 5000 5220 []
