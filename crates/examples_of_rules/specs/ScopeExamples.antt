-- Names, and what they mean. The functions stand in one file:
--     func f(a context.Context) (err error) {
--         b, a := q, a
--         if x := a; x { c := x } else { x }
--         x
--         func() { b }()
--         context := h
--         context
--     }
--     func h() {}
--     func h() {}
-- (The Go specification, "Declarations and scope", "Short variable declarations", "Blocks".)
use Rattle.std.specs.Prelude.{ℕ, ◌≡◌, false, [], ◌∷◌, None, Some, codes}
use Rattle.tree.specs.declared.operator.DeclKeyword.TheVariants.{Var}
use Rattle.tree.specs.Syntax.{no_expression, no_parameter, named_and, Statement, define_statement, block_statement, if_statement, present_statement, Function}
use Rattle.meaning.specs.Declarations.{Meaning, local_name, import_name, function_name, universe_name}
use Rattle.meaning.specs.TwoFunctions.{second_function}
use Rattle.meaning.specs.TreeExamples.{from_to, doing, name, use_of, only}
use Rattle.examples_of_rules.specs.Trees.{member, call_of, expressions, block, doing_alone, literal, function_of, file_of, means_in}

-- `if x := a; x { c := x } else { x }`
abbrev pub branching : Statement
branching =
    doing 1200 1290 (if_statement
    (present_statement (doing 1203 1209
    (define_statement (name (codes "x") 1203 ∷ []) (only (use_of (codes "a") 1208)))))
    false
    (use_of (codes "x") 1211)
    (block (doing 1222 1228 (define_statement (name (codes "c") 1222 ∷ []) (only (use_of (codes "x") 1227))) ∷ []))
    (from_to 1220 1260)
    (present_statement (doing 1270 1290
    (block_statement (block (doing_alone (use_of (codes "x") 1275) 1275 ∷ [])) (from_to 1270 1290)))))

abbrev pub scoping : Function
scoping =
    function_of (codes "f") 1000
    (named_and (name (codes "a") 1010) false (member (codes "context") (codes "Context") 1012) no_parameter)
    (named_and (name (codes "err") 1030) false (use_of (codes "error") 1034) no_parameter)
    (doing 1100 1111 (define_statement (name (codes "b") 1100 ∷ name (codes "a") 1103 ∷ [])
    (expressions (use_of (codes "q") 1107 ∷ use_of (codes "a") 1110 ∷ [])))
    ∷ branching
    ∷ doing_alone (use_of (codes "x") 1300) 1300
    ∷ doing_alone
    (call_of (literal (block (doing_alone (use_of (codes "b") 1420) 1420 ∷ [])) 1400) no_expression 1400) 1400
    ∷ doing 1500 1520 (define_statement (name (codes "context") 1500 ∷ []) (only (use_of (codes "h") 1511)))
    ∷ doing_alone (use_of (codes "context") 1600) 1600
    ∷ [])

abbrev pub empty_at : ℕ → Function
empty_at at = function_of (codes "h") at no_parameter no_parameter []

abbrev pub Means : ℕ → Meaning → Type 0
Means at meaning = means_in (scoping ∷ empty_at 3000 ∷ []) at ≡ Some meaning

pub record NamesMeanTheirDeclarations : Type 0 where
  pub import_of_the_file : Means 1012 (import_name (codes "context"))
  pub type_of_the_universe : Means 1034 universe_name
  -- what is declared nowhere is the universe's
  pub declared_nowhere : Means 1107 universe_name
  -- `:=` declares b, and assigns to a, which the same block has as a parameter
  pub declares : means_in (scoping ∷ []) 1100 ≡ None
  pub assigns : Means 1103 (local_name 1010 Var)
  pub parameter : Means 1110 (local_name 1010 Var)
  -- the header's x stands in the block, and behind `else`, and not after the `if`
  pub in_the_condition : Means 1211 (local_name 1203 Var)
  pub in_the_block : Means 1227 (local_name 1203 Var)
  pub behind_else : Means 1275 (local_name 1203 Var)
  pub after_the_if : Means 1300 universe_name
  pub in_a_literal : Means 1420 (local_name 1100 Var)
  pub function_of_the_package : Means 1511 function_name
  -- a local hides the import from its declaration on
  pub hides_the_import : Means 1600 (local_name 1500 Var)
  pub one_function_each : second_function (file_of (scoping ∷ empty_at 3000 ∷ []) ∷ []) ≡ None
  pub two_functions : second_function (file_of (empty_at 3000 ∷ empty_at 5000 ∷ []) ∷ [])
      ≡ Some record { file = 0; name = name (codes "h") 5005 }
