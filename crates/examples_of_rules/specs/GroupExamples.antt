-- What a function does to its groups. Each statement is a site; the numbers are the sites.
--     func f(p context.Context) {
--         g, x := errgroup.WithContext(p)   1100
--         g.Go(work)                        1200
--         g.Go(func() { q })                1300
--         g.TryGo(work)                     1400
--         g.Wait()                          1500
--         defer g.Wait()                    1600
--         run(&g)                           1700
--         var m errgroup.Group              1804
--         use(g)                            1850
--         g.SetLimit(q)                     1890
--     }
--     func run(g *errgroup.Group) {}
-- (The documentation of `golang.org/x/sync/errgroup`; this tool's rules.)
use Rattle.std.specs.Prelude.{ℕ, false, List, [], ◌∷◌, None, Some, codes}
use Rattle.tree.specs.declared.edition.Edition.{Edition}
use Rattle.tree.specs.declared.edition.Edition.TheVariants.{First, Second}
use Rattle.tree.specs.declared.operator.DeclKeyword.TheVariants.{Var}
use Rattle.tree.specs.declared.operator.UnaryOperator.TheVariants.{Address}
use Rattle.tree.specs.Syntax.{Expression, star_expression, unary_expression, Expressions, no_expression, present_expression, no_parameter, named_and, Statement, declaration_statement, define_statement, defer_statement, declaration_of, no_spec, value_and, Function}
use Rattle.meaning.specs.FunctionFacts.{group}
use Rattle.meaning.specs.Tracked.{idle, live}
use Rattle.meaning.specs.Uses.{lend, start, try, wait, defer_wait, make, group_used_otherwise, fault_at}
use Rattle.meaning.specs.BodyEvents.{declared_in_body}
use Rattle.meaning.specs.TreeExamples.{from_to, node, doing, name, use_of, only}
use Rattle.examples_of_rules.specs.Trees.{member, call_of, calling, block, doing_alone, literal, function_of, Does, HasVariables, HasFaults}
use Rattle.examples_of_rules.specs.CancelExamples.{context_at}

-- `g.n(es)`
abbrev pub of_g : List ℕ → Expressions → ℕ → Expression
of_g n es at = call_of (member (codes "g") n at) es at

abbrev pub doing_of_g : List ℕ → Expressions → ℕ → Statement
doing_of_g n es at = doing_alone (of_g n es at) at

abbrev pub the_work : ℕ → Expressions
the_work at = only (use_of (codes "work") at)

-- `errgroup.Group`
abbrev pub group_type_at : ℕ → Expression
group_type_at = member (codes "errgroup") (codes "Group")

abbrev pub using : Function
using =
    function_of (codes "f") 1000 (context_at 1010) no_parameter
    (doing 1100 1140 (define_statement (name (codes "g") 1100 ∷ name (codes "x") 1103 ∷ [])
    (only (call_of (member (codes "errgroup") (codes "WithContext") 1110) (only (use_of (codes "p") 1130)) 1110)))
    ∷ doing_of_g (codes "Go") (the_work 1210) 1200
    ∷ doing_of_g (codes "Go") (only (literal (block (doing_alone (use_of (codes "q") 1330) 1330 ∷ [])) 1310)) 1300
    ∷ doing_of_g (codes "TryGo") (the_work 1410) 1400
    ∷ doing_of_g (codes "Wait") no_expression 1500
    ∷ doing 1600 1630 (defer_statement (of_g (codes "Wait") no_expression 1606))
    ∷ doing_alone
    (calling (codes "run") (only (node 1704 1706 (unary_expression Address (use_of (codes "g") 1705)))) 1700) 1700
    ∷ doing 1800 1830 (declaration_statement (declaration_of Var
    (value_and (name (codes "m") 1804 ∷ []) (present_expression (group_type_at 1806)) no_expression (from_to 1804 1830)
    no_spec) false (from_to 1800 1830)))
    ∷ doing_alone (calling (codes "use") (only (use_of (codes "g") 1854)) 1850) 1850
    ∷ doing_of_g (codes "SetLimit") (only (use_of (codes "q") 1895)) 1890
    ∷ [])

abbrev pub taking : Function
taking =
    function_of (codes "run") 3000
    (named_and (name (codes "g") 3010) false (node 3012 3030 (star_expression (group_type_at 3013))) no_parameter)
    no_parameter []

abbrev pub functions : List Function
functions = using ∷ taking ∷ []

-- in both editions
pub record InBoth (edition : Edition) : Type 0 where
  pub made_with_a_context : Does edition functions 1000 1100 (make record { number = 1100; at = 1100 } live ∷ [])
  pub started : Does edition functions 1000 1200 (start 1100 None ∷ [])
  pub started_by_a_literal : Does edition functions 1000 1300 (start 1100 (Some 1310) ∷ [])
  pub tried : Does edition functions 1000 1400 (try 1100 None ∷ [])
  pub waited_for : Does edition functions 1000 1500 (wait 1100 ∷ [])
  pub wait_is_saved : Does edition functions 1000 1600 (defer_wait 1100 ∷ [])
  pub lent : Does edition functions 1000 1700 (lend 1100 record { path = None; name = codes "run" } 0 ∷ [])
  pub made_by_its_type : Does edition functions 1000 1804 (make record { number = 1804; at = 1804 } idle ∷ [])
  pub given_elsewhere : Does edition functions 1000 1850 []
  pub limited : Does edition functions 1000 1890 []
  pub variables : HasVariables edition functions 1000
      (record { number = 1100; name = codes "g"; kind = group; role = declared_in_body; first = 1100 }
      ∷ record { number = 1804; name = codes "m"; kind = group; role = declared_in_body; first = 1804 } ∷ [])
  pub faults : HasFaults edition functions 1000 (fault_at 1854 group_used_otherwise (codes "g"))

pub record GroupsAreFollowed : Type 0 where
  pub in_the_first : InBoth First
  pub in_the_second : InBoth Second
