use Rattle.std.proofs.Common.{◌||◌, drop, map, option_map, ap, sym, ◌∙◌}
use Rattle.std.specs.List.{list_any}
use Rattle.std.proofs.lemmas.List.{drop_all}
use Rattle.called_parameters.specs.Called.{is_called}
use Rattle.facts.specs.FactViews.{facts_by_name}
use Rattle.declared_tables.proofs.AddedCalls.{fact_first, fact_last}
use Rattle.vetx_json.specs.KeptUnits.{function_of}
use Rattle.vetx_tables.specs.KeptTables.{calls_at, facts_again, function_in}
use Rattle.vetx_tables.proofs.AddedAgain.{call_more, fact_more, or_none}
use Rattle.vetx_tables.proofs.GiversAgain.{marked}
use Rattle.vetx_tables.proofs.again.table_again.Goals as goal

pub loop-function-init : goal.loop-function-init
loop-function-init c =
    let all = map function_of c.args.functions.now in (
      λ name. fact_first (facts_by_name c.new-signatures.result name) (option_map facts_again (function_in all name))
          (c.new-signatures.ensures name),
      λ name k. ap (λ b. b || list_any (calls_at name k) all) (c.new-called.ensures name k),
    )

pub loop-function-preserved : goal.loop-function-preserved
loop-function-preserved c =
    let functions = c.args.functions.now in
    let i = c.loop-function.function-index in (
      λ name. fact_more functions i c.function-item.result c.loop-function-test.true c.function-item.is
          c.loop-function.signatures c.add_function.new.signatures c.loop-function.called c.add_function.new.called
          c.in_ok-add_function.ensures name _ (c.loop-function.invariant.0 name),
      λ name k. call_more functions i c.function-item.result c.loop-function-test.true c.function-item.is
          c.loop-function.signatures c.add_function.new.signatures c.loop-function.called c.add_function.new.called
          c.in_ok-add_function.ensures name k _ (c.loop-function.invariant.1 name k),
    )

pub returns-clause-table : goal.returns-clause-table
returns-clause-table c i =
    let left = map function_of (drop c.loop-function.function-index c.args.functions.now) in
    let none = ap (map function_of)
    (drop_all c.loop-function.function-index c.args.functions.now c.loop-function-test.false) in
    record {
      signatures = λ name.
          fact_last (facts_by_name c.loop-function.signatures name) (option_map facts_again (function_in left name)) _
          (ap (λ fs. option_map facts_again (function_in fs name)) none) (c.loop-function.invariant.0 name) i;
      calls = λ name k.
          (or_none (is_called c.loop-function.called name k)
          ∙ (ap (λ fs. is_called c.loop-function.called name k || list_any (calls_at name k) fs) (sym none)
          ∙ c.loop-function.invariant.1 name k)) i;
      is_told = c.any_tells_something.ensures i;
    }

pub returns-clause-marks : goal.returns-clause-marks
returns-clause-marks c =
    marked (map function_of c.args.functions.now)
    (record {
      signatures = c.loop-function.signatures;
      called = c.loop-function.called;
      gives = c.any_is_giver.result;
      is_told = c.any_tells_something.result;
    })
    (returns-clause-table c) c.any_is_giver.ensures
