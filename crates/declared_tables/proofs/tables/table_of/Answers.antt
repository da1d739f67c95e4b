use Rattle.std.proofs.Common.{true, ap, drop, map, not, option_map, is_some}
use Rattle.std.proofs.lemmas.List.{drop_all}
use Rattle.called_parameters.specs.Called.{is_called}
use Rattle.facts.specs.FactViews.{facts_by_name}
use Rattle.declared_json.specs.DeclaredPackages.{function_of}
use Rattle.declared_tables.specs.DeclaredTables.{calls_in, facts_of, function_in}
use Rattle.declared_tables.proofs.AddedCalls.{call_last, fact_first, fact_last, fact_next, flag_first, flag_next}
use Rattle.declared_tables.proofs.Givers.{marked}
use Rattle.declared_tables.proofs.tables.table_of.Goals as goal

pub loop-function-init : goal.loop-function-init
loop-function-init c =
    let all = map function_of c.args.functions.now in (
      λ name. fact_first (facts_by_name c.new-signatures.result name) (option_map facts_of (function_in all name))
          (c.new-signatures.ensures name),
      λ name k. flag_first (facts_by_name c.new-signatures.result name) (is_called c.new-called.result name k)
          (calls_in (function_in all name) k) (c.new-signatures.ensures name) (c.new-called.ensures name k),
    )

pub loop-function-preserved : goal.loop-function-preserved
loop-function-preserved c =
    let functions = c.args.functions.now in
    let i = c.loop-function.function-index in (
      λ name. fact_next functions i c.function-item.result c.loop-function-test.true c.function-item.is
          c.loop-function.signatures c.add_function.new.signatures c.loop-function.called c.add_function.new.called
          c.in_ok-add_function.ensures name _ (c.loop-function.invariant.0 name),
      λ name k. flag_next functions i c.function-item.result c.loop-function-test.true c.function-item.is
          c.loop-function.signatures
          c.add_function.new.signatures c.loop-function.called c.add_function.new.called c.in_ok-add_function.ensures name k _
          (c.loop-function.invariant.1 name k),
    )

pub returns-clause-table : goal.returns-clause-table
returns-clause-table c i =
    let left = map function_of (drop c.loop-function.function-index c.args.functions.now) in
    let none = ap (map function_of)
    (drop_all c.loop-function.function-index c.args.functions.now c.loop-function-test.false) in
    record {
      signatures = λ name.
          fact_last (facts_by_name c.loop-function.signatures name) (option_map facts_of (function_in left name)) _
          (ap (λ fs. option_map facts_of (function_in fs name)) none) (c.loop-function.invariant.0 name) i;
      calls = λ name k.
          call_last (is_called c.loop-function.called name k) (not (is_some (facts_by_name c.loop-function.signatures name)))
          (calls_in (function_in left name) k) _ (ap (λ fs. calls_in (function_in fs name) k) none)
          (c.loop-function.invariant.1 name k) i;
      is_told = true;
    }

pub returns-clause-marks : goal.returns-clause-marks
returns-clause-marks c =
    marked (map function_of c.args.functions.now)
    (record {
      signatures = c.loop-function.signatures;
      called = c.loop-function.called;
      gives = c.any_is_giver.result;
      is_told = true;
    })
    (returns-clause-table c) c.any_is_giver.ensures
