use Rattle.std.proofs.Common.{sym, ◌∙◌}
use Rattle.facts.proofs.FactParts.{on_ok}
use Rattle.facts.specs.FactViews.{facts_view}
use Rattle.declared_json.specs.DeclaredPackages.{function_of}
use Rattle.declared_tables.proofs.AddedCalls.{is_added, not_added}
use Rattle.declared_tables.proofs.functions.add_function.Goals as goal

pub returns-then-has : goal.returns-then-has
returns-then-has c =
    not_added (function_of c.args.function.now) c.args.signatures.now c.args.called.now c.as_str-name.result.now
    c.as_str-name.ensures.value (sym c.has.ensures ∙ c.if-has.true)

pub returns : goal.returns
returns c =
    on_ok c.add_calls.result
    (is_added (function_of c.args.function.now) c.args.signatures.now c.insert.new.self c.args.called.now
    c.add_calls.new.called c.as_str-name.result.now c.as_str-name.ensures.value (sym c.has.ensures ∙ c.if-has.false)
    (facts_view c.in_ok-facts.facts) c.in_ok-facts.ensures c.deref.result.now c.deref.ensures.value
    c.in_ok-insert.ensures.ok)
    c.add_calls.ensures
