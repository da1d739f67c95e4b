use Rattle.std.proofs.Common.{sym, ◌∙◌}
use Rattle.tree.specs.View.{function_syntax}
use Rattle.facts.specs.FactViews.{facts_by_name}
use Rattle.signatures.specs.Meanings.{meanings_of}
use Rattle.facts.proofs.FactParts.{on_ok, function_added}
use Rattle.signatures.proofs.by_signature.add_function.Goals as goal

pub returns : goal.returns
returns c =
    on_ok c.insert.result
    (λ h n. function_added c.args.told.edition (meanings_of c.args.told) (function_syntax c.args.function.now)
    (sym c.can_be_meant.ensures ∙ c.if-not-can_be_meant.false) _ c.in_ok-facts.ensures _ c.as_str.ensures
    (facts_by_name c.args.table.now n) _ n (h n))
    c.insert.ensures.ok
