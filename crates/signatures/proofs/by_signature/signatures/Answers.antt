use Rattle.std.proofs.Common.{map, refl, ap, ◌∙◌}
use Rattle.meaning.specs.FunctionFacts.{facts_in, facts_from}
use Rattle.meaning.specs.OuterBlocks.{or_else}
use Rattle.names.specs.Answers.{declared_at}
use Rattle.tree.specs.View.{file_syntax, top_level_syntax}
use Rattle.facts.specs.FactViews.{facts_by_name}
use Rattle.facts.proofs.Counted.{finds_on}
use Rattle.signatures.proofs.by_signature.signatures.Goals as goal

pub loop-number-preserved : goal.loop-number-preserved
loop-number-preserved c = λ n.
    finds_on (λ k xs. facts_from c.args.edition (declared_at c.args.names.now) n k (map file_syntax xs)) _ c.args.files.now
    c.loop-number.number c.index-files-number.result c.loop-number-test.true c.index-files-number.is refl _ _ _
    (c.in_ok-file_signatures.ensures n
    ∙ ap (λ l. or_else (facts_by_name c.loop-number.table n) (facts_in c.args.edition (declared_at c.args.names.now c.loop-number.number) n (map top_level_syntax l)))
    c.deref.ensures.value)
    (c.loop-number.invariant n)
