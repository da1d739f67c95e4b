use Rattle.std.proofs.Common.{length, map, sym, ap, ◌∙◌}
use Rattle.std.proofs.lemmas.List.{length-map}
use Rattle.std.proofs.lemmas.Result.{IfOk-weaker}
use Rattle.tree.specs.View.{parameters_syntax, statements_syntax, block_syntax}
use Rattle.tree.proofs.Views.{block_statements-out}
use Rattle.meaning.specs.Mentions.{statements_marks}
use Rattle.meaning.specs.FunctionFacts.{items_of, error_results, own_returns, pairs}
use Rattle.facts.specs.FactViews.{item_view, unless_view}
use Rattle.signatures.specs.Meanings.{meanings_of}
use Rattle.signatures.specs.Returned.{are_unnamed, returned_view}
use Rattle.signatures.proofs.BorneOut.{kept_so}
use Rattle.signatures.proofs.unless.unless_by.Goals as goal

pub returns : goal.returns
returns c =
    let is = items_of (parameters_syntax c.args.results.now) in
    let means = meanings_of c.args.told in
    let items = c.in_ok-items.ensures in
    IfOk-weaker c.borne_out.result _ _
    (λ kept so.
    so ∙ kept_so means is (block_syntax c.args.body.now) _ _ _
    (sym (ap are_unnamed (ap (map item_view) c.deref.ensures.value ∙ items)) ∙ (sym c.are_unnamed.ensures ∙ c.if-not-are_unnamed.false))
    (c.len.ensures ∙ (c.in_ok-items.items.ok.0 ∙ (sym (length-map c.in_ok-items.items.items item_view) ∙ ap length items)))
    (ap (map returned_view) c.deref-5.ensures.value
    ∙ (c.in_ok-returns.ensures
    ∙ (ap (λ l. own_returns 0 (statements_marks (statements_syntax l))) c.deref-4.ensures.value
    ∙ ap (λ s. own_returns 0 (statements_marks s)) (sym (block_statements-out c.args.body.now)))))
    (ap (map unless_view) c.deref-6.ensures.value
    ∙ (c.in_ok-possible.ensures
    ∙ (λ i.
    pairs (c.requires i)
    ((c.deref-3.ensures.value
    ∙ (c.in_ok-errors.ensures
    ∙ (ap (λ l. error_results means 0 (map item_view l)) c.deref-2.ensures.value ∙ ap (error_results means 0) items))) i)))))
    c.borne_out.ensures
