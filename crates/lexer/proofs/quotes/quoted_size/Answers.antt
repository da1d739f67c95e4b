use Rattle.std.proofs.Common.{get_or, drop, ◌+◌, sym, ap, ◌∙◌, arith}
use Rattle.lexer.specs.Dispatch.{closing}
use Rattle.std.proofs.lemmas.Bool.{cond-true, cond-false, eq-eqb, ne_eqb}
use Rattle.lexer.proofs.Literals.{closing_more, closing_end}
use Rattle.lexer.proofs.quotes.quoted_size.Goals as goal

pub returns-then-breaks : goal.returns-then-breaks
returns-then-breaks c =
    let more = closing_more (get_or c.args.text.now 0 0) c.loop-size.escaped c.loop-size.size c.args.text.now c.loop-size-test.true in
    sym (cond-true _ _ _ (sym c.breaks.ensures ∙ c.if-breaks.true)) ∙ (sym more ∙ c.loop-size.invariant.to_come)

pub loop-size-preserved-then-escaped : goal.loop-size-preserved-then-escaped
loop-size-preserved-then-escaped c =
    let more = closing_more (get_or c.args.text.now 0 0) c.loop-size.escaped c.loop-size.size c.args.text.now c.loop-size-test.true in
    record {
      positive = omega arith;
      in_range = omega arith;
      to_come = sym (cond-true _ _ _ c.if-escaped.true) ∙ (sym (cond-false _ _ _ (sym c.breaks.ensures ∙ c.if-breaks.false)) ∙ (sym more ∙ c.loop-size.invariant.to_come));
    }

pub returns-then-byte-quote : goal.returns-then-byte-quote
returns-then-byte-quote c =
    let more = closing_more (get_or c.args.text.now 0 0) c.loop-size.escaped c.loop-size.size c.args.text.now c.loop-size-test.true in
    sym (cond-true _ _ _ (eq-eqb _ _ c.if-byte-quote.true)) ∙ (sym (cond-false _ _ _ c.if-escaped.false) ∙ (sym (cond-false _ _ _ (sym c.breaks.ensures ∙ c.if-breaks.false)) ∙ (sym more ∙ c.loop-size.invariant.to_come)))

pub loop-size-preserved : goal.loop-size-preserved
loop-size-preserved c =
    let more = closing_more (get_or c.args.text.now 0 0) c.loop-size.escaped c.loop-size.size c.args.text.now c.loop-size-test.true in
    record {
      positive = omega arith;
      in_range = omega arith;
      to_come = ap (λ t. closing (get_or c.args.text.now 0 0) t (c.loop-size.size + 1) (drop (c.loop-size.size + 1) c.args.text.now)) c.escapes-escaped.ensures ∙ (sym (cond-false _ _ _ (ne_eqb _ _ c.if-byte-quote.false)) ∙ (sym (cond-false _ _ _ c.if-escaped.false) ∙ (sym (cond-false _ _ _ (sym c.breaks.ensures ∙ c.if-breaks.false)) ∙ (sym more ∙ c.loop-size.invariant.to_come))));
    }

pub returns : goal.returns
returns c =
    let past = closing_end (get_or c.args.text.now 0 0) c.loop-size.escaped c.loop-size.size c.args.text.now c.loop-size-test.false in
    sym past ∙ c.loop-size.invariant.to_come
