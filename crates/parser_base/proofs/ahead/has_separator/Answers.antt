use Rattle.std.proofs.Common.{sym, ◌∙◌}
use Rattle.parser_base.proofs.TokensAhead.{few_past, separator_found, separator_closed, separator_goes_on, separator_ends}
use Rattle.parser_base.proofs.ahead.has_separator.Goals as goal
use Rattle.parser_base.proofs.ahead.has_separator.Goals.{then-nesting-eq0+else-separates+else-closes, else-nesting-eq0}

pub loop-at-preserved : goal.loop-at-preserved
loop-at-preserved c =
    record {
      going = elim c.if-nesting-eq0.branch [
        | then-nesting-eq0+else-separates+else-closes w ↦
            separator_goes_on c.args.source.tokens.now c.loop-at.at _ c.loop-at-test.true c.loop-at.nesting _ c.loop-at.invariant.going
            (λ none. (sym w.separates.ensures ∙ w.if-separates.false, sym w.closes.ensures ∙ w.if-closes.false))
            _ c.nesting_past-nesting.ensures
        | else-nesting-eq0 w ↦
            separator_goes_on c.args.source.tokens.now c.loop-at.at _ c.loop-at-test.true c.loop-at.nesting _ c.loop-at.invariant.going
            (λ none. absurd (w.if-nesting-eq0.false none)) _ c.nesting_past-nesting.ensures
      ];
      few = few_past _ _ c.loop-at.at _ c.nesting_past-nesting.ensures c.loop-at.invariant.few;
    }

pub returns-then-separates : goal.returns-then-separates
returns-then-separates c =
    separator_found c.args.source.tokens.now c.loop-at.at _ c.loop-at-test.true c.loop-at.nesting _ c.loop-at.invariant.going
    c.if-nesting-eq0.true (sym c.separates.ensures ∙ c.if-separates.true)

pub returns-then-closes : goal.returns-then-closes
returns-then-closes c =
    separator_closed c.args.source.tokens.now c.loop-at.at _ c.loop-at-test.true c.loop-at.nesting _ c.loop-at.invariant.going
    c.if-nesting-eq0.true (sym c.separates.ensures ∙ c.if-separates.false) (sym c.closes.ensures ∙ c.if-closes.true)

pub returns : goal.returns
returns c = sym (separator_ends _ _ _ (c.loop-at-test.false)) ∙ c.loop-at.invariant.going
