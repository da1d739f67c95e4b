use Rattle.std.proofs.Common.{sym, ◌∙◌}
use Rattle.parser_base.proofs.TokensAhead.{few_past, type_ends_here, type_begins, type_goes_on, type_ends}
use Rattle.parser_base.proofs.ahead.type_follows.Goals as goal
use Rattle.parser_base.proofs.ahead.type_follows.Goals.{then-nesting-eq0+in-LeftBracket+else-begins_type_at, else-nesting-eq0}

pub loop-at-preserved : goal.loop-at-preserved
loop-at-preserved c =
    record {
      going = elim c.if-nesting-eq0.branch [
        | then-nesting-eq0+in-LeftBracket+else-begins_type_at w ↦
            type_goes_on c.args.source.tokens.now c.loop-at.at _ c.loop-at-test.true c.loop-at.nesting _ c.loop-at.invariant.going
            (λ none. (w.in-LeftBracket.is, sym w.begins_type_at.ensures ∙ w.if-begins_type_at.false))
            _ c.nesting_past-nesting.ensures
        | else-nesting-eq0 w ↦
            type_goes_on c.args.source.tokens.now c.loop-at.at _ c.loop-at-test.true c.loop-at.nesting _ c.loop-at.invariant.going
            (λ none. absurd (w.if-nesting-eq0.false none)) _ c.nesting_past-nesting.ensures
      ];
      few = few_past _ _ c.loop-at.at _ c.nesting_past-nesting.ensures c.loop-at.invariant.few;
    }

pub returns-in_default : goal.returns-in_default
returns-in_default c =
    c.only_begins_type.ensures
    ∙ type_ends_here c.args.source.tokens.now c.loop-at.at _ c.loop-at-test.true c.loop-at.nesting _ c.loop-at.invariant.going
    c.if-nesting-eq0.true c.in_default.not-LeftBracket

pub returns-then-begins_type_at : goal.returns-then-begins_type_at
returns-then-begins_type_at c =
    type_begins c.args.source.tokens.now c.loop-at.at _ c.loop-at-test.true c.loop-at.nesting _ c.loop-at.invariant.going
    c.if-nesting-eq0.true c.in-LeftBracket.is (sym c.begins_type_at.ensures ∙ c.if-begins_type_at.true)

pub returns : goal.returns
returns c = sym (type_ends _ _ _ (c.loop-at-test.false)) ∙ c.loop-at.invariant.going
