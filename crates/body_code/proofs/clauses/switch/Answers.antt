use Rattle.std.proofs.Common.{map, arith}
use Rattle.code.specs.CodeViews.{text_now}
use Rattle.code.proofs.Codes.{same_code}
use Rattle.body_code.proofs.CaseLists.{not_over, over_again}
use Rattle.body_code.proofs.FallingClauses.{none_there, some_there}
use Rattle.body_code.proofs.clauses.switch.Goals as goal

pub returns-then-is_empty : goal.returns-then-is_empty
returns-then-is_empty g c = λ h e header entered.
    same_code c.one_clause.result _ _
    (not_over (map text_now c.args.labels.now) c.in_ok-falls.falls.items _ h _ c.in_ok-falls.ensures (none_there c.in_ok-falls.falls.items _ (omega (arith, c.in_ok-falls.falls.ok.0, c.in_ok-falls.falls.ok.1)) c.if-is_empty.ensures))
    (c.one_clause.ensures h e header entered)

pub returns : goal.returns
returns g c = λ h e header entered.
    same_code c.falling_over.result _ _
    (over_again (map text_now c.args.labels.now) c.in_ok-falls.falls.items _ h _ c.in_ok-falls.ensures (some_there c.in_ok-falls.falls.items _ (omega (arith, c.in_ok-falls.falls.ok.0, c.in_ok-falls.falls.ok.1)) c.if-is_empty.ensures))
    (c.falling_over.ensures h _ header (c.or_past.ensures e entered))
