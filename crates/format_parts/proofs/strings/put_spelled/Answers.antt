use Rattle.std.proofs.Common.{◌≡◌, [], length, refl, sym, ◌∙◌, rules}
use Rattle.std.proofs.lemmas.List.{append-nil}
use Rattle.std.proofs.lemmas.Result.{err_from_is_err_and}
use Rattle.format_parts.proofs.Steps.{begins, goes_on, ends, stops}
use Rattle.format_parts.proofs.Spelled.{none_spelled}
use Rattle.format_parts.proofs.strings.put_spelled.Goals as goal

pub loop-rest-init : goal.loop-rest-init
loop-rest-init g c = (begins _ _, refl)

pub loop-rest-preserved : goal.loop-rest-preserved
loop-rest-preserved g c =
    let put = c.in_ok-after.ensures.taken in
    (goes_on _ _ _ _ _ put.0 _ put.1 c.loop-rest.invariant.0 put.2, c.in_ok-after.ensures.refusals ∙ c.loop-rest.invariant.1)

pub returns-in_err-after-clause-taken : goal.returns-in_err-after-clause-taken
returns-in_err-after-clause-taken g c =
    let p = err_from_is_err_and c.from_residual.result c.from_residual.ensures.1 in
    stops _ _ _ _ _ _ [] (sym (append-nil _)) c.loop-rest.invariant.0 c.in_err-after.ensures.taken _ p.0 p.1

pub returns-clause-taken : goal.returns-clause-taken
returns-clause-taken g c =
    let none : length c.loop-rest.rest.now ≡ 0 = search rules in
    ends _ _ _ _ (none_spelled _ _ none) c.loop-rest.invariant.0
