use Rattle.std.proofs.Common.{refl, ◌∙◌, ◌++◌, ap}
use Rattle.report_json.proofs.FunctionPieces.{name_is}
use Rattle.format_parts.proofs.Steps.{begins, goes_on, last_call}
use Rattle.report_json.proofs.in_functions.write_name.Goals as goal

pub returns-clause-taken : goal.returns-clause-taken
returns-clause-taken g c =
    let dot = ap (λ t. c.receiver_type-receiver.result.now ++ t) c.as_bytes.ensures.value ∙ c.dot_behind.ensures in
    let parts = name_is c.args.text.now c.args.function _ c.as_bytes.result.now _ c.receiver_type-receiver.ensures dot c.function_name.ensures in
    let after_type = goes_on _ _ _ _ _ _ _ parts (begins _ _) c.in_ok-put_spelled.ensures.taken in
    last_call _ _ _ _ _ (goes_on _ _ _ _ _ _ _ refl after_type c.in_ok-put_spelled-2.ensures.taken) _ c.put_spelled-3.ensures.taken
