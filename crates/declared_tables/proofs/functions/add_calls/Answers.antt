use Rattle.std.proofs.Common.{ap, bytes_eq, drop}
use Rattle.std.specs.List.{list_any}
use Rattle.std.proofs.lemmas.List.{drop_all, get_or_default}
use Rattle.called_parameters.specs.Called.{is_called}
use Rattle.declared_tables.specs.DeclaredTables.{is_called_at}
use Rattle.declared_tables.proofs.AddedCalls.{call_last, call_next}
use Rattle.declared_tables.proofs.functions.add_calls.Goals as goal

pub loop-parameter-preserved : goal.loop-parameter-preserved
loop-parameter-preserved c = λ n k.
    let params = c.args.params.now in
    let i = c.loop-parameter.parameter-index in
    call_next k params i _ c.loop-parameter-test.true (get_or_default params i _ _ c.loop-parameter-test.true)
    (is_called c.add_call.new.called n k) (is_called c.loop-parameter.called n k) (bytes_eq n c.args.name.now) _
    (c.in_ok-add_call.ensures n k) (c.loop-parameter.invariant n k)

pub returns : goal.returns
returns c = λ n k.
    let params = c.args.params.now in
    let i = c.loop-parameter.parameter-index in
    call_last (is_called c.loop-parameter.called n k) (bytes_eq n c.args.name.now)
    (list_any (is_called_at k) (drop i params)) _
    (ap (list_any (is_called_at k)) (drop_all i params c.loop-parameter-test.false)) (c.loop-parameter.invariant n k)
