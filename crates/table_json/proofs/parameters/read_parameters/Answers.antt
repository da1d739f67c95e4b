use Rattle.std.proofs.Common.{option_map, subst}
use Rattle.std.specs.Ordering.{nat_cmp}
use Rattle.json_reading.specs.Standing.{value_at, IsListOf, IsNoList, ReadsAs, Refutes}
use Rattle.table_json.specs.MembersRead.{IsValueOf}
use Rattle.table_json.specs.Parts.{parameter_in}
use Rattle.table_json.specs.Tables.{position_of, IsArranged}
use Rattle.table_json.specs.TableValues.{parameter_value}
use Rattle.table_json.proofs.ValueParts.{finds_parameters}
use Rattle.table_json.proofs.ValuesRead.{judged_as, values_kept, no_values}
use Rattle.table_json.proofs.parameters.read_parameters.Goals as goal

pub returns-in-Some-clause-ok : goal.returns-in-Some-clause-ok
returns-in-Some-clause-ok c =
    let standing = value_at c.args.depth c.args.reader.now in
    let new = c.read_list.new.reader in
    values_kept parameter_value position_of parameter_in finds_parameters standing new c.in-Some.given.items
    (option_map (λ list. list.items) c.parameters_in_order.result)
    (subst (λ o. ReadsAs (IsListOf (IsValueOf parameter_value position_of)) (IsNoList (Refutes (IsValueOf parameter_value position_of))) standing new
    (option_map (λ list. list.items) o)) c.in-Some.is c.in_ok-given.ensures.ok)
    (judged_as (IsArranged nat_cmp position_of) (λ list. list.items) c.in-Some.given.items c.parameters_in_order.result
    c.parameters_in_order.ensures.some c.parameters_in_order.ensures.none)

pub returns-in-None-clause-ok : goal.returns-in-None-clause-ok
returns-in-None-clause-ok c =
    let standing = value_at c.args.depth c.args.reader.now in
    let new = c.read_list.new.reader in
    no_values parameter_value position_of parameter_in finds_parameters standing new
    (subst (λ o. ReadsAs (IsListOf (IsValueOf parameter_value position_of)) (IsNoList (Refutes (IsValueOf parameter_value position_of))) standing new
    (option_map (λ list. list.items) o)) c.in-None.is c.in_ok-given.ensures.ok)
