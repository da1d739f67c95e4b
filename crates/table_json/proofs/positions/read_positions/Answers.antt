use Rattle.std.proofs.Common.{option_map, subst}
use Rattle.std.specs.Ordering.{nat_cmp}
use Rattle.json_reading.specs.Standing.{value_at, IsListOf, IsNoList, ReadsAs, Refutes}
use Rattle.table_json.specs.MembersRead.{IsValueOf}
use Rattle.table_json.specs.Parts.{position_in}
use Rattle.table_json.specs.Tables.{itself, IsArranged}
use Rattle.table_json.specs.TableValues.{whole}
use Rattle.table_json.proofs.ValueParts.{finds_positions}
use Rattle.table_json.proofs.ValuesRead.{judged_as, values_kept, no_values}
use Rattle.table_json.proofs.positions.read_positions.Goals as goal

pub returns-in-Some-clause-ok : goal.returns-in-Some-clause-ok
returns-in-Some-clause-ok c =
    let standing = value_at c.args.depth c.args.reader.now in
    let new = c.read_list.new.reader in
    values_kept whole itself position_in finds_positions standing new c.in-Some.given.items
    (option_map (λ list. list.items) c.positions_in_order.result)
    (subst (λ o. ReadsAs (IsListOf (IsValueOf whole itself)) (IsNoList (Refutes (IsValueOf whole itself))) standing new
    (option_map (λ list. list.items) o)) c.in-Some.is c.in_ok-given.ensures.ok)
    (judged_as (IsArranged nat_cmp itself) (λ list. list.items) c.in-Some.given.items c.positions_in_order.result
    c.positions_in_order.ensures.some c.positions_in_order.ensures.none)

pub returns-in-None-clause-ok : goal.returns-in-None-clause-ok
returns-in-None-clause-ok c =
    let standing = value_at c.args.depth c.args.reader.now in
    let new = c.read_list.new.reader in
    no_values whole itself position_in finds_positions standing new
    (subst (λ o. ReadsAs (IsListOf (IsValueOf whole itself)) (IsNoList (Refutes (IsValueOf whole itself))) standing new
    (option_map (λ list. list.items) o)) c.in-None.is c.in_ok-given.ensures.ok)
