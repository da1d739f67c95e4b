use Rattle.std.proofs.Common.{None, map}
use Rattle.std.proofs.lemmas.Cmp.{nat_list_cmp_total}
use Rattle.json_reading.specs.Standing.{value_at, Refutes}
use Rattle.json_reading.proofs.ItemsMade.{read_back}
use Rattle.table_json.proofs.ArrangedRead.{list_arranged, no_list_arranged}
use Rattle.vetx_json.specs.KeptUnits.{function_of, name_of}
use Rattle.vetx_json.specs.VetxValues.{AreFunctionsIn, IsFunctionValue}
use Rattle.vetx_json.proofs.FunctionsRead.{one_function}
use Rattle.vetx_json.proofs.functions.KeptListsReadItem.read_item.Goals as goal

pub returns-in-Some-clause-ok : goal.returns-in-Some-clause-ok
returns-in-Some-clause-ok c =
    let standing = value_at c.args.depth c.args.reader.now in
    let found = c.functions_in_order.result in
    read_back AreFunctionsIn (λ list. map function_of list.items) (Refutes AreFunctionsIn) standing c.read_list.new.reader found
    (list_arranged nat_list_cmp_total name_of IsFunctionValue one_function function_of standing c.read_list.new.reader
    c.in_ok-given.field-0 c.in-Some.given found c.in-Some.is c.in_ok-given.ensures.ok
    c.functions_in_order.ensures.some c.functions_in_order.ensures.none)

pub returns-in-None-clause-ok : goal.returns-in-None-clause-ok
returns-in-None-clause-ok c =
    let standing = value_at c.args.depth c.args.reader.now in
    read_back AreFunctionsIn (λ list. map function_of list.items) (Refutes AreFunctionsIn) standing c.read_list.new.reader None
    (no_list_arranged nat_list_cmp_total name_of IsFunctionValue one_function function_of standing
    c.read_list.new.reader c.in_ok-given.field-0 c.in-None.is c.in_ok-given.ensures.ok)
