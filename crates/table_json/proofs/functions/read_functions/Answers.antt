use Rattle.std.proofs.lemmas.Cmp.{nat_list_cmp_total}
use Rattle.json_reading.specs.Standing.{value_at}
use Rattle.table_json.specs.Tables.{entry_of, name_of}
use Rattle.table_json.specs.TableValues.{IsFunctionIn}
use Rattle.table_json.proofs.ArrangedRead.{list_arranged, no_list_arranged}
use Rattle.table_json.proofs.Readings.{one_in}
use Rattle.table_json.proofs.functions.read_functions.Goals as goal

pub returns-in-Some-clause-ok : goal.returns-in-Some-clause-ok
returns-in-Some-clause-ok c =
    list_arranged nat_list_cmp_total name_of (IsFunctionIn c.args.version) (one_in c.args.version) entry_of
    (value_at c.args.depth c.args.reader.now) c.read_list.new.reader c.in_ok-given.field-0 c.in-Some.given
    c.functions_in_order.result c.in-Some.is c.in_ok-given.ensures.ok c.functions_in_order.ensures.some
    c.functions_in_order.ensures.none

pub returns-in-None-clause-ok : goal.returns-in-None-clause-ok
returns-in-None-clause-ok c =
    no_list_arranged nat_list_cmp_total name_of (IsFunctionIn c.args.version) (one_in c.args.version) entry_of
    (value_at c.args.depth c.args.reader.now) c.read_list.new.reader c.in_ok-given.field-0 c.in-None.is
    c.in_ok-given.ensures.ok
