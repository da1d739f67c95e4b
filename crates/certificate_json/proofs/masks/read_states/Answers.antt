use Rattle.std.proofs.Common.{true}
use Rattle.json_reading.specs.Standing.{value_at}
use Rattle.json_reading.proofs.ObjectsRead.{list_read, no_list_read}
use Rattle.certificate_json.specs.Certificates.{rows_of}
use Rattle.certificate_json.proofs.StatesRead.{no_rows, no_states, other_items, states_read}
use Rattle.certificate_json.proofs.masks.read_states.Goals as goal

pub returns-then-not-branch-clause-ok : goal.returns-then-not-branch-clause-ok
returns-then-not-branch-clause-ok c =
    let none =
    no_list_read _ _ _ _ c.in_ok-add_list.field-0 c.in_ok-add_list.ensures.ok c.if-not-branch.true in
    no_states (value_at c.args.depth c.args.reader.now) c.add_list.new.reader none.0 none.1 none.2

pub returns-then-states-clause-ok : goal.returns-then-states-clause-ok
returns-then-states-clause-ok c =
    let states = c.add_list.new.items in
    let read =
    list_read _ _ _ _ c.in_ok-add_list.field-0 c.in_ok-add_list.ensures.ok c.if-not-branch.false
    (c.new.ensures.whole, no_rows (rows_of c.new.result) c.new.ensures.none) in
    states_read (value_at c.args.depth c.args.reader.now) c.add_list.new.reader read.0 states.are_rows (rows_of states.rows)
    read.2.1 c.if-states.true read.1

pub returns-else-states-clause-ok : goal.returns-else-states-clause-ok
returns-else-states-clause-ok c =
    let states = c.add_list.new.items in
    let read =
    list_read _ _ _ _ c.in_ok-add_list.field-0 c.in_ok-add_list.ensures.ok c.if-not-branch.false
    (c.new.ensures.whole, no_rows (rows_of c.new.result) c.new.ensures.none) in
    other_items (value_at c.args.depth c.args.reader.now) c.add_list.new.reader read.0 states.are_rows (rows_of states.rows)
    read.2.1 c.if-states.false read.1
