use Rattle.std.proofs.Common.{map}
use Rattle.table_json.specs.Tables.{entry_of}
use Rattle.table_json.specs.declared.fault.TableFault.TheVariants.{WrongShape}
use Rattle.table_json.proofs.TableLaws.{in_order, no_other, only_memory}
use Rattle.table_json.proofs.TablesRead.{version_again, no_whole_table, whole_table}
use Rattle.table_json.proofs.read.from_json.Goals as goal

pub returns-in-Some-clause-table : goal.returns-in-Some-clause-table
returns-in-Some-clause-table c =
    let version = c.in_ok-version.ensures.ok in
    let read = c.in_ok-functions.ensures.ok in
    record {
      value = read.0;
      is_json = read.1;
      is_table =
          whole_table c.in_ok-version.version read.0 c.in_ok-functions.field-0 c.in-Some.functions read.2 c.in-Some.is
          (version_again c.args.text.now c.in_ok-version.version version.0 read.0 version.1 version.2 read.1);
    }

pub returns-in-Some-clause-in_order : goal.returns-in-Some-clause-in_order
returns-in-Some-clause-in_order c =
    let version = c.in_ok-version.ensures.ok in
    let read = c.in_ok-functions.ensures.ok in
    in_order read.0 (map entry_of c.in-Some.functions.items)
    (whole_table c.in_ok-version.version read.0 c.in_ok-functions.field-0 c.in-Some.functions read.2 c.in-Some.is
    (version_again c.args.text.now c.in_ok-version.version version.0 read.0 version.1 version.2 read.1))

pub returns-in-Some-clause-no_other : goal.returns-in-Some-clause-no_other
returns-in-Some-clause-no_other c = λ other.
    let version = c.in_ok-version.ensures.ok in
    let read = c.in_ok-functions.ensures.ok in
    no_other c.args.text.now read.0 (map entry_of c.in-Some.functions.items) other read.1
    (whole_table c.in_ok-version.version read.0 c.in_ok-functions.field-0 c.in-Some.functions read.2 c.in-Some.is
    (version_again c.args.text.now c.in_ok-version.version version.0 read.0 version.1 version.2 read.1))

pub returns-in-None-clause-fault : goal.returns-in-None-clause-fault
returns-in-None-clause-fault c =
    let version = c.in_ok-version.ensures.ok in
    let read = c.in_ok-functions.ensures.ok in (
      read.0,
      read.1,
      no_whole_table c.in_ok-version.version read.0 c.in_ok-functions.field-0 read.2 c.in-None.is
          (version_again c.args.text.now c.in_ok-version.version version.0 read.0 version.1 version.2 read.1),
    )

pub returns-in-None-clause-only_memory : goal.returns-in-None-clause-only_memory
returns-in-None-clause-only_memory c =
    let version = c.in_ok-version.ensures.ok in
    let read = c.in_ok-functions.ensures.ok in
    only_memory c.args.text.now WrongShape (
      read.0,
      read.1,
      no_whole_table c.in_ok-version.version read.0 c.in_ok-functions.field-0 read.2 c.in-None.is
          (version_again c.args.text.now c.in_ok-version.version version.0 read.0 version.1 version.2 read.1),
    )
