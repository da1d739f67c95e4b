use Rattle.table_json.proofs.WrittenInOrder.{written_as_it_stands}
use Rattle.table_json.proofs.tables_in_order_are_written_as_they_stand.Goals as goal

pub returns : goal.returns
returns c = written_as_it_stands
