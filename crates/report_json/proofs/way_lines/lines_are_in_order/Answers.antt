use Rattle.report_json.proofs.WayOrder.{in_order}
use Rattle.report_json.proofs.way_lines.lines_are_in_order.Goals as goal

pub returns : goal.returns
returns c = in_order
