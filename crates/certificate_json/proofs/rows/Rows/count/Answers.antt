use Rattle.std.proofs.Common.{sym, ◌∙◌}
use Rattle.certificate_json.proofs.RowsHeld.{rows_counted}
use Rattle.certificate_json.proofs.rows.Rows.count.Goals as goal

pub returns : goal.returns
returns c = c.len.ensures ∙ c.args.self.now.widths.ok.0 ∙ sym (rows_counted c.args.self.now.widths.items c.args.self.now.masks.items)
