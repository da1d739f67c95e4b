use Rattle.std.proofs.Common.{arith, ◌∙◌}
use Rattle.certificate_json.proofs.RowsHeld.{row_pushed}
use Rattle.certificate_json.proofs.rows.Rows.push.Goals as goal

pub returns : goal.returns
returns c = λ whole.
    row_pushed c.args.self.now.widths.items c.args.self.now.masks.items c.args.row.now.items _ _ _ _
    c.as_slice.ensures.value (c.len.ensures ∙ c.args.row.now.ok.0) (grind arith) (grind arith) whole
