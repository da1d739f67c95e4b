use Rattle.std.proofs.Common.{[], ap, ◌∙◌}
use Rattle.std.specs.declared.alloc.Global.{Global}
use Rattle.std.specs.declared.vec.Vec.{Vec}
use Rattle.std.proofs.Common.{ℕ}
use Rattle.imports.proofs.WrittenRows.{row_written}
use Rattle.imports.proofs.rows.take_row.Goals as goal

pub returns-then-place-len-clause-left : goal.returns-then-place-len-clause-left
returns-then-place-len-clause-left c =
    row_written c.args.rows.now.items c.args.place c.replace.new.dest []
    (ap (λ (row : Vec ℕ Global). row.items) c.replace.ensures.after ∙ c.new.ensures.items)
