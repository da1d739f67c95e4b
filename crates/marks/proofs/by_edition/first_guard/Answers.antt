use Rattle.std.proofs.Common.{ap}
use Rattle.tree.specs.View.{expression_syntax, optional_statement_syntax}
use Rattle.meaning.specs.Mentions.{first_row, guard_marks}
use Rattle.mentions.proofs.Adding.{same_adds}
use Rattle.marks.proofs.FoundOut.{none_added, all_added, no_guard, guards_kept}
use Rattle.marks.proofs.by_edition.first_guard.Goals as goal

pub returns-in-First : goal.returns-in-First
returns-in-First c =
    none_added _ _ c.in-First.is
    (no_guard c.args.walk.now.told.some_keep (first_row (optional_statement_syntax c.args.init.now)) (expression_syntax c.args.condition.now) c.args.braces)

pub returns-in-Second : goal.returns-in-Second
returns-in-Second c =
    all_added _ _ c.guard_marks.new.marks _ c.in-Second.is
    (guards_kept (first_row (optional_statement_syntax c.args.init.now)) (expression_syntax c.args.condition.now) c.args.braces)
    (same_adds _ _ _ _ _
    (ap (λ r. guard_marks r (expression_syntax c.args.condition.now) c.args.braces) c.first_row.ensures)
    c.guard_marks.ensures)
