use Rattle.std.proofs.Common.{◌+◌, drop, sym, ap, ◌∙◌}
use Rattle.tree.specs.View.{statement_syntax, statements_syntax}
use Rattle.tree.proofs.Depths.{drop_item, drop_past}
use Rattle.meaning.specs.Mentions.{row_in, behind_row}
use Rattle.mentions.proofs.Adding.{same_adds}
use Rattle.marks.proofs.AddingBy.{adds_nothing, adds_same}
use Rattle.marks.proofs.FoundOut.{none_added, all_added, first_behind, none_behind, behind_kept}
use Rattle.marks.proofs.by_edition.behind_row.Goals as goal

pub returns-in-First : goal.returns-in-First
returns-in-First c =
    none_added _ _ c.in-First.is
    (none_behind c.args.walk.now.told.some_keep (row_in (statement_syntax c.args.statement.now)) (statements_syntax (drop (c.args.index + 1) c.args.list.now)))

pub returns-in-Some : goal.returns-in-Some
returns-in-Some c =
    let row = row_in (statement_syntax c.args.statement.now) in
    let next = c.in-Some.next.now in
    let list = drop_item c.args.list.now (c.args.index + 1) next c.in-Some.ensures.lookup.3.0 c.in-Some.ensures.lookup.1 in
    all_added _ _ c.guard_behind.new.marks _ c.in-Second.is
    (behind_kept row (statements_syntax (drop (c.args.index + 1) c.args.list.now)))
    (same_adds _ _ _ _ _
    (first_behind row (statement_syntax next) (statements_syntax (drop ((c.args.index + 1) + 1) c.args.list.now))
    ∙ ap (λ l. behind_row row (statements_syntax l)) (sym list))
    c.guard_behind.ensures)

pub returns-in-None : goal.returns-in-None
returns-in-None c =
    let row = row_in (statement_syntax c.args.statement.now) in
    adds_same _ _ _ _
    (ap (λ l. behind_row row (statements_syntax l)) (sym (drop_past c.args.list.now (c.args.index + 1) c.in-None.ensures.lookup.3)))
    (adds_nothing _)
