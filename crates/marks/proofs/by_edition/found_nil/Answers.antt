use Rattle.tree.specs.View.{expression_syntax}
use Rattle.meaning.specs.Mentions.{nil_where}
use Rattle.marks.proofs.FoundOut.{none_added, all_added, no_nil, nil_kept}
use Rattle.marks.proofs.by_edition.found_nil.Goals as goal

pub returns-in-First : goal.returns-in-First
returns-in-First c =
    none_added _ _ c.in-First.is
    (no_nil c.args.walk.now.told.some_keep c.args.site (nil_where c.args.outcome (expression_syntax c.args.condition.now)))

pub returns-in-Second : goal.returns-in-Second
returns-in-Second c =
    all_added _ _ c.found_nil.new.marks _ c.in-Second.is
    (nil_kept c.args.site (nil_where c.args.outcome (expression_syntax c.args.condition.now))) c.found_nil.ensures
