use Rattle.std.proofs.Common.{◌≡◌, drop, Some}
use Rattle.std.specs.List.{list_all}
use Rattle.tracked.specs.LocalViews.{seen_view}
use Rattle.meaning.specs.Tracked.{lefts_of, left_local}
use Rattle.meaning.specs.Uses.{is_group_or_none}
use Rattle.mentions.specs.MarkViews.{form_view}
use Rattle.uses.proofs.bindings.are_all_groups.Given as goal

-- the test of the names that are left is that of all
abbrev pub invariant-loop-index : goal.invariant-loop-index
invariant-loop-index l =
    list_all (λ n. is_group_or_none (seen_view l.seen) (left_local (seen_view l.seen).known (Some n)))
    (drop l.index (lefts_of (form_view l.row.form)))
    ≡ list_all (λ n. is_group_or_none (seen_view l.seen) (left_local (seen_view l.seen).known (Some n)))
    (lefts_of (form_view l.row.form))
