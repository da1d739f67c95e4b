use Rattle.std.proofs.Common.{◌≡◌, drop}
use Rattle.std.specs.List.{list_any}
use Rattle.calls_flags.specs.HandedOn.{body_hands, told_hands}
use Rattle.lists.specs.ListViews.{items_at}
use Rattle.calls_flags.proofs.handed_on.file_hands.Given as goal

-- the test of those that are left is that of all
abbrev pub invariant-loop-body : goal.invariant-loop-body
invariant-loop-body l =
    list_any (λ b. body_hands l.path (items_at l.told.events b.at)) (drop l.body-index l.told.opened.items)
    ≡ told_hands l.path l.told
