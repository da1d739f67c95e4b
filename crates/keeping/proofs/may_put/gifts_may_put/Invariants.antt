use Rattle.std.proofs.Common.{◌≡◌, drop, map}
use Rattle.std.specs.List.{list_any}
use Rattle.kept_forms.specs.FormViews.{gift_view}
use Rattle.tracked_rows.specs.RowViews.{known_view}
use Rattle.keeping.specs.PlainFiles.{gift_may_put}
use Rattle.keeping.proofs.may_put.gifts_may_put.Given as goal

-- the test of those that are left is that of all
abbrev pub invariant-loop-gift : goal.invariant-loop-gift
invariant-loop-gift l =
    list_any (gift_may_put (known_view l.known) l.numbers) (map gift_view (drop l.gift-index l.gifts))
    ≡ list_any (gift_may_put (known_view l.known) l.numbers) (map gift_view l.gifts)
