use Rattle.std.proofs.Common.{◌≡◌, drop, map}
use Rattle.std.specs.List.{list_any}
use Rattle.kept.specs.KeptViews.{is_name_at}
use Rattle.kept_forms.specs.FormViews.{gift_view}
use Rattle.kept.proofs.holder.some_name_at.Given as goal

-- what is told of those that are left is told of all
abbrev pub invariant-loop-gift : goal.invariant-loop-gift
invariant-loop-gift l =
    list_any (is_name_at l.at) (map gift_view (drop l.gift-index l.gifts)) ≡ list_any (is_name_at l.at) (map gift_view l.gifts)
