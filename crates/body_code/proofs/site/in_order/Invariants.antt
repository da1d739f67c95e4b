use Rattle.std.proofs.Common.{◌≡◌, ◌++◌, drop}
use Rattle.code.specs.CodeViews.{codes_view, event_codes}
use Rattle.body_code.proofs.site.in_order.Given as goal

-- what was added with what the rest adds is the whole
abbrev pub invariant-loop-order : goal.invariant-loop-order
invariant-loop-order g l =
    codes_view l.codes.items ++ event_codes l.at l.order (drop l.order l.events) ≡ event_codes l.at 0 l.events
