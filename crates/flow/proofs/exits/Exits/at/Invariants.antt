use Rattle.std.proofs.Common.{◌≡◌, drop}
use Rattle.code.specs.CodeViews.{way_view}
use Rattle.flow.specs.GraphViews.{exits_view}
use Rattle.flow.proofs.exits.Exits.at.Given as goal

-- those that are left lead where all lead
abbrev pub invariant-loop-exit : goal.invariant-loop-exit
invariant-loop-exit l =
    exits_view (drop l.exit-index l.exit-items) (way_view l.way) ≡ exits_view l.self.entries.items (way_view l.way)
