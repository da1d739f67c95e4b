use Rattle.std.proofs.Common.{◌≡◌, map, drop}
use Rattle.std.specs.List.{list_all}
use Rattle.meaning.specs.Uses.{literals_between, runs_once}
use Rattle.mentions.specs.MarkViews.{body_view}
use Rattle.allowed_uses.proofs.between.run_all_once.Given as goal

-- the test of the literals that are left is that of all
abbrev pub invariant-loop-literal : goal.invariant-loop-literal
invariant-loop-literal l =
    list_all (runs_once l.edition) (literals_between l.body (map body_view (drop l.literal-index l.bodies)))
    ≡ list_all (runs_once l.edition) (literals_between l.body (map body_view l.bodies))
