use Rattle.std.proofs.Common.{◌≡◌, ◌++◌, flat_map, take}
use Rattle.accepting.specs.Findings.{found_view}
use Rattle.told_reports.specs.UnitTexts.{shape_text}
use Rattle.told_reports.proofs.unit.write_units.Given as goal

abbrev pub invariant-loop-unit : goal.invariant-loop-unit
invariant-loop-unit g l =
    (g.S.Sink.taken l.sink
    ≡ g.S.Sink.taken l.initial.sink ++ flat_map (λ p. shape_text l.shape l.fixes l.style (found_view p)) (take l.unit-index l.packages))
    × (g.S.Sink.refusals l.sink ≡ g.S.Sink.refusals l.initial.sink)
