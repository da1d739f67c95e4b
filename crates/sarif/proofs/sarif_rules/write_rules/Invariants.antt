use Rattle.std.proofs.Common.{◌≡◌, false, map, drop}
use Rattle.format_parts.specs.Pieces.{listed}
use Rattle.sarif.specs.SarifText.{rule_value}
use Rattle.format_parts.proofs.Steps.{Goes}
use Rattle.sarif.proofs.sarif_rules.write_rules.Given as goal

abbrev pub invariant-loop-code : goal.invariant-loop-code
invariant-loop-code g l =
    Goes (listed false (map (rule_value l.wording) l.codes)) (g.S.Sink.taken l.initial.sink) (g.S.Sink.taken l.sink) (listed l.is_later (map (rule_value l.wording) (drop l.code-index l.codes)))
    × (g.S.Sink.refusals l.sink ≡ g.S.Sink.refusals l.initial.sink)
