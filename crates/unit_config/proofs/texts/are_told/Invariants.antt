use Rattle.std.proofs.Common.{◌≡◌, drop, map}
use Rattle.std.specs.List.{list_all}
use Rattle.unit_config.specs.KeyedTexts.{are_told, is_told, keyed_of}
use Rattle.unit_config.proofs.texts.are_told.Given as goal

-- whether those that are left are told is whether all are
abbrev pub invariant-loop-entry : goal.invariant-loop-entry
invariant-loop-entry l =
    list_all (is_told (map keyed_of l.entries)) (map keyed_of (drop l.entry-index l.entries))
    ≡ are_told (map keyed_of l.entries)
