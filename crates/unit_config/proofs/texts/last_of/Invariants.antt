use Rattle.std.proofs.Common.{◌≡◌, drop, map, option_map}
use Rattle.unit_config.specs.KeyedTexts.{keyed_of, last_from, last_of}
use Rattle.unit_config.proofs.texts.last_of.Given as goal

-- the last one of those that are left, or what was found before, is the last of all
abbrev pub invariant-loop-entry : goal.invariant-loop-entry
invariant-loop-entry l =
    last_from (option_map (λ entry. keyed_of entry.now) l.found) l.key (map keyed_of (drop l.entry-index l.entries))
    ≡ last_of l.key (map keyed_of l.entries)
