use Rattle.std.proofs.Common.{◌≡◌, ◌++◌, drop, map}
use Rattle.std.specs.Prelude.{flat_map}
use Rattle.unit_config.specs.KeyedTexts.{key_told, keyed_of, texts_of}
use Rattle.unit_config.proofs.texts.Texts.keys_of_entries.Given as goal

-- what was added, with what is left, is the whole
abbrev pub invariant-loop-entry : goal.invariant-loop-entry
invariant-loop-entry l =
    map (λ key. key.now) l.keys.items
    ++ flat_map (key_told (texts_of l.self)) (map keyed_of (drop l.entry-index l.self.entries.items))
    ≡ flat_map (key_told (texts_of l.self)) (map keyed_of l.self.entries.items)
