use Rattle.std.proofs.Common.{map}
use Rattle.std.proofs.lemmas.List.Filters.{dedup_is}
use Rattle.unit_config.specs.KeyedTexts.{keyed_of}
use Rattle.unit_config.proofs.TextKeys.{are_keys}
use Rattle.unit_config.proofs.texts.Texts.keys.Goals as goal

pub returns : goal.returns
returns c =
    are_keys (map keyed_of c.args.self.now.entries.items) _ _ _ c.in_ok-keys.ensures c.sort_unstable.ensures.permutation
    c.sort_unstable.ensures.sorted (dedup_is _ _ _ c.dedup.ensures.filtered)
