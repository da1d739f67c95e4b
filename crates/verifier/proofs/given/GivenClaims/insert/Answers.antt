use Rattle.std.proofs.Common.{string_bytes}
use Rattle.facts.proofs.FactMaps.{seen_as}
use Rattle.facts.proofs.FactParts.{on_ok}
use Rattle.first_values.specs.ValuesByName.{value_of}
use Rattle.verifier.proofs.given.GivenClaims.insert.Goals as goal

pub returns : goal.returns
returns c =
    on_ok c.insert.result
    (λ added. seen_as (λ ps. ps.now) (value_of c.args.self.now.functions) (value_of c.insert.new.self)
    c.as_str.result.now c.as_slice.result added (string_bytes c.args.function.now.name) c.as_str.ensures.value
    c.args.function.now.params.items c.as_slice.ensures.value)
    c.insert.ensures.ok
