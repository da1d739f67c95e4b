use Rattle.parser_parts.proofs.NamedItems.{item-found, item-passed}
use Rattle.parser_parts.proofs.signatures.has_named.Goals as goal

pub returns-in-Named : goal.returns-in-Named
returns-in-Named c =
    item-found c.args.params.now c.loop-param.param-index c.loop-param-test.true _ c.param-item.is _ _ _ _ c.in-Named.is c.loop-param.invariant

pub loop-param-preserved : goal.loop-param-preserved
loop-param-preserved c =
    item-passed c.args.params.now c.loop-param.param-index c.loop-param-test.true _ c.param-item.is _ c.in_default.not-Named c.loop-param.invariant
