use Rattle.parser_base.proofs.Faults.{is_stopped}
use Rattle.parser_parts.proofs.NamedItems.{settled-end, settled-fails, settled-goes-on}
use Rattle.parser_parts.proofs.signatures.all_with_names.Goals as goal

pub loop-param-preserved : goal.loop-param-preserved
loop-param-preserved c =
    rw c.in-Ok-holding.ensures (settled-goes-on c.loop-param.named.items c.loop-param.params.items _ c.loop-param.invariant c.pop.new.self.items c.in-Some.param c.in-Some.ensures.items c.with_name.result _ _ c.pop.new.self.ok.0 c.is_empty-is_last.ensures c.with_name.ensures _ c.in-Some-with_name.is)

pub returns-in-None : goal.returns-in-None
returns-in-None c =
    is_stopped c.unexpected.result _ (settled-fails c.loop-param.named.items c.loop-param.params.items _ c.loop-param.invariant c.pop.new.self.items c.in-Some.param c.in-Some.ensures.items c.with_name.result _ _ c.pop.new.self.ok.0 c.is_empty-is_last.ensures c.with_name.ensures c.in-None.is)

pub returns : goal.returns
returns c =
    settled-end c.loop-param.named.items c.loop-param.params.items _ c.loop-param.invariant _ c.loop-param.params.ok.0 c.in_default.ensures.cases.0
