use Rattle.std.proofs.Common.{sym, ◌∙◌}
use Rattle.parser_base.proofs.Faults.{is_stopped}
use Rattle.parser_clauses.proofs.SimpleParts.{not_single}
use Rattle.parser_clauses.proofs.simple.single.Goals as goal

pub returns-else-is_empty : goal.returns-else-is_empty
returns-else-is_empty c = is_stopped c.unexpected.result _ (not_single _ c.pop.new.self.items c.in-Some.only c.pop.new.self.len c.in-Some.ensures.items c.pop.new.self.ok.0 (sym c.is_empty.ensures ∙ c.if-is_empty.false))
