use Rattle.std.proofs.Common.{map, sym, ◌∙◌, subst}
use Rattle.explanations.proofs.UsesOfFiles.{none_asked}
use Rattle.explanations.specs.KeptUses.{uses_view, HaveReasons}
use Rattle.explanations.proofs.told_reasons.uses_for.Goals as goal

pub returns-else-any_asked : goal.returns-else-any_asked
returns-else-any_asked c = λ ps tables p tells around means told.
    subst (λ us. HaveReasons ps tables p c.args.diagnostics.now (map uses_view us)) (sym c.new.ensures.items)
    (none_asked ps tables p c.args.diagnostics.now (sym c.any_asked.ensures ∙ c.if-any_asked.false))
