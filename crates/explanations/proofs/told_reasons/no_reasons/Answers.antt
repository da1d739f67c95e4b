use Rattle.std.proofs.Common.{map, sym, ◌∙◌, subst}
use Rattle.std.proofs.lemmas.Bool.{false≢true}
use Rattle.explanations.proofs.UsesOfFiles.{none_asked}
use Rattle.explanations.specs.KeptUses.{uses_view, HaveReasons}
use Rattle.explanations.proofs.told_reasons.no_reasons.Goals as goal

pub returns : goal.returns
returns c = λ ps tables i p ds no_path no_use.
    record {
      ways = λ asks. absurd (false≢true (sym no_path ∙ asks));
      uses = subst (λ us. HaveReasons ps tables p ds (map uses_view us)) (sym c.new-2.ensures.items)
          (none_asked ps tables p ds no_use);
    }
