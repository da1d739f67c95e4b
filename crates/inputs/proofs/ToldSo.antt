-- How a report is told, by the edition and what was read.
use Rattle.std.proofs.Common.{◌≡◌, Bool, Global, List, String, subst}
use Rattle.accepting.specs.declared.telling.Telling.{Telling}
use Rattle.baseline_json.specs.declared.baseline.BaselineFinding.{BaselineFinding}
use Rattle.command_line.specs.declared.words.ReportWords.{ReportWords}
use Rattle.inputs.specs.Tellings.{IsTellingOf}
use Rattle.tree.specs.declared.edition.Edition.{Edition}

pub told_so : (edition by : Edition) (words : ReportWords) (is_check : Bool) (known items : List BaselineFinding)
    (unasked paths : List (String Global)) (telling : Telling)
    → edition ≡ by
    → known ≡ items
    → unasked ≡ paths
    → IsTellingOf edition words is_check known unasked telling
    → IsTellingOf by words is_check items paths telling
told_so edition by words is_check known items unasked paths telling same are others is =
    subst (λ e. IsTellingOf e words is_check items paths telling) same
    (subst (λ k. IsTellingOf edition words is_check k paths telling) are
    (subst (λ u. IsTellingOf edition words is_check known u telling) others is))
