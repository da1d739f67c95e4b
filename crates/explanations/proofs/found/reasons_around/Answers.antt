use Rattle.std.proofs.Common.{◌≡◌, ℕ, ap, map, sym, ◌∙◌}
use Rattle.std.proofs.lemmas.Result.{IfOk-weaker}
use Rattle.meaning.specs.Declarations.{declaration_of_use}
use Rattle.meaning_reports.specs.Loaded.{means_in}
use Rattle.names.specs.Answers.{declared_at, names_by_path}
use Rattle.given_packages.proofs.ImportedNames.{means_so}
use Rattle.tree.specs.View.{file_syntax}
use Rattle.explanations.proofs.found.reasons_around.Goals as goal

pub returns : goal.returns
returns c =
    IfOk-weaker c.told_reasons.result _ _
    (λ reasons so ps tables i p is_p tells around none.
    let names = names_by_path c.args.around.names.now in
    let trees = ap (map file_syntax) c.deref.ensures.value ∙ sym tells.are_trees in
    let means : (file at : ℕ) → declared_at c.in_ok-names.names file at ≡ means_in ps p file at =
    λ file at. c.in_ok-names.ensures file at
    ∙ (ap (λ ts. declaration_of_use ts names file at) trees ∙ means_so ps p names around.are_names file at) in
    so ps tables i p is_p tells around none means
    (c.in_ok-told.ensures.told ps tables i p is_p tells around none means))
    c.told_reasons.ensures
