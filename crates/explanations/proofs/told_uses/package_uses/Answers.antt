use Rattle.std.proofs.Common.{map, sym, ap, ◌∙◌, subst}
use Rattle.std.proofs.lemmas.Result.{IfOk-weaker}
use Rattle.explanations.proofs.UsesOfFiles.{have_reasons}
use Rattle.explanations.specs.KeptUses.{HaveReasons}
use Rattle.facts.specs.FactViews.{facts_by_name, facts_by_path}
use Rattle.imports.specs.Views.{text_views}
use Rattle.meaning.specs.Tracked.{these_fields}
use Rattle.names.specs.Answers.{declared_at}
use Rattle.tree.specs.View.{file_syntax}
use Rattle.explanations.proofs.told_uses.package_uses.Goals as goal

pub returns : goal.returns
returns c =
    IfOk-weaker c.files_uses.result _ _
    (λ uses so ps tables p tells around means told.
    let telling = c.args.telling in
    subst (HaveReasons ps tables p c.args.diagnostics.now) (sym so)
    (have_reasons ps tables p telling.loaded.now.edition (declared_at telling.names.now)
    (these_fields (text_views c.deref.result.now) (text_views c.deref-2.result.now))
    (facts_by_name telling.told.now.signatures) (facts_by_path telling.around.signatures.now)
    (sym tells.is_edition) means
    ((λ j. these_fields (text_views (c.deref.ensures.value j)) (text_views (c.deref-2.ensures.value j))) ∙ told.are_fields)
    told.are_signatures around.are_signatures
    (map file_syntax c.deref-3.result.now) c.args.diagnostics.now
    (ap (map file_syntax) c.deref-3.ensures.value ∙ sym tells.are_trees)))
    c.files_uses.ensures
