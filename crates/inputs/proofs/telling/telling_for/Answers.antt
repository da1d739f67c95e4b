use Rattle.inputs.specs.Editions.{edition_of_run}
use Rattle.inputs.proofs.ToldSo.{told_so}
use Rattle.inputs.proofs.telling.telling_for.Goals as goal

pub returns : goal.returns
returns c =
    told_so c.edition_of_run.result (edition_of_run c.args.sources.now) c.args.words c.args.is_check _ _ _ _ _
    c.edition_of_run.ensures c.deref.ensures.value c.deref-2.ensures.value c.telling_of.ensures
