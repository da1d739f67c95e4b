use Rattle.std.proofs.Common.{sym, ◌∙◌}
use Rattle.std.proofs.lemmas.Option.{none-some}
use Rattle.one_package.proofs.judged.whole_only.Goals as goal

pub returns-clause-told : goal.returns-clause-told
returns-clause-told c = record {
  is_path = c.report_of.ensures.path;
  are_sources = c.report_of.ensures.sources;
  is_marked = λ none name f is. absurd (none-some f (sym (c.new-2.ensures name) ∙ is));
}
