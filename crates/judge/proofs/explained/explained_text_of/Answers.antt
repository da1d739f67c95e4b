use Rattle.std.proofs.Common.{◌∙◌, map, ap, sym, subst}
use Rattle.all_packages.specs.Reports.{AreReports}
use Rattle.declared_json.specs.DeclaredPackages.{packages_of}
use Rattle.declared_tables.specs.DeclaredTables.{declared_tables}
use Rattle.explanations.specs.Plain.{judged_view}
use Rattle.judge.proofs.explained.explained_text_of.Goals as goal

pub returns-clause-explained : goal.returns-clause-explained
returns-clause-explained g c =
    let judged = c.in_ok-judged.judged.items in
    let explained = c.in_ok-explained.explained.items in
    let same = c.deref.ensures.value in
    let declared = declared_tables (packages_of c.args.outside.now) in
    record {
      tells_report = record {
        said = judged;
        are_reports = c.in_ok-judged.ensures.reports;
        told = c.in_ok-report.ensures;
      };
      explained = explained;
      are_same = c.in_ok-explained.ensures.plain ∙ ap (map judged_view) same;
      are_explained = λ ps tell distinct.
          c.in_ok-explained.ensures.notes ps tell distinct
          (subst (λ said. AreReports declared ps c.args.packages.now said) (sym same)
          (c.in_ok-judged.ensures.reports ps tell distinct));
      is_text = c.in_ok-text.ensures;
    }
