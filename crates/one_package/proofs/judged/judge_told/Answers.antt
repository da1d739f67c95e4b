use Rattle.std.proofs.Common.{refl, map, sym, ap, subst}
use Rattle.called_parameters.specs.Called.{is_called}
use Rattle.meaning_reports.specs.PackageReports.{AreFieldsToTell}
use Rattle.meaning_reports.specs.PackageTables.{full}
use Rattle.report.specs.Entries.{entry_of, texts_of}
use Rattle.one_package.proofs.ToldFields.{told_again}
use Rattle.one_package.proofs.judged.judge_told.Goals as goal

pub returns-clause-told : goal.returns-clause-told
returns-clause-told g c = λ marked. record {
  is_path = c.report_of.ensures.path;
  are_sources = c.report_of.ensures.sources;
  is_marked = marked;
}

pub returns-clause-judged : goal.returns-clause-judged
returns-clause-judged g c = λ declared ps tables i p is_p tells around not_yes none told.
    let found = c.in_ok-diagnostics.ensures.found declared ps tables i p is_p tells around not_yes told none in
    record {
      is_table = full (is_called c.in_ok-diagnostics.field-0.called) none found.are_flags told.are_signatures (λ name k. refl)
          told.is_told;
      are_findings = record {
        in_order = c.report_of.ensures.sorted;
        each = λ x. (
          λ h. (found.each x).0 ((c.report_of.ensures.same x).0 h),
          λ h. (c.report_of.ensures.same x).1 ((found.each x).1 h),
        );
      };
      are_fields = told_again ps tables p (map entry_of c.in_ok-diagnostics.field-0.diagnostics.items)
          (map entry_of c.report_of.result.diagnostics.items)
          (texts_of c.in_ok-keeping.keeping.items) (texts_of c.report_of.result.keeping.items)
          c.report_of.ensures.same (ap texts_of (sym c.report_of.ensures.keeping))
          (subst (λ ds. AreFieldsToTell ps tables p (map entry_of ds) (texts_of c.in_ok-keeping.keeping.items))
          c.deref.ensures.value (c.in_ok-keeping.ensures ps tables p _ told));
    }

pub returns-clause-certified : goal.returns-clause-certified
returns-clause-certified g c = λ ps tables i p is_p tells around none told. record {
  of_bodies = λ no_fault. c.in_ok-diagnostics.ensures.certified ps tables i p is_p tells around told none;
  are_none = λ x fault. absurd (none x fault);
}
