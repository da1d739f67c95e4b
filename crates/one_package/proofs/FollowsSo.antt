-- What was judged of a package follows from results.
use Rattle.std.proofs.Common.{ℕ, List, Result, Ok, Err, IfOk, sym, ◌∙◌}
use Rattle.whole_packages.specs.declared.loaded_package.LoadedPackage.{LoadedPackage as KeptPackage}
use Rattle.whole_packages.specs.LoadedViews.{TellsPackage}
use Rattle.meaning_reports.specs.Loaded.{LoadedPackage, Tables}
use Rattle.meaning_reports.specs.PackageReports.{Rules}
use Rattle.gathering.specs.Results.{IsSaidBy}
use Rattle.one_package.specs.declared.judged.Judged.{Judged}
use Rattle.one_package.specs.Judgments.{IsJudgment, TellsSources, said_view}

pub if_both : {T E : Type 0} (P Q : T → Type 0) (r : Result T E) → IfOk r P → IfOk r Q → IfOk r (λ t. P t × Q t)
if_both P Q (Ok t) p q = (p, q)
if_both P Q (Err e) p q = p

pub said_so : (rules : Rules) (ps : List LoadedPackage) (tables : Tables) (i : ℕ) (p : LoadedPackage)
    (kept : KeptPackage) (judged : Judged)
    → TellsPackage p kept
    → TellsSources kept judged
    → IsJudgment rules ps tables i p judged
    → IsSaidBy rules ps tables i p (said_view judged)
said_so rules ps tables i p kept judged tells told judgment = record {
  is_path = told.is_path ∙ sym tells.is_path;
  is_table = judgment.is_table;
  are_findings = judgment.are_findings;
  are_fields = judgment.are_fields;
}
