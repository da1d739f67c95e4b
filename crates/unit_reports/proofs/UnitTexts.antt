-- The text of a unit, where its notes are right in one sense and so in another.
use Rattle.accepting.specs.Findings.{FoundEntry}
use Rattle.unit_reports.specs.Units.{HoldsOfUnit, IsUnitText}
use Rattle.one_package.specs.declared.judged.Judged.{Judged}
use Rattle.report.specs.declared.notes.ExplainedPackage.{ExplainedPackage}
use Rattle.std.proofs.Common.{◌≡◌, ℕ, List, Bool, true, false}
use Rattle.told_reports.specs.UnitTexts.{unit_text_in}
use Rattle.told_reports.specs.declared.unit.UnitForm.{UnitForm}

pub holds_too : (with_reasons : Bool) (judged : Judged) (P Q : ExplainedPackage → Type 0) (holds : FoundEntry → Type 0)
    → ((e : ExplainedPackage) → P e → Q e)
    → HoldsOfUnit with_reasons judged P holds
    → HoldsOfUnit with_reasons judged Q holds
holds_too false judged P Q holds so is = is
holds_too true judged P Q holds so is = record {
  explained = is.explained;
  is_same = is.is_same;
  are_notes = so is.explained is.are_notes;
  so = is.so;
}

pub text_too : (form : UnitForm) (judged : Judged) (P Q : ExplainedPackage → Type 0) (text : List ℕ)
    → ((e : ExplainedPackage) → P e → Q e)
    → IsUnitText form judged P text
    → IsUnitText form judged Q text
text_too form judged P Q text so is =
    holds_too form.with_reasons judged P Q (λ found. text ≡ unit_text_in form found) so is
