-- A text has one answer.
use Rattle.std.proofs.Common.{◌≡◌, ℕ, List, Some, None, refl, sym, ap, ◌∙◌}
use Rattle.serde_json.specs.Data.{Data}
use Rattle.serde_json.specs.Read.{read}
use Rattle.baseline_json.specs.declared.fault.BaselineFault.{BaselineFault}
use Rattle.baseline_json.specs.declared.fault.BaselineFault.TheVariants.{NotJson, WrongShape, OutOfMemory}
use Rattle.baseline_json.specs.BaselineLaws.{OneAnswer}
use Rattle.baseline_json.specs.BaselineTexts.{IsBaselineFault, IsBaselineText}
use Rattle.baseline_json.specs.BaselineValues.{BaselineEntry, report_in}

some_same : {A : Type 0} {a b : A} → Some a ≡ Some b → a ≡ b
some_same e = cc

some_none : {A : Type 0} {a : A} → Some a ≡ None → ⊥
some_none e = absurd (cc)

module _ (text : List ℕ) (entries : List BaselineEntry) (h : IsBaselineText text entries) where
  -- any value of the text says the same
  said : (value : Data) → read text ≡ Some value → report_in value ≡ Some entries
  said value is = ap report_in (some_same (sym is ∙ h.is_json)) ∙ h.is_report

  one_report : (others : List BaselineEntry) → IsBaselineText text others → others ≡ entries
  one_report others k = some_same (sym k.is_report ∙ said k.value k.is_json)

  no_fault : (fault : BaselineFault) → IsBaselineFault text fault → fault ≡ OutOfMemory
  no_fault NotJson is = absurd (some_none (sym h.is_json ∙ is))
  no_fault WrongShape is = absurd (some_none (sym (said is.0 is.1) ∙ is.2))
  no_fault OutOfMemory is = refl

pub one_answer : OneAnswer
one_answer = record {
  one_report = λ text entries others h k. one_report text entries h others k;
  no_fault = λ text entries fault h is. no_fault text entries h fault is;
}
