-- Which texts are those of an earlier report, and why some are none.
use Rattle.std.specs.Prelude.{ℕ, ◌≡◌, List, Some, None, ⊤}
use Rattle.serde_json.specs.Data.{Data}
use Rattle.serde_json.specs.Read.{read}
use Rattle.baseline_json.specs.declared.fault.BaselineFault.{BaselineFault}
use Rattle.baseline_json.specs.declared.fault.BaselineFault.TheVariants.{NotJson, WrongShape, OutOfMemory}
use Rattle.baseline_json.specs.BaselineValues.{BaselineEntry, report_in}

-- the text is that of a report which found these
pub record IsBaselineText (text : List ℕ) (entries : List BaselineEntry) : Type 0 where
  pub value : Data
  pub is_json : read text ≡ Some value
  pub is_report : report_in value ≡ Some entries

-- why a text is not read
abbrev pub IsBaselineFault : List ℕ → BaselineFault → Type 0
IsBaselineFault text NotJson = read text ≡ None
IsBaselineFault text WrongShape = (value : Data) × (read text ≡ Some value) × (report_in value ≡ None)
IsBaselineFault text OutOfMemory = ⊤
