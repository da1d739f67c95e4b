-- What a report says, key by key, and that a text has one answer.
use Rattle.std.specs.Prelude.{ℕ, ◌≡◌, ◌↔◌, List, Some}
use Rattle.serde_json.specs.Data.{Data}
use Rattle.baseline_json.specs.declared.fault.BaselineFault.{BaselineFault}
use Rattle.baseline_json.specs.declared.fault.BaselineFault.TheVariants.{OutOfMemory}
use Rattle.baseline_json.specs.BaselineReports.{IsReport}
use Rattle.baseline_json.specs.BaselineTexts.{IsBaselineFault, IsBaselineText}
use Rattle.baseline_json.specs.BaselineValues.{BaselineEntry, report_in}

-- a value says these findings exactly where it is a report that has them
abbrev pub WhatReportsSay : Type 0
WhatReportsSay =
    (value : Data) (entries : List BaselineEntry) → (report_in value ≡ Some entries) ↔ IsReport value entries

-- a text is that of one report at most; and one that is has no fault, but that memory is refused
pub record OneAnswer : Type 0 where
  pub one_report : (text : List ℕ) (entries others : List BaselineEntry) → IsBaselineText text entries
      → IsBaselineText text others
      → others ≡ entries
  pub no_fault : (text : List ℕ) (entries : List BaselineEntry) (fault : BaselineFault) → IsBaselineText text entries
      → IsBaselineFault text fault
      → fault ≡ OutOfMemory
