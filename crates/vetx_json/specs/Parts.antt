-- What serves the proofs: faults, the version of a text, and numbers that fit.
use Rattle.std.specs.Prelude.{ℕ, ◌≡◌, List, Option, Some}
use Rattle.std.specs.List.{AllByRecursion}
use Rattle.serde_json.specs.Data.{Data}
use Rattle.serde_json.specs.Read.{read}
use Rattle.json_reading.specs.declared.stop.Stop.{Stop}
use Rattle.json_reading.specs.declared.stop.Stop.TheVariants as stop
use Rattle.table_json.specs.Parts.{HasFits as HaveFactsFits}
use Rattle.table_json.specs.TableTexts.{version_of}
use Rattle.table_json.specs.TableValues.{Fits}
use Rattle.vetx_json.specs.declared.fault.VetxFault.{VetxFault}
use Rattle.vetx_json.specs.declared.fault.VetxFault.TheVariants.{NotJson, OutOfMemory}
use Rattle.vetx_json.specs.KeptUnits.{FunctionEntry, UnlessEntry, VetxEntry}

-- the same fault, of what was kept
abbrev pub fault_of_stop : Stop → VetxFault
fault_of_stop stop.NotJson = NotJson
fault_of_stop stop.OutOfMemory = OutOfMemory

-- the version of a text is this
abbrev pub HasVersion : List ℕ → Option ℕ → Type 0
HasVersion text version = (value : Data) × (read text ≡ Some value) × (version ≡ version_of value)

-- the numbers fit, as do all that are kept in memory

pub record HasUnlessFits (u : UnlessEntry) : Type 0 where
  pub given_fits : Fits u.given
  pub error_fits : Fits u.error

pub record HasFits (f : FunctionEntry) : Type 0 where
  pub facts_fit : HaveFactsFits f.facts
  pub results_fit : Fits f.results
  pub unless_fit : AllByRecursion HasUnlessFits f.unless

pub record HasVetxFits (v : VetxEntry) : Type 0 where
  pub edition_fits : Fits v.edition
  pub functions_fit : AllByRecursion HasFits v.functions
