-- What a value has that is a report, key by key. Members under other keys play no part. That these are the values that
-- say findings (`report_in`) is proved: `WhatReportsSay`.
use Rattle.std.specs.Prelude.{ℕ, ◌≡◌, ◌⊎◌, Bool, true, false, List, [], ◌∷◌, ◌++◌, Option, Some, None, codes}
use Rattle.std.specs.List.{AllZip}
use Rattle.serde_json.specs.Data.{Data, unsigned, number, string, array}
use Rattle.serde_json.specs.Find.{get}
use Rattle.serde_json.specs.View.{items_of}
use Rattle.baseline_json.specs.declared.baseline.TheConstants.{FIRST_VERSION, SECOND_VERSION}
use Rattle.baseline_json.specs.BaselineValues.{BaselineEntry}

-- under `accepted` stands a reason where a finding was accepted, and nothing where it was not
abbrev pub HasReason : Option Data → Bool → Type 0
HasReason under true = (reason : List ℕ) × (under ≡ Some (string reason))
HasReason under false = under ≡ None

-- an object with these members, and any others
pub record IsFinding (value : Data) (entry : BaselineEntry) : Type 0 where
  pub has_file : get (codes "file") value ≡ Some (string entry.file)
  pub has_code : get (codes "code") value ≡ Some (string entry.code)
  pub has_name : get (codes "name") value ≡ Some (string entry.name)
  pub has_reason : HasReason (get (codes "accepted") value) entry.was_accepted

-- an object with a list of these findings, one a value, and any other members
pub record IsPackage (value : Data) (entries : List BaselineEntry) : Type 0 where
  pub values : List Data
  pub has_diagnostics : get (codes "diagnostics") value ≡ Some (array (items_of values))
  pub are_findings : AllZip IsFinding values entries

-- the findings of all packages, one package after the other
abbrev pub joined : List (List BaselineEntry) → List BaselineEntry
joined [] = []
joined (entries ∷ packages) = entries ++ joined packages

-- one of the known versions
abbrev pub IsVersion : Option Data → Type 0
IsVersion under = (under ≡ Some (number (unsigned FIRST_VERSION))) ⊎ (under ≡ Some (number (unsigned SECOND_VERSION)))

-- an object with a known version and a list of packages, one a value, of which these are all findings
pub record IsReport (value : Data) (entries : List BaselineEntry) : Type 0 where
  pub has_version : IsVersion (get (codes "version") value)
  pub values : List Data
  pub has_packages : get (codes "packages") value ≡ Some (array (items_of values))
  pub packages : List (List BaselineEntry)
  pub are_packages : AllZip IsPackage values packages
  pub are_all : entries ≡ joined packages
