-- What an earlier report found, and which value says it. Of each object the keys that are named here count, and others
-- are passed over. An object of `serde_json` has each key once: of equal keys of a text the last one counts. A report
-- is written so by `ctxvet check --format json`.
use Rattle.std.specs.Prelude.{ℕ, ◌==◌, ◌||◌, Bool, true, false, List, [], ◌∷◌, ◌++◌, Option, Some, None, if◌then◌else◌, map, option_and_then, option_map, codes, string_bytes}
use Rattle.serde_json.specs.Data.{Data, Items, no_items, item}
use Rattle.serde_json.specs.Find.{as_array, as_number, as_str, as_u64, get}
use Rattle.baseline_json.specs.declared.baseline.Baseline.{Baseline}
use Rattle.baseline_json.specs.declared.baseline.BaselineFinding.{BaselineFinding}
use Rattle.baseline_json.specs.declared.baseline.TheConstants.{FIRST_VERSION, SECOND_VERSION}

-- one finding
pub record BaselineEntry : Type 0 where
  pub file : List ℕ
  pub code : List ℕ
  pub name : List ℕ
  pub was_accepted : Bool

abbrev pub entry_of : BaselineFinding → BaselineEntry
entry_of finding = record {
  file = string_bytes finding.file;
  code = string_bytes finding.code;
  name = string_bytes finding.name;
  was_accepted = finding.was_accepted;
}

abbrev pub entries_of : Baseline → List BaselineEntry
entries_of baseline = map entry_of baseline.findings.items

-- a step of what follows
infixl 10 ◌>>=◌
abbrev pub ◌>>=◌ : {X Y : Type 0} → Option X → (X → Option Y) → Option Y
o >>= f = option_and_then f o

-- What stands under a key that counts, or is missing

abbrev pub text_under : Option Data → Option (List ℕ)
text_under under = option_and_then as_str under

-- a reason, which is a string, says that a finding was accepted
abbrev pub accepted_in : Data → Option Bool
accepted_in reason = option_map (λ text. true) (as_str reason)

abbrev pub accepted_under : Option Data → Option Bool
accepted_under None = Some false
accepted_under (Some reason) = accepted_in reason

-- What a value says; none where something in it is missing or unfit

-- a finding
unfoldable pub finding_in : Data → Option BaselineEntry
finding_in value = do
  file ← text_under (get (codes "file") value)
  code ← text_under (get (codes "code") value)
  name ← text_under (get (codes "name") value)
  was_accepted ← accepted_under (get (codes "accepted") value)
  Some (record { file = file; code = code; name = name; was_accepted = was_accepted })

-- a list of findings, in their order
abbrev pub findings_of : Items → Option (List BaselineEntry)
findings_of no_items = Some []
findings_of (item value values) =
    option_and_then (λ entry. option_map (λ entries. entry ∷ entries) (findings_of values)) (finding_in value)

abbrev pub findings_in : Data → Option (List BaselineEntry)
findings_in value = option_and_then findings_of (as_array value)

abbrev pub findings_under : Option Data → Option (List BaselineEntry)
findings_under under = option_and_then findings_in under

-- the findings of a package
abbrev pub package_in : Data → Option (List BaselineEntry)
package_in value = findings_under (get (codes "diagnostics") value)

-- those of a list of packages, one package after the other
abbrev pub packages_of : Items → Option (List BaselineEntry)
packages_of no_items = Some []
packages_of (item value values) =
    option_and_then (λ entries. option_map (λ others. entries ++ others) (packages_of values)) (package_in value)

abbrev pub packages_in : Data → Option (List BaselineEntry)
packages_in value = option_and_then packages_of (as_array value)

abbrev pub packages_under : Option Data → Option (List BaselineEntry)
packages_under under = option_and_then packages_in under

-- a whole number: one without a sign, a point or an exponent
abbrev pub number_under : Option Data → Option ℕ
number_under under = option_and_then as_u64 (option_and_then as_number under)

-- reports of these versions are read
abbrev pub is_known : ℕ → Bool
is_known version = version == FIRST_VERSION || version == SECOND_VERSION

-- the findings of a report, where its version is known
unfoldable pub report_in : Data → Option (List BaselineEntry)
report_in value = do
  version ← number_under (get (codes "version") value)
  if is_known version then packages_under (get (codes "packages") value) else None
