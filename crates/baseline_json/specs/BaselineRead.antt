-- What serves the proofs: what is read of values, and of the members of objects.
use Rattle.std.specs.Prelude.{ℕ, ◌≡◌, ◌==◌, Bool, List, ◌++◌, Option, Some, None, if◌then◌else◌, option_and_then, option_map, codes, string_bytes}
use Rattle.json.specs.Token.{Token}
use Rattle.serde_json.specs.Data.{Data, Members}
use Rattle.serde_json.specs.Find.{get_member}
use Rattle.json_reading.specs.declared.stop.Stop.{Stop}
use Rattle.json_reading.specs.declared.stop.Stop.TheVariants as stop
use Rattle.baseline_json.specs.declared.fault.BaselineFault.{BaselineFault}
use Rattle.baseline_json.specs.declared.fault.BaselineFault.TheVariants.{NotJson, OutOfMemory}
use Rattle.baseline_json.specs.declared.findings.FindingMembers.{FindingMembers}
use Rattle.baseline_json.specs.BaselineValues.{◌>>=◌, BaselineEntry, accepted_under, is_known, number_under, packages_under, text_under}

-- the value that stands there was passed, and this was found in it
abbrev pub ReadsIn : {X : Type 0} → (Data → X) → Option (Data × List Token) → List Token → X → Type 0
ReadsIn {X} find standing new found = (value : Data) × (standing ≡ Some (value, new)) × (found ≡ find value)

-- one list after the other, where both are there
abbrev pub both_lists : {X : Type 0} → Option (List X) → Option (List X) → Option (List X)
both_lists {X} first second = option_and_then (λ xs. option_map (λ ys. xs ++ ys) second) first

-- the members of an object from which these were read
module _ (file code name : Option (List ℕ)) (was_accepted : Option Bool) where
  pub record HasFindingMembers (ms : Members) : Type 0 where
    pub is_file : file ≡ text_under (get_member (codes "file") ms)
    pub is_code : code ≡ text_under (get_member (codes "code") ms)
    pub is_name : name ≡ text_under (get_member (codes "name") ms)
    pub is_accepted : was_accepted ≡ accepted_under (get_member (codes "accepted") ms)

abbrev pub HasMembers : FindingMembers → Members → Type 0
HasMembers read = HasFindingMembers
    (option_map string_bytes read.file) (option_map string_bytes read.code)
    (option_map string_bytes read.name) read.was_accepted

-- the finding of such an object
unfoldable pub finding_with : Option (List ℕ) → Option (List ℕ) → Option (List ℕ) → Option Bool
    → Option BaselineEntry
finding_with file code name was_accepted = do
  f ← file
  c ← code
  n ← name
  a ← was_accepted
  Some (record { file = f; code = c; name = n; was_accepted = a })

-- the members of a report from which these were read
pub record HasReportMembers (findings : Option (List BaselineEntry)) (version : Option ℕ) (ms : Members)
    : Type 0 where
  pub are_findings : findings ≡ packages_under (get_member (codes "packages") ms)
  pub is_version : version ≡ number_under (get_member (codes "version") ms)

-- the findings of such a report
unfoldable pub report_with : Option ℕ → Option (List BaselineEntry) → Option (List BaselineEntry)
report_with version findings = do
  v ← version
  if is_known v then findings else None

abbrev pub fault_of_stop : Stop → BaselineFault
fault_of_stop stop.NotJson = NotJson
fault_of_stop stop.OutOfMemory = OutOfMemory
