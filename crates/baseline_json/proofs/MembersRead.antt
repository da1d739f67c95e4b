-- What is read of the members of findings and of reports.
use Rattle.std.proofs.Common.{◌≡◌, ℕ, Bool, false, List, Option, Some, None, bytes_eq, codes, refl, sym, ◌∙◌}
use Rattle.serde_json.specs.Data.{Data, object, Members, no_members, put}
use Rattle.serde_json.specs.Find.{as_object, get, get_member}
use Rattle.json_reading.proofs.ObjectKeys.{set, kept, other_key}
use Rattle.baseline_json.specs.BaselineValues.{BaselineEntry, accepted_under, finding_in, number_under, packages_under, report_in, text_under}
use Rattle.baseline_json.specs.BaselineRead.{HasFindingMembers, HasReportMembers, finding_with, report_with}
use Rattle.baseline_json.proofs.ValuesRead.{nothing_under}

-- Putting one more member

module _ {X : Type 0} (of : Option Data → X) (key : List ℕ) (value : Data) (ms : Members) (found : X) where
  pub here : (k : List ℕ) → key ≡ k → found ≡ of (Some value) → found ≡ of (get_member k (put key value ms))
  here k same e = set (λ o. found ≡ of o) k key value ms same e

  beside : (k other : List ℕ) → key ≡ k → false ≡ bytes_eq k other → found ≡ of (get_member other ms)
      → found ≡ of (get_member other (put key value ms))
  beside k other same apart e =
      kept (λ o. found ≡ of o) other key value ms (λ f. other_key k other apart (sym same ∙ f)) e

  pub far : (other : List ℕ) → false ≡ bytes_eq key other → found ≡ of (get_member other ms)
      → found ≡ of (get_member other (put key value ms))
  far other apart e = kept (λ o. found ≡ of o) other key value ms (other_key key other apart) e

-- Findings

module _ (key : List ℕ) (value : Data) (ms : Members) (file code name : Option (List ℕ)) (was_accepted : Option Bool)
    (h : HasFindingMembers file code name was_accepted ms) where
  pub file_put : (found : Option (List ℕ)) → key ≡ codes "file" → found ≡ text_under (Some value)
      → HasFindingMembers found code name was_accepted (put key value ms)
  file_put found same e = record {
    is_file = here text_under key value ms found (codes "file") same e;
    is_code = beside text_under key value ms code (codes "file") (codes "code") same refl h.is_code;
    is_name = beside text_under key value ms name (codes "file") (codes "name") same refl h.is_name;
    is_accepted = beside accepted_under key value ms was_accepted (codes "file") (codes "accepted") same refl h.is_accepted;
  }

  pub code_put : (found : Option (List ℕ)) → key ≡ codes "code" → found ≡ text_under (Some value)
      → HasFindingMembers file found name was_accepted (put key value ms)
  code_put found same e = record {
    is_file = beside text_under key value ms file (codes "code") (codes "file") same refl h.is_file;
    is_code = here text_under key value ms found (codes "code") same e;
    is_name = beside text_under key value ms name (codes "code") (codes "name") same refl h.is_name;
    is_accepted = beside accepted_under key value ms was_accepted (codes "code") (codes "accepted") same refl h.is_accepted;
  }

  pub name_put : (found : Option (List ℕ)) → key ≡ codes "name" → found ≡ text_under (Some value)
      → HasFindingMembers file code found was_accepted (put key value ms)
  name_put found same e = record {
    is_file = beside text_under key value ms file (codes "name") (codes "file") same refl h.is_file;
    is_code = beside text_under key value ms code (codes "name") (codes "code") same refl h.is_code;
    is_name = here text_under key value ms found (codes "name") same e;
    is_accepted = beside accepted_under key value ms was_accepted (codes "name") (codes "accepted") same refl h.is_accepted;
  }

  pub accepted_put : (found : Option Bool) → key ≡ codes "accepted" → found ≡ accepted_under (Some value)
      → HasFindingMembers file code name found (put key value ms)
  accepted_put found same e = record {
    is_file = beside text_under key value ms file (codes "accepted") (codes "file") same refl h.is_file;
    is_code = beside text_under key value ms code (codes "accepted") (codes "code") same refl h.is_code;
    is_name = beside text_under key value ms name (codes "accepted") (codes "name") same refl h.is_name;
    is_accepted = here accepted_under key value ms found (codes "accepted") same e;
  }

  pub other_put : false ≡ bytes_eq key (codes "file")
      → false ≡ bytes_eq key (codes "code")
      → false ≡ bytes_eq key (codes "name")
      → false ≡ bytes_eq key (codes "accepted")
      → HasFindingMembers file code name was_accepted (put key value ms)
  other_put no_file no_code no_name no_accepted = record {
    is_file = far text_under key value ms file (codes "file") no_file h.is_file;
    is_code = far text_under key value ms code (codes "code") no_code h.is_code;
    is_name = far text_under key value ms name (codes "name") no_name h.is_name;
    is_accepted = far accepted_under key value ms was_accepted (codes "accepted") no_accepted h.is_accepted;
  }

pub no_finding_members : HasFindingMembers None None None (Some false) no_members
no_finding_members = record { is_file = refl; is_code = refl; is_name = refl; is_accepted = refl }

pub in_members : (value : Data)
    → finding_in value
    ≡ finding_with (text_under (get (codes "file") value)) (text_under (get (codes "code") value))
    (text_under (get (codes "name") value)) (accepted_under (get (codes "accepted") value))
unfolding finding_in finding_with
in_members value = refl

pub finding_found : (ms : Members) (file code name : Option (List ℕ)) (was_accepted : Option Bool)
    → HasFindingMembers file code name was_accepted ms
    → finding_with file code name was_accepted ≡ finding_in (object ms)
finding_found ms file code name was_accepted h =
    (λ i. finding_with (h.is_file i) (h.is_code i) (h.is_name i) (h.is_accepted i)) ∙ sym (in_members (object ms))

none_without_file : (code name : Option (List ℕ)) (was_accepted : Option Bool)
    → finding_with None code name was_accepted ≡ None
unfolding finding_with
none_without_file code name was_accepted = refl

pub no_finding : (value : Data) → as_object value ≡ None → finding_in value ≡ None
no_finding value e =
    in_members value
    ∙ (λ i. finding_with (text_under (nothing_under (codes "file") value e i)) (text_under (get (codes "code") value))
    (text_under (get (codes "name") value)) (accepted_under (get (codes "accepted") value)))
    ∙ none_without_file (text_under (get (codes "code") value)) (text_under (get (codes "name") value))
    (accepted_under (get (codes "accepted") value))

-- Reports

module _ (key : List ℕ) (value : Data) (ms : Members) (findings : Option (List BaselineEntry)) (version : Option ℕ)
    (h : HasReportMembers findings version ms) where
  pub packages_put : (found : Option (List BaselineEntry)) → key ≡ codes "packages"
      → found ≡ packages_under (Some value)
      → HasReportMembers found version (put key value ms)
  packages_put found same e = record {
    are_findings = here packages_under key value ms found (codes "packages") same e;
    is_version = beside number_under key value ms version (codes "packages") (codes "version") same refl h.is_version;
  }

  pub version_put : (found : Option ℕ) → key ≡ codes "version" → found ≡ number_under (Some value)
      → HasReportMembers findings found (put key value ms)
  version_put found same e = record {
    are_findings = beside packages_under key value ms findings (codes "version") (codes "packages") same refl h.are_findings;
    is_version = here number_under key value ms found (codes "version") same e;
  }

  pub another_put : false ≡ bytes_eq key (codes "packages") → false ≡ bytes_eq key (codes "version")
      → HasReportMembers findings version (put key value ms)
  another_put no_packages no_version = record {
    are_findings = far packages_under key value ms findings (codes "packages") no_packages h.are_findings;
    is_version = far number_under key value ms version (codes "version") no_version h.is_version;
  }

pub no_report_members : HasReportMembers None None no_members
no_report_members = record { are_findings = refl; is_version = refl }

pub in_report : (value : Data)
    → report_in value
    ≡ report_with (number_under (get (codes "version") value)) (packages_under (get (codes "packages") value))
unfolding report_in report_with
in_report value = refl

pub report_found : (ms : Members) (findings : Option (List BaselineEntry)) (version : Option ℕ)
    → HasReportMembers findings version ms
    → report_with version findings ≡ report_in (object ms)
report_found ms findings version h =
    (λ i. report_with (h.is_version i) (h.are_findings i)) ∙ sym (in_report (object ms))

none_without_version : (findings : Option (List BaselineEntry)) → report_with None findings ≡ None
unfolding report_with
none_without_version findings = refl

pub no_report : (value : Data) → as_object value ≡ None → report_in value ≡ None
no_report value e =
    in_report value
    ∙ (λ i. report_with (number_under (nothing_under (codes "version") value e i))
    (packages_under (get (codes "packages") value)))
    ∙ none_without_version (packages_under (get (codes "packages") value))
