-- A value says findings exactly where it has the members that say them.
use Rattle.std.proofs.Common.{◌≡◌, ◌==◌, ◌⊎◌, inl, inr, ℕ, ◌++◌, Bool, true, false, List, [], ◌∷◌, Option, Some, None, if◌then◌else◌, option_and_then, option_map, codes, refl, sym, ap, subst, ◌∙◌}
use Rattle.std.proofs.lemmas.Bool.{eqb-true, or_cases}
use Rattle.std.specs.List.{AllZip}
use Rattle.serde_json.specs.Data.{Num, unsigned, negative, float, Data, null, boolean, number, string, array, object, Items, no_items, item}
use Rattle.serde_json.specs.Find.{as_array, as_number, as_str, as_u64, get}
use Rattle.serde_json.specs.View.{items_of}
use Rattle.baseline_json.specs.declared.baseline.TheConstants.{FIRST_VERSION, SECOND_VERSION}
use Rattle.baseline_json.specs.BaselineLaws.{WhatReportsSay}
use Rattle.baseline_json.specs.BaselineRead.{finding_with, report_with}
use Rattle.baseline_json.specs.BaselineReports.{HasReason, IsFinding, IsPackage, IsReport, IsVersion, joined}
use Rattle.baseline_json.specs.BaselineValues.{BaselineEntry, accepted_under, finding_in, findings_of, findings_under, is_known, number_under, package_in, packages_of, packages_under, report_in, text_under}
use Rattle.baseline_json.proofs.MembersRead.{in_members, in_report}

some_same : {A : Type 0} {a b : A} → Some a ≡ Some b → a ≡ b
some_same e = cc

none_some : {A : Type 0} {a : A} → None ≡ Some a → ⊥
none_some e = absurd (cc)

module _ {X Y : Type 0} (y : Y) where
  -- what was found by two steps was found by the first
  then_some : (f : X → Option Y) (o : Option X) → option_and_then f o ≡ Some y
      → (x : X) × (o ≡ Some x) × (f x ≡ Some y)
  then_some f None e = absurd (none_some e)
  then_some f (Some x) e = (x, refl, e)

  map_some : (f : X → Y) (o : Option X) → option_map f o ≡ Some y → (x : X) × (o ≡ Some x) × (f x ≡ y)
  map_some f None e = absurd (none_some e)
  map_some f (Some x) e = (x, refl, some_same e)

-- Strings, reasons, numbers and lists

string_is : (value : Data) (text : List ℕ) → as_str value ≡ Some text → value ≡ string text
string_is null text e = absurd (none_some e)
string_is (boolean b) text e = absurd (none_some e)
string_is (number n) text e = absurd (none_some e)
string_is (string s) text e = ap string (some_same e)
string_is (array ds) text e = absurd (none_some e)
string_is (object ms) text e = absurd (none_some e)

text_is : (under : Option Data) (text : List ℕ) → text_under under ≡ Some text → under ≡ Some (string text)
text_is None text e = absurd (none_some e)
text_is (Some value) text e = ap Some (string_is value text e)

reason_is : (under : Option Data) (was_accepted : Bool) → accepted_under under ≡ Some was_accepted
    → HasReason under was_accepted
reason_is None was e = subst (HasReason None) (some_same e) refl
reason_is (Some value) was e =
    let found = map_some was (λ text. true) (as_str value) e in
    subst (HasReason (Some value)) found.2 (found.0, ap Some (string_is value found.0 found.1))

reason_said : (under : Option Data) (was_accepted : Bool) → HasReason under was_accepted
    → accepted_under under ≡ Some was_accepted
reason_said under true h = ap accepted_under h.1
reason_said under false h = ap accepted_under h

whole_is : (x : Num) (n : ℕ) → as_u64 x ≡ Some n → x ≡ unsigned n
whole_is (unsigned m) n e = ap unsigned (some_same e)
whole_is (negative z) n e = absurd (none_some e)
whole_is (float x) n e = absurd (none_some e)

number_is : (value : Data) (n : ℕ) → option_and_then as_u64 (as_number value) ≡ Some n → value ≡ number (unsigned n)
number_is null n e = absurd (none_some e)
number_is (boolean b) n e = absurd (none_some e)
number_is (number x) n e = ap number (whole_is x n e)
number_is (string s) n e = absurd (none_some e)
number_is (array ds) n e = absurd (none_some e)
number_is (object ms) n e = absurd (none_some e)

version_is : (under : Option Data) (n : ℕ) → number_under under ≡ Some n → under ≡ Some (number (unsigned n))
version_is None n e = absurd (none_some e)
version_is (Some value) n e = ap Some (number_is value n e)

all_items : (ds : Items) → (values : List Data) × (ds ≡ items_of values)
all_items no_items = ([], refl)
all_items (item d ds) = let rest = all_items ds in (d ∷ rest.0, ap (item d) rest.1)

list_is : (value : Data) (ds : Items) → as_array value ≡ Some ds → value ≡ array ds
list_is null ds e = absurd (none_some e)
list_is (boolean b) ds e = absurd (none_some e)
list_is (number n) ds e = absurd (none_some e)
list_is (string s) ds e = absurd (none_some e)
list_is (array others) ds e = ap array (some_same e)
list_is (object ms) ds e = absurd (none_some e)

-- what was found in the items of a list
module _ (of : Items → Option (List BaselineEntry)) where
  list_under : (under : Option Data) (entries : List BaselineEntry)
      → option_and_then (λ value. option_and_then of (as_array value)) under ≡ Some entries
      → (values : List Data) × (under ≡ Some (array (items_of values))) × (of (items_of values) ≡ Some entries)
  list_under None entries e = absurd (none_some e)
  list_under (Some value) entries e =
      let found = then_some entries of (as_array value) e in
      let all = all_items found.0 in (
        all.0,
        ap Some (list_is value found.0 found.1 ∙ ap array all.1),
        ap of (sym all.1) ∙ found.2,
      )

-- Findings

finding_is : (value : Data) (entry : BaselineEntry) → finding_in value ≡ Some entry → IsFinding value entry
unfolding finding_in
finding_is value entry e =
    let file = then_some entry _ (text_under (get (codes "file") value)) e in
    let code = then_some entry _ (text_under (get (codes "code") value)) file.2 in
    let name = then_some entry _ (text_under (get (codes "name") value)) code.2 in
    let was = then_some entry _ (accepted_under (get (codes "accepted") value)) name.2 in
    subst (IsFinding value) (some_same was.2) (record {
      has_file = text_is (get (codes "file") value) file.0 file.1;
      has_code = text_is (get (codes "code") value) code.0 code.1;
      has_name = text_is (get (codes "name") value) name.0 name.1;
      has_reason = reason_is (get (codes "accepted") value) was.0 was.1;
    })

with_all : (entry : BaselineEntry)
    → finding_with (Some entry.file) (Some entry.code) (Some entry.name) (Some entry.was_accepted) ≡ Some entry
unfolding finding_with
with_all entry = refl

finding_said : (value : Data) (entry : BaselineEntry) → IsFinding value entry → finding_in value ≡ Some entry
finding_said value entry h =
    let was = reason_said (get (codes "accepted") value) entry.was_accepted h.has_reason in
    in_members value
    ∙ (λ i. finding_with (text_under (h.has_file i)) (text_under (h.has_code i)) (text_under (h.has_name i)) (was i))
    ∙ with_all entry

findings_are : (ds : List Data) (entries : List BaselineEntry) → findings_of (items_of ds) ≡ Some entries
    → AllZip IsFinding ds entries
findings_are [] entries e = subst (AllZip IsFinding []) (some_same e) tt
findings_are (d ∷ ds) entries e =
    let first = then_some entries _ (finding_in d) e in
    let rest = map_some entries _ (findings_of (items_of ds)) first.2 in
    subst (AllZip IsFinding (d ∷ ds)) rest.2 (finding_is d first.0 first.1, findings_are ds rest.0 rest.1)

findings_said : (ds : List Data) (entries : List BaselineEntry) → AllZip IsFinding ds entries
    → findings_of (items_of ds) ≡ Some entries
findings_said [] [] h = refl
findings_said [] (x ∷ entries) h = absurd h
findings_said (d ∷ ds) [] h = absurd h
findings_said (d ∷ ds) (x ∷ entries) h =
    let first = finding_said d x h.0 in
    let rest = findings_said ds entries h.1 in
    λ i. option_and_then (λ entry. option_map (λ others. entry ∷ others) (rest i)) (first i)

-- Packages

package_is : (value : Data) (entries : List BaselineEntry) → package_in value ≡ Some entries → IsPackage value entries
package_is value entries e =
    let found = list_under findings_of (get (codes "diagnostics") value) entries e in record {
      values = found.0;
      has_diagnostics = found.1;
      are_findings = findings_are found.0 entries found.2;
    }

package_said : (value : Data) (entries : List BaselineEntry) → IsPackage value entries → package_in value ≡ Some entries
package_said value entries h = ap findings_under h.has_diagnostics ∙ findings_said h.values entries h.are_findings

packages_are : (ds : List Data) (entries : List BaselineEntry) → packages_of (items_of ds) ≡ Some entries
    → (packages : List (List BaselineEntry)) × AllZip IsPackage ds packages × (entries ≡ joined packages)
packages_are [] entries e = ([], tt, sym (some_same e))
packages_are (d ∷ ds) entries e =
    let first = then_some entries _ (package_in d) e in
    let rest = map_some entries _ (packages_of (items_of ds)) first.2 in
    let others = packages_are ds rest.0 rest.1 in (
      first.0 ∷ others.0,
      (package_is d first.0 first.1, others.1),
      sym rest.2 ∙ ap (λ more. first.0 ++ more) others.2,
    )

packages_said : (ds : List Data) (packages : List (List BaselineEntry)) → AllZip IsPackage ds packages
    → packages_of (items_of ds) ≡ Some (joined packages)
packages_said [] [] h = refl
packages_said [] (x ∷ packages) h = absurd h
packages_said (d ∷ ds) [] h = absurd h
packages_said (d ∷ ds) (x ∷ packages) h =
    let first = package_said d x h.0 in
    let rest = packages_said ds packages h.1 in
    λ i. option_and_then (λ entries. option_map (λ others. entries ++ others) (rest i)) (first i)

-- Reports

version_known : (under : Option Data) (version : ℕ) → under ≡ Some (number (unsigned version)) → is_known version ≡ true
    → IsVersion under
version_known under version is known =
    elim (or_cases (version == FIRST_VERSION) (version == SECOND_VERSION) known) [
      | inl first ↦ inl (is ∙ ap (λ n. Some (number (unsigned n))) (eqb-true version FIRST_VERSION first))
      | inr second ↦ inr (is ∙ ap (λ n. Some (number (unsigned n))) (eqb-true version SECOND_VERSION second))
    ]

known : (b : Bool) (found : Option (List BaselineEntry)) (entries : List BaselineEntry)
    → (if b then found else None) ≡ Some entries
    → (b ≡ true) × (found ≡ Some entries)
known true found entries e = (refl, e)
known false found entries e = absurd (none_some e)

report_is : (value : Data) (entries : List BaselineEntry) → report_in value ≡ Some entries → IsReport value entries
unfolding report_in
report_is value entries e =
    let version = then_some entries _ (number_under (get (codes "version") value)) e in
    let that = known (is_known version.0) _ entries version.2 in
    let found = list_under packages_of (get (codes "packages") value) entries that.1 in
    let all = packages_are found.0 entries found.2 in record {
      has_version =
          version_known (get (codes "version") value) version.0
          (version_is (get (codes "version") value) version.0 version.1) that.0;
      values = found.0;
      has_packages = found.1;
      packages = all.0;
      are_packages = all.1;
      are_all = all.2;
    }

with_first : (findings : Option (List BaselineEntry)) → report_with (Some FIRST_VERSION) findings ≡ findings
unfolding report_with
with_first findings = refl

with_second : (findings : Option (List BaselineEntry)) → report_with (Some SECOND_VERSION) findings ≡ findings
unfolding report_with
with_second findings = refl

with_version : (under : Option Data) → IsVersion under → (findings : Option (List BaselineEntry))
    → report_with (number_under under) findings ≡ findings
with_version under (inl first) findings = (λ i. report_with (number_under (first i)) findings) ∙ with_first findings
with_version under (inr second) findings = (λ i. report_with (number_under (second i)) findings) ∙ with_second findings

report_said : (value : Data) (entries : List BaselineEntry) → IsReport value entries → report_in value ≡ Some entries
report_said value entries h =
    in_report value
    ∙ (λ i. report_with (number_under (get (codes "version") value)) (packages_under (h.has_packages i)))
    ∙ with_version (get (codes "version") value) h.has_version (packages_of (items_of h.values))
    ∙ packages_said h.values h.packages h.are_packages
    ∙ ap Some (sym h.are_all)

pub what_reports_say : WhatReportsSay
what_reports_say value entries = (report_is value entries, report_said value entries)
