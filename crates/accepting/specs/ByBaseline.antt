-- Which findings stand in the report of an earlier run, the baseline: by file, code and name, since lines move. Where
-- several are the same by these, as many of them are accepted as the baseline has, the first ones in report order.
-- What a line of its source accepts plays no part.
use Rattle.std.specs.Prelude.{ℕ, Bool, ◌&&◌, not, if◌then◌else◌, nat_lt, List, [], ◌∷◌, ◌++◌, Some, is_some, map, filter, count_by, slice_get}
use Rattle.std.specs.Str.{bytes_eq}
use Rattle.baseline_json.specs.BaselineValues.{BaselineEntry, entry_of}
use Rattle.baseline_json.specs.declared.baseline.BaselineFinding.{BaselineFinding}
use Rattle.lexer.specs.declared.source.Source.{Source}
use Rattle.report.specs.Codes.{code_number}
use Rattle.report.specs.ReportText.{name_of}
use Rattle.accepting.specs.ByLines.{is_acceptable}
use Rattle.accepting.specs.Findings.{FindingEntry, FoundEntry, baseline}

-- by what a finding is found in the baseline
pub record Key : Type 0 where
  pub file : List ℕ
  pub code : List ℕ
  pub name : List ℕ

abbrev pub is_key : Key → Key → Bool
is_key a b = bytes_eq a.file b.file && (bytes_eq a.code b.code && bytes_eq a.name b.name)

abbrev pub key_in : BaselineEntry → Key
key_in e = record { file = e.file; code = e.code; name = e.name }

abbrev pub baseline_keys : List BaselineFinding → List Key
baseline_keys findings = map (λ f. key_in (entry_of f)) findings

abbrev pub key_of : List Source → FindingEntry → Key
key_of sources f = record {
  file = name_of (slice_get sources f.said.file);
  code = code_number f.said.code;
  name = f.said.name;
}

-- it may be accepted so, and no line accepts it
abbrev pub is_open : FindingEntry → Bool
is_open f = is_acceptable f.said.code && not (is_some f.accepted)

-- the keys of such findings, in their order
abbrev pub open_keys : List Source → List FindingEntry → List Key
open_keys sources findings = map (key_of sources) (filter is_open findings)

-- the baseline has one more of this key than stood before
abbrev pub has_more : List Key → List Key → Key → Bool
has_more known before key = nat_lt (count_by (is_key key) before) (count_by (is_key key) known)

abbrev pub accepted_if : Bool → FindingEntry → FindingEntry
accepted_if stands f = if stands then record f { accepted = Some baseline } else f

-- findings of a package behind others with these keys
abbrev pub findings_by_baseline : List Key → List Key → List Source → List FindingEntry → List FindingEntry
findings_by_baseline known before sources [] = []
findings_by_baseline known before sources (f ∷ fs) =
    accepted_if (is_open f && has_more known before (key_of sources f)) f
    ∷ findings_by_baseline known (before ++ open_keys sources (f ∷ [])) sources fs

-- packages behind others whose findings have these keys
abbrev pub by_baseline : List Key → List Key → List FoundEntry → List FoundEntry
by_baseline known before [] = []
by_baseline known before (p ∷ ps) =
    record p { findings = findings_by_baseline known before p.sources p.findings }
    ∷ by_baseline known (before ++ open_keys p.sources p.findings) ps
