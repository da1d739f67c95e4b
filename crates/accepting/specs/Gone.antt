-- Which findings of the report of an earlier run, the baseline, are gone. One of them is met where the run has more
-- findings of its key than the baseline has before it. Gone is what is not met, was not accepted then, and has a code
-- that can be accepted.
use Rattle.std.specs.Prelude.{ℕ, ◌+◌, Bool, true, false, ◌&&◌, not, if◌then◌else◌, List, [], ◌∷◌, ◌++◌, Option, Some, None, map, flat_map, filter}
use Rattle.std.specs.List.{list_any}
use Rattle.std.specs.Str.{bytes_eq}
use Rattle.baseline_json.specs.BaselineValues.{BaselineEntry}
use Rattle.lexer.specs.declared.source.Source.{Source}
use Rattle.report.specs.Codes.{code_number}
use Rattle.report.specs.declared.codes.DiagnosticCode.{DiagnosticCode}
use Rattle.report.specs.declared.codes.DiagnosticCode.TheVariants.{Discarded, Overwritten, NotCalled, CancelMisused, GroupIsLive, GroupOverwritten, GroupMisused, LeftToLiveGroup, BoundAgain, TooMany, ImportIsNotYes}
use Rattle.accepting.specs.ByBaseline.{Key, key_in, key_of, has_more}
use Rattle.accepting.specs.ByLines.{is_acceptable}
use Rattle.accepting.specs.Findings.{AcceptedBy, line, baseline, FindingEntry, FoundEntry}

abbrev pub is_by_line : Option AcceptedBy → Bool
is_by_line (Some (line reason)) = true
is_by_line (Some baseline) = false
is_by_line None = false

-- it may be accepted, and no line accepts it, whether the baseline does or not
abbrev pub is_of_run : FindingEntry → Bool
is_of_run f = is_acceptable f.said.code && not (is_by_line f.accepted)

-- the keys of such findings, of a package and of packages
abbrev pub keys_of_findings : List Source → List FindingEntry → List Key
keys_of_findings sources findings = map (key_of sources) (filter is_of_run findings)

abbrev pub keys_of_run : List FoundEntry → List Key
keys_of_run = flat_map (λ p. keys_of_findings p.sources p.findings)

-- the codes that can be accepted, as a report prints them
abbrev pub acceptable_codes : List DiagnosticCode
acceptable_codes =
    Discarded ∷ Overwritten ∷ NotCalled ∷ CancelMisused ∷ GroupIsLive ∷ GroupOverwritten ∷ GroupMisused
    ∷ LeftToLiveGroup ∷ BoundAgain ∷ TooMany ∷ ImportIsNotYes ∷ []

abbrev pub is_acceptable_text : List ℕ → Bool
is_acceptable_text text = list_any (λ code. bytes_eq text (code_number code)) acceptable_codes

-- it was to be mended: nothing accepted it, though something could have
abbrev pub was_open : BaselineEntry → Bool
was_open e = not e.was_accepted && is_acceptable_text e.code

-- it is gone, where entries with these keys stand before it in the baseline
abbrev pub is_gone : List Key → List Key → BaselineEntry → Bool
is_gone run before e = not (has_more run before (key_in e)) && was_open e

-- how many are gone of entries behind others with these keys
abbrev pub gone_behind : List Key → List Key → List BaselineEntry → ℕ
gone_behind run before [] = 0
gone_behind run before (e ∷ es) =
    (if is_gone run before e then 1 else 0) + gone_behind run (before ++ key_in e ∷ []) es

abbrev pub gone : List BaselineEntry → List FoundEntry → ℕ
gone entries packages = gone_behind (keys_of_run packages) [] entries
