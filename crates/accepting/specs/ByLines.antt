-- Which findings lines of their sources accept, and which lines accept nothing. A line with a directive in its form
-- accepts findings with a code that it names, on that line, and, where it stands alone, on the line below. So can be
-- accepted what is said of uses and paths (LC03 to LC13). An LC16, which `verify` alone says of a body, is said on each
-- line of the body, and accepted by each code of what certificates show (LC04, LC05, LC07, LC08 and LC10). In a package
-- with a fault as a whole no line is looked at.
use Rattle.std.specs.Prelude.{ℕ, ◌+◌, ◌-◌, ◌^◌, ◌==◌, Bool, true, false, ◌&&◌, ◌||◌, not, if◌then◌else◌, min, List, [], ◌∷◌, ◌++◌, Option, None, Some, slice_get, map, filter, is_some, codes}
use Rattle.std.specs.List.{list_any, range_with_len}
use Rattle.std.specs.Option.{option_or}
use Rattle.directives.specs.Directives.{DirectiveView, directives_of}
use Rattle.directives.specs.Forms.{names_code}
use Rattle.lexer.specs.Place.{line_of}
use Rattle.lexer.specs.declared.source.Source.{Source}
use Rattle.report.specs.Codes.{code_number}
use Rattle.report.specs.Entries.{Entry}
use Rattle.report.specs.ReportText.{bytes_of}
use Rattle.report.specs.declared.codes.DiagnosticCode.{DiagnosticCode}
use Rattle.report.specs.declared.codes.DiagnosticCode.TheVariants.{Unreadable, LeftOut, Discarded, Overwritten, NotCalled, CancelMisused, GroupIsLive, GroupOverwritten, GroupMisused, LeftToLiveGroup, BoundAgain, TooMany, ImportIsNotYes, ImportHasNoRank, TwoFunctions, NoCertificate, AcceptsNothing}
use Rattle.report.specs.declared.codes.TreeFault.TheVariants.{UnexpectedToken, TooDeep}
use Rattle.function_spans.specs.Bodies.{body_end}
use Rattle.accepting.specs.Findings.{AcceptedBy, FindingEntry, FoundEntry, line}
use Rattle.accepting.specs.Merged.{merged}

-- the codes that can be accepted: LC03 to LC13
abbrev pub is_acceptable : DiagnosticCode → Bool
is_acceptable Discarded = true
is_acceptable Overwritten = true
is_acceptable NotCalled = true
is_acceptable CancelMisused = true
is_acceptable GroupIsLive = true
is_acceptable GroupOverwritten = true
is_acceptable GroupMisused = true
is_acceptable LeftToLiveGroup = true
is_acceptable BoundAgain = true
is_acceptable TooMany = true
is_acceptable ImportIsNotYes = true
is_acceptable code = false

-- the codes of faults of a package as a whole
abbrev pub is_of_whole : DiagnosticCode → Bool
is_of_whole (Unreadable why) = true
is_of_whole (LeftOut UnexpectedToken) = true
is_of_whole (LeftOut TooDeep) = true
is_of_whole ImportHasNoRank = true
is_of_whole TwoFunctions = true
is_of_whole code = false

-- Directives of several sources

-- a directive, and the number of its source
pub record SourceDirective : Type 0 where
  pub file : ℕ
  pub directive : DirectiveView

abbrev pub in_source : ℕ → DirectiveView → SourceDirective
in_source file d = record { file = file; directive = d }

-- those of sources, the first of which has this number
abbrev pub directives_from : ℕ → List Source → List SourceDirective
directives_from file [] = []
directives_from file (s ∷ ss) = map (in_source file) (directives_of s.bytes.items) ++ directives_from (file + 1) ss

abbrev pub all_directives : List Source → List SourceDirective
all_directives sources = directives_from 0 sources

-- which directive stands on a line of a source
abbrev pub Lines : Type 0
Lines = (file line : ℕ) → Option DirectiveView

abbrev pub is_on : (file line : ℕ) → SourceDirective → Bool
is_on file n d = (d.file == file) && (d.directive.line == n)

abbrev pub on_line : List SourceDirective → Lines
on_line [] file n = None
on_line (d ∷ ds) file n = if is_on file n d then Some d.directive else on_line ds file n

-- For which reason a finding is accepted

-- one of these codes is one of what certificates show
abbrev pub names_certified : List ℕ → Bool
names_certified named =
    names_code named (codes "LC04")
    || (names_code named (codes "LC05")
    || (names_code named (codes "LC07") || (names_code named (codes "LC08") || names_code named (codes "LC10"))))

-- these codes accept a finding with this one
abbrev pub accepts_code : List ℕ → DiagnosticCode → Bool
accepts_code named NoCertificate = names_certified named
accepts_code named code = is_acceptable code && names_code named (code_number code)

-- the reason of a directive, if it accepts this code
abbrev pub reason_by : Option (List ℕ × List ℕ) → DiagnosticCode → Option (List ℕ)
reason_by None code = None
reason_by (Some (named, reason)) code = if accepts_code named code then Some reason else None

abbrev pub reason_of : Option DirectiveView → DiagnosticCode → Option (List ℕ)
reason_of None code = None
reason_of (Some d) code = reason_by d.accepts code

-- the directive, if it stands alone on its line
abbrev pub if_alone : Option DirectiveView → Option DirectiveView
if_alone None = None
if_alone (Some d) = if d.is_alone then Some d else None

-- the reasons that its own line and the line above give for a finding with this code, on this line of this source
abbrev pub own_reason : Lines → (file line : ℕ) → DiagnosticCode → Option (List ℕ)
own_reason lines file n code = reason_of (lines file n) code

abbrev pub reason_above : Lines → (file line : ℕ) → DiagnosticCode → Option (List ℕ)
reason_above lines file n code = reason_of (if_alone (lines file (n - 1))) code

-- that of its own line goes first
abbrev pub reason_for : Lines → (file line : ℕ) → DiagnosticCode → Option (List ℕ)
reason_for lines file n code = option_or (own_reason lines file n code) (reason_above lines file n code)

-- the first reason that one of these lines gives
abbrev pub first_reason : Lines → (file : ℕ) → DiagnosticCode → (ns : List ℕ) → Option (List ℕ)
first_reason lines file code [] = None
first_reason lines file code (n ∷ ns) =
    option_or (reason_for lines file n code) (first_reason lines file code ns)

-- by a line for this reason, if there is one
abbrev pub by_reason : Option (List ℕ) → Option AcceptedBy
by_reason None = None
by_reason (Some reason) = Some (line reason)

-- a finding on these lines, accepted where a line accepts it
abbrev pub accepted_on : Lines → (ns : List ℕ) → FindingEntry → FindingEntry
accepted_on lines ns f = record f {
  accepted = option_or (by_reason (first_reason lines f.said.file f.said.code ns)) f.accepted;
}

-- the line on which something is said: of an LC16, that of its body's `func`
abbrev pub line_at : List Source → Entry → ℕ
line_at sources said = line_of (bytes_of (slice_get sources said.file)) said.offset

-- the last line: of an LC16, that of the brace that closes its body
abbrev pub last_line_by : DiagnosticCode → List ℕ → (offset : ℕ) → ℕ
last_line_by NoCertificate text offset = line_of text (body_end text offset)
last_line_by code text offset = line_of text offset

abbrev pub last_line : List Source → Entry → ℕ
last_line sources said = last_line_by said.code (bytes_of (slice_get sources said.file)) said.offset

abbrev pub lines_between : (first last : ℕ) → List ℕ
lines_between first last = range_with_len first (last - first + 1)

-- all lines on which something is said
abbrev pub lines_at : List Source → Entry → List ℕ
lines_at sources said = lines_between (line_at sources said) (last_line sources said)

abbrev pub accepted_by_line : Lines → List Source → FindingEntry → FindingEntry
accepted_by_line lines sources f = accepted_on lines (lines_at sources f.said) f

-- Lines that accept nothing

-- A finding with this code on the line `n` of the source `at` is accepted by the line `m` of the source `file`. (Of an
-- LC16 only its first line counts here: where these lines are told, none is said.)
abbrev pub accepts_on : Lines → (at n : ℕ) → DiagnosticCode → (file m : ℕ) → Bool
accepts_on lines at n code file m =
    ((at == file) && ((n == m) && is_some (own_reason lines at n code)))
    || ((at == file) && ((n - 1 == m) && is_some (reason_above lines at n code)))

abbrev pub accepts : Lines → List Source → (file line : ℕ) → FindingEntry → Bool
accepts lines sources file n f =
    accepts_on lines f.said.file (line_at sources f.said) f.said.code file n

-- the directive stands on a line that accepts none of these findings
abbrev pub is_stale : Lines → List Source → List FindingEntry → SourceDirective → Bool
is_stale lines sources findings d = not (list_any (accepts lines sources d.file d.directive.line) findings)

-- the last offset that a finding can tell
abbrev pub last_offset : ℕ
last_offset = 2 ^ 32 - 1

-- what is said of it then, at its first byte, as far as findings can tell where this is
abbrev pub stale_finding : SourceDirective → FindingEntry
stale_finding d = record {
  said = record {
    file = d.file;
    offset = min d.directive.offset last_offset;
    code = AcceptsNothing;
    name = codes "-";
  };
  notes = [];
  way = [];
  accepted = None;
}

abbrev pub stale_findings : List Source → List FindingEntry → List FindingEntry
stale_findings sources findings =
    map stale_finding (filter (is_stale (on_line (all_directives sources)) sources findings) (all_directives sources))

abbrev pub stale_if : Bool → List Source → List FindingEntry → List FindingEntry
stale_if true sources findings = stale_findings sources findings
stale_if false sources findings = []

-- A package: one with a fault as a whole is told as it is.

abbrev pub has_whole_fault : List FindingEntry → Bool
has_whole_fault findings = list_any (λ f. is_of_whole f.said.code) findings

abbrev pub findings_by_lines : Bool → List Source → List FindingEntry → List FindingEntry
findings_by_lines tells_stale sources findings =
    if has_whole_fault findings then findings
    else merged (map (accepted_by_line (on_line (all_directives sources)) sources) findings)
    (stale_if tells_stale sources findings)

abbrev pub by_lines : (tells_stale : Bool) → FoundEntry → FoundEntry
by_lines tells_stale p = record p { findings = findings_by_lines tells_stale p.sources p.findings }
