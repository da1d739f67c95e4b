-- What holds of any report with what is accepted. It is the whole report: it lacks no finding, and has besides at most
-- lines that accept nothing. A line accepts what stands on it or straight below it, and the baseline no more than it
-- has. By the first edition of the rules nothing is accepted.
use Rattle.std.specs.Prelude.{ℕ, ◌≡◌, ◌≤◌, ◌↔◌, Bool, true, false, not, List, [], Option, None, Some, count_by, filter, flat_map, map}
use Rattle.std.specs.List.{All, Contains}
use Rattle.lexer.specs.declared.source.Source.{Source}
use Rattle.report.specs.declared.codes.DiagnosticCode.{DiagnosticCode}
use Rattle.report.specs.declared.codes.DiagnosticCode.TheVariants.{AcceptsNothing}
use Rattle.report.specs.declared.codes.Wording.TheVariants.{First}
use Rattle.accepting.specs.ByBaseline.{Key, is_key, key_of, by_baseline}
use Rattle.accepting.specs.ByLines.{all_directives, by_lines, lines_at, on_line, reason_for}
use Rattle.accepting.specs.Findings.{AcceptedBy, FindingEntry, FoundEntry, line, baseline, is_accepted, verdict_of}
use Rattle.accepting.specs.Found.{found_in}
use Rattle.accepting.specs.declared.findings.Verdict.TheVariants.{Yes, Accepted}
use Rattle.accepting.specs.declared.telling.Telling.{Telling}

-- Nothing is lost

-- the code of a line that accepts nothing
abbrev pub is_of_line : DiagnosticCode → Bool
is_of_line AcceptsNothing = true
is_of_line code = false

-- a finding that is said of the program, and not of a line that accepts nothing
abbrev pub is_of_program : FindingEntry → Bool
is_of_program f = not (is_of_line f.said.code)

abbrev pub IsOfProgram : FoundEntry → Type 0
IsOfProgram p = All (λ f. is_of_program f ≡ true) p.findings

-- a finding, whether it is accepted or not
abbrev pub as_said : FindingEntry → FindingEntry
as_said f = record f { accepted = None }

-- a package with all its findings, whether they are accepted or not
abbrev pub package_as_said : FoundEntry → FoundEntry
package_as_said p = record p { findings = map as_said p.findings }

-- and without those of lines that accept nothing
abbrev pub program_as_said : FoundEntry → FoundEntry
program_as_said p = record p { findings = map as_said (filter is_of_program p.findings) }

-- the packages that are told are those that were found, with the same findings in the same order, and besides at most
-- findings of lines that accept nothing
abbrev pub NothingIsLost : Type 0
NothingIsLost = (telling : Telling) (packages : List FoundEntry) → All IsOfProgram packages
    → map program_as_said (found_in telling packages) ≡ map package_as_said packages

-- What is said of packages as a whole

abbrev pub AcceptedSaysAll : Type 0
AcceptedSaysAll = (findings : List FindingEntry)
    → verdict_of findings ≡ Accepted ↔ ((findings ≡ [] → ⊥) × All (λ f. is_accepted f ≡ true) findings)

abbrev pub YesSaysNone : Type 0
YesSaysNone = (findings : List FindingEntry) → verdict_of findings ≡ Yes ↔ findings ≡ []

-- The first edition of the rules

abbrev pub FirstEditionAcceptsNothing : Type 0
FirstEditionAcceptsNothing =
    (telling : Telling) (packages : List FoundEntry) → telling.wording ≡ First → found_in telling packages ≡ packages

-- Lines

abbrev pub IsNotAccepted : FindingEntry → Type 0
IsNotAccepted f = is_accepted f ≡ false

-- Where the finding is accepted, it is by a line on which it is said, for the reason that this line gives for it. That
-- is the line of its place, and for an LC16 each line of its body.
abbrev pub IsAcceptedByItsLine : List Source → FindingEntry → Type 0
IsAcceptedByItsLine sources f = (by : AcceptedBy) → f.accepted ≡ Some by
    → (reason : List ℕ)
    × (n : ℕ)
    × (by ≡ line reason)
    × Contains (lines_at sources f.said) n
    × (reason_for (on_line (all_directives sources)) f.said.file n f.said.code ≡ Some reason)

abbrev pub LinesAcceptTheirOwn : Type 0
LinesAcceptTheirOwn = (tells_stale : Bool) (p : FoundEntry) → All IsNotAccepted p.findings
    → All (IsAcceptedByItsLine p.sources) (by_lines tells_stale p).findings

-- The baseline

abbrev pub is_by_baseline : Option AcceptedBy → Bool
is_by_baseline None = false
is_by_baseline (Some (line reason)) = false
is_by_baseline (Some baseline) = true

-- the keys of the findings of a package that the baseline accepts
abbrev pub keys_by_baseline : FoundEntry → List Key
keys_by_baseline p = map (key_of p.sources) (filter (λ f. is_by_baseline f.accepted) p.findings)

abbrev pub IsNotOfBaseline : FoundEntry → Type 0
IsNotOfBaseline p = All (λ f. is_by_baseline f.accepted ≡ false) p.findings

abbrev pub BaselineAcceptsNoMore : Type 0
BaselineAcceptsNoMore = (known : List Key) (packages : List FoundEntry) (key : Key) → All IsNotOfBaseline packages
    → count_by (is_key key) (flat_map keys_by_baseline (by_baseline known [] packages)) ≤ count_by (is_key key) known
