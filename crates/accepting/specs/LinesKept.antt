-- What the program keeps of the lines of sources, and what it stands for.
use Rattle.std.specs.Prelude.{ℕ, ◌==◌, Bool, true, false, ◌&&◌, if◌then◌else◌, Option, Some, List, [], filter, map, not, option_map}
use Rattle.std.specs.Borrow.{Bor}
use Rattle.indexmap.specs.IndexMap.{get}
use Rattle.indexmap.specs.IndexSet.{contains}
use Rattle.directives.specs.Directives.{DirectiveView, directive_view}
use Rattle.accepting.specs.ByLines.{Lines, SourceDirective, all_directives, is_on, is_stale, stale_finding}
use Rattle.lexer.specs.declared.source.Source.{Source}
use Rattle.accepting.specs.Findings.{FindingEntry}
use Rattle.accepting.specs.declared.directive_lines.DirectiveLines.{DirectiveLines}
use Rattle.accepting.specs.declared.directive_lines.SourceLine.{SourceLine}
use Rattle.accepting.specs.declared.stale.UsedLines.{UsedLines}

abbrev pub is_line : SourceLine → SourceLine → Bool
is_line a b = (a.file == b.file) && (a.line == b.line)

abbrev pub line_in : (file line : ℕ) → SourceLine
line_in file n = record { file = file; line = n }

-- the directive that is kept of a line
abbrev pub lines_of : DirectiveLines → Lines
lines_of kept file n = option_map directive_view (get is_line kept.directives (line_in file n))

-- the line has accepted something
abbrev pub is_used : UsedLines → (file line : ℕ) → Bool
is_used used file n = contains is_line used.lines (line_in file n)

-- a directive on its line, and something else elsewhere
abbrev pub line_or : SourceDirective → (file line : ℕ) → Option DirectiveView → Option DirectiveView
line_or d file n other = if is_on file n d then Some d.directive else other

-- a line accepts something, by this test, and is this one
abbrev pub is_line_used : Bool → (file line other other_line : ℕ) → Bool
is_line_used accepts file n other m = (file == other) && ((n == m) && accepts)

-- what is said of directives whose lines are not used
abbrev pub unused : ((file line : ℕ) → Bool) → List SourceDirective → List FindingEntry
unused used ds = map stale_finding (filter (λ d. not (used d.file d.directive.line)) ds)

-- a text, wherever it is kept
abbrev pub text_of : Bor (List ℕ) → List ℕ
text_of text = text.now

-- what is said of lines that accept nothing, if it is asked for
abbrev pub stale_by : Bool → Lines → List Source → List FindingEntry → List FindingEntry
stale_by true lines sources findings =
    map stale_finding (filter (is_stale lines sources findings) (all_directives sources))
stale_by false lines sources findings = []
