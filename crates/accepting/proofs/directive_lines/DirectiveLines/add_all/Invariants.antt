use Rattle.std.proofs.Common.{◌≡◌, ℕ, drop, map}
use Rattle.std.specs.Option.{option_or}
use Rattle.directives.specs.Directives.{directive_view}
use Rattle.accepting.specs.ByLines.{in_source, on_line}
use Rattle.accepting.specs.LinesKept.{lines_of}
use Rattle.accepting.proofs.directive_lines.DirectiveLines.add_all.Given as goal

-- what was added, with what is left, is the whole
abbrev pub invariant-loop-directive : goal.invariant-loop-directive
invariant-loop-directive l =
    (other n : ℕ)
    → option_or (lines_of l.self other n) (on_line (map (in_source l.file) (map directive_view (drop l.directive-index l.directives))) other n)
    ≡ option_or (lines_of l.initial.self other n) (on_line (map (in_source l.file) (map directive_view l.directives)) other n)
