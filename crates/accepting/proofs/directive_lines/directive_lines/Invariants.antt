use Rattle.std.proofs.Common.{◌≡◌, ℕ, drop}
use Rattle.std.specs.Option.{option_or}
use Rattle.accepting.specs.ByLines.{all_directives, directives_from, on_line}
use Rattle.accepting.specs.LinesKept.{lines_of}
use Rattle.accepting.proofs.directive_lines.directive_lines.Given as goal

-- what was added, with what is left, is the whole
abbrev pub invariant-loop-file : goal.invariant-loop-file
invariant-loop-file l =
    (other n : ℕ)
    → option_or (lines_of l.lines other n) (on_line (directives_from l.file (drop l.file l.sources)) other n)
    ≡ on_line (all_directives l.sources) other n
