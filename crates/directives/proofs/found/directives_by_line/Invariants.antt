use Rattle.std.proofs.Common.{◌≡◌, ◌+◌, ◌≤◌, ◌++◌, length, map}
use Rattle.directives.specs.Directives.{directive_view, directives_from, directives_of, lines_of}
use Rattle.directives.proofs.found.directives_by_line.Given as goal

-- what was found, and then the directives of the lines that are left, are those of the text
abbrev pub invariant-lines : goal.invariant-lines
invariant-lines l =
    (map directive_view l.found.items ++ directives_from l.number l.start (lines_of l.rest) ≡ directives_of l.text)
    × (l.start + length l.rest ≡ length l.text)
    × (l.number ≤ l.start + 1)

abbrev pub decreases-lines : goal.decreases-lines
decreases-lines l = length l.rest
