use Rattle.std.proofs.Common.{◌≡◌, ◌++◌, drop, map}
use Rattle.explanations.specs.KeptUses.{known_at, reasons_from, uses_view}
use Rattle.tree.specs.View.{file_syntax}
use Rattle.explanations.proofs.told_uses.files_uses.Given as goal

-- the files that were told, with those that are left, are all
abbrev pub invariant-loop-number : goal.invariant-loop-number
invariant-loop-number l =
    map uses_view l.uses.items
    ++ reasons_from (known_at l.known) l.diagnostics l.number (map file_syntax (drop l.number l.trees))
    ≡ reasons_from (known_at l.known) l.diagnostics 0 (map file_syntax l.trees)
