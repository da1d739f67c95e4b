use Rattle.std.proofs.Common.{ℕ, ◌≤◌, length}
use Rattle.names.specs.Answers.{at_name, names_by_path}
use Rattle.names.specs.KeptMeanings.{kept_at, AreNumbered}
use Rattle.names.specs.Uses.{meant}
use Rattle.names.proofs.FirstAnswers.{Says, uses_from}
use Rattle.meaning.specs.Scopes.{file_names}
use Rattle.meaning.specs.Declarations.{locals_of}
use Rattle.tree.specs.View.{file_syntax}
use Rattle.names.proofs.answers.file_answers.Given as goal

-- the answers are those of the namings from the number on
abbrev pub invariant-loop-left : goal.invariant-loop-left
invariant-loop-left l =
    AreNumbered l.answers × (l.left ≤ length l.namings.items)
    × ((at : ℕ)
    → Says (meant (at_name l.block) (names_by_path l.packages) (file_syntax l.file)) (kept_at l.answers at)
    (uses_from (locals_of (file_names (file_syntax l.file))) l.namings.items l.left) at)

abbrev pub decreases-loop-left : goal.decreases-loop-left
decreases-loop-left l = l.left
