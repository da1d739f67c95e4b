use Rattle.std.proofs.Common.{Some, ap, sym, ◌∙◌}
use Rattle.report_json.proofs.JsonPieces.{is_passed, is_taken, no_branch}
use Rattle.report_json.proofs.note_kinds.words_taken.Goals as goal

pub returns-in_default : goal.returns-in_default
returns-in_default c = no_branch _ (sym c.taken_by.ensures ∙ c.in_default.is)

pub returns-then-is_taken : goal.returns-then-is_taken
returns-then-is_taken c = is_taken _ (sym c.taken_by.ensures ∙ (c.in-Some.is ∙ ap Some c.if-is_taken.true))

pub returns-else-is_taken : goal.returns-else-is_taken
returns-else-is_taken c = is_passed _ (sym c.taken_by.ensures ∙ (c.in-Some.is ∙ ap Some c.if-is_taken.false))
