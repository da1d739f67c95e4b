use Rattle.report_formats.proofs.NoteLines.{begins_with_tab}
use Rattle.report_formats.proofs.laws.each_note_begins_with_a_tab.Goals as goal

pub returns : goal.returns
returns c = begins_with_tab
