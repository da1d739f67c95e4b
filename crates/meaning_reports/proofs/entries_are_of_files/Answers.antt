use Rattle.meaning_reports.proofs.EntryFiles.{entries_are_of_files}
use Rattle.meaning_reports.proofs.entries_are_of_files.Goals as goal

pub returns : goal.returns
returns c = entries_are_of_files
