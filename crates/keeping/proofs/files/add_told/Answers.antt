use Rattle.std.proofs.Common.{map}
use Rattle.keeping.specs.declared.files.Told.TheVariants.{Unread}
use Rattle.keeping.specs.Keeping.{each_known}
use Rattle.noted_fields.specs.NotedFields.{note_view}
use Rattle.keeping.proofs.FilesNoted.{told_so}
use Rattle.keeping.proofs.files.add_told.Goals as goal

pub returns-in-Unread : goal.returns-in-Unread
returns-in-Unread c =
    told_so c.add_file.result (map note_view c.args.notes.now.items) (map note_view c.add_file.new.notes.items)
    (each_known c.args.known) c.args.told.now (Unread c.in-Unread.number c.in-Unread.file) c.in-Unread.is
    c.add_file.ensures
