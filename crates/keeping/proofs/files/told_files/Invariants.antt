use Rattle.std.proofs.Common.{◌≡◌, ◌++◌, drop, map}
use Rattle.std.specs.Prelude.{◌||◌, flat_map}
use Rattle.std.specs.List.{list_any}
use Rattle.meaning_reports.specs.Loaded.{seen_from}
use Rattle.silent_files.specs.WalkedFiles.{is_walked}
use Rattle.tree.specs.View.{file_syntax}
use Rattle.keeping.specs.Notes.{notes_in}
use Rattle.keeping.specs.Keeping.{each_known, notes_by}
use Rattle.noted_fields.specs.NotedFields.{some_put}
use Rattle.keeping.specs.ToldFiles.{told_notes, told_puts}
use Rattle.keeping.proofs.files.told_files.Given as goal

-- what was found out, with what the files say that are left, is the whole
abbrev pub invariant-loop-number : goal.invariant-loop-number
invariant-loop-number l =
    ((list_any told_puts l.all.items
    || some_put (notes_by (is_walked l.walked) (each_known l.known) l.number (map file_syntax (drop l.number l.files))))
    ≡ some_put (notes_by (is_walked l.walked) (each_known l.known) 0 (map file_syntax l.files)))
    × (flat_map (told_notes (each_known l.known)) l.all.items
    ++ flat_map notes_in (seen_from (each_known l.known) l.number (map file_syntax (drop l.number l.files)))
    ≡ flat_map notes_in (seen_from (each_known l.known) 0 (map file_syntax l.files)))
