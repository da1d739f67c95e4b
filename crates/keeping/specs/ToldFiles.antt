-- What the files of a package say of fields, some of which are looked at first, and the others only if need be.
-- (This tool's rules.)
use Rattle.std.specs.Prelude.{ℕ, Bool, false, List, map}
use Rattle.tree.specs.View.{file_syntax}
use Rattle.meaning.specs.Tracked.{Known}
use Rattle.meaning.specs.BodyEvents.{seen_file}
use Rattle.keeping.specs.declared.files.Told.{Told}
use Rattle.keeping.specs.declared.files.Told.TheVariants.{Noted, Unread}
use Rattle.keeping.specs.Notes.{notes_in}
use Rattle.noted_fields.specs.NotedFields.{Note, note_view, some_put}

-- what was said puts a cancel function into a field
abbrev pub told_puts : Told → Bool
told_puts (Noted notes) = some_put (map note_view notes.items)
told_puts (Unread number file) = false

-- what the file says, by what is known in the file of each number
abbrev pub told_notes : (ℕ → Known) → Told → List Note
told_notes known (Noted notes) = map note_view notes.items
told_notes known (Unread number file) = notes_in (seen_file (known number) (file_syntax file.now))
