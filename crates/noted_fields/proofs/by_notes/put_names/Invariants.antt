use Rattle.std.proofs.Common.{◌≡◌, ◌++◌, drop, map}
use Rattle.imports.specs.Views.{text_views}
use Rattle.noted_fields.specs.NotedFields.{note_view, put_by}
use Rattle.noted_fields.proofs.by_notes.put_names.Given as goal

-- what was added, with what is left, is the whole
abbrev pub invariant-loop-note : goal.invariant-loop-note
invariant-loop-note l =
    text_views l.names.items ++ put_by (map note_view (drop l.note-index l.notes)) ≡ put_by (map note_view l.notes)
