use Rattle.std.proofs.Common.{◌≡◌, ◌++◌, drop, map}
use Rattle.std.specs.Prelude.{flat_map}
use Rattle.imports.specs.Views.{text_views}
use Rattle.noted_fields.specs.NotedFields.{note_view, kept_by, kept_there, put_by}
use Rattle.noted_fields.proofs.by_notes.kept_names.Given as goal

-- what was added, with what is left, is the whole
abbrev pub invariant-loop-note : goal.invariant-loop-note
invariant-loop-note l =
    text_views l.fields.items
    ++ flat_map (kept_there (put_by (map note_view l.notes)) (map note_view l.notes)) (map note_view (drop l.note-index l.notes))
    ≡ kept_by (map note_view l.notes)
