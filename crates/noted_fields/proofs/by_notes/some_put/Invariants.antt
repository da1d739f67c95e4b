use Rattle.std.proofs.Common.{◌≡◌, drop, map}
use Rattle.noted_fields.specs.NotedFields.{note_view, some_put}
use Rattle.noted_fields.proofs.by_notes.some_put.Given as goal

-- the test of those that are left is that of all
abbrev pub invariant-loop-note : goal.invariant-loop-note
invariant-loop-note l = some_put (map note_view (drop l.note-index l.notes)) ≡ some_put (map note_view l.notes)
