use Rattle.std.proofs.Common.{◌≡◌, drop, map}
use Rattle.std.specs.List.{list_any}
use Rattle.noted_fields.specs.NotedFields.{note_view, spoils_it}
use Rattle.noted_fields.proofs.by_notes.is_spoiled.Given as goal

-- the test of those that are left is that of all
abbrev pub invariant-loop-note : goal.invariant-loop-note
invariant-loop-note l =
    list_any (spoils_it l.name) (map note_view (drop l.note-index l.notes))
    ≡ list_any (spoils_it l.name) (map note_view l.notes)
