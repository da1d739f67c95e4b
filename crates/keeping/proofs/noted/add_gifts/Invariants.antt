use Rattle.std.proofs.Common.{◌≡◌, ◌++◌, drop, map}
use Rattle.std.specs.Prelude.{flat_map}
use Rattle.kept_forms.specs.FormViews.{gift_view}
use Rattle.mentions.specs.MarkViews.{body_view}
use Rattle.tracked.specs.LocalViews.{seen_view}
use Rattle.keeping.specs.Notes.{gift_notes}
use Rattle.noted_fields.specs.NotedFields.{note_view}
use Rattle.keeping.proofs.noted.add_gifts.Given as goal

-- what was added, with what is left, is the whole
abbrev pub invariant-loop-gift : goal.invariant-loop-gift
invariant-loop-gift l =
    map note_view l.notes.items
    ++ flat_map (gift_notes (seen_view l.seen) (map body_view l.bodies)) (map gift_view (drop l.gift-index l.gifts))
    ≡ map note_view l.initial.notes.items
    ++ flat_map (gift_notes (seen_view l.seen) (map body_view l.bodies)) (map gift_view l.gifts)
