use Rattle.std.proofs.Common.{map, sym}
use Rattle.mentions.specs.MarkViews.{body_view, mark_view}
use Rattle.kept_forms.proofs.AddedParts.{adds_none_of}
use Rattle.kept_events.proofs.NoKeeping.{seen_no_objects}
use Rattle.kept_events.proofs.events.add_objects.Goals as goal

pub add_mark-requires : goal.add_mark-requires
add_mark-requires c =
    let keeps = rw c.in-Some.is at c.requires.keeps in
    record { sees = record { sees = c.requires.sees; some_keep = keeps.0 }; knows = keeps.1 }

pub returns-in-None : goal.returns-in-None
returns-in-None c =
    adds_none_of _ _
    (sym (seen_no_objects c.args.file.seen.now c.requires.sees (rw c.in-None.is at c.requires.keeps)
    (map body_view c.args.bodies.now) (mark_view c.args.mark.now)))
