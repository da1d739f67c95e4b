use Rattle.std.proofs.Common.{map, sym}
use Rattle.mentions.specs.MarkViews.{body_view}
use Rattle.tree.specs.View.{expression_syntax}
use Rattle.kept_forms.proofs.AddedParts.{adds_none_of}
use Rattle.kept_events.proofs.NoKeeping.{seen_no_handed}
use Rattle.kept_events.proofs.events.add_item_fields.Goals as goal

pub add_in_fields-requires : goal.add_in_fields-requires
add_in_fields-requires c =
    let keeps = rw c.in-Some.is at c.requires.keeps in
    record { sees = record { sees = c.requires.sees; some_keep = keeps.0 }; knows = keeps.1 }

pub returns-in-None : goal.returns-in-None
returns-in-None c =
    adds_none_of _ _
    (sym (seen_no_handed c.args.file.seen.now c.requires.sees (rw c.in-None.is at c.requires.keeps)
    (map body_view c.args.bodies.now) c.args.item.position (expression_syntax c.args.item.value.now)))
