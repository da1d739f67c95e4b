use Rattle.std.proofs.Common.{[], refl}
use Rattle.meaning.specs.Objects.{points_to}
use Rattle.mentions.specs.MarkViews.{marks_view}
use Rattle.tracked_rows.specs.RowViews.{known_view}
use Rattle.objects.proofs.Literals.{any_placed}
use Rattle.objects.proofs.addresses.is_pointed_to.Goals as goal

pub loop-mark-init : goal.loop-mark-init
loop-mark-init c = any_placed (points_to (known_view c.args.known) c.args.number) refl [] (marks_view c.args.marks.now)
