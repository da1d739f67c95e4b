use Rattle.std.proofs.Common.{[], refl}
use Rattle.meaning.specs.Objects.{declares_value}
use Rattle.mentions.specs.MarkViews.{marks_view}
use Rattle.tracked_rows.specs.RowViews.{known_view}
use Rattle.objects.proofs.Literals.{any_placed}
use Rattle.objects.proofs.addresses.is_value_in.Goals as goal

pub loop-mark-init : goal.loop-mark-init
loop-mark-init c = any_placed (declares_value (known_view c.args.known) c.args.number) refl [] (marks_view c.args.marks.now)
