-- What the program keeps of classes and of what changes them, and what it stands for.
use Rattle.std.specs.Borrow.{Bor}
use Rattle.std.specs.Prelude.{Option, Some, None}
use Rattle.bodies.specs.declared.cancels.CancelClass.{CancelClass as KeptCancel}
use Rattle.bodies.specs.declared.cancels.CancelClass.TheVariants.{Unset, Opened, Kept, Safe, Pending}
use Rattle.bodies.specs.declared.groups.GroupClass.{GroupClass as KeptGroup}
use Rattle.bodies.specs.declared.groups.GroupClass.TheVariants.{Unmade, InState, Awaited}
use Rattle.tracked_rows.specs.declared.event.Event.{Event as KeptEvent}
use Rattle.tracked_rows.specs.EventViews.{event_view}
use Rattle.tracked_rows.specs.RowViews.{state_view}
use Rattle.meaning.specs.Uses.{Event, other}
use Rattle.meaning.specs.Classes.{CancelClass, unset, opened, kept, safe, pending, GroupClass, unmade, in_state, awaited}

abbrev pub cancel_class_view : KeptCancel → CancelClass
cancel_class_view Unset = unset
cancel_class_view Opened = opened
cancel_class_view Kept = kept
cancel_class_view Safe = safe
cancel_class_view (Pending g) = pending g

abbrev pub group_class_view : KeptGroup → GroupClass
group_class_view Unmade = unmade
group_class_view (InState s) = in_state (state_view s)
group_class_view Awaited = awaited

-- where there is no event, what is done changes nothing
abbrev pub done_view : Option (Bor KeptEvent) → Event
done_view None = other
done_view (Some e) = event_view e.now
