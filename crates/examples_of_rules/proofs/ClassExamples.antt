-- The classes are computed.
use Rattle.std.proofs.Common.{refl}
use Rattle.examples_of_rules.specs.ClassExamples.{CancelClasses, ClassesFollowEvents, GroupClasses}

cancel_classes : CancelClasses
cancel_classes = record {
  at_first = refl;
  obtained = refl;
  called = refl;
  call_is_saved = refl;
  obtained_again = refl;
  of_another = refl;
  cleared = refl;
  passed = refl;
  passed_to_another = refl;
  left_to_a_group = refl;
  left_to_a_literal_that_may_not_call_it = refl;
  group_is_waited_for = refl;
  another_group_is_waited_for = refl;
  literal_is_deferred = refl;
  kept_in_a_field = refl;
  field_is_called = refl;
  object_is_given = refl;
  object_is_made_again = refl;
  given_in_a_field = refl;
  object_that_keeps_nothing = refl;
}

group_classes : GroupClasses
group_classes = record {
  at_first = refl;
  made = refl;
  made_with_a_context = refl;
  work_is_started = refl;
  work_is_tried = refl;
  lent = refl;
  waited_for = refl;
  wait_is_saved = refl;
  work_after_a_saved_wait = refl;
  literal_is_deferred = refl;
  of_another = refl;
}

pub classes_follow_events : ClassesFollowEvents
classes_follow_events = record {
  of_cancel_functions = cancel_classes;
  of_groups = group_classes;
}
