-- What is known of the cancel variable 1 and of the group 2 after some events of a body that relies on the function h
-- to call its argument, and on the literal at 7. (This tool's rules.)
use Rattle.std.specs.Prelude.{ℕ, ◌≡◌, ◌==◌, true, List, [], ◌∷◌, map, None, Some, codes}
use Rattle.std.specs.Str.{bytes_eq}
use Rattle.meaning.specs.Code.{Occurrence}
use Rattle.meaning.specs.Tracked.{idle, live}
use Rattle.meaning.specs.Uses.{Event, obtain, renew, keep, call_kept, give, give_field, clear, call, defer_call, pass, lend, start, try, wait, defer_wait, make, defer_literal}
use Rattle.meaning.specs.Classes.{Promises, CancelClass, unset, opened, kept, safe, pending, cancel_after, GroupClass, unmade, in_state, awaited, group_after}

abbrev pub promises : Promises
promises = record { calls = λ f k. bytes_eq f.name (codes "h"); credits = λ literal v. literal == 7 }

abbrev pub happening : Event → Occurrence Event
happening e = record { at = 0; order = 0; event = e }

abbrev pub cancel_by : List Event → CancelClass
cancel_by es = cancel_after promises 1 unset (map happening es)

abbrev pub group_by : List Event → GroupClass
group_by es = group_after promises 2 unmade (map happening es)

-- 1 is obtained
abbrev pub obtains : Event
obtains = obtain record { number = 1; at = 0 } record { path = None; name = codes "mk" } 0 true

-- it is passed to the function of that name
abbrev pub passes_to : List ℕ → Event
passes_to f = pass record { number = 1; at = 0 } record { path = None; name = f } 0

-- 2 is made idle
abbrev pub makes : Event
makes = make record { number = 2; at = 0 } idle

abbrev pub lends : Event
lends = lend 2 record { path = None; name = codes "run" } 0

pub record CancelClasses : Type 0 where
  pub at_first : cancel_by [] ≡ unset
  pub obtained : cancel_by (obtains ∷ []) ≡ opened
  pub called : cancel_by (obtains ∷ call 1 ∷ []) ≡ safe
  pub call_is_saved : cancel_by (obtains ∷ defer_call 1 ∷ []) ≡ safe
  pub obtained_again : cancel_by (obtains ∷ call 1 ∷ obtains ∷ []) ≡ opened
  pub of_another : cancel_by (obtains ∷ call 3 ∷ []) ≡ opened
  pub cleared : cancel_by (obtains ∷ clear record { number = 1; at = 0 } ∷ []) ≡ unset
  pub passed : cancel_by (obtains ∷ passes_to (codes "h") ∷ []) ≡ safe
  pub passed_to_another : cancel_by (obtains ∷ passes_to (codes "k") ∷ []) ≡ opened
  pub left_to_a_group : cancel_by (obtains ∷ start 2 (Some 7) ∷ []) ≡ pending 2
  pub left_to_a_literal_that_may_not_call_it : cancel_by (obtains ∷ start 2 (Some 8) ∷ []) ≡ opened
  pub group_is_waited_for : cancel_by (obtains ∷ start 2 (Some 7) ∷ wait 2 ∷ []) ≡ safe
  pub another_group_is_waited_for : cancel_by (obtains ∷ start 2 (Some 7) ∷ wait 4 ∷ []) ≡ pending 2
  pub literal_is_deferred : cancel_by (obtains ∷ defer_literal 7 ∷ []) ≡ safe
  pub kept_in_a_field : cancel_by (obtains ∷ keep 1 9 ∷ []) ≡ kept
  pub field_is_called : cancel_by (obtains ∷ keep 1 9 ∷ call_kept 1 9 ∷ []) ≡ safe
  pub object_is_given : cancel_by (obtains ∷ keep 1 9 ∷ give 1 9 ∷ []) ≡ safe
  pub object_is_made_again : cancel_by (obtains ∷ keep 1 9 ∷ renew 1 9 ∷ []) ≡ opened
  pub given_in_a_field : cancel_by (obtains ∷ give_field 1 ∷ []) ≡ safe
  pub object_that_keeps_nothing : cancel_by (obtains ∷ give 1 9 ∷ []) ≡ opened

pub record GroupClasses : Type 0 where
  pub at_first : group_by [] ≡ unmade
  pub made : group_by (makes ∷ []) ≡ in_state idle
  pub made_with_a_context : group_by (make record { number = 2; at = 0 } live ∷ []) ≡ in_state live
  pub work_is_started : group_by (makes ∷ start 2 None ∷ []) ≡ in_state live
  pub work_is_tried : group_by (makes ∷ try 2 None ∷ []) ≡ in_state live
  pub lent : group_by (makes ∷ lends ∷ []) ≡ in_state live
  pub waited_for : group_by (makes ∷ start 2 None ∷ wait 2 ∷ []) ≡ in_state idle
  pub wait_is_saved : group_by (makes ∷ start 2 None ∷ defer_wait 2 ∷ []) ≡ awaited
  pub work_after_a_saved_wait : group_by (makes ∷ defer_wait 2 ∷ start 2 None ∷ []) ≡ awaited
  pub literal_is_deferred : group_by (makes ∷ start 2 None ∷ defer_literal 7 ∷ []) ≡ awaited
  pub of_another : group_by (makes ∷ start 4 None ∷ []) ≡ in_state idle

pub record ClassesFollowEvents : Type 0 where
  pub of_cancel_functions : CancelClasses
  pub of_groups : GroupClasses
