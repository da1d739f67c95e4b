-- When the class of a variable at an occurrence is the fault that is asked for, by tests: of the fault's code and
-- place, of what happens there, and of the class. Which groups some list leaves live there is asked of a test of their
-- places in the list of variables.
use Rattle.std.specs.Prelude.{ℕ, ◌==◌, Bool, true, false, not, ◌&&◌, List, Option, Some, None}
use Rattle.std.specs.Str.{bytes_eq}
use Rattle.meaning.specs.BodyEvents.{Variable}
use Rattle.meaning.specs.Classes.{CancelClass, unset, opened, kept, safe, pending, GroupClass}
use Rattle.meaning.specs.Code.{Occurrence}
use Rattle.meaning.specs.FunctionFacts.{VariableKind, cancel, group}
use Rattle.meaning.specs.Uses.{Handed, Event, is_group}
use Rattle.meaning_packages.specs.Credits.{is_live}
use Rattle.meaning_packages.specs.PathFaults.{PathCode, overwritten, not_called, group_is_live, group_overwritten, left_to_live_group, passed_on, PathFault, is_declared, is_lost, is_handed_kept}
use Rattle.path_faults.specs.FoundFaults.{any_from, Deed, nothing, binds, makes, returns, deed_of, owes_call}
use Rattle.bodies.specs.Bits.{cancel_class, group_class}

-- Cancel variables

-- it is pending in a group that may be live there
abbrev pub is_left : List Variable → (ℕ → Bool) → CancelClass → Bool
is_left vs lives unset = false
is_left vs lives opened = false
is_left vs lives kept = false
is_left vs lives safe = false
is_left vs lives (pending h) = any_from (λ j g. is_group (Some g.kind) && ((g.number == h) && lives j)) 0 vs

-- it is open, or kept in an object that a return of these does not hand on
abbrev pub is_open : ℕ → List Handed → CancelClass → Bool
is_open number handed unset = false
is_open number handed opened = true
is_open number handed kept = not (is_handed_kept number handed)
is_open number handed safe = false
is_open number handed (pending g) = false

abbrev pub is_binding_fault : PathCode → Bool
is_binding_fault overwritten = true
is_binding_fault not_called = false
is_binding_fault group_is_live = false
is_binding_fault group_overwritten = false
is_binding_fault left_to_live_group = false
is_binding_fault passed_on = false

abbrev pub is_return_fault : List Variable → (ℕ → Bool) → ℕ → List Handed → PathCode → CancelClass → Bool
is_return_fault vs lives number handed overwritten k = false
is_return_fault vs lives number handed not_called k = is_open number handed k
is_return_fault vs lives number handed group_is_live k = false
is_return_fault vs lives number handed group_overwritten k = false
is_return_fault vs lives number handed left_to_live_group k = is_left vs lives k
is_return_fault vs lives number handed passed_on k = false

abbrev pub cancel_ends_at
    : List Variable → (ℕ → Bool) → Variable → PathFault → ℕ → CancelClass → Deed → Bool
cancel_ends_at vs lives v f at k nothing = false
cancel_ends_at vs lives v f at k (binds u) =
    is_binding_fault f.code && ((u.number == v.number) && ((u.at == f.at) && is_lost vs k))
cancel_ends_at vs lives v f at k (makes u) = false
cancel_ends_at vs lives v f at k (returns handed) =
    (at == f.at) && (owes_call v handed && is_return_fault vs lives v.number handed f.code k)

-- Groups

abbrev pub is_making_fault : PathCode → Bool
is_making_fault overwritten = false
is_making_fault not_called = false
is_making_fault group_is_live = false
is_making_fault group_overwritten = true
is_making_fault left_to_live_group = false
is_making_fault passed_on = false

abbrev pub is_living_fault : PathCode → Bool
is_living_fault overwritten = false
is_living_fault not_called = false
is_living_fault group_is_live = true
is_living_fault group_overwritten = false
is_living_fault left_to_live_group = false
is_living_fault passed_on = false

abbrev pub group_ends_at : Variable → PathFault → ℕ → GroupClass → Deed → Bool
group_ends_at g f at k nothing = false
group_ends_at g f at k (binds u) = false
group_ends_at g f at k (makes u) =
    is_making_fault f.code && ((u.number == g.number) && ((u.at == f.at) && is_live k))
group_ends_at g f at k (returns handed) =
    is_living_fault f.code && ((at == f.at) && (is_declared g.role && is_live k))

-- By numbers of classes

abbrev pub cancel_ends : List Variable → (ℕ → Bool) → Variable → PathFault → ℕ → Option CancelClass → Deed → Bool
cancel_ends vs lives v f at None deed = false
cancel_ends vs lives v f at (Some k) deed = cancel_ends_at vs lives v f at k deed

abbrev pub group_ends : Variable → PathFault → ℕ → Option GroupClass → Deed → Bool
group_ends g f at None deed = false
group_ends g f at (Some k) deed = group_ends_at g f at k deed

abbrev pub ends_by
    : VariableKind → List Variable → List ℕ → (ℕ → Bool) → Variable → PathFault → ℕ → ℕ → Deed → Bool
ends_by cancel vs groups lives v f at n deed = cancel_ends vs lives v f at (cancel_class groups n) deed
ends_by group vs groups lives v f at n deed = group_ends v f at (group_class n) deed

abbrev pub end_of : List Variable → List ℕ → (ℕ → Bool) → Variable → PathFault → ℕ → ℕ → Deed → Bool
end_of vs groups lives v f at n deed = ends_by v.kind vs groups lives v f at n deed

-- the class of that number of the variable is the fault at the occurrence
abbrev pub is_end : List Variable → List ℕ → (ℕ → Bool) → Variable → PathFault → Occurrence Event → ℕ → Bool
is_end vs groups lives v f o n =
    bytes_eq v.name f.name && end_of vs groups lives v f o.at n (deed_of o.event)
