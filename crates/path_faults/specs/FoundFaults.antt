-- Which faults the program finds: at each node of a body's graph and for each variable of the body, by the classes that
-- arrive there. A variable goes by its place in the list of variables, a node by its number. That these are the faults
-- of the definitions is proved from what the table of classes promises.
use Rattle.std.specs.Prelude.{ℕ, ◌+◌, ◌==◌, Bool, true, false, not, ◌&&◌, ◌||◌, if◌then◌else◌, List, [], ◌∷◌, ◌++◌, Some}
use Rattle.std.specs.List.{list_any}
use Rattle.meaning.specs.Code.{Occurrence}
use Rattle.meaning.specs.FunctionFacts.{VariableKind, cancel, group}
use Rattle.meaning.specs.Tracked.{live, idle}
use Rattle.meaning.specs.Uses.{VariableAt, Handed, Event, obtain, obtain_kept, clear, pass, defer_pass, make, return_event, is_cancel, is_group}
use Rattle.meaning.specs.BodyEvents.{Variable}
use Rattle.meaning.specs.Classes.{Promises, CancelClass, unset, opened, kept, safe, pending, GroupClass, unmade, in_state, awaited}
use Rattle.meaning_packages.specs.PathFaults.{PathCode, overwritten, not_called, group_is_live, group_overwritten, left_to_live_group, passed_on, PathFault, is_declared, makes_it, is_handed, is_handed_kept}

-- what each element of a list gives, with its place, where the first has the place n
abbrev pub each_from : {A B : Type 0} → (ℕ → A → List B) → ℕ → List A → List B
each_from f n [] = []
each_from f n (x ∷ xs) = f n x ++ each_from f (n + 1) xs

-- some element passes the test, with its place, where the first has the place n
abbrev pub any_from : {A : Type 0} → (ℕ → A → Bool) → ℕ → List A → Bool
any_from f n [] = false
any_from f n (x ∷ xs) = f n x || any_from f (n + 1) xs

abbrev pub fault_if : Bool → ℕ → PathCode → List ℕ → List PathFault
fault_if b at code name = if b then record { at = at; code = code; name = name } ∷ [] else []

-- of a variable that passes the test with its place
abbrev pub fault_of : (ℕ → Variable → Bool) → ℕ → PathCode → ℕ → Variable → List PathFault
fault_of test at code i v = fault_if (test i v) at code v.name

-- which classes of a variable, by its place, arrive at a node, by its number
abbrev pub Cancels : Type 0
Cancels = ℕ → ℕ → CancelClass → Bool

abbrev pub Groups : Type 0
Groups = ℕ → ℕ → GroupClass → Bool

-- what a node does of which a class may be a fault
pub data Deed : Type 0 where
  nothing : Deed
  binds : VariableAt → Deed
  makes : VariableAt → Deed
  returns : List Handed → Deed

abbrev pub deed_of : Event → Deed
deed_of (obtain u f k is_declared) = binds u
deed_of (obtain_kept u f k x) = binds u
deed_of (clear u) = binds u
deed_of (make u state) = makes u
deed_of (return_event handed) = returns handed
deed_of e = nothing

abbrev pub is_return_deed : Deed → Bool
is_return_deed (returns handed) = true
is_return_deed d = false

abbrev pub is_return : Event → Bool
is_return e = is_return_deed (deed_of e)

abbrev pub is_live_group : Variable → (GroupClass → Bool) → Bool
is_live_group g has = is_group (Some g.kind) && has (in_state live)

-- Bindings

-- the cancel variable is pending in one of these groups, which the body does not make
abbrev pub is_left_outside : List Variable → (CancelClass → Bool) → List ℕ → Bool
is_left_outside vs has = list_any (λ g. has (pending g) && not (makes_it vs g))

abbrev pub may_be_lost : List Variable → (CancelClass → Bool) → List ℕ → Bool
may_be_lost vs has pending_groups = has opened || (has kept || is_left_outside vs has pending_groups)

abbrev pub loses_cancel : List Variable → Cancels → List ℕ → ℕ → ℕ → ℕ → Variable → Bool
loses_cancel vs cancels pending_groups n number i v =
    is_cancel (Some v.kind) && ((v.number == number) && may_be_lost vs (cancels i n) pending_groups)

abbrev pub binding_faults : List Variable → Cancels → List ℕ → ℕ → VariableAt → List PathFault
binding_faults vs cancels pending_groups n u =
    each_from (fault_of (loses_cancel vs cancels pending_groups n u.number) u.at overwritten) 0 vs

abbrev pub loses_group : Groups → ℕ → ℕ → ℕ → Variable → Bool
loses_group groups n number i g = (g.number == number) && is_live_group g (groups i n)

abbrev pub making_faults : List Variable → Groups → ℕ → VariableAt → List PathFault
making_faults vs groups n u = each_from (fault_of (loses_group groups n u.number) u.at group_overwritten) 0 vs

-- Returns

-- the offset, the order and the place in the list are the same
abbrev pub is_same_place : ℕ → ℕ → ℕ → ℕ → ℕ → ℕ → Bool
is_same_place at order i other_at other_order j = (at == other_at) && ((order == other_order) && (i == j))

-- the group of the place j may be live at the node n, which stands there, and is to stand at that offset in that order
abbrev pub is_live_at : List Variable → Groups → ℕ → ℕ → ℕ → ℕ → ℕ → ℕ → Bool
is_live_at vs groups n node_at node_order at order j =
    any_from (λ i g. is_live_group g (groups i n) && is_same_place node_at node_order i at order j) 0 vs

-- the group of the place j may be live at some node at that offset in that order
abbrev pub is_live_there : List Variable → Groups → List (Occurrence Event) → ℕ → ℕ → ℕ → Bool
is_live_there vs groups nodes at order j = any_from (λ n o. is_live_at vs groups n o.at o.order at order j) 0 nodes

-- the cancel variable is pending in a group that may be live, by this test of the group's place
abbrev pub is_left_to : List Variable → (CancelClass → Bool) → (ℕ → Bool) → Bool
is_left_to vs has lives = any_from (λ j g. is_group (Some g.kind) && (has (pending g.number) && lives j)) 0 vs

-- whatever a return hands on
abbrev pub is_uncalled : List Variable → (CancelClass → Bool) → (ℕ → Bool) → Bool
is_uncalled vs has lives = has opened || (has kept || is_left_to vs has lives)

-- the variable of that number is open, or kept in an object that a return of these does not hand on
abbrev pub is_open_there : ℕ → List Handed → (CancelClass → Bool) → Bool
is_open_there number handed has = has opened || (has kept && not (is_handed_kept number handed))

abbrev pub owes_call : Variable → List Handed → Bool
owes_call v handed = is_cancel (Some v.kind) && (is_declared v.role && not (is_handed v.number handed))

abbrev pub returns_open : Cancels → ℕ → List Handed → ℕ → Variable → Bool
returns_open cancels n handed i v = owes_call v handed && is_open_there v.number handed (cancels i n)

abbrev pub open_faults : List Variable → Cancels → ℕ → ℕ → List Handed → List PathFault
open_faults vs cancels n at handed =
    each_from (fault_of (returns_open cancels n handed) at not_called) 0 vs

abbrev pub returns_left : List Variable → Cancels → (ℕ → Bool) → ℕ → List Handed → ℕ → Variable → Bool
returns_left vs cancels lives n handed i v = owes_call v handed && is_left_to vs (cancels i n) lives

abbrev pub left_faults : List Variable → Cancels → (ℕ → Bool) → ℕ → ℕ → List Handed → List PathFault
left_faults vs cancels lives n at handed =
    each_from (fault_of (returns_left vs cancels lives n handed) at left_to_live_group) 0 vs

-- one or the other
abbrev pub returns_uncalled : List Variable → Cancels → (ℕ → Bool) → ℕ → List Handed → ℕ → Variable → Bool
returns_uncalled vs cancels lives n handed i v =
    owes_call v handed && (is_open_there v.number handed (cancels i n) || is_left_to vs (cancels i n) lives)

abbrev pub returns_live : Groups → ℕ → ℕ → Variable → Bool
returns_live groups n i g = is_declared g.role && is_live_group g (groups i n)

abbrev pub live_faults : List Variable → Groups → ℕ → ℕ → List PathFault
live_faults vs groups n at = each_from (fault_of (returns_live groups n) at group_is_live) 0 vs

abbrev pub return_faults
    : List Variable → Cancels → Groups → (ℕ → Bool) → ℕ → ℕ → List Handed → List PathFault
return_faults vs cancels groups lives n at handed =
    open_faults vs cancels n at handed
    ++ (left_faults vs cancels lives n at handed ++ live_faults vs groups n at)

-- All paths

-- the variable of the place i is a fault of what the node does, where this test tells which groups may be live there
abbrev pub is_fault
    : List Variable → Cancels → Groups → List ℕ → (ℕ → Bool) → ℕ → Deed → ℕ → Variable → Bool
is_fault vs cancels groups pending_groups lives n nothing i v = false
is_fault vs cancels groups pending_groups lives n (binds u) i v = loses_cancel vs cancels pending_groups n u.number i v
is_fault vs cancels groups pending_groups lives n (makes u) i v = loses_group groups n u.number i v
is_fault vs cancels groups pending_groups lives n (returns handed) i v =
    returns_uncalled vs cancels lives n handed i v || returns_live groups n i v

-- the same with places and codes, of all variables
abbrev pub deed_faults
    : List Variable → Cancels → Groups → List ℕ → (ℕ → Bool) → ℕ → ℕ → Deed → List PathFault
deed_faults vs cancels groups pending_groups lives n at nothing = []
deed_faults vs cancels groups pending_groups lives n at (binds u) = binding_faults vs cancels pending_groups n u
deed_faults vs cancels groups pending_groups lives n at (makes u) = making_faults vs groups n u
deed_faults vs cancels groups pending_groups lives n at (returns handed) =
    return_faults vs cancels groups lives n at handed

abbrev pub event_faults
    : List Variable → Cancels → Groups → List ℕ → (ℕ → Bool) → ℕ → ℕ → Event → List PathFault
event_faults vs cancels groups pending_groups lives n at e =
    deed_faults vs cancels groups pending_groups lives n at (deed_of e)

-- of all nodes, where this test tells which groups may be live at an offset and an order there
abbrev pub faults_of_nodes
    : List Variable → Cancels → Groups → List ℕ → (ℕ → ℕ → ℕ → Bool) → List (Occurrence Event) → List PathFault
faults_of_nodes vs cancels groups pending_groups lives nodes = each_from
    (λ n o. event_faults vs cancels groups pending_groups (lives o.at o.order) n o.at o.event) 0 nodes

-- Answers on one variable

-- the cancel variable of the place i may be uncalled at some return
abbrev pub breaks_call : List Variable → Cancels → (ℕ → ℕ → ℕ → Bool) → List (Occurrence Event) → ℕ → Bool
breaks_call vs cancels lives nodes i =
    any_from (λ n o. is_return o.event && is_uncalled vs (cancels i n) (lives o.at o.order)) 0 nodes

abbrev pub is_unsettled : (CancelClass → Bool) → (GroupClass → Bool) → List ℕ → VariableKind → Bool
is_unsettled cancels groups pending_groups cancel =
    cancels unset || (cancels opened || (cancels kept || list_any (λ g. cancels (pending g)) pending_groups))
is_unsettled cancels groups pending_groups group = groups (in_state live)

-- the variable of the place i and of that kind may be unsettled at some return
abbrev pub breaks_settling : Cancels → Groups → List ℕ → List (Occurrence Event) → ℕ → VariableKind → Bool
breaks_settling cancels groups pending_groups nodes i kind = any_from
    (λ n o. is_return o.event && is_unsettled (cancels i n) (groups i n) pending_groups kind) 0 nodes

-- some class of it is there
abbrev pub is_reached : (CancelClass → Bool) → (GroupClass → Bool) → List ℕ → VariableKind → Bool
is_reached cancels groups pending_groups cancel =
    cancels unset
    || (cancels opened || (cancels kept || (cancels safe || list_any (λ g. cancels (pending g)) pending_groups)))
is_reached cancels groups pending_groups group =
    groups unmade || (groups (in_state idle) || (groups (in_state live) || groups awaited))

-- some class of the variable of the place i and of that kind arrives at a return
abbrev pub some_return_is_reached : Cancels → Groups → List ℕ → List (Occurrence Event) → ℕ → VariableKind → Bool
some_return_is_reached cancels groups pending_groups nodes i kind = any_from
    (λ n o. is_return o.event && is_reached (cancels i n) (groups i n) pending_groups kind) 0 nodes

-- Passes

-- it is the cancel variable of the number
abbrev pub is_passed : ℕ → ℕ → Variable → Bool
is_passed number i v = is_cancel (Some v.kind) && (v.number == number)

-- the cancel variable of the number is passed to a function that is not known to call it
abbrev pub passed_faults : List Variable → VariableAt → List PathFault
passed_faults vs u = each_from (fault_of (is_passed u.number) u.at passed_on) 0 vs

abbrev pub passed_unless : Bool → List Variable → VariableAt → List PathFault
passed_unless is_called vs u = if is_called then [] else passed_faults vs u

abbrev pub passing_faults : List Variable → Promises → Event → List PathFault
passing_faults vs p (pass u f k) = passed_unless (p.calls f k) vs u
passing_faults vs p (defer_pass u f k) = passed_unless (p.calls f k) vs u
passing_faults vs p e = []

abbrev pub found_pass_faults : List Variable → Promises → List Event → List PathFault
found_pass_faults vs p [] = []
found_pass_faults vs p (e ∷ es) = passing_faults vs p e ++ found_pass_faults vs p es
