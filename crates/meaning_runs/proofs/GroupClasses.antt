-- How events change the class of a group variable: what it was before, where it is live, awaited or unmade behind one.
use Rattle.std.proofs.Common.{◌≡◌, ℕ, Bool, true, false, cond, List, [], ◌∷◌, ◌++◌, Option, refl, ap}
use Rattle.std.specs.Prelude.{◌==◌}
use Rattle.std.proofs.lemmas.Bool.{eq-eqb, ne_eqb}
use Rattle.meaning.specs.Code.{Occurrence}
use Rattle.meaning.specs.FunctionFacts.{cancel, group}
use Rattle.meaning.specs.Tracked.{GroupState, idle, live}
use Rattle.meaning.specs.Uses.{Event}
use Rattle.meaning.specs.BodyEvents.{Variable, VariableRole, own_parameter, own_receiver, declared_in_body, captured}
use Rattle.meaning.specs.Classes.{Promises, GroupClass, unmade, in_state, awaited, entry_group, at_work, at_rest, change_group, group_after}
use Rattle.meaning_runs.specs.Steps.{Starts, by_start, by_try}
use Rattle.meaning_runs.proofs.MadeGroups.{group_class_of}

after_push : (relies : Promises) (v : ℕ) (k : GroupClass) (t : List (Occurrence Event)) (o : Occurrence Event)
    → group_after relies v k (t ++ o ∷ []) ≡ change_group relies v o.event (group_after relies v k t)
after_push relies v k [] o = refl
after_push relies v k (x ∷ t) o = after_push relies v (change_group relies v x.event k) t o

-- the class after one more event
pub group_next : (relies : Promises) (v : Variable) (t : List (Occurrence Event)) (o : Occurrence Event)
    → group_class_of relies v (t ++ o ∷ []) ≡ change_group relies v.number o.event (group_class_of relies v t)
group_next relies v t o = after_push relies v.number (entry_group v.role) t o

-- Classes differ

pub live≢awaited : in_state live ≡ awaited → ⊥
live≢awaited e = cc

pub live≢unmade : in_state live ≡ unmade → ⊥
live≢unmade e = cc

pub state≢awaited : (state : GroupState) → in_state state ≡ awaited → ⊥
state≢awaited state e = cc

pub state≢unmade : (state : GroupState) → in_state state ≡ unmade → ⊥
state≢unmade state e = cc

pub awaited≢unmade : awaited ≡ unmade → ⊥
awaited≢unmade e = cc

pub cancel≢group : cancel ≡ group → ⊥
cancel≢group e = cc

-- Where an event may start work

pub work_live : (b : Bool) (k : GroupClass) → k ≡ in_state live → cond b (at_work k) k ≡ in_state live
work_live true k e = ap at_work e
work_live false k e = e

pub work_awaited : (b : Bool) (k : GroupClass) → cond b (at_work k) k ≡ awaited → k ≡ awaited
work_awaited true unmade e = e
work_awaited true (in_state idle) e = absurd (live≢awaited e)
work_awaited true (in_state live) e = e
work_awaited true awaited e = e
work_awaited false k e = e

pub work_unmade : (b : Bool) (k : GroupClass) → cond b (at_work k) k ≡ unmade → k ≡ unmade
work_unmade true unmade e = e
work_unmade true (in_state idle) e = absurd (live≢unmade e)
work_unmade true (in_state live) e = e
work_unmade true awaited e = e
work_unmade false k e = e

-- a start, or a try
pub starting_change : (relies : Promises) (e : Event) (v : ℕ) (literal : Option ℕ) → Starts e v literal
    → (u : ℕ) (k : GroupClass)
    → change_group relies u e k ≡ cond (v == u) (at_work k) k
starting_change relies e v literal by_start u k = refl
starting_change relies e v literal by_try u k = refl

-- Where a Wait ends

pub rest_awaited : (b : Bool) (k : GroupClass) → cond b (at_rest k) k ≡ awaited → k ≡ awaited
rest_awaited true unmade e = e
rest_awaited true (in_state idle) e = e
rest_awaited true (in_state live) e = absurd (state≢awaited idle e)
rest_awaited true awaited e = e
rest_awaited false k e = e

pub rest_unmade : (b : Bool) (k : GroupClass) → cond b (at_rest k) k ≡ unmade → k ≡ unmade
rest_unmade true unmade e = e
rest_unmade true (in_state idle) e = e
rest_unmade true (in_state live) e = absurd (state≢unmade idle e)
rest_unmade true awaited e = e
rest_unmade false k e = e

-- Where a Wait is saved, or a literal that waits

pub wait_unmade : (b : Bool) (k : GroupClass) → cond b awaited k ≡ unmade → k ≡ unmade
wait_unmade true k e = absurd (awaited≢unmade e)
wait_unmade false k e = e

-- At the entry

pub entry_not_awaited : (r : VariableRole) → entry_group r ≡ awaited → ⊥
entry_not_awaited (own_parameter k) e = live≢awaited e
entry_not_awaited own_receiver e = live≢awaited e
entry_not_awaited declared_in_body e = cc
entry_not_awaited captured e = live≢awaited e

-- Whether two numbers are the same

pub named_so : {A : Type 0} (u v : ℕ) (x y : A) → u ≡ v → cond (u == v) x y ≡ x
named_so u v x y e = ap (λ b. cond b x y) (eq-eqb u v e)

pub named_otherwise : {A : Type 0} (u v : ℕ) (x y : A) → (u ≡ v → ⊥) → cond (u == v) x y ≡ y
named_otherwise u v x y ne = ap (λ b. cond b x y) (ne_eqb u v ne)
