-- What becomes of each cancel function that a frame has to see to: it was called, or a goroutine was started that has to
-- call it, or its call is saved, or a frame
-- above has to call it, or a variable holds it and is open, or an object keeps it too, or it was left to a member of a
-- group: of one that the frame made, or of one that a saved item waits for, or of one in which the variable is pending.
-- Or the frame hands it on, or gave it to others in a field.
use Rattle.std.specs.Prelude.{◌≡◌, ℕ, ◌+◌, ◌<◌, ◌≤◌, ◌⊎◌, true, false, List, [], ◌∷◌, Some, Contains}
use Rattle.meaning.specs.Code.{Code}
use Rattle.meaning.specs.FunctionFacts.{group, cancel}
use Rattle.meaning.specs.Uses.{Event}
use Rattle.meaning.specs.BodyEvents.{Variable, VariableRole, own_parameter, own_receiver, declared_in_body, captured}
use Rattle.meaning.specs.Classes.{Promises, opened, kept, pending}
use Rattle.meaning_packages.specs.PathFaults.{paths_of, is_declared, KeepsCall}
use Rattle.meaning_runs.specs.Bodies.{Program, Body, variables_in}
use Rattle.meaning_runs.specs.World.{Value, cancel_function, Store, Given, Passing, Closure, Saved, saved_call, saved_pass, saved_literal, runs, Frame, World, held, held_group, kept_value, exits}
use Rattle.meaning_runs.specs.Duties.{IsCreditedWith, TakesUp, AreTakenUp, IsWaitingFor, IsFlagged}
pub use Rattle.meaning_runs.proofs.GroupPaths.{group_class_of, IsWorking}
use Rattle.meaning_runs.proofs.KeptEvents.{IsItsObject}
use Rattle.meaning_runs.proofs.Places.{class_of}
use Rattle.meaning_runs.proofs.Remembered.{Root, Origins, Past, Memory}
use Rattle.meaning_runs.proofs.MadeGroups.{HasNoFaultUnder, IsWaitedForUnder, SavesWait, IsLive}

-- Levels

-- How deep it stands what a body has to see to: at the top what it obtained itself, then what a function was given, and
-- what a literal captures where the literal begins. A goroutine takes on what stands less deep than what it sees to.
abbrev pub level_in : ℕ → VariableRole → ℕ
level_in at declared_in_body = 0
level_in at (own_parameter k) = 1
level_in at own_receiver = 1
level_in at captured = at + 2

abbrev pub level : Body → Variable → ℕ
level b v = level_in b.place.at v.role

-- Variables that a frame sees to

-- a cancel variable that the body declares
pub record IsOwn (b : Body) (v : Variable) : Type 0 where
  pub is_of_body : Contains (variables_in b) v
  pub is_cancel_variable : v.kind ≡ cancel
  pub is_declared_here : is_declared v.role ≡ true

abbrev pub HandsOn : Frame → ℕ → Type 0
HandsOn f a = (f.stage ≡ exits) × Contains f.handed_on (cancel_function a)

-- others have it now
abbrev pub LetsGo : Frame → ℕ → Type 0
LetsGo f a = HandsOn f a ⊎ Contains f.given_away (cancel_function a)

-- what the variable holds its object keeps
abbrev pub AreKept : Frame → ℕ → ℕ → Type 0
AreKept f v a = (x : ℕ) → IsItsObject f.body.file v x → kept_value f.kept v x ≡ cancel_function a

-- a variable whose function the body is known to call
pub data IsRelied (p : Program) (b : Body) (v : Variable) : Type 0 where
  of_flag : IsFlagged p b v → IsRelied p b v
  of_credit : IsCreditedWith b v → IsRelied p b v

pub relied_there : (p : Program) (b : Body) (v : Variable) → IsRelied p b v → Contains (variables_in b) v × (v.kind ≡ cancel)
relied_there p b v (of_flag g) = (g.is_of_body, g.is_cancel_variable)
relied_there p b v (of_credit c) = (c.is_of_body, c.is_cancel_variable)

-- on these promises the body calls the variable's function, whoever gave it: the variable is neither open at a return,
-- nor pending in a group that is live there
pub record IsCalledUnder (p : Program) (b : Body) (relies : Promises) (v : Variable) : Type 0 where
  pub are_taken_up : AreTakenUp p b relies
  pub is_relied : IsRelied p b v
  pub keeps : KeepsCall (paths_of b.file relies b.place) v

-- What members have to call

-- the literal that a member runs is known to call it, and stands deeper
abbrev pub MustRoot : ℕ → Root → ℕ → Type 0
MustRoot least r a = (literal : Body) × (v : Variable) × (r.body ≡ Some literal) × IsCreditedWith literal v
    × (r.given v.number ≡ cancel_function a) × (least < level literal v)

-- a member of the group has to call the function
pub record IsLeftTo (o : Origins) (s : Store) (group a : ℕ) : Type 0 where
  pub goroutine : ℕ
  pub is_member : s.member goroutine ≡ Some group
  pub must : MustRoot o.least (o.root goroutine) a
  pub is_begun : Contains o.begun (o.root goroutine)

-- What goroutines have to call

-- what a goroutine was started with is known to call it, and stands deeper
pub record MustStart (p : Program) (least : ℕ) (r : Root) (a : ℕ) : Type 0 where
  pub body : Body
  pub variable : Variable
  pub is_body : r.body ≡ Some body
  pub is_relied : IsRelied p body variable
  pub is_given : r.given variable.number ≡ cancel_function a
  pub is_deeper : least < level body variable

-- a goroutine was started that has to call it, and some `go` statement started one
pub record IsTaken (p : Program) (o : Origins) (a : ℕ) : Type 0 where
  pub root : Root
  pub has_gone : o.has_gone ≡ true
  pub is_begun : Contains o.begun root
  pub must : MustStart p o.least root a

-- it was called, or a goroutine was started that calls it, or that has to
pub data IsMet (p : Program) (o : Origins) (s : Store) (a : ℕ) : Type 0 where
  was_called : Contains s.called a → IsMet p o s a
  is_to_call : Contains o.to_call a → IsMet p o s a
  is_taken : IsTaken p o a → IsMet p o s a

-- so it is what was left to a member, where a `go` statement was reached
pub left_is_taken : {p : Program} {o : Origins} {s : Store} (g a : ℕ) → o.has_gone ≡ true → IsLeftTo o s g a
    → IsTaken p o a
left_is_taken {o = o} g a gone l = record {
  root = o.root l.goroutine;
  has_gone = gone;
  is_begun = l.is_begun;
  must = record {
    body = l.must.0;
    variable = l.must.1;
    is_body = l.must.2;
    is_relied = of_credit l.must.3;
    is_given = l.must.4;
    is_deeper = l.must.5;
  };
}

-- What frames have to see to

-- the function came by a parameter that the body is known to call, or by a captured variable that it is credited with
abbrev pub MustCall : Program → Body → Past → ℕ → Type 0
MustCall p b past a = (v : Variable) × IsRelied p b v × (past.given v.number ≡ cancel_function a)
    × (past.origins.least ≤ level b v)

-- the function had been left to members of a captured group that the body is known to wait for, when the frame began
abbrev pub MustAwait : Body → Past → ℕ → Type 0
MustAwait b past a = (v : Variable) × (group : ℕ) × IsWaitingFor b v × (past.lent v.number ≡ Some group)
    × IsLeftTo past.origins past.store group a

abbrev pub MustSee : Program → Body → Past → ℕ → Type 0
MustSee p b past a = MustCall p b past a ⊎ MustAwait b past a

-- the saved item is going to see to it that the function is called
pub data SavesCall (p : Program) (b : Body) (o : Origins) (s : Store) (a : ℕ) : Saved → Type 0 where
  calls_it : {value : Value} → value ≡ cancel_function a → SavesCall p b o s a (saved_call value)
  passes_it : (passing : Passing) (x : Given)
      → Contains passing.given x
      → x.value ≡ cancel_function a
      → TakesUp p b passing.callee x.position
      → o.least ≤ 1
      → SavesCall p b o s a (saved_pass passing)
  credits_it : (c : Closure) (v : Variable) (k : ℕ)
      → IsCreditedWith c.literal v
      → c.newest v.number ≡ Some k
      → k < s.cell_count
      → o.is_frozen k ≡ true
      → s.cells k v.number ≡ cancel_function a
      → o.least ≤ level c.literal v
      → SavesCall p b o s a (saved_literal c)

-- a group variable that the body does not declare, or that is a parameter
pub record IsOtherGroup (b : Body) (v : Variable) : Type 0 where
  pub is_of_body : Contains (variables_in b) v
  pub is_group_variable : v.kind ≡ group
  pub is_not_declared_here : is_declared v.role ≡ false

-- the frame runs, and the variable is pending in a group that the frame did not make
pub record IsPending
    (relies : Promises) (o : Origins) (s : Store) (past : Past) (f : Frame) (v : Variable) (a : ℕ)
    : Type 0 where
  pub code : Code Event
  pub stage : f.stage ≡ runs code
  pub left_to : Variable
  pub group : ℕ
  pub is_pending : class_of relies v past.events ≡ pending left_to.number
  pub is_other : IsOtherGroup f.body left_to
  pub is_working : IsWorking (group_class_of relies left_to past.events)
  pub is_held : held_group s f left_to.number ≡ Some group
  pub is_left : IsLeftTo o s group a

-- the variable holds the function, and is open, or kept, or pending so
pub data IsOpen
    (relies : Promises) (o : Origins) (s : Store) (past : Past) (f : Frame) (v : Variable) (a : ℕ)
    : Type 0 where
  is_held : (c : Code Event)
      → f.stage ≡ runs c
      → class_of relies v past.events ≡ opened
      → held s f v.number ≡ cancel_function a
      → IsOpen relies o s past f v a
  is_kept : (c : Code Event)
      → f.stage ≡ runs c
      → class_of relies v past.events ≡ kept
      → is_declared v.role ≡ true
      → held s f v.number ≡ cancel_function a
      → AreKept f v.number a
      → IsOpen relies o s past f v a
  is_pending : IsPending relies o s past f v a → held s f v.number ≡ cancel_function a → IsOpen relies o s past f v a

-- the captured group is still to be waited for, and its member has not called the function yet
pub record IsStillLeft
    (relies : Promises) (o : Origins) (s : Store) (past : Past) (f : Frame) (v : Variable) (group a : ℕ)
    : Type 0 where
  pub is_live : IsLive relies s past f v group
  pub is_left : IsLeftTo o s group a

-- `must`: what frames above have to see to; `Open`: what the frame itself still has to do
pub data IsSeen
    (p : Program) (o : Origins) (s : Store) (must : ℕ → Type 0) (f : Frame) (Open : Type 0) (a : ℕ)
    : Type 0 where
  is_met : IsMet p o s a → IsSeen p o s must f Open a
  is_saved : (x : Saved) → Contains f.saved x → SavesCall p f.body o s a x → IsSeen p o s must f Open a
  is_passed : must a → IsSeen p o s must f Open a
  is_waiting : (passing : Passing) (x : Given)
      → f.waiting ≡ Some passing
      → Contains passing.given x
      → x.value ≡ cancel_function a
      → TakesUp p f.body passing.callee x.position
      → o.least ≤ 1
      → IsSeen p o s must f Open a
  left_to_made : (group : ℕ) → Contains f.made group → IsLeftTo o s group a → IsSeen p o s must f Open a
  left_to_awaited : (group : ℕ) (x : Saved)
      → Contains f.saved x
      → SavesWait o s group x
      → IsLeftTo o s group a
      → IsSeen p o s must f Open a
  is_open : Open → IsSeen p o s must f Open a

pub record IsCared
    (p : Program) (o : Origins) (s : Store) (must : ℕ → Type 0) (past : Past) (f : Frame)
    : Type 0 where
  pub same_least : past.origins.least ≡ o.least
  pub obtained : (relies : Promises) (a : ℕ) → o.least ≡ 0
      → HasNoFaultUnder p f.body relies
      → Contains f.obtained a
      → LetsGo f a ⊎ ((v : Variable) × IsOwn f.body v × IsSeen p o s must f (IsOpen relies o s past f v a) a)
  pub duties : (relies : Promises) (v : Variable) (a : ℕ) → o.least ≤ level f.body v
      → IsCalledUnder p f.body relies v
      → past.given v.number ≡ cancel_function a
      → IsSeen p o s must f (IsOpen relies o s past f v a) a
  pub awaits : (relies : Promises) (v : Variable) (group a : ℕ) → IsWaitedForUnder p f.body relies v
      → past.lent v.number ≡ Some group
      → IsLeftTo past.origins past.store group a
      → IsSeen p o s must f (IsStillLeft relies o s past f v group a) a

abbrev pub SeenAbove : Program → Body → Past → (ℕ → Type 0) → ℕ → Type 0
SeenAbove p b past must a = MustSee p b past a ⊎ must a

abbrev pub AreCared : Program → Origins → Store → (ℕ → Type 0) → List Frame → List Past → Type 0
AreCared p o s must [] qs = Unit {0}
AreCared p o s must (f ∷ fs) [] = ⊥
AreCared p o s must (f ∷ fs) (q ∷ qs) = IsCared p o s must q f × AreCared p o s (SeenAbove p f.body q must) fs qs

-- the lowest frame has to call it
abbrev pub LowestMust : Program → List Frame → List Past → ℕ → Type 0
LowestMust p [] qs a = ⊥
LowestMust p (f ∷ fs) [] a = ⊥
LowestMust p (f ∷ []) (q ∷ qs) a = MustCall p f.body q a
LowestMust p (f ∷ e ∷ fs) (q ∷ qs) a = LowestMust p (e ∷ fs) qs a

-- what a member's literal has to call was met, or its lowest frame has to call it
abbrev pub RootsGoOn : Program → World → Memory → Type 0
RootsGoOn p w m = (g group a : ℕ)
    → w.store.member g ≡ Some group
    → MustRoot m.origins.least (m.origins.root g) a
    → IsMet p m.origins w.store a ⊎ LowestMust p (w.stacks g) (m.pasts g) a
