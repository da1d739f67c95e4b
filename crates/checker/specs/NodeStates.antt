-- What the program makes of states at the nodes of a body that is laid out.
use Rattle.std.specs.Prelude.{ℕ, ◌≡◌, false, List, length, map, Option, Some, None}
use Rattle.events.specs.VariableViews.{variable_view}
use Rattle.meaning.specs.Classes.{Promises, change_cancel, change_group}
use Rattle.meaning.specs.Uses.{Event}
use Rattle.bodies.specs.States.{Applies, Fit}
use Rattle.bodies.specs.declared.state.State.{State}
use Rattle.bodies.specs.declared.state.StateVariables.{StateVariables}
use Rattle.checker.specs.declared.laid_out.LaidOut.{LaidOut}
use Rattle.checker.specs.CertificateTests.{loads}
use Rattle.checker.specs.Loaded.{AreLoaded}

-- both make the same of each class
pub record DoesSame (one other : Event) : Type 0 where
  pub to_cancel : (p : Promises) (v : ℕ) → change_cancel p v one ≡ change_cancel p v other
  pub to_group : (p : Promises) (v : ℕ) → change_group p v one ≡ change_group p v other

-- a state with these variables is changed as by the event
pub record IsChanged (p : Promises) (kept : StateVariables) (e : Event) (before after : List ℕ) : Type 0 where
  pub done : Event
  pub does_same : DoesSame done e
  pub applies : Applies p done kept before after

-- they are the body's variables
pub record AreKept (l : LaidOut) (kept : StateVariables) : Type 0 where
  pub cancels : kept.cancels.now ≡ l.numbers.cancels.items
  pub own_groups : kept.groups.now ≡ l.numbers.groups.items
  pub groups : kept.pending.now ≡ l.groups.items
  pub fit : Fit kept

-- the words are those of the state of these masks
abbrev pub AreLoadedIn : LaidOut → List ℕ → List ℕ → Type 0
AreLoadedIn l masks words =
    AreLoaded (map variable_view l.variables.now) masks (length (map variable_view l.variables.now)) words

-- the words are what the event makes of the state of these masks
pub record IsImageOf (l : LaidOut) (p : Promises) (e : Event) (masks words : List ℕ) : Type 0 where
  pub loaded : List ℕ
  pub are_loaded : AreLoadedIn l masks loaded
  pub kept : StateVariables
  pub are_kept : AreKept l kept
  pub is_changed : IsChanged p kept e loaded words

-- the same, if these masks make a state
abbrev pub IsImageIf : LaidOut → Promises → Event → List ℕ → Option State → Type 0
IsImageIf l p e masks None = loads (map variable_view l.variables.now) masks ≡ false
IsImageIf l p e masks (Some state) = IsImageOf l p e masks state.words
