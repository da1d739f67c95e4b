-- Who can start work in a group: a frame that can holds the group by a variable of its own, and then made it; or by a
-- parameter, and then it was lent to it by a frame below in the same goroutine, or comes from outside; or by the
-- variable that its literal was started in, and then its goroutine is a member of the group. And who writes which
-- cells: a frame the blocks that it owns, and of these none that is frozen. A frame's own variables are in blocks that
-- it owns, all others in frozen ones.
use Rattle.std.specs.Prelude.{◌≡◌, ℕ, ◌≤◌, ◌<◌, ◌⊎◌, true, false, List, [], ◌∷◌, length, Option, Some, None, Contains}
use Rattle.meaning.specs.Code.{Code}
use Rattle.meaning.specs.Uses.{Event}
use Rattle.meaning_runs.specs.Bodies.{Program, Body, IsOf, is_parameter_of, is_captured_by}
use Rattle.meaning_runs.specs.World.{Maker, nobody, outside, frame_at, Place, Store, Lent, Passing, Closure, saved_pass, saved_literal, runs, exits, Frame, World, held_group}
use Rattle.meaning_runs.proofs.Places.{IsAt}
use Rattle.meaning_runs.proofs.GroupDuties.{is_mentioned}
use Rattle.meaning_runs.proofs.GroupHomes.{home_in}
use Rattle.meaning_runs.proofs.WhoStarts.{is_declared_in}
use Rattle.meaning_runs.proofs.Remembered.{Root, Origins, Past, Memory}

-- The store grows

-- no frame at that place writes the block again
abbrev pub IsSafe : Maker → Origins → ℕ → Type 0
IsSafe at o k = (o.is_frozen k ≡ true) ⊎ (o.owner k ≡ at → ⊥)

-- what the frame at that place does, or, where it is nobody, a step that writes in no block that was there
pub record Grows (at : Maker) (o after_o : Origins) (s after : Store) : Type 0 where
  pub called : (a : ℕ) → Contains s.called a → Contains after.called a
  pub ended : (a : ℕ) → Contains s.ended a → Contains after.ended a
  pub same_cells : (k v : ℕ) → k < s.cell_count → IsSafe at o k → after.cells k v ≡ s.cells k v
  pub same_holds : (k v : ℕ) → k < s.cell_count → IsSafe at o k → after.holds k v ≡ s.holds k v
  pub counts : s.cell_count ≤ after.cell_count
  pub same_owner : (k : ℕ) → k < s.cell_count → after_o.owner k ≡ o.owner k
  pub same_frozen : (k : ℕ) → k < s.cell_count → after_o.is_frozen k ≡ o.is_frozen k
  pub same_maker : (a : ℕ) → (s.maker a ≡ nobody → ⊥) → after.maker a ≡ s.maker a
  pub same_context : (a : ℕ) → (s.maker a ≡ nobody → ⊥) → after.group_context a ≡ s.group_context a
  pub more_begun : (r : Root) → Contains o.begun r → Contains after_o.begun r
  pub still_gone : o.has_gone ≡ true → after_o.has_gone ≡ true
  pub more_to_call : (a : ℕ) → Contains o.to_call a → Contains after_o.to_call a
  pub same_least : after_o.least ≡ o.least

-- numbers that nothing has yet stand for nothing, and each member is one of a group that is there
pub record IsKnown (s : Store) : Type 0 where
  pub is_fresh : (a : ℕ) → s.group_count ≤ a → s.maker a ≡ nobody
  pub is_empty : (k v : ℕ) → s.cell_count ≤ k → s.holds k v ≡ None
  pub of_groups : (g a : ℕ) → s.member g ≡ Some a → s.maker a ≡ nobody → ⊥

-- Frames

-- the group comes from outside, or was made by a frame below that place
pub data IsFrom (s : Store) (place : Place) (a : ℕ) : Type 0 where
  from_outside : s.maker a ≡ outside → IsFrom s place a
  from_below : (m : ℕ) → m < place.1 → s.maker a ≡ frame_at (place.0, m) → IsFrom s place a

-- it was lent to the frame at a parameter; `lent` is what parameters got when the frame began
abbrev pub WasLent : Body → (ℕ → Option ℕ) → ℕ → Type 0
WasLent b lent a = (v : ℕ) × (is_parameter_of b v ≡ true) × (lent v ≡ Some a)

-- what a frame can lend: a group from outside, one that it made, or one that was lent to it
pub data IsSource (s : Store) (place : Place) (b : Body) (lent : ℕ → Option ℕ) (a : ℕ) : Type 0 where
  is_outside : s.maker a ≡ outside → IsSource s place b lent a
  is_made : s.maker a ≡ frame_at place → IsSource s place b lent a
  was_lent : WasLent b lent a → IsSource s place b lent a

-- A literal with cells that it shares: these are written once, and no group starts it.
pub record IsApart (p : Program) (o : Origins) (s : Store) (c : Closure) : Type 0 where
  pub is_of : IsOf p c.literal
  pub has_no_home : home_in c.literal ≡ None
  pub cells_in : (v k : ℕ) → c.newest v ≡ Some k → k < s.cell_count
  pub cells_once : (v k : ℕ) → c.newest v ≡ Some k → is_captured_by c.literal v ≡ true → o.is_frozen k ≡ true

pub record IsHolder (p : Program) (o : Origins) (s : Store) (place : Place) (past : Past) (f : Frame) : Type 0 where
  pub is_of : IsOf p f.body
  -- the lists of the body go on from the events so far
  pub is_at : (c : Code Event) → f.stage ≡ runs c → IsAt f.body past.events c
  pub none_waits : f.stage ≡ exits → f.waiting ≡ None
  -- cells
  pub cells_in : (v k : ℕ) → f.newest v ≡ Some k → k < s.cell_count
  pub own_cells : (v k : ℕ) → is_declared_in f.body v ≡ true
      → f.newest v ≡ Some k
      → (o.owner k ≡ frame_at place) × (o.is_frozen k ≡ is_mentioned f.body.file v)
  pub other_cells : (v k : ℕ) → is_declared_in f.body v ≡ false → f.newest v ≡ Some k → o.is_frozen k ≡ true
  -- what is saved, and a call that is under way
  pub saved_literals : (c : Closure) → Contains f.saved (saved_literal c) → IsApart p o s c
  pub saved_lend_none : (passing : Passing) → Contains f.saved (saved_pass passing) → passing.lent ≡ []
  pub deferred_lend_none : (passing : Passing) → f.waiting ≡ Some passing → passing.is_deferred ≡ true
      → passing.lent ≡ []
  pub lent_from : (passing : Passing) (y : Lent) (a : ℕ) → f.waiting ≡ Some passing
      → Contains passing.lent y
      → y.group ≡ Some a
      → IsSource s place f.body past.lent a
  -- groups
  pub made : (a : ℕ) → Contains f.made a → s.maker a ≡ frame_at place
  pub own : (v a : ℕ) → is_declared_in f.body v ≡ true → held_group s f v ≡ Some a → Contains f.made a
  pub lent : (v : ℕ) → is_parameter_of f.body v ≡ true → held_group s f v ≡ past.lent v
  pub from : (a : ℕ) → WasLent f.body past.lent a → IsFrom s place a
  pub home : (v a : ℕ) → home_in f.body ≡ Some v → held_group s f v ≡ Some a → s.member place.0 ≡ Some a

abbrev pub AreHolders : Program → Origins → Store → ℕ → List Frame → List Past → Type 0
AreHolders p o s g [] [] = Unit {0}
AreHolders p o s g [] (q ∷ qs) = ⊥
AreHolders p o s g (f ∷ fs) [] = ⊥
AreHolders p o s g (f ∷ fs) (q ∷ qs) = IsHolder p o s (g, length fs) q f × AreHolders p o s g fs qs

-- So it is in all of a world.
pub record IsHeld (p : Program) (w : World) (m : Memory) : Type 0 where
  pub known : IsKnown w.store
  pub escaped : (c : Closure) → Contains w.escaped c → IsApart p m.origins w.store c
  pub holders : (g : ℕ) → AreHolders p m.origins w.store g (w.stacks g) (m.pasts g)
