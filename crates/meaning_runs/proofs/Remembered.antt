-- What is remembered of a run besides its world: who made each block of cells, and whether it is written once; what the
-- goroutine of each member runs; and for each frame its events, what its variables held when it began, and the store
-- then. No step reads any of it, so each step tells what is remembered after it.
use Rattle.std.specs.Prelude.{ℕ, ◌++◌, Bool, true, false, if◌then◌else◌, List, [], ◌∷◌, Option, Some, None}
use Rattle.meaning.specs.Code.{Occurrence, Code}
use Rattle.meaning.specs.Uses.{Event}
use Rattle.meaning_runs.specs.Bodies.{Program, Body, is_parameter_of}
use Rattle.meaning_runs.specs.World.{to_call_too, held, Value, nothing, Place, Maker, nobody, frame_at, Store, put_at, Passing, Frame, World, in_cell, group_in_cell, bound_cell, with_member, nothing_around, empty_world, own_cell}
use Rattle.meaning_runs.specs.Steps.{StartsGoroutine, starts_call, starts_function, starts_foreign, starts_its_literal, sending, declared_too, of_go, ComesTo, Begins, of_function, of_none, Acts, moves_on, does_other, obtains_one, clears_one, calls_one, saves_call, makes_group, tries_nothing, ends_wait, saves_wait, evaluates, evaluates_deferred, lends, makes_call, calls_outside, saves_pass, saves_literal, comes_to_return, runs_call, runs_pass, runs_literal, runs_wait, returns_now, ChangesMembers, starts_member, starts_stranger, starts_outside, starts_beside, leaves_group, Surrounds, starts, evaluates_literal, starts_literal, makes_cells, makes_one, ends_one, calls_any, makes_outside, joins_outside, Step, of_goroutine, of_members, of_environment, obtains_into, keeps_one, renews_object, calls_kept, saves_kept, gives_object, gives_in_field}
use Rattle.meaning_runs.specs.Runs.{Run, no_step, step_more}
use Rattle.meaning_runs.proofs.GroupDuties.{is_mentioned}

-- what a goroutine runs that was started for some work, if it runs something here, with what its variables held when it
-- began
pub record Root : Type 0 where
  pub body : Option Body
  pub given : ℕ → Value
  pub lent : ℕ → Option ℕ

pub record Origins : Type 0 where
  -- the frame whose binding made the block of cells; nobody, where it is one of parameters
  pub owner : ℕ → Maker
  -- it is written once
  pub is_frozen : ℕ → Bool
  -- what members run, by their goroutines
  pub root : ℕ → Root
  -- all that goroutines were started with, and whether a `go` statement started one
  pub begun : List Root
  pub has_gone : Bool
  -- the functions for whose call alone a goroutine was started
  pub to_call : List ℕ
  -- what stands less deep is not looked at
  pub least : ℕ

pub record Past : Type 0 where
  pub events : List (Occurrence Event)
  -- what its parameters and captured variables held when it began: cancel functions, and groups
  pub given : ℕ → Value
  pub lent : ℕ → Option ℕ
  -- the store then, and what was remembered
  pub store : Store
  pub origins : Origins

-- of a whole world: the pasts of the frames of each goroutine, in their order
pub record Memory : Type 0 where
  pub origins : Origins
  pub pasts : ℕ → List Past

abbrev pub no_root : Root
no_root = record { body = None; given = λ v. nothing; lent = λ v. None }

abbrev pub no_origins : ℕ → Origins
no_origins least = record {
  owner = λ k. nobody;
  is_frozen = λ k. false;
  root = λ g. no_root;
  begun = [];
  has_gone = false;
  to_call = [];
  least = least;
}

abbrev pub empty_memory : ℕ → Memory
empty_memory least = record { origins = no_origins least; pasts = λ g. [] }

-- the frame at the place bound the variable in that block
abbrev pub written : Origins → Place → Body → ℕ → ℕ → Origins
written o place b k v = record o {
  owner = put_at o.owner k (frame_at place);
  is_frozen = put_at o.is_frozen k (is_mentioned b.file v);
}

-- a block of parameters
abbrev pub with_block : Origins → ℕ → Origins
with_block o k = record o { is_frozen = put_at o.is_frozen k true }

-- a `go` statement starts a goroutine with it
abbrev pub with_begun : Origins → Root → Origins
with_begun o root = record o { begun = root ∷ o.begun; has_gone = true }

-- a goroutine is started with it, as a member
abbrev pub with_root : Origins → ℕ → Root → Origins
with_root o g root = record o { root = put_at o.root g root; begun = root ∷ o.begun }

-- what a variable of a body gets that begins: a parameter its value, and any other one what is around it
abbrev pub value_given : Store → Body → (ℕ → Value) → (ℕ → Option ℕ) → ℕ → Value
value_given s b values around v = if is_parameter_of b v then values v else in_cell s v (around v)

abbrev pub group_given : Store → Body → (ℕ → Option ℕ) → (ℕ → Option ℕ) → ℕ → Option ℕ
group_given s b groups around v = if is_parameter_of b v then groups v else group_in_cell s v (around v)

-- a goroutine is started with the body
abbrev pub root_of : Store → Body → (ℕ → Value) → (ℕ → Option ℕ) → (ℕ → Option ℕ) → Root
root_of s b values groups around = record {
  body = Some b;
  given = value_given s b values around;
  lent = group_given s b groups around;
}

-- the past of a frame that begins
abbrev pub no_past : Origins → Store → Body → (ℕ → Value) → (ℕ → Option ℕ) → (ℕ → Option ℕ) → Past
no_past o s b values groups around = record {
  events = [];
  given = value_given s b values around;
  lent = group_given s b groups around;
  store = s;
  origins = o;
}

-- of a frame that has no past
abbrev pub unknown_past : Past
unknown_past = record {
  events = [];
  given = λ v. nothing;
  lent = λ v. None;
  store = empty_world.store;
  origins = no_origins 0;
}

abbrev pub first_past : List Past → Past
first_past [] = unknown_past
first_past (q ∷ qs) = q

abbrev pub later_pasts : List Past → List Past
later_pasts [] = []
later_pasts (q ∷ qs) = qs

module _ {f : Frame} {e : Event} {rest : Code Event} where
  abbrev pub occurrence_of : ComesTo f e rest → Occurrence Event
  occurrence_of d = record { at = d.at; order = d.order; event = e }

  -- the frame has come to the event
  abbrev pub behind : Past → ComesTo f e rest → Past
  behind q d = record q { events = q.events ++ occurrence_of d ∷ [] }

-- A frame begins, or none does.
module _ {p : Program} {s : Store} {f : Frame} {passing : Passing} where
  abbrev pub origins_begun : {after : Store} {new : List Frame} → Begins p s f passing after new → Origins → Origins
  origins_begun (of_function b values groups is fits) o = with_block o s.cell_count
  origins_begun (of_none no_body holds) o = o

  abbrev pub pasts_begun : {after : Store} {new : List Frame} → Begins p s f passing after new → Origins → List Past
  pasts_begun (of_function b values groups is fits) o = no_past o s b values groups nothing_around ∷ []
  pasts_begun (of_none no_body holds) o = []

-- The running frame at a place does something.
module _ {p : Program} {s : Store} {place : Place} {f : Frame} where
  abbrev pub origins_after : {after : Store} {frames : List Frame} → Acts p s place f after frames → Origins → Origins
  origins_after (moves_on d) o = o
  origins_after (does_other d) o = o
  origins_after (obtains_one {u = u} {made = made} d gives) o = written o place f.body (bound_cell made f u) u.number
  origins_after (clears_one {u = u} d) o = written o place f.body (bound_cell s f u) u.number
  origins_after (obtains_into {u = u} {made = made} d gives) o =
      written o place f.body (bound_cell made f (own_cell u.number)) u.number
  origins_after (keeps_one d) o = o
  origins_after (renews_object d) o = o
  origins_after (calls_kept d) o = o
  origins_after (saves_kept d) o = o
  origins_after (gives_object d) o = o
  origins_after (gives_in_field d) o = o
  origins_after (calls_one d) o = o
  origins_after (saves_call d) o = o
  origins_after (makes_group {u = u} {made = made} d makes) o =
      written o place f.body (bound_cell made f u) u.number
  origins_after (tries_nothing d) o = o
  origins_after (ends_wait d ends) o = o
  origins_after (saves_wait d) o = o
  origins_after (evaluates d joins) o = o
  origins_after (evaluates_deferred d joins) o = o
  origins_after (lends d joins) o = o
  origins_after (makes_call way now begins) o = origins_begun begins o
  origins_after (calls_outside way gets) o = o
  origins_after (saves_pass way later) o = o
  origins_after (saves_literal b d is_in is_at) o = o
  origins_after (comes_to_return d) o = o
  origins_after (runs_call r) o = o
  origins_after (runs_pass r begins) o = origins_begun begins o
  origins_after (runs_literal values groups r foreign) o = with_block o s.cell_count
  origins_after (runs_wait r ends) o = o
  origins_after (returns_now ended) o = o

  -- the pasts of the frames that stand in its place
  abbrev pub pasts_after : {after : Store} {frames : List Frame}
      → Acts p s place f after frames
      → Origins
      → Past
      → List Past
  pasts_after (moves_on d) o q = q ∷ []
  pasts_after (does_other d) o q = behind q d.comes_to ∷ []
  pasts_after (obtains_one d gives) o q = behind q d.comes_to ∷ []
  pasts_after (clears_one d) o q = behind q d.comes_to ∷ []
  pasts_after (obtains_into d gives) o q = behind q d.comes_to ∷ []
  pasts_after (keeps_one d) o q = behind q d.comes_to ∷ []
  pasts_after (renews_object d) o q = behind q d.comes_to ∷ []
  pasts_after (calls_kept d) o q = behind q d.comes_to ∷ []
  pasts_after (saves_kept d) o q = behind q d.comes_to ∷ []
  pasts_after (gives_object d) o q = behind q d.comes_to ∷ []
  pasts_after (gives_in_field d) o q = behind q d.comes_to ∷ []
  pasts_after (calls_one d) o q = behind q d.comes_to ∷ []
  pasts_after (saves_call d) o q = behind q d.comes_to ∷ []
  pasts_after (makes_group d makes) o q = behind q d.comes_to ∷ []
  pasts_after (tries_nothing d) o q = behind q d.comes_to ∷ []
  pasts_after (ends_wait d ends) o q = behind q d.comes_to ∷ []
  pasts_after (saves_wait d) o q = behind q d.comes_to ∷ []
  pasts_after (evaluates d joins) o q = behind q d ∷ []
  pasts_after (evaluates_deferred d joins) o q = behind q d ∷ []
  pasts_after (lends d joins) o q = behind q d ∷ []
  pasts_after (makes_call way now begins) o q = pasts_begun begins o ++ q ∷ []
  pasts_after (calls_outside way gets) o q = q ∷ []
  pasts_after (saves_pass way later) o q = q ∷ []
  pasts_after (saves_literal b d is_in is_at) o q = behind q d.comes_to ∷ []
  pasts_after (comes_to_return d) o q = behind q d.comes_to ∷ []
  pasts_after (runs_call r) o q = q ∷ []
  pasts_after (runs_pass r begins) o q = pasts_begun begins o ++ q ∷ []
  pasts_after (runs_literal {c = c} values groups r foreign) o q =
      no_past o s c.literal values groups c.newest ∷ q ∷ []
  pasts_after (runs_wait r ends) o q = q ∷ []
  pasts_after (returns_now ended) o q = []

-- The running frame of a goroutine goes past an event.
abbrev pub pasts_behind : {f : Frame} {e : Event} {rest : Code Event} → List Past → ComesTo f e rest → List Past
pasts_behind qs d = behind (first_past qs) d ∷ later_pasts qs

-- A goroutine begins with this body.
abbrev pub memory_of_start : Store → ℕ → Body → (ℕ → Value) → (ℕ → Option ℕ) → (ℕ → Option ℕ) → Memory → Memory
memory_of_start s g b values groups around m = record {
  origins = with_block m.origins s.cell_count;
  pasts = put_at m.pasts g (no_past m.origins s b values groups around ∷ []);
}

module _ {p : Program} {w : World} where
  abbrev pub memory_of_members : {next : World} → ChangesMembers p w next → Memory → Memory
  memory_of_members (starts_member {f = f} {group = group} g h b values groups work free is_in is_at foreign) m =
      let s = with_member w.store h (Some group) in
      let o = with_root m.origins h (root_of s b values groups f.newest) in
      record {
        origins = with_block o s.cell_count;
        pasts = put_at (put_at m.pasts g (pasts_behind (m.pasts g) work.does_next.comes_to)) h
            (no_past o s b values groups f.newest ∷ []);
      }
  memory_of_members (starts_stranger g h work free) m = record {
    origins = with_root m.origins h no_root;
    pasts = put_at m.pasts g (pasts_behind (m.pasts g) work.does_next.comes_to);
  }
  memory_of_members (starts_outside g h running call lent is free) m =
      record m { origins = with_root m.origins h no_root }
  memory_of_members (starts_beside g h member none free) m =
      record m { origins = with_root m.origins h no_root }
  memory_of_members (leaves_group g member none) m = m

  abbrev pub memory_of_environment : {next : World} → Surrounds p w next → Memory → Memory
  memory_of_environment (starts g b values groups free of outermost foreign) m =
      memory_of_start w.store g b values groups nothing_around m
  memory_of_environment (evaluates_literal g f b among escapes) m = m
  memory_of_environment (starts_literal g c values groups free among foreign) m =
      memory_of_start w.store g c.literal values groups c.newest m
  memory_of_environment (makes_cells values groups foreign) m =
      record m { origins = with_block m.origins w.store.cell_count }
  memory_of_environment (makes_one parent earlier) m = m
  memory_of_environment (ends_one a is) m = m
  memory_of_environment (calls_any a is) m = m
  memory_of_environment (makes_outside context earlier) m = m
  memory_of_environment (joins_outside g a free made) m = record m { origins = with_root m.origins g no_root }

  abbrev pub memory_of_go : {next : World} → StartsGoroutine p w next → Memory → Memory
  memory_of_go (starts_call {f = f} {v = v} g sets) m = record {
    origins = record (m.origins) { to_call = to_call_too (held w.store f v) m.origins.to_call };
    pasts = put_at m.pasts g (pasts_behind (m.pasts g) sets.does_next.comes_to);
  }
  memory_of_go (starts_function g h b values groups sets free is fits) m =
      let o = with_begun m.origins (root_of w.store b values groups nothing_around) in
      record {
        origins = with_block o w.store.cell_count;
        pasts = put_at (put_at m.pasts g (pasts_behind (m.pasts g) sets.does_next.comes_to)) h
            (no_past o w.store b values groups nothing_around ∷ []);
      }
  memory_of_go (starts_foreign {f = f} {callee = callee} {xs = xs} g sets no_body) m = record {
    origins = record (m.origins) {
      to_call = declared_too p callee (sending w.store f callee xs).given m.origins.to_call;
    };
    pasts = put_at m.pasts g (pasts_behind (m.pasts g) sets.does_next.comes_to);
  }
  memory_of_go (starts_its_literal {f = f} g h b values groups sets free is_in is_at foreign) m =
      let o = with_begun m.origins (root_of w.store b values groups f.newest) in
      record {
        origins = with_block o w.store.cell_count;
        pasts = put_at (put_at m.pasts g (pasts_behind (m.pasts g) sets.does_next.comes_to)) h
            (no_past o w.store b values groups f.newest ∷ []);
      }

  abbrev pub memory_after : {next : World} → Step p w next → Memory → Memory
  memory_after (of_goroutine g running acts) m = record {
    origins = origins_after acts m.origins;
    pasts = put_at m.pasts g (pasts_after acts m.origins (first_past (m.pasts g)) ++ later_pasts (m.pasts g));
  }
  memory_after (of_members changes) m = memory_of_members changes m
  memory_after (of_go going) m = memory_of_go going m
  memory_after (of_environment surrounds) m = memory_of_environment surrounds m

-- what is remembered after a run, of what stands at least so deep
abbrev pub memory_of : {p : Program} {w : World} → ℕ → Run p w → Memory
memory_of least no_step = empty_memory least
memory_of least (step_more run step) = memory_after step (memory_of least run)
