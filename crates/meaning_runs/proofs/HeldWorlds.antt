-- Each step of a program keeps who can start work in groups, in all of the world. So it is in every world of a run.
use Rattle.std.proofs.Common.{◌≡◌, ℕ, ◌<◌, ◌⊎◌, inl, inr, true, List, [], ◌∷◌, ◌++◌, length, Option, Some, None, Contains, refl, sym, ap, ◌∙◌, subst}
use Rattle.std.proofs.lemmas.Bool.{cases_eq}
use Rattle.std.proofs.lemmas.Option.{none-some, same_Some}
use Rattle.meaning.specs.Code.{Code}
use Rattle.meaning.specs.Uses.{Event, go_call, go_pass, go_literal, go}
use Rattle.meaning.proofs.Membership.{contains_nil, contains_here, contains_cases}
use Rattle.meaning_runs.specs.Bodies.{Program, Body, IsOf, is_captured_by}
use Rattle.meaning_runs.specs.World.{to_call_too, held, Value, cancel_function, nobody, outside, frame_at, Place, Store, put_at, with_new, calling, ending, with_group, IsOutside, outside_none, outside_group, with_member, with_cells, Lent, Passing, Saved, saved_pass, Frame, World, with_stack, group_in_cell, held_group, new_frame, nothing_around}
use Rattle.meaning_runs.specs.Steps.{IsLentTo, past_go, sending, declared_too, StartsGoroutine, starts_call, starts_function, starts_foreign, starts_its_literal, ComesTo, at_code, ComesToCall, at_once, saved_before, IsFree, StartsWork, ChangesMembers, starts_member, starts_stranger, starts_outside, starts_beside, leaves_group, Surrounds, starts, evaluates_literal, starts_literal, makes_cells, makes_one, ends_one, calls_any, makes_outside, joins_outside, Step, of_goroutine, of_members, of_go, of_environment}
use Rattle.meaning_runs.specs.Runs.{Run, no_step, step_more}
use Rattle.meaning_runs.proofs.Contexts.{put_at-same, put_at-other}
use Rattle.meaning_runs.proofs.GroupHomes.{home_in}
use Rattle.meaning_runs.proofs.GoingCalls.{to_call_more, declared_more}
use Rattle.meaning_runs.proofs.WhoStarts.{Startable, by_own, by_parameter, by_home, BodiesAreWellUsed}
use Rattle.meaning_runs.proofs.Remembered.{root_of, with_begun, memory_of_go, Root, Origins, Past, Memory, no_root, with_block, with_root, no_past, first_past, later_pasts, occurrence_of, origins_after, pasts_after, pasts_behind, memory_of_members, memory_of_start, memory_of_environment, memory_after, memory_of}
use Rattle.meaning_runs.proofs.Holders.{Grows, IsKnown, IsFrom, from_outside, from_below, IsSource, is_outside, is_made, was_lent, IsApart, IsHolder, AreHolders, IsHeld}
use Rattle.meaning_runs.proofs.StoreGrowth.{begun_grows, calls_grow, frame-nobody, outside-nobody, same_frame, ChangesContexts, no_change, new_changes, calling_changes, ending_changes, contexts_grow, member_grows, member_leaves, block_grows, group_grows, contexts_known, block_known, group_known, joining_known, leaving_known}
use Rattle.meaning_runs.proofs.HolderFrames.{apart_grows, holders_stand, reached, holder_behind}
use Rattle.meaning_runs.proofs.HolderBindings.{holder_new}
use Rattle.meaning_runs.proofs.HolderSteps.{own_is_declared, parameter_is_its, outside_is, captured_is_frozen, evaluated_is_apart, acts_held, literal_is_of}

-- A goroutine and its frames

pub other_goroutine : (g h n m : ℕ) → (h ≡ g → ⊥) → frame_at (h, m) ≡ frame_at (g, n) → ⊥
other_goroutine g h n m ne e = ne (ap (λ (r : Place). r.0) (same_frame (h, m) (g, n) e))

-- the running frame has a past
pub running_held : (p : Program) (o : Origins) (s : Store) (g : ℕ) (f : Frame) (others : List Frame) (qs : List Past)
    → AreHolders p o s g (f ∷ others) qs
    → IsHolder p o s (g, length others) (first_past qs) f × AreHolders p o s g others (later_pasts qs)
running_held p o s g f others [] it = absurd it
running_held p o s g f others (q ∷ qs) it = it

-- a goroutine without frames has no past either
pub nothing_held : (p : Program) (o after_o : Origins) (s after : Store) (g : ℕ) (qs : List Past)
    → AreHolders p o s g [] qs
    → AreHolders p after_o after g [] qs
nothing_held p o after_o s after g [] it = tt
nothing_held p o after_o s after g (q ∷ qs) it = absurd it

-- a frame of some goroutine, and where it stands
pub holder_among : (p : Program) (o : Origins) (s : Store) (g : ℕ) (fs : List Frame) (qs : List Past) (f : Frame)
    → Contains fs f
    → AreHolders p o s g fs qs
    → (n : ℕ) × (q : Past) × IsHolder p o s (g, n) q f
holder_among p o s g [] qs f h it = absurd (contains_nil f h)
holder_among p o s g (x ∷ fs) [] f h it = absurd it
holder_among p o s g (x ∷ fs) (q ∷ qs) f h it = elim (contains_cases x f fs h) [
  | inl same ↦ (length fs, q, subst (IsHolder p o s (g, length fs) q) same it.0)
  | inr more ↦ holder_among p o s g fs qs f more it.1
]

-- Groups that are there

-- a group in which a frame can start work
pub startable_is_there : (p : Program) (o : Origins) (s : Store) (place : Place) (q : Past) (f : Frame) → IsKnown s
    → IsHolder p o s place q f
    → (v a : ℕ)
    → Startable f.body v
    → held_group s f v ≡ Some a
    → s.maker a ≡ nobody
    → ⊥
startable_is_there p o s place q f known it v a (by_own x own same) e none =
    frame-nobody place (sym (it.made a (it.own v a (own_is_declared f.body x v own same) e)) ∙ none)
startable_is_there p o s place q f known it v a (by_parameter x parameter same) e none =
    let is_its = parameter_is_its f.body x v parameter same in
    come (it.from a (v, is_its, sym (it.lent v is_its) ∙ e))
  where
    come : IsFrom s place a → ⊥
    come (from_outside made) = outside-nobody (sym made ∙ none)
    come (from_below m l made) = frame-nobody (place.0, m) (sym made ∙ none)
startable_is_there p o s place q f known it v a (by_home home) e none = known.of_groups place.0 a (it.home v a home e)
    none

-- a group that a frame can lend
pub source_is_there : (p : Program) (o : Origins) (s : Store) (place : Place) (q : Past) (f : Frame)
    → IsHolder p o s place q f
    → (a : ℕ)
    → IsSource s place f.body q.lent a
    → s.maker a ≡ nobody
    → ⊥
source_is_there p o s place q f it a (is_outside made) none = outside-nobody (sym made ∙ none)
source_is_there p o s place q f it a (is_made made) none = frame-nobody place (sym made ∙ none)
source_is_there p o s place q f it a (was_lent w) none = come (it.from a w)
  where
    come : IsFrom s place a → ⊥
    come (from_outside made) = outside-nobody (sym made ∙ none)
    come (from_below m l made) = frame-nobody (place.0, m) (sym made ∙ none)

-- what a function without a body may start work in
pub lent_source : (p : Program) (o : Origins) (s : Store) (place : Place) (q : Past) (f : Frame)
    → IsHolder p o s place q f
    → (passing : Passing) (y : Lent) (a : ℕ)
    → ComesToCall f passing
    → Contains passing.lent y
    → y.group ≡ Some a
    → IsSource s place f.body q.lent a
lent_source p o s place q f it passing y a (at_once way now) h e = it.lent_from passing y a way.waits h e
lent_source p o s place q f it passing y a (saved_before {left = left} r) h e =
    let none = it.saved_lend_none passing
    (subst (λ (l : List Saved). Contains l (saved_pass passing)) (sym r.saved)
    (contains_here (saved_pass passing) left)) in
    absurd (contains_nil y (subst (λ (l : List Lent). Contains l y) none h))

nil-cons : (f : Frame) (fs : List Frame) → let none : List Frame = [] in none ≡ f ∷ fs → ⊥
nil-cons f fs e = cc

module _ (p : Program) (used : BodiesAreWellUsed p) where
  -- One goroutine gets a stack

  pub one_stack : (w : World) (m : Memory) (g n : ℕ) (after_o : Origins) (after : Store) (stack : List Frame)
      (pasts : List Past)
      → Grows (frame_at (g, n)) m.origins after_o w.store after
      → ((h : ℕ) → (h ≡ g → ⊥) → after.member h ≡ w.store.member h)
      → IsKnown after
      → AreHolders p after_o after g stack pasts
      → IsHeld p w m
      → IsHeld p (with_stack w after g stack) record { origins = after_o; pasts = put_at m.pasts g pasts }
  one_stack w m g n after_o after stack pasts grows member known its it = record {
    known = known;
    escaped = λ c h. apart_grows (frame_at (g, n)) m.origins after_o w.store after grows p c (it.escaped c h);
    holders = λ h. by_number h (cases_eq h g);
  }
    where
      by_number : (h : ℕ) → (h ≡ g) ⊎ (h ≡ g → ⊥)
          → AreHolders p after_o after h (put_at w.stacks g stack h) (put_at m.pasts g pasts h)
      by_number h (inl same) =
          subst (λ i. AreHolders p after_o after i (put_at w.stacks g stack i) (put_at m.pasts g pasts i)) (sym same)
          (subst (λ l. AreHolders p after_o after g l (put_at m.pasts g pasts g)) (sym (put_at-same w.stacks g stack))
          (subst (λ l. AreHolders p after_o after g stack l) (sym (put_at-same m.pasts g pasts)) its))
      by_number h (inr ne) =
          subst (λ l. AreHolders p after_o after h l (put_at m.pasts g pasts h))
          (sym (put_at-other w.stacks g stack h ne))
          (subst (λ l. AreHolders p after_o after h (w.stacks h) l) (sym (put_at-other m.pasts g pasts h ne))
          (holders_stand (frame_at (g, n)) m.origins after_o w.store after grows p h (w.stacks h) (m.pasts h)
          (λ i l. other_goroutine g h n i ne) (λ a e. member h ne ∙ e) (it.holders h)))

  -- what frames do nothing, all stand
  all_stand : (w : World) (m : Memory) (after_o : Origins) (after : Store)
      → Grows nobody m.origins after_o w.store after
      → ((h a : ℕ) → w.store.member h ≡ Some a → after.member h ≡ Some a)
      → IsKnown after
      → IsHeld p w m
      → IsHeld p (record w { store = after }) (record m { origins = after_o })
  all_stand w m after_o after grows member known it = record {
    known = known;
    escaped = λ c h. apart_grows nobody m.origins after_o w.store after grows p c (it.escaped c h);
    holders = λ h. holders_stand nobody m.origins after_o w.store after grows p h (w.stacks h) (m.pasts h)
        (λ i l. frame-nobody (h, i)) (member h) (it.holders h);
  }

  contexts_held : (w : World) (m : Memory) (after : Store) → ChangesContexts w.store after → IsHeld p w m
      → IsHeld p (record w { store = after }) m
  contexts_held w m after changes it =
      all_stand w m m.origins after (contexts_grow nobody m.origins w.store after changes)
      (λ h a e. ap (λ (f : ℕ → Option ℕ). f h) changes.same_member ∙ e) (contexts_known w.store after changes it.known)
      it

  -- a goroutine that was none becomes a member
  joined_held : (w : World) (m : Memory) (g a : ℕ) (root : Root) → IsFree w g → (w.store.maker a ≡ nobody → ⊥)
      → IsHeld p w m
      → IsHeld p (record w { store = with_member w.store g (Some a) })
      (record m { origins = with_root m.origins g root })
  joined_held w m g a root free has it =
      all_stand w m (with_root m.origins g root) (with_member w.store g (Some a))
      (member_grows nobody m.origins w.store root g (Some a))
      (λ h b e. by_number h b e (cases_eq h g)) (joining_known w.store g a has it.known) it
    where
      by_number : (h b : ℕ) → w.store.member h ≡ Some b → (h ≡ g) ⊎ (h ≡ g → ⊥)
          → put_at w.store.member g (Some a) h ≡ Some b
      by_number h b e (inl same) =
          absurd (none-some b (sym free.is_no_member ∙ ap w.store.member (sym same) ∙ e))
      by_number h b e (inr ne) = put_at-other w.store.member g (Some a) h ne ∙ e

  -- a free goroutine begins with a body
  begun_held : (w : World) (m : Memory) (g : ℕ) (b : Body) (values : ℕ → Value) (groups : ℕ → Option ℕ)
      (around : ℕ → Option ℕ)
      → IsOf p b
      → ((v k : ℕ) → around v ≡ Some k → k < w.store.cell_count)
      → ((v k : ℕ) → around v ≡ Some k → is_captured_by b v ≡ true → m.origins.is_frozen k ≡ true)
      → ((v : ℕ) → IsOutside w.store (groups v))
      → ((v a : ℕ) → home_in b ≡ Some v → group_in_cell w.store v (around v) ≡ Some a → w.store.member g ≡ Some a)
      → IsHeld p w m
      → IsHeld p (with_stack w (with_cells w.store values groups) g (new_frame w.store b around ∷ []))
      (memory_of_start w.store g b values groups around m)
  begun_held w m g b values groups around of around_in around_once foreign homes it =
      one_stack w m g 0 (with_block m.origins w.store.cell_count) (with_cells w.store values groups)
      (new_frame w.store b around ∷ []) (no_past m.origins w.store b values groups around ∷ [])
      (block_grows (frame_at (g, 0)) m.origins w.store values groups) (λ h ne. refl)
      (block_known w.store values groups it.known) (
        holder_new p used m.origins w.store values groups b around of around_in around_once (g, 0)
            (λ v a is_its e. from_outside (outside_is w.store (groups v) a (foreign v) e)) homes,
        tt,
      )
      it

  -- Members

  module _ (w : World) (m : Memory) (it : IsHeld p w m) (g : ℕ) (f : Frame) (others : List Frame)
      (running : w.stacks g ≡ f ∷ others)
    where
      its_frames : IsHolder p m.origins w.store (g, length others) (first_past (m.pasts g)) f
          × AreHolders p m.origins w.store g others (later_pasts (m.pasts g))
      its_frames =
          running_held p m.origins w.store g f others (m.pasts g)
          (subst (λ l. AreHolders p m.origins w.store g l (m.pasts g)) running (it.holders g))

      -- the running frame goes past an event
      past_held : (e : Event) (rest : Code Event) (d : ComesTo f e rest)
          → IsHeld p (with_stack w w.store g (at_code f rest ∷ others))
          (record m { pasts = put_at m.pasts g (pasts_behind (m.pasts g) d) })
      past_held e rest d =
          one_stack w m g (length others) m.origins w.store (at_code f rest ∷ others) (pasts_behind (m.pasts g) d)
          (contexts_grow (frame_at (g, length others)) m.origins w.store w.store (no_change w.store)) (λ h ne. refl)
          it.known (
            holder_behind p m.origins w.store (g, length others) (first_past (m.pasts g)) f its_frames.0 e rest d,
            its_frames.1,
          )
          it

      free_still : (h : ℕ) (stack : List Frame) → IsFree w h → IsFree (with_stack w w.store g stack) h
      free_still h stack free = record {
        has_no_frame = put_at-other w.stacks g stack h (λ e. nil-cons f others
            (sym free.has_no_frame ∙ ap w.stacks e ∙ running))
            ∙ free.has_no_frame;
        is_no_member = free.is_no_member;
      }

      -- and starts work in a group
      started_held : (h a : ℕ) (rest : Code Event) (literal : Option ℕ) (root : Root)
          → (work : StartsWork w g f others rest literal a)
          → IsFree w h
          → IsHeld p (record w {
            store = with_member w.store h (Some a);
            stacks = put_at w.stacks g
                (at_code f rest ∷ others);
          })
          record {
            origins = with_root m.origins h root;
            pasts = put_at m.pasts g
                (pasts_behind (m.pasts g) work.does_next.comes_to);
          }
      started_held h a rest literal root work free =
          let d = work.does_next.comes_to in
          let place : Place = (g, length others) in
          let q = first_past (m.pasts g) in
          let can = used.starts_in f.body q.events (occurrence_of d) work.variable literal its_frames.0.is_of
          (reached p m.origins w.store place q f its_frames.0 work.event rest d) work.is_start in
          let past : World = with_stack w w.store g (at_code f rest ∷ others) in
          let remembered : Memory = record m { pasts = put_at m.pasts g (pasts_behind (m.pasts g) d) } in
          joined_held past remembered h a root (free_still h (at_code f rest ∷ others) free)
          (startable_is_there p m.origins w.store place q f it.known its_frames.0 work.variable a can work.is_held)
          (past_held work.event rest d)

  members_held : (w next : World) (m : Memory) (changes : ChangesMembers p w next) → IsHeld p w m
      → IsHeld p next (memory_of_members changes m)
  members_held w next m (starts_member {f = f} {others = others} {rest = rest} {at = at} {group = a} g h b values groups
      work free is_in is_at foreign) it =
      let frames = its_frames w m it g f others work.is_running in
      let holder = frames.0 in
      let place : Place = (g, length others) in
      let q = first_past (m.pasts g) in
      let d = work.does_next.comes_to in
      let root : Root = root_of (with_member w.store h (Some a)) b values groups f.newest in
      let w2 : World = record w {
        store = with_member w.store h (Some a);
        stacks = put_at w.stacks g
            (at_code f rest ∷ others);
      } in
      let m2 : Memory = record {
        origins = with_root m.origins h root;
        pasts = put_at m.pasts g
            (pasts_behind (m.pasts g) d);
      } in
      let home = used.has_home f.body q.events (occurrence_of d) work.variable at b holder.is_of
      (reached p m.origins w.store place q f holder work.event rest d) work.is_start is_in is_at in
      begun_held w2 m2 h b values groups f.newest (literal_is_of p f.body b holder.is_of is_in) holder.cells_in
      (λ v k e c. captured_is_frozen p used m.origins w.store place q f holder b is_in v k e c)
      (λ v. still_outside (groups v) (foreign.foreign v)) (at_home home)
      (started_held w m it g f others work.is_running h a rest (Some at) root work free)
    where
      still_outside : (group : Option ℕ) → IsOutside w.store group → IsOutside (with_member w.store h (Some a)) group
      still_outside None outside_none = outside_none
      still_outside (Some b) (outside_group made) = outside_group made

      at_home : home_in b ≡ Some work.variable → (v c : ℕ) → home_in b ≡ Some v
          → group_in_cell w.store v (f.newest v) ≡ Some c
          → put_at w.store.member h (Some a) h ≡ Some c
      at_home is v c home e =
          let same : work.variable ≡ v = same_Some work.variable v (sym is ∙ home) in
          put_at-same w.store.member h (Some a) ∙ sym work.is_held ∙ ap (λ x. group_in_cell w.store x (f.newest x)) same
          ∙ e
  members_held w next m (starts_stranger {f = f} {others = others} {rest = rest} {group = a} g h work free) it =
      started_held w m it g f others work.is_running h a rest None no_root work free
  members_held w next m (starts_outside {f = f} {others = others} {passing = passing} {y = y} {group = a} g h running
      call lent is free) it =
      let holder = (its_frames w m it g f others running).0 in
      let place : Place = (g, length others) in
      let q = first_past (m.pasts g) in
      joined_held w m h a no_root free
      (source_is_there p m.origins w.store place q f holder a
      (lent_source p m.origins w.store place q f holder passing y a call.comes_to_it lent is)) it
  members_held w next m (starts_beside {group = a} g h member none free) it =
      joined_held w m h a no_root free (it.known.of_groups g a member) it
  members_held w next m (leaves_group {group = a} g member none) it = record {
    known = leaving_known w.store g it.known;
    escaped = λ c h. apart_grows nobody m.origins m.origins w.store (with_member w.store g None) grows p c
        (it.escaped c h);
    holders = λ h. by_number h (cases_eq h g);
  }
    where
      grows : Grows nobody m.origins m.origins w.store (with_member w.store g None)
      grows = member_leaves nobody m.origins w.store g None

      by_number : (h : ℕ) → (h ≡ g) ⊎ (h ≡ g → ⊥)
          → AreHolders p m.origins (with_member w.store g None) h (w.stacks h) (m.pasts h)
      by_number h (inl same) =
          let empty = ap w.stacks same ∙ none in
          subst (λ l. AreHolders p m.origins (with_member w.store g None) h l (m.pasts h)) (sym empty)
          (nothing_held p m.origins m.origins w.store (with_member w.store g None) h (m.pasts h)
          (subst (λ l. AreHolders p m.origins w.store h l (m.pasts h)) empty (it.holders h)))
      by_number h (inr ne) =
          holders_stand nobody m.origins m.origins w.store (with_member w.store g None) grows p h (w.stacks h)
          (m.pasts h)
          (λ i l. frame-nobody (h, i)) (λ c e. put_at-other w.store.member g None h ne ∙ e) (it.holders h)

  -- A `go` statement starts a goroutine

  -- which says nothing of what is to be called
  to_call_held : (w : World) (m : Memory) (to_call : List ℕ) → IsHeld p w m
      → IsHeld p (record w { to_call = to_call }) m
  to_call_held w m to_call it = record { known = it.known; escaped = it.escaped; holders = it.holders }

  -- more is remembered
  more_remembered : (w : World) (m : Memory) (after_o : Origins) → Grows nobody m.origins after_o w.store w.store
      → IsHeld p w m
      → IsHeld p w (record m { origins = after_o })
  more_remembered w m after_o grows it = all_stand w m after_o w.store grows (λ h a e. e) it.known it

  goings_held : (w next : World) (m : Memory) (going : StartsGoroutine p w next) → IsHeld p w m
      → IsHeld p next (memory_of_go going m)
  goings_held w next m (starts_call {f = f} {others = others} {rest = rest} {v = v} g sets) it =
      let d = sets.does_next.comes_to in
      let past : World = past_go w g f others rest in
      let m1 : Memory = record m { pasts = put_at m.pasts g (pasts_behind (m.pasts g) d) } in
      let calls = to_call_too (held w.store f v) m.origins.to_call in
      to_call_held past (record m1 { origins = record (m.origins) { to_call = calls } })
      (to_call_too (held w.store f v) w.to_call)
      (more_remembered past m1 (record (m.origins) { to_call = calls })
      (calls_grow nobody m.origins w.store calls (to_call_more (held w.store f v) m.origins.to_call))
      (past_held w m it g f others sets.is_running (go (go_call v)) rest d))
  goings_held w next m (starts_foreign {f = f} {others = others} {rest = rest} {callee = callee} {xs = xs} g sets none) it =
      let d = sets.does_next.comes_to in
      let past : World = past_go w g f others rest in
      let m1 : Memory = record m { pasts = put_at m.pasts g (pasts_behind (m.pasts g) d) } in
      let given = (sending w.store f callee xs).given in
      let calls = declared_too p callee given m.origins.to_call in
      to_call_held past (record m1 { origins = record (m.origins) { to_call = calls } })
      (declared_too p callee given w.to_call)
      (more_remembered past m1 (record (m.origins) { to_call = calls })
      (calls_grow nobody m.origins w.store calls (declared_more p callee given m.origins.to_call))
      (past_held w m it g f others sets.is_running (go (go_pass callee xs)) rest d))
  goings_held w next m (starts_function {f = f} {others = others} {rest = rest} {callee = callee} {xs = xs} g h b values
      groups sets free is fits) it =
      let d = sets.does_next.comes_to in
      let past : World = past_go w g f others rest in
      let m1 : Memory = record m { pasts = put_at m.pasts g (pasts_behind (m.pasts g) d) } in
      let root = root_of w.store b values groups nothing_around in
      begun_held past (record m1 { origins = with_begun m.origins root }) h b values groups nothing_around is.is_of
      (λ v k e. absurd (none-some k e)) (λ v k e c. absurd (none-some k e)) (λ v. foreign v (fits.other_groups v))
      (λ v a home e. absurd (none-some a e))
      (more_remembered past m1 (with_begun m.origins root) (begun_grows nobody m.origins w.store root)
      (past_held w m it g f others sets.is_running (go (go_pass callee xs)) rest d))
    where
      foreign : (v : ℕ) → IsLentTo b [] v ⊎ IsOutside w.store (groups v) → IsOutside w.store (groups v)
      foreign v (inl lent) = absurd (contains_nil lent.argument lent.is_lent)
      foreign v (inr out) = out
  goings_held w next m (starts_its_literal {f = f} {others = others} {rest = rest} {at = at} g h b values groups sets free
      is_in is_at foreign) it =
      let holder = (its_frames w m it g f others sets.is_running).0 in
      let place : Place = (g, length others) in
      let q = first_past (m.pasts g) in
      let d = sets.does_next.comes_to in
      let past : World = past_go w g f others rest in
      let m1 : Memory = record m { pasts = put_at m.pasts g (pasts_behind (m.pasts g) d) } in
      let root = root_of w.store b values groups f.newest in
      let homeless = used.gone_has_no_home f.body q.events (occurrence_of d) at b holder.is_of
      (reached p m.origins w.store place q f holder (go (go_literal at)) rest d) refl is_in is_at in
      begun_held past (record m1 { origins = with_begun m.origins root }) h b values groups f.newest
      (literal_is_of p f.body b holder.is_of is_in) holder.cells_in
      (λ v k e c. captured_is_frozen p used m.origins w.store place q f holder b is_in v k e c) foreign.foreign
      (λ v a home e. absurd (none-some v (sym homeless ∙ home)))
      (more_remembered past m1 (with_begun m.origins root) (begun_grows nobody m.origins w.store root)
      (past_held w m it g f others sets.is_running (go (go_literal at)) rest d))

  -- The environment

  environment_held : (w next : World) (m : Memory) (surrounds : Surrounds p w next) → IsHeld p w m
      → IsHeld p next (memory_of_environment surrounds m)
  environment_held w next m (starts g b values groups free of outermost foreign) it =
      begun_held w m g b values groups nothing_around of (λ v k e. absurd (none-some k e))
      (λ v k e c. absurd (none-some k e))
      foreign.foreign (λ v a home e. absurd (none-some v (sym (used.outermost_has_no_home b of outermost) ∙ home))) it
  environment_held w next m (evaluates_literal g f b among escapes) it = record {
    known = it.known;
    escaped = λ c h. elim (contains_cases record { literal = b; newest = f.newest } c w.escaped h) [
      | inl same ↦ subst (IsApart p m.origins w.store) same its_own
      | inr more ↦ it.escaped c more
    ];
    holders = it.holders;
  }
    where
      its_own : IsApart p m.origins w.store record { literal = b; newest = f.newest }
      its_own =
          let r = holder_among p m.origins w.store g (w.stacks g) (m.pasts g) f among (it.holders g) in
          evaluated_is_apart p used m.origins w.store (g, r.0) r.1 f r.2 b escapes.is_literal
          (used.escaped_has_no_home f.body b r.2.is_of escapes)
  environment_held w next m (starts_literal g c values groups free among foreign) it =
      let apart = it.escaped c among in
      begun_held w m g c.literal values groups c.newest apart.is_of apart.cells_in apart.cells_once foreign.foreign
      (λ v a home e. absurd (none-some v (sym apart.has_no_home ∙ home))) it
  environment_held w next m (makes_cells values groups foreign) it =
      all_stand w m (with_block m.origins w.store.cell_count) (with_cells w.store values groups)
      (block_grows nobody m.origins w.store values groups) (λ h a e. e) (block_known w.store values groups it.known) it
  environment_held w next m (makes_one parent earlier) it =
      contexts_held w m (with_new w.store parent) (new_changes w.store parent) it
  environment_held w next m (ends_one a is) it =
      contexts_held w m (ending w.store (Some a)) (ending_changes w.store (Some a)) it
  environment_held w next m (calls_any a is) it =
      contexts_held w m (calling w.store (cancel_function a)) (calling_changes w.store (cancel_function a)) it
  environment_held w next m (makes_outside context earlier) it =
      all_stand w m m.origins (with_group w.store outside context)
      (group_grows nobody m.origins w.store outside context it.known)
      (λ h a e. e) (group_known w.store outside context outside-nobody it.known) it
  environment_held w next m (joins_outside g a free made) it =
      joined_held w m g a no_root free (λ none. outside-nobody (sym made ∙ none)) it

  -- Steps and runs

  pub step_held : (w next : World) (m : Memory) (step : Step p w next) → IsHeld p w m
      → IsHeld p next (memory_after step m)
  step_held w next m (of_goroutine {f = f} {others = others} {after = after} {frames = frames} g running acts) it =
      let here = its_frames w m it g f others running in
      let q = first_past (m.pasts g) in
      let qs = later_pasts (m.pasts g) in
      let well = acts_held p used m.origins w.store g f others q qs it.known here.0 here.1 after frames acts in
      one_stack w m g (length others) (origins_after acts m.origins) after (frames ++ others)
      (pasts_after acts m.origins q ++ qs)
      well.grows (λ h ne. well.same_member h) well.known well.holders it
  step_held w next m (of_members changes) it = members_held w next m changes it
  step_held w next m (of_go going) it = goings_held w next m going it
  step_held w next m (of_environment surrounds) it = environment_held w next m surrounds it

  pub run_held : (least : ℕ) (w : World) (run : Run p w) → IsHeld p w (memory_of least run)
  run_held least w no_step = record {
    known = record {
      is_fresh = λ a l. refl;
      is_empty = λ k v l. refl;
      of_groups = λ g a e. absurd (none-some a e);
    };
    escaped = λ c h. absurd (contains_nil c h);
    holders = λ g. tt;
  }
  run_held least w (step_more {w = before} run step) =
      step_held before w (memory_of least run) step (run_held least before run)
