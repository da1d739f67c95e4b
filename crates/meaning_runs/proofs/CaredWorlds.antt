-- Each step of a program keeps what is said of the cancel functions of all frames, and of what members have to call. So
-- it is in every world of a run.
use Rattle.std.proofs.Common.{◌≡◌, ℕ, ◌≤◌, arith, ◌<◌, ◌⊎◌, inl, inr, true, cond, List, [], ◌∷◌, ◌++◌, length, Option, Some, None, Contains, refl, sym, ap, ◌∙◌, subst}
use Rattle.std.proofs.lemmas.Bool.{cases_eq}
use Rattle.std.proofs.lemmas.Option.{none-some, same_Some}
use Rattle.meaning.specs.Code.{Code}
use Rattle.meaning.specs.FunctionFacts.{group as group_kind}
use Rattle.meaning.specs.Uses.{Event, Work, go}
use Rattle.meaning.specs.BodyEvents.{Variable}
use Rattle.meaning.specs.Classes.{Promises}
use Rattle.meaning.proofs.Membership.{contains_here, contains_there}
use Rattle.meaning_runs.specs.Bodies.{Program, Body, IsOf, variables_in, is_captured_by, code_of}
use Rattle.meaning_runs.specs.World.{Maker, Value, cancel_function, nobody, outside, Store, put_at, with_new, calling, ending, with_group, with_member, with_cells, Frame, World, with_stack, in_cell, held, held_group, new_frame, nothing_around, to_call_too}
use Rattle.meaning_runs.specs.Steps.{ComesTo, at_code, IsFree, Starts, StartsWork, ChangesMembers, starts_member, starts_stranger, starts_outside, starts_beside, leaves_group, Surrounds, starts, evaluates_literal, starts_literal, makes_cells, makes_one, ends_one, calls_any, makes_outside, joins_outside, Step, of_goroutine, of_members, of_go, of_environment, SetsOff, past_go, sending, declared_too, StartsGoroutine, starts_call, starts_function, starts_foreign, starts_its_literal}
use Rattle.meaning_runs.specs.Duties.{IsCreditedWith, AreTakenUp}
use Rattle.meaning_runs.proofs.CaredActs.{BodiesAreKept, CaresWell, acts_roots, acts_left, acts_cared}
use Rattle.meaning_runs.proofs.CaredBindings.{captured_no_parameter, cared_new}
use Rattle.meaning_runs.proofs.CaredEvents.{goes_deeper, IsItsCancel, left_still, cared_starting, cared_taking, cared_gone_literal}
use Rattle.meaning_runs.proofs.CaredFor.{level, IsMet, MustRoot, IsLeftTo, MustCall, IsCared, SeenAbove, AreCared, LowestMust, RootsGoOn, of_credit, is_to_call, is_taken}
use Rattle.meaning_runs.proofs.CaredGoesOn.{met_grows, LeftStill, left_same, all_cared, lowest_same}
use Rattle.meaning_runs.proofs.Contexts.{put_at-same, put_at-other}
use Rattle.meaning_runs.proofs.HeldWorlds.{other_goroutine, running_held}
use Rattle.meaning_runs.proofs.Holders.{Grows, IsHolder, AreHolders, IsHeld}
use Rattle.meaning_runs.proofs.HolderFrames.{reached}
use Rattle.meaning_runs.proofs.HolderSteps.{ActsWell, acts_held, captured_is_frozen, literal_is_of}
use Rattle.meaning_runs.proofs.MadeGroups.{IsSeenOver, AreSeenOver, Nothing}
use Rattle.meaning_runs.proofs.Remembered.{root_of, Root, Origins, Past, Memory, no_root, with_block, with_root, no_past, first_past, later_pasts, occurrence_of, behind, origins_after, pasts_after, pasts_behind, memory_of_members, memory_of_environment, memory_of_start, memory_after, with_begun, memory_of_go}
use Rattle.meaning_runs.proofs.StoreGrowth.{frame-nobody, ChangesContexts, new_changes, calling_changes, ending_changes, contexts_grow, member_grows, member_leaves, block_grows, group_grows, grows_then, begun_grows, calls_grow}
use Rattle.meaning_runs.proofs.WhoStarts.{BodiesAreWellUsed}
use Rattle.meaning_runs.proofs.GoingCalls.{to_call_has, to_call_more, declared_more, declared_has}
use Rattle.meaning_runs.proofs.Takings.{takes_sent, sent_on, argument_of, argument_is_given, declared_level, function_takes}
use Rattle.meaning_runs.proofs.HandedEvents.{hands_there}
use Rattle.meaning_runs.proofs.ObjectEvents.{events_keep_well}
use Rattle.meaning_runs.proofs.Places.{eqb_is}
use Rattle.meaning_reports.specs.UsedImports.{goes}
use Rattle.meaning.specs.Lists.{Reaches}
use Rattle.std.specs.Prelude.{◌==◌}

-- Stacks with their pasts

-- what holds of each stack, where one goroutine gets another
at_stack : (P : List Frame → List Past → Type 0) (stacks : ℕ → List Frame) (pasts : ℕ → List Past) (g : ℕ)
    (stack : List Frame) (past : List Past) (h : ℕ)
    → ((h ≡ g → ⊥) → P (stacks h) (pasts h))
    → (h ≡ g → P stack past)
    → P (put_at stacks g stack h) (put_at pasts g past h)
at_stack P stacks pasts g stack past h others its = by_number (cases_eq h g)
  where
    by_number : (h ≡ g) ⊎ (h ≡ g → ⊥) → P (put_at stacks g stack h) (put_at pasts g past h)
    by_number (inl same) =
        subst (λ l. P l (put_at pasts g past h)) (sym (ap (put_at stacks g stack) same ∙ put_at-same stacks g stack))
        (subst (λ l. P stack l) (sym (ap (put_at pasts g past) same ∙ put_at-same pasts g past)) (its same))
    by_number (inr ne) =
        subst (λ l. P l (put_at pasts g past h)) (sym (put_at-other stacks g stack h ne))
        (subst (λ l. P (stacks h) l) (sym (put_at-other pasts g past h ne)) (others ne))

pub running_cared : (p : Program) (o : Origins) (s : Store) (must : ℕ → Type 0) (f : Frame) (others : List Frame)
    (qs : List Past)
    → AreCared p o s must (f ∷ others) qs
    → IsCared p o s must (first_past qs) f × AreCared p o s (SeenAbove p f.body (first_past qs) must) others (later_pasts qs)
running_cared p o s must f others [] cared = absurd cared
running_cared p o s must f others (q ∷ qs) cared = cared

pub running_over : (p : Program) (o : Origins) (s : Store) (g : ℕ) (may must : ℕ → Type 0) (f : Frame)
    (others : List Frame) (qs : List Past)
    → AreSeenOver p o s g may must (f ∷ others) qs
    → IsSeenOver p o s (g, length others) may must (first_past qs) f
running_over p o s g may must f others [] over = absurd over
running_over p o s g may must f others (q ∷ qs) over = over.0

running_lowest : (p : Program) (f : Frame) (others : List Frame) (qs : List Past) (a : ℕ)
    → LowestMust p (f ∷ others) qs a
    → LowestMust p (f ∷ others) (first_past qs ∷ later_pasts qs) a
running_lowest p f others [] a x = absurd x
running_lowest p f others (q ∷ qs) a x = x

-- Members

no_root_must : (least a : ℕ) → MustRoot least no_root a → ⊥
no_root_must least a (literal, v, is, credited, given, deep) = none-some literal is

-- what was left to members stays so where a goroutine that was none becomes one
joining_left : {p : Program} (o : Origins) (s : Store) (h a : ℕ) (root : Root) → s.member h ≡ None
    → LeftStill p o s (with_root o h root) (with_member s h (Some a))
joining_left o s h a root free group x l = inl record {
  goroutine = l.goroutine;
  is_member = put_at-other s.member h (Some a) l.goroutine other_one ∙ l.is_member;
  must = subst (λ r. MustRoot o.least r x) (sym (put_at-other o.root h root l.goroutine other_one)) l.must;
  is_begun = subst (Contains (root ∷ o.begun)) (sym (put_at-other o.root h root l.goroutine other_one))
      (contains_there root (o.root l.goroutine) o.begun l.is_begun);
}
  where
    other_one : l.goroutine ≡ h → ⊥
    other_one same = none-some group (sym free ∙ ap s.member (sym same) ∙ l.is_member)

left_there : (o : Origins) (s : Store) (h group : ℕ) (root : Root) (a : ℕ) → MustRoot o.least root a
    → IsLeftTo (with_root o h root) (with_member s h (Some group)) group a
left_there o s h group root a must = record {
  goroutine = h;
  is_member = put_at-same s.member h (Some group);
  must = subst (λ r. MustRoot o.least r a) (sym (put_at-same o.root h root)) must;
  is_begun = subst (Contains (root ∷ o.begun)) (sym (put_at-same o.root h root)) (contains_here root o.begun);
}

in_cell_member : (s : Store) (g : ℕ) (group : Option ℕ) (v : ℕ) (cell : Option ℕ)
    → in_cell (with_member s g group) v cell ≡ in_cell s v cell
in_cell_member s g group v None = refl
in_cell_member s g group v (Some k) = refl

-- what a member has to call, of a new one or of one that was there
joining_roots : (o : Origins) (s : Store) (h a : ℕ) (root : Root) (P : ℕ → ℕ → Type 0)
    → ((x : ℕ) → MustRoot o.least root x → P h x)
    → ((k c x : ℕ) → (k ≡ h → ⊥) → s.member k ≡ Some c → MustRoot o.least (o.root k) x → P k x)
    → (k c x : ℕ)
    → (with_member s h (Some a)).member k ≡ Some c
    → MustRoot o.least ((with_root o h root).root k) x
    → P k x
joining_roots o s h a root P new old k c x e must = by_number (cases_eq k h)
  where
    by_number : (k ≡ h) ⊎ (k ≡ h → ⊥) → P k x
    by_number (inl same) = subst (λ n. P n x) (sym same)
        (new x (subst (λ r. MustRoot o.least r x) (ap (put_at o.root h root) same ∙ put_at-same o.root h root) must))
    by_number (inr ne) = old k c x ne (sym (put_at-other s.member h (Some a) k ne) ∙ e)
        (subst (λ r. MustRoot o.least r x) (put_at-other o.root h root k ne) must)

pub record IsCaredWorld (p : Program) (w : World) (m : Memory) : Type 0 where
  pub functions : (g : ℕ) → AreCared p m.origins w.store Nothing (w.stacks g) (m.pasts g)
  pub roots : RootsGoOn p w m

module _ (p : Program) (used : BodiesAreWellUsed p) (kept : BodiesAreKept p) where
  -- in what the goroutine has to call, or what was met
  abbrev Goes : Origins → Store → ℕ → List Frame → List Past → Type 0
  Goes o s a fs qs = IsMet p o s a ⊎ LowestMust p fs qs a

  module _ (w : World) (m : Memory) (held_there : IsHeld p w m) (cared : IsCaredWorld p w m) where
    -- goroutines that do nothing
    stands : (after_o : Origins) (after : Store) → Grows nobody m.origins after_o w.store after
        → LeftStill p m.origins w.store after_o after
        → (h : ℕ)
        → AreCared p after_o after Nothing (w.stacks h) (m.pasts h)
    stands after_o after grows still h =
        all_cared grows still h Nothing Nothing (w.stacks h) (m.pasts h) (λ a x. absurd x) (λ n l. frame-nobody (h, n))
        (held_there.holders h) (cared.functions h)

    more_met : {at : Maker} {after_o : Origins} {after : Store} → Grows at m.origins after_o w.store after → (a : ℕ)
        → (fs : List Frame) (qs : List Past)
        → Goes m.origins w.store a fs qs
        → Goes after_o after a fs qs
    more_met grows a fs qs (inl x) = inl (met_grows grows a x)
    more_met grows a fs qs (inr x) = inr x

    -- the store changes, and no frame does anything
    apart : (after_o : Origins) (after : Store) → Grows nobody m.origins after_o w.store after
        → LeftStill p m.origins w.store after_o after
        → ((k c a : ℕ) → after.member k ≡ Some c
        → MustRoot after_o.least (after_o.root k) a
        → Goes m.origins w.store a (w.stacks k) (m.pasts k))
        → IsCaredWorld p (record w { store = after }) (record m { origins = after_o })
    apart after_o after grows still roots = record {
      functions = stands after_o after grows still;
      roots = λ k c a e must. more_met grows a (w.stacks k) (m.pasts k) (roots k c a e must);
    }

    contexts_change : (after : Store) → ChangesContexts w.store after
        → IsCaredWorld p (record w { store = after }) (record m { origins = m.origins })
    contexts_change after changes =
        apart m.origins after (contexts_grow nobody m.origins w.store after changes) (left_still changes)
        (λ k c a e must. cared.roots k c a (sym (ap (λ (f : ℕ → Option ℕ). f k) changes.same_member) ∙ e) must)

    -- a goroutine becomes a member that does nothing
    joins : (h a : ℕ) → IsFree w h
        → IsCaredWorld p (record w { store = with_member w.store h (Some a) })
        (record m { origins = with_root m.origins h no_root })
    joins h a free =
        apart (with_root m.origins h no_root) (with_member w.store h (Some a))
        (member_grows nobody m.origins w.store no_root h (Some a))
        (joining_left m.origins w.store h a no_root free.is_no_member)
        (joining_roots m.origins w.store h a no_root (λ k x. Goes m.origins w.store x (w.stacks k) (m.pasts k))
        (λ x must. absurd (no_root_must m.origins.least x must)) (λ k c x ne e must. cared.roots k c x e must))

    -- a free goroutine begins
    born : (g : ℕ) (b : Body) (values : ℕ → Value) (groups : ℕ → Option ℕ) (around : ℕ → Option ℕ) → w.stacks g ≡ []
        → IsOf p b
        → ((v k : ℕ) → around v ≡ Some k → k < w.store.cell_count)
        → ((v k : ℕ) → around v ≡ Some k → is_captured_by b v ≡ true → m.origins.is_frozen k ≡ true)
        → IsCaredWorld p (with_stack w (with_cells w.store values groups) g (new_frame w.store b around ∷ []))
        (memory_of_start w.store g b values groups around m)
    born g b values groups around free of around_in around_once = record {
      functions = λ h. at_stack (AreCared p after_o after Nothing) w.stacks m.pasts g stack pasts h
          (λ ne. stands after_o after (block_grows nobody m.origins w.store values groups)
          (left_still_block values groups) h)
          (λ same. (cared_new p used m.origins w.store values groups b around of around_in around_once, tt));
      roots = λ k c a e must. at_stack (Goes after_o after a) w.stacks m.pasts g stack pasts k
          (λ ne. more_met (block_grows nobody m.origins w.store values groups) a (w.stacks k) (m.pasts k)
          (cared.roots k c a e must))
          (λ same. elim (cared.roots k c a e must) [
            | inl met ↦ inl (met_grows (block_grows nobody m.origins w.store values groups) a met)
            | inr lowest ↦ absurd (subst (λ fs. LowestMust p fs (m.pasts k) a) (ap w.stacks same ∙ free) lowest)
          ]);
    }
      where
        after_o : Origins
        after_o = with_block m.origins w.store.cell_count

        after : Store
        after = with_cells w.store values groups

        stack : List Frame
        stack = new_frame w.store b around ∷ []

        pasts : List Past
        pasts = no_past m.origins w.store b values groups around ∷ []

        left_still_block : (values : ℕ → Value) (groups : ℕ → Option ℕ)
            → LeftStill p m.origins w.store (with_block m.origins w.store.cell_count) (with_cells w.store values groups)
        left_still_block values groups = left_same (λ h. refl) (λ h. refl) (λ r h. h) refl

    -- The running frame of a goroutine goes past an event at which it starts work.

    module _ (g : ℕ) (f : Frame) (others : List Frame) (running : w.stacks g ≡ f ∷ others) where
      abbrev q : Past
      q = first_past (m.pasts g)

      abbrev qs : List Past
      qs = later_pasts (m.pasts g)

      holders : IsHolder p m.origins w.store (g, length others) q f × AreHolders p m.origins w.store g others qs
      holders = running_held p m.origins w.store g f others (m.pasts g)
          (subst (λ l. AreHolders p m.origins w.store g l (m.pasts g)) running (held_there.holders g))

      its_frames : IsCared p m.origins w.store Nothing q f
          × AreCared p m.origins w.store (SeenAbove p f.body q Nothing) others qs
      its_frames = running_cared p m.origins w.store Nothing f others (m.pasts g)
          (subst (λ l. AreCared p m.origins w.store Nothing l (m.pasts g)) running (cared.functions g))

      -- it goes past an event
      module _ {e : Event} {rest : Code Event} (d : ComesTo f e rest) where
        abbrev past_it : List Past
        past_it = pasts_behind (m.pasts g) d

        goes_behind : (x : ℕ) → Goes m.origins w.store x (f ∷ others) (m.pasts g)
            → Goes m.origins w.store x (at_code f rest ∷ others) past_it
        goes_behind x (inl y) = inl y
        goes_behind x (inr y) = inr (lowest_same p f (at_code f rest) q (behind q d) others qs x
            (λ z. z) (running_lowest p f others (m.pasts g) x y))

        -- what members had to call that were there
        old_roots : (k c x : ℕ) → w.store.member k ≡ Some c → MustRoot m.origins.least (m.origins.root k) x
            → Goes m.origins w.store x (put_at w.stacks g (at_code f rest ∷ others) k) (put_at m.pasts g past_it k)
        old_roots k c x e must =
            at_stack (Goes m.origins w.store x) w.stacks m.pasts g (at_code f rest ∷ others) past_it k
            (λ ne. cared.roots k c x e must)
            (λ same. goes_behind x (subst (λ l. Goes m.origins w.store x l (m.pasts g)) running
            (subst (λ n. Goes m.origins w.store x (w.stacks n) (m.pasts n)) same (cared.roots k c x e must))))

        -- in a store that grew others stand
        rest_behind : (after_o : Origins) (after : Store) → Grows nobody m.origins after_o w.store after
            → LeftStill p m.origins w.store after_o after
            → AreCared p after_o after (SeenAbove p f.body q Nothing) others qs
        rest_behind after_o after grows still =
            all_cared grows still g (SeenAbove p f.body q Nothing) (SeenAbove p f.body q Nothing) others qs
            (λ b x. inl x) (λ n l. frame-nobody (g, n)) holders.1 its_frames.1

      module _ {rest : Code Event} {literal : Option ℕ} {a : ℕ} (work : StartsWork w g f others rest literal a) where
        abbrev its_pasts : List Past
        its_pasts = pasts_behind (m.pasts g) work.does_next.comes_to

        its_group : (x : Variable) × Contains (variables_in f.body) x × (x.kind ≡ group_kind) × (x.number ≡ work.variable)
        its_group = kept.starts f.body q.events (occurrence_of work.does_next.comes_to) work.variable literal
            holders.0.is_of
            (reached p m.origins w.store (g, length others) q f holders.0 work.event rest work.does_next.comes_to)
            work.is_start

        started : (after_o : Origins) (after : Store) → Grows nobody m.origins after_o w.store after
            → LeftStill p m.origins w.store after_o after
            → ((relies : Promises) (u : Variable) (b at : ℕ) → m.origins.least ≤ level f.body u
            → AreTakenUp p f.body relies
            → IsItsCancel f.body u
            → literal ≡ Some at
            → relies.credits at u.number ≡ true
            → held w.store f u.number ≡ cancel_function b
            → IsLeftTo after_o after a b)
            → AreCared p after_o after Nothing (at_code f rest ∷ others) its_pasts
        started after_o after grows still lefts = (
          cared_starting holders.0 its_frames.0 grows still work.does_next its_group.0 its_group.1 its_group.2 a
              (ap (held_group w.store f) its_group.3 ∙ work.is_held) literal
              (subst (λ n. Starts work.event n literal) (sym its_group.3) work.is_start)
              (λ relies u b at deep up its is credit h. lefts relies u b at deep up its is credit h),
          rest_behind work.does_next.comes_to after_o after grows still,
        )

    -- Members

    members_cared : (next : World) (changes : ChangesMembers p w next)
        → IsCaredWorld p next (memory_of_members changes m)
    members_cared next (starts_member {f = f} {others = others} {rest = rest} {at = at} {group = a} g h b values groups work free is_in is_at foreign) = record {
      functions = λ k. at_stack (AreCared p after_o after Nothing) (put_at w.stacks g stack) (put_at m.pasts g pasts) h
          (new_frame w.store b f.newest ∷ []) (its_past ∷ []) k
          (λ ne. at_stack (AreCared p after_o after Nothing) w.stacks m.pasts g stack pasts k
          (λ other_one. stands after_o after grows still k)
          (λ same. started g f others work.is_running work after_o after grows still lefts))
          (λ same. (
            cared_new p used joined_o joined values groups b f.newest (literal_is_of p f.body b holder.is_of is_in)
                holder.cells_in
                (λ v k e c. captured_is_frozen p used m.origins w.store (g, length others) (first_past (m.pasts g)) f holder b is_in v k e c),
            tt,
          ));
      roots =
          λ i c y e must. more_met grows y (put_at (put_at w.stacks g stack) h (new_frame w.store b f.newest ∷ []) i)
          (put_at (put_at m.pasts g pasts) h (its_past ∷ []) i) (joining_roots m.origins w.store h a root
          (λ k x. Goes m.origins w.store x (put_at (put_at w.stacks g stack) h (new_frame w.store b f.newest ∷ []) k)
          (put_at (put_at m.pasts g pasts) h (its_past ∷ []) k))
          (λ x must. at_stack (Goes m.origins w.store x) (put_at w.stacks g stack) (put_at m.pasts g pasts) h
          (new_frame w.store b f.newest ∷ []) (its_past ∷ []) h (λ ne. absurd (ne refl)) (λ same. inr (lowest x must)))
          (λ k c x ne e must. at_stack (Goes m.origins w.store x) (put_at w.stacks g stack) (put_at m.pasts g pasts) h
          (new_frame w.store b f.newest ∷ []) (its_past ∷ []) k
          (λ other_one. old_roots g f others work.is_running work.does_next.comes_to k c x e must)
          (λ same. absurd (ne same))) i c y e must);
    }
      where
        joined : Store
        joined = with_member w.store h (Some a)

        root : Root
        root = root_of (with_member w.store h (Some a)) b values groups f.newest

        joined_o : Origins
        joined_o = with_root m.origins h root

        after_o : Origins
        after_o = with_block joined_o w.store.cell_count

        after : Store
        after = with_cells joined values groups

        stack : List Frame
        stack = at_code f rest ∷ others

        pasts : List Past
        pasts = pasts_behind (m.pasts g) work.does_next.comes_to

        its_past : Past
        its_past = no_past joined_o joined b values groups f.newest

        holder : IsHolder p m.origins w.store (g, length others) (first_past (m.pasts g)) f
        holder = (holders g f others work.is_running).0

        grows : Grows nobody m.origins after_o w.store after
        grows = grows_then nobody m.origins joined_o after_o w.store joined after
            (member_grows nobody m.origins w.store root h (Some a))
            (block_grows nobody joined_o joined values groups)

        still : LeftStill p m.origins w.store after_o after
        still group x l = elim (joining_left {p = p} m.origins w.store h a root free.is_no_member group x l) [
          | inl y ↦ inl record {
            goroutine = y.goroutine;
            is_member = y.is_member;
            must = y.must;
            is_begun = y.is_begun;
          }
          | inr y ↦ inr (met_grows (block_grows nobody joined_o joined values groups) x y)
        ]

        -- the literal has to call what it is credited with
        must_now : (w0 : Variable) (x : ℕ) → IsCreditedWith b w0 → held w.store f w0.number ≡ cancel_function x
            → m.origins.least < level b w0
            → MustRoot m.origins.least root x
        must_now w0 x credited e deep = (
          b,
          w0,
          refl,
          credited,
          ap (λ c. cond c (values w0.number) (in_cell joined w0.number (f.newest w0.number)))
              (captured_no_parameter b w0 credited.is_of_body credited.is_captured)
              ∙ in_cell_member w.store h (Some a) w0.number (f.newest w0.number) ∙ e,
          deep,
        )

        lefts : (relies : Promises) (u : Variable) (x there : ℕ) → m.origins.least ≤ level f.body u
            → AreTakenUp p f.body relies
            → IsItsCancel f.body u
            → Some at ≡ Some there
            → relies.credits there u.number ≡ true
            → held w.store f u.number ≡ cancel_function x
            → IsLeftTo after_o after a x
        lefts relies u x there deep up its same credit e =
            let t = up.literals u b its.0 its.1 is_in
            (ap (λ n. relies.credits n u.number) (is_at ∙ same_Some at there same) ∙ credit) in
            let l = left_there m.origins w.store h a root x (must_now t.0 x t.1 (ap (held w.store f) t.2 ∙ e)
            (goes_deeper m.origins.least f.body b u t.0 deep (used.begins_behind f.body b holder.is_of is_in) t.1.is_captured)) in
            record { goroutine = l.goroutine; is_member = l.is_member; must = l.must; is_begun = l.is_begun }

        lowest : (x : ℕ) → MustRoot m.origins.least root x → MustCall p b its_past x
        lowest x (literal, v, is, credited, given, deep) =
            let below = subst (λ c. m.origins.least < level c v) (sym (same_Some b literal is)) deep in (
              v,
              of_credit (subst (λ c. IsCreditedWith c v) (sym (same_Some b literal is)) credited),
              given,
              omega (arith, below),
            )
    members_cared next (starts_stranger {f = f} {others = others} {rest = rest} {group = a} g h work free) = record {
      functions = λ k. at_stack (AreCared p after_o after Nothing) w.stacks m.pasts g (at_code f rest ∷ others)
          (pasts_behind (m.pasts g) work.does_next.comes_to) k
          (λ ne. stands after_o after grows still k)
          (λ same. started g f others work.is_running work after_o after grows still
          (λ relies u b at deep up its is. absurd (none-some at is)));
      roots = λ i c y e must. more_met grows y (put_at w.stacks g (at_code f rest ∷ others) i)
          (put_at m.pasts g (pasts_behind (m.pasts g) work.does_next.comes_to) i)
          (joining_roots m.origins w.store h a no_root
          (λ k x. Goes m.origins w.store x (put_at w.stacks g (at_code f rest ∷ others) k)
          (put_at m.pasts g (pasts_behind (m.pasts g) work.does_next.comes_to) k))
          (λ x must. absurd (no_root_must m.origins.least x must))
          (λ k c x ne e must. old_roots g f others work.is_running work.does_next.comes_to k c x e must) i c y e must);
    }
      where
        after_o : Origins
        after_o = with_root m.origins h no_root

        after : Store
        after = with_member w.store h (Some a)

        grows : Grows nobody m.origins (with_root m.origins h no_root) w.store (with_member w.store h (Some a))
        grows = member_grows nobody m.origins w.store no_root h (Some a)

        still : LeftStill p m.origins w.store (with_root m.origins h no_root) (with_member w.store h (Some a))
        still = joining_left m.origins w.store h a no_root free.is_no_member
    members_cared next (starts_outside {group = a} g h running call lent is free) = joins h a free
    members_cared next (starts_beside {group = a} g h member empty free) = joins h a free
    members_cared next (leaves_group {group = a} g member empty) =
        apart m.origins (with_member w.store g None) (member_leaves nobody m.origins w.store g None) still
        (λ k c x e must. cared.roots k c x (was k c e (cases_eq k g)) must)
      where
        was : (k c : ℕ) → put_at w.store.member g None k ≡ Some c → (k ≡ g) ⊎ (k ≡ g → ⊥) → w.store.member k ≡ Some c
        was k c e (inl same) = absurd (none-some c
            (sym (ap (put_at w.store.member g None) same ∙ put_at-same w.store.member g None) ∙ e))
        was k c e (inr ne) = sym (put_at-other w.store.member g None k ne) ∙ e

        by_member : (group x : ℕ) (l : IsLeftTo m.origins w.store group x)
            → (l.goroutine ≡ g) ⊎ (l.goroutine ≡ g → ⊥)
            → IsLeftTo m.origins (with_member w.store g None) group x ⊎ IsMet p m.origins (with_member w.store g None) x
        by_member group x l (inr ne) = inl record {
          goroutine = l.goroutine;
          is_member = put_at-other w.store.member g None l.goroutine ne ∙ l.is_member;
          must = l.must;
          is_begun = l.is_begun;
        }
        by_member group x l (inl same) = elim (cared.roots l.goroutine group x l.is_member l.must) [
          | inl y ↦ inr (met_grows (member_leaves nobody m.origins w.store g None) x y)
          | inr y ↦ absurd (subst (λ fs. LowestMust p fs (m.pasts l.goroutine) x) (ap w.stacks same ∙ empty) y)
        ]

        still : LeftStill p m.origins w.store m.origins (with_member w.store g None)
        still group x l = by_member group x l (cases_eq l.goroutine g)

    -- A `go` statement starts a goroutine.

    module _ {f : Frame} {others : List Frame} {rest : Code Event} {work : Work} (g : ℕ)
        (sets : SetsOff w g f others work rest)
      where
        abbrev set_off : ComesTo f (go work) rest
        set_off = sets.does_next.comes_to

        abbrev its_holder : IsHolder p m.origins w.store (g, length others) (first_past (m.pasts g)) f
        its_holder = (holders g f others sets.is_running).0

        abbrev its_care : IsCared p m.origins w.store Nothing (first_past (m.pasts g)) f
        its_care = (its_frames g f others sets.is_running).0

        its_reach : Reaches (code_of f.body) (first_past (m.pasts g)).events (occurrence_of sets.does_next.comes_to)
        its_reach =
            reached p m.origins w.store (g, length others) (first_past (m.pasts g)) f its_holder (go work) rest set_off

        -- outside, to call these
        module _ (calls : List ℕ) (more : (a : ℕ) → Contains m.origins.to_call a → Contains calls a) where
          abbrev calls_o : Origins
          calls_o = record (m.origins) { to_call = calls }

          grows_outside : Grows nobody m.origins (record (m.origins) { to_call = calls }) w.store w.store
          grows_outside = calls_grow nobody m.origins w.store calls more

          still_outside : LeftStill p m.origins w.store (record (m.origins) { to_call = calls }) w.store
          still_outside = left_same (λ h. refl) (λ h. refl) (λ r h. h) refl

          goes_outside : (to_call : List ℕ)
              → IsCared p calls_o w.store Nothing (behind (first_past (m.pasts g)) set_off) (at_code f rest)
              → IsCaredWorld p (record (past_go w g f others rest) { to_call = to_call })
              record { origins = calls_o; pasts = put_at m.pasts g (pasts_behind (m.pasts g) set_off) }
          goes_outside to_call its = record {
            functions = λ k. at_stack (AreCared p calls_o w.store Nothing) w.stacks m.pasts g (at_code f rest ∷ others)
                (pasts_behind (m.pasts g) set_off) k
                (λ ne. stands calls_o w.store grows_outside still_outside k)
                (λ same. (its, rest_behind g f others sets.is_running set_off calls_o w.store grows_outside still_outside));
            roots = λ k c a e must. more_met grows_outside a (put_at w.stacks g (at_code f rest ∷ others) k)
                (put_at m.pasts g (pasts_behind (m.pasts g) set_off) k)
                (old_roots g f others sets.is_running set_off k c a e must);
          }

        -- or with a body
        module _ (h : ℕ) (free : IsFree w h) (b : Body) (values : ℕ → Value) (groups : ℕ → Option ℕ)
            (around : ℕ → Option ℕ) (of : IsOf p b)
            (around_in : (v k : ℕ) → around v ≡ Some k → k < w.store.cell_count)
            (around_once : (v k : ℕ) → around v ≡ Some k → is_captured_by b v ≡ true → m.origins.is_frozen k ≡ true)
          where
            abbrev begun_o : Origins
            begun_o = with_begun m.origins (root_of w.store b values groups around)

            abbrev here_o : Origins
            here_o = with_block begun_o w.store.cell_count

            abbrev here : Store
            here = with_cells w.store values groups

            grows_here : Grows nobody m.origins here_o w.store here
            grows_here = grows_then nobody m.origins begun_o here_o w.store w.store here
                (begun_grows nobody m.origins w.store (root_of w.store b values groups around))
                (block_grows nobody begun_o w.store values groups)

            still_here : LeftStill p m.origins w.store here_o here
            still_here = left_same (λ k. refl) (λ k. refl)
                (λ r i. contains_there (root_of w.store b values groups around) r m.origins.begun i) refl

            abbrev new : Frame
            new = new_frame w.store b around

            abbrev new_past : Past
            new_past = no_past begun_o w.store b values groups around

            goes_here : IsCared p here_o here Nothing (behind (first_past (m.pasts g)) set_off) (at_code f rest)
                → IsCaredWorld p (with_stack (past_go w g f others rest) here h (new ∷ []))
                record {
                  origins = here_o;
                  pasts = put_at (put_at m.pasts g (pasts_behind (m.pasts g) set_off)) h (new_past ∷ []);
                }
            goes_here its = record {
              functions = λ k. at_stack (AreCared p here_o here Nothing) (put_at w.stacks g (at_code f rest ∷ others))
                  (put_at m.pasts g (pasts_behind (m.pasts g) set_off)) h (new ∷ []) (new_past ∷ []) k
                  (λ ne. at_stack (AreCared p here_o here Nothing) w.stacks m.pasts g (at_code f rest ∷ others)
                  (pasts_behind (m.pasts g) set_off) k
                  (λ other_one. stands here_o here grows_here still_here k)
                  (λ same. (its, rest_behind g f others sets.is_running set_off here_o here grows_here still_here)))
                  (λ same. (cared_new p used begun_o w.store values groups b around of around_in around_once, tt));
              roots = λ k c a e must. more_met grows_here a
                  (put_at (put_at w.stacks g (at_code f rest ∷ others)) h (new ∷ []) k)
                  (put_at (put_at m.pasts g (pasts_behind (m.pasts g) set_off)) h (new_past ∷ []) k)
                  (at_stack (Goes m.origins w.store a) (put_at w.stacks g (at_code f rest ∷ others))
                  (put_at m.pasts g (pasts_behind (m.pasts g) set_off)) h (new ∷ []) (new_past ∷ []) k
                  (λ ne. old_roots g f others sets.is_running set_off k c a e must)
                  (λ same. absurd (none-some c (sym free.is_no_member ∙ ap w.store.member (sym same) ∙ e))));
            }

    goings_cared : (next : World) (going : StartsGoroutine p w next) → IsCaredWorld p next (memory_of_go going m)
    goings_cared next (starts_call {f = f} {v = v} g sets) =
        let calls = to_call_too (held w.store f v) m.origins.to_call in
        let more = to_call_more (held w.store f v) m.origins.to_call in
        goes_outside g sets calls more (to_call_too (held w.store f v) w.to_call)
        (cared_taking (its_holder g sets) (its_care g sets) (grows_outside g sets calls more) (still_outside g sets calls more)
        sets.does_next (λ relies u. v == u) (λ relies u k. refl) (λ relies u k. refl)
        (λ relies u a deep up its e h. is_to_call
        (to_call_has (held w.store f v) m.origins.to_call a (ap (held w.store f) (eqb_is v u.number e) ∙ h))))
    goings_cared next (starts_foreign {f = f} {callee = callee} {xs = xs} g sets no_body) =
        let given = (sending w.store f callee xs).given in
        let calls = declared_too p callee given m.origins.to_call in
        let more = declared_more p callee given m.origins.to_call in
        goes_outside g sets calls more (declared_too p callee given w.to_call)
        (cared_taking (its_holder g sets) (its_care g sets) (grows_outside g sets calls more) (still_outside g sets calls more)
        sets.does_next (takes_sent callee xs) (λ relies u k. refl) (λ relies u k. refl)
        (λ relies u a deep up its e h.
        let x = sent_on callee xs relies u.number e in
        let takes = up.functions callee x.sent.position (hands_there f.body (its_holder g sets).is_of.is_body callee
        (first_past (m.pasts g)).events (occurrence_of sets.does_next.comes_to) (its_reach g sets) goes) x.calls in
        is_to_call (declared_has p callee given m.origins.to_call (argument_of w.store f x.sent) a
        (argument_is_given w.store f callee xs x.sent x.is_among) (takes.is_declared no_body)
        (ap (held w.store f) x.is_it ∙ h))))
    goings_cared next (starts_function {f = f} {callee = callee} {xs = xs} g h b values groups sets free is fits) =
        let none : (v k : ℕ) → nothing_around v ≡ Some k → ⊥ = λ v k e. none-some k e in
        let no_cell = λ (v k : ℕ) (e : nothing_around v ≡ Some k). absurd (none v k e) in
        let no_capture = λ (v k : ℕ) (e : nothing_around v ≡ Some k) (c : is_captured_by b v ≡ true). absurd (none v k e) in
        goes_here g sets h free b values groups nothing_around is.is_of no_cell no_capture
        (cared_taking (its_holder g sets) (its_care g sets)
        (grows_here g sets h free b values groups nothing_around is.is_of no_cell no_capture)
        (still_here g sets h free b values groups nothing_around is.is_of no_cell no_capture)
        sets.does_next (takes_sent callee xs) (λ relies u k. refl) (λ relies u k. refl)
        (λ relies u a deep up its e i.
        let x = sent_on callee xs relies u.number e in
        let takes = up.functions callee x.sent.position (hands_there f.body (its_holder g sets).is_of.is_body callee
        (first_past (m.pasts g)).events (occurrence_of sets.does_next.comes_to) (its_reach g sets) goes) x.calls in
        let own = events_keep_well p f.body (its_holder g sets).is_of (first_past (m.pasts g)).events
        (occurrence_of sets.does_next.comes_to) (its_reach g sets) x.sent x.is_among in
        let top = declared_level f.body x.sent.number own u its.0 x.is_it in
        is_taken (function_takes m.origins w.store b values groups f callee xs is fits x.sent a x.is_among
        (ap (held w.store f) x.is_it ∙ i) takes (omega (arith, deep, top)))))
    goings_cared next (starts_its_literal {f = f} {at = at} g h b values groups sets free is_in is_at foreign) =
        let holder = its_holder g sets in
        let of = literal_is_of p f.body b holder.is_of is_in in
        let once = λ (v k : ℕ) (e : f.newest v ≡ Some k) (c : is_captured_by b v ≡ true).
        captured_is_frozen p used m.origins w.store (g, _) (first_past (m.pasts g)) f holder b is_in v k e c in
        goes_here g sets h free b values groups f.newest of holder.cells_in once
        (cared_gone_literal holder (its_care g sets)
        (grows_here g sets h free b values groups f.newest of holder.cells_in once)
        (still_here g sets h free b values groups f.newest of holder.cells_in once)
        sets.does_next
        (λ relies u a deep up its e i.
        let t = up.literals u b its.0 its.1 is_in (ap (λ n. relies.credits n u.number) is_at ∙ e) in
        is_taken record {
          root = root_of w.store b values groups f.newest;
          has_gone = refl;
          is_begun = contains_here (root_of w.store b values groups f.newest) m.origins.begun;
          must = record {
            body = b;
            variable = t.0;
            is_body = refl;
            is_relied = of_credit t.1;
            is_given = ap (λ c. cond c (values t.0.number) (in_cell w.store t.0.number (f.newest t.0.number)))
                (captured_no_parameter b t.0 t.1.is_of_body t.1.is_captured)
                ∙ ap (held w.store f) t.2 ∙ i;
            is_deeper = goes_deeper m.origins.least f.body b u t.0 deep (used.begins_behind f.body b holder.is_of is_in)
                t.1.is_captured;
          };
        })
        (λ group a l. is_taken record {
          root = m.origins.root l.goroutine;
          has_gone = refl;
          is_begun =
              contains_there (root_of w.store b values groups f.newest) (m.origins.root l.goroutine) m.origins.begun
              l.is_begun;
          must = record {
            body = l.must.0;
            variable = l.must.1;
            is_body = l.must.2;
            is_relied = of_credit l.must.3;
            is_given = l.must.4;
            is_deeper = l.must.5;
          };
        }))

    -- The environment

    environment_cared : (next : World) (surrounds : Surrounds p w next)
        → IsCaredWorld p next (memory_of_environment surrounds m)
    environment_cared next (starts g b values groups free of outermost foreign) =
        born g b values groups nothing_around free of (λ v k e. absurd (none-some k e)) (λ v k e c. absurd (none-some k e))
    environment_cared next (evaluates_literal g f b among escapes) =
        record { functions = cared.functions; roots = cared.roots }
    environment_cared next (starts_literal g c values groups free among foreign) =
        let its = held_there.escaped c among in
        born g c.literal values groups c.newest free.has_no_frame its.is_of its.cells_in its.cells_once
    environment_cared next (makes_cells values groups foreign) =
        apart (with_block m.origins w.store.cell_count) (with_cells w.store values groups)
        (block_grows nobody m.origins w.store values groups) (left_same (λ h. refl) (λ h. refl) (λ r h. h) refl)
        (λ k c a e must. cared.roots k c a e must)
    environment_cared next (makes_one parent earlier) =
        contexts_change (with_new w.store parent) (new_changes w.store parent)
    environment_cared next (ends_one a is) = contexts_change (ending w.store (Some a)) (ending_changes w.store (Some a))
    environment_cared next (calls_any a is) =
        contexts_change (calling w.store (cancel_function a)) (calling_changes w.store (cancel_function a))
    environment_cared next (makes_outside context earlier) =
        apart m.origins (with_group w.store outside context)
        (group_grows nobody m.origins w.store outside context held_there.known) (left_same (λ h. refl) (λ h. refl) (λ r h. h) refl)
        (λ k c a e must. cared.roots k c a e must)
    environment_cared next (joins_outside g a free made) = joins g a free

    -- Steps and runs

    pub step_cared : ((g : ℕ) → AreSeenOver p m.origins w.store g Nothing Nothing (w.stacks g) (m.pasts g))
        → (next : World) (step : Step p w next)
        → IsCaredWorld p next (memory_after step m)
    step_cared over next (of_members changes) = members_cared next changes
    step_cared over next (of_go going) = goings_cared next going
    step_cared over next (of_environment surrounds) = environment_cared next surrounds
    step_cared over next (of_goroutine {f = f} {others = others} {after = after} {frames = frames} g running acts) = record {
      functions = λ h. at_stack (AreCared p after_o after Nothing) w.stacks m.pasts g (frames ++ others) its_pasts h
          (λ ne. all_cared well.grows left h Nothing Nothing (w.stacks h) (m.pasts h) (λ a x. absurd x)
          (λ n l. other_goroutine g h (length others) n ne) (held_there.holders h) (cared.functions h))
          (λ same. cares.stack_cared);
      roots = λ k c a e must. at_stack (Goes after_o after a) w.stacks m.pasts g (frames ++ others) its_pasts k
          (λ ne. more_met well.grows a (w.stacks k) (m.pasts k) (before k c a e must))
          (λ same. its_goes a (subst (λ l. Goes m.origins w.store a l (m.pasts g)) running
          (subst (λ n. Goes m.origins w.store a (w.stacks n) (m.pasts n)) same (before k c a e must))));
    }
      where
        here : IsHolder p m.origins w.store (g, length others) (first_past (m.pasts g)) f
            × AreHolders p m.origins w.store g others (later_pasts (m.pasts g))
        here = holders g f others running

        care : IsCared p m.origins w.store Nothing (first_past (m.pasts g)) f
            × AreCared p m.origins w.store (SeenAbove p f.body (first_past (m.pasts g)) Nothing) others (later_pasts (m.pasts g))
        care = its_frames g f others running

        now : IsSeenOver p m.origins w.store (g, length others) Nothing Nothing (first_past (m.pasts g)) f
        now = running_over p m.origins w.store g Nothing Nothing f others (m.pasts g)
            (subst (λ l. AreSeenOver p m.origins w.store g Nothing Nothing l (m.pasts g)) running (over g))

        after_o : Origins
        after_o = origins_after acts m.origins

        its_pasts : List Past
        its_pasts = pasts_after acts m.origins (first_past (m.pasts g)) ++ later_pasts (m.pasts g)

        well : ActsWell p used (g, length others) m.origins (origins_after acts m.origins) w.store after (frames ++ others)
            (pasts_after acts m.origins (first_past (m.pasts g)) ++ later_pasts (m.pasts g))
        well =
            acts_held p used m.origins w.store g f others (first_past (m.pasts g)) (later_pasts (m.pasts g)) held_there.known
            here.0 here.1 after frames acts

        left : LeftStill p m.origins w.store (origins_after acts m.origins) after
        left = acts_left p used kept m.origins w.store g f others (first_past (m.pasts g)) (later_pasts (m.pasts g))
            held_there.known here.0 here.1 now care.0 care.1 acts

        cares : CaresWell p used kept m.origins w.store g f others (first_past (m.pasts g)) (later_pasts (m.pasts g))
            held_there.known here.0 here.1 now care.0 care.1 (origins_after acts m.origins) after (frames ++ others)
            (pasts_after acts m.origins (first_past (m.pasts g)) ++ later_pasts (m.pasts g))
        cares = acts_cared p used kept m.origins w.store g f others (first_past (m.pasts g)) (later_pasts (m.pasts g))
            held_there.known here.0 here.1 now care.0 care.1 acts

        -- what a member had to call
        before : (k c a : ℕ) → after.member k ≡ Some c
            → MustRoot (origins_after acts m.origins).least ((origins_after acts m.origins).root k) a
            → Goes m.origins w.store a (w.stacks k) (m.pasts k)
        before k c a e must = cared.roots k c a (sym (well.same_member k) ∙ e)
            (subst (λ n. MustRoot n (m.origins.root k) a) well.grows.same_least
            (subst (λ r. MustRoot (origins_after acts m.origins).least r a) (acts_roots p used kept m.origins w.store g f others (first_past (m.pasts g))
            (later_pasts (m.pasts g)) held_there.known here.0 here.1 now care.0 care.1 acts k) must))

        its_goes : (a : ℕ) → Goes m.origins w.store a (f ∷ others) (m.pasts g)
            → Goes after_o after a (frames ++ others) (pasts_after acts m.origins (first_past (m.pasts g)) ++ later_pasts (m.pasts g))
        its_goes a (inl x) = inl (met_grows well.grows a x)
        its_goes a (inr x) = cares.lowest a (running_lowest p f others (m.pasts g) a x)
