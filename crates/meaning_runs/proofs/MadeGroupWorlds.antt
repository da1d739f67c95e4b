-- Each step of a program keeps what is said of the groups that frames made, in all of the world. So it is in every world
-- of a run, and at a return each group that the frame made is over.
use Rattle.std.proofs.Common.{refl, ◌≡◌, ℕ, ◌<◌, ◌⊎◌, inl, inr, List, [], ◌∷◌, ◌++◌, length, Option, Some, None, Contains, sym, ap, ◌∙◌, subst, arith}
use Rattle.std.proofs.lemmas.Bool.{cases_eq}
use Rattle.std.proofs.lemmas.Option.{none-some}
use Rattle.meaning.specs.Code.{Code}
use Rattle.meaning.specs.Uses.{Event, Work}
use Rattle.meaning.proofs.Membership.{contains_here, contains_nil}
use Rattle.meaning_runs.specs.Bodies.{Program, Body}
use Rattle.meaning_runs.specs.World.{Value, cancel_function, Maker, nobody, outside, frame_at, Place, Store, put_at, with_new, calling, ending, with_group, HasNoMember, with_member, with_cells, Lent, Passing, Saved, saved_pass, Frame, World, new_frame, nothing_around, to_call_too, held as held_value}
use Rattle.meaning_runs.specs.Steps.{ComesToCall, at_once, saved_before, StartsWork, ChangesMembers, starts_member, starts_stranger, starts_outside, starts_beside, leaves_group, Surrounds, starts, evaluates_literal, starts_literal, makes_cells, makes_one, ends_one, calls_any, makes_outside, joins_outside, Step, of_goroutine, of_members, of_go, of_environment, at_code, SetsOff, sending, declared_too, StartsGoroutine, starts_call, starts_function, starts_foreign, starts_its_literal}
use Rattle.meaning_runs.specs.Runs.{Run, no_step, step_more}
use Rattle.meaning_runs.proofs.Contexts.{put_at-same, put_at-other}
use Rattle.meaning_runs.proofs.OwnBindings.{BindsItsOwn}
use Rattle.meaning_runs.proofs.WhoStarts.{Startable, BodiesAreWellUsed}
use Rattle.meaning_runs.proofs.Remembered.{Root, Origins, Past, Memory, no_root, with_block, with_root, no_past, first_past, later_pasts, occurrence_of, origins_after, pasts_after, pasts_behind, memory_of_members, memory_of_environment, memory_after, memory_of, behind, root_of, with_begun, memory_of_go}
use Rattle.meaning_runs.proofs.Holders.{Grows, IsSource, IsHolder, AreHolders, IsHeld}
use Rattle.meaning_runs.proofs.HolderFrames.{reached}
use Rattle.meaning_runs.proofs.HolderSteps.{outside_is, acts_held}
use Rattle.meaning_runs.proofs.HeldWorlds.{other_goroutine, running_held, lent_source, run_held}
use Rattle.meaning_runs.proofs.GroupMakers.{is_maker_back, outside_maker_back}
use Rattle.meaning_runs.proofs.MadeGroups.{MustWait, IsSeenOver, MayAlso, AreSeenOver, Nothing}
use Rattle.meaning_runs.proofs.StoreGrowth.{frame-nobody, outside-frame, ChangesContexts, new_changes, calling_changes, ending_changes, contexts_grow, member_grows, member_leaves, block_grows, group_grows, grows_then, begun_grows, calls_grow}
use Rattle.meaning_runs.proofs.MadeGroupsStand.{over_grows, all_stand}
use Rattle.meaning_runs.proofs.MadeGroupCalls.{seen_new, seen_lending_out, waits_given}
use Rattle.meaning_runs.proofs.MadeGroupActs.{WaitsAreKept, acts_seen}
use Rattle.meaning_runs.proofs.MadeGroupUses.{seen_going, seen_going_literal}
use Rattle.meaning_runs.proofs.GoingCalls.{to_call_more, declared_more}
use Rattle.meaning_runs.proofs.MadeGroupStarts.{joined_none, left_none, startable_source, seen_starting, rest_while_started, others_while_started}

-- so it is of all goroutines
abbrev pub AreAllSeenOver : Program → World → Memory → Type 0
AreAllSeenOver p w m = (g : ℕ) → AreSeenOver p m.origins w.store g Nothing Nothing (w.stacks g) (m.pasts g)

module _ (p : Program) (o : Origins) (s : Store) where
  -- the running frame of a stack has a past
  running_seen : (g : ℕ) (may must : ℕ → Type 0) (f : Frame) (others : List Frame) (qs : List Past)
      → AreSeenOver p o s g may must (f ∷ others) qs
      → IsSeenOver p o s (g, length others) may must (first_past qs) f
      × AreSeenOver p o s g (MayAlso f.body (first_past qs).lent may) (MustWait f.body (first_past qs).lent) others (later_pasts qs)
  running_seen g may must f others [] seen = absurd seen
  running_seen g may must f others (q ∷ qs) seen = seen

  -- where the stack stays, its pasts do
  with_its_pasts : (g : ℕ) (f : Frame) (others : List Frame) (qs : List Past) → AreHolders p o s g (f ∷ others) qs
      → (after_o : Origins) (after : Store)
      → AreSeenOver p after_o after g Nothing Nothing (f ∷ others) (first_past qs ∷ later_pasts qs)
      → AreSeenOver p after_o after g Nothing Nothing (f ∷ others) qs
  with_its_pasts g f others [] it after_o after seen = absurd it
  with_its_pasts g f others (q ∷ qs) it after_o after seen = seen

  -- one goroutine gets a stack
  one_stack : (stacks : ℕ → List Frame) (pasts : ℕ → List Past) (g : ℕ) (stack : List Frame) (past : List Past)
      → ((k : ℕ) → (k ≡ g → ⊥) → AreSeenOver p o s k Nothing Nothing (stacks k) (pasts k))
      → AreSeenOver p o s g Nothing Nothing stack past
      → (k : ℕ)
      → AreSeenOver p o s k Nothing Nothing (put_at stacks g stack k) (put_at pasts g past k)
  one_stack stacks pasts g stack past others its k = by_number (cases_eq k g)
    where
      by_number : (k ≡ g) ⊎ (k ≡ g → ⊥)
          → AreSeenOver p o s k Nothing Nothing (put_at stacks g stack k) (put_at pasts g past k)
      by_number (inl same) =
          subst (λ i. AreSeenOver p o s i Nothing Nothing (put_at stacks g stack i) (put_at pasts g past i)) (sym same)
          (subst (λ l. AreSeenOver p o s g Nothing Nothing l (put_at pasts g past g)) (sym (put_at-same stacks g stack))
          (subst (λ l. AreSeenOver p o s g Nothing Nothing stack l) (sym (put_at-same pasts g past)) its))
      by_number (inr ne) =
          subst (λ l. AreSeenOver p o s k Nothing Nothing l (put_at pasts g past k)) (sym (put_at-other stacks g stack k ne))
          (subst (λ l. AreSeenOver p o s k Nothing Nothing (stacks k) l) (sym (put_at-other pasts g past k ne)) (others k ne))

-- a goroutine stands, of which no group gets a member
stands : (p : Program) (at : Maker) (o after_o : Origins) (s after : Store) (k : ℕ) (fs : List Frame) (qs : List Past)
    → Grows at o after_o s after
    → ((m : ℕ) → frame_at (k, m) ≡ at → ⊥)
    → ((a m : ℕ) → s.maker a ≡ frame_at (k, m) → HasNoMember s a → HasNoMember after a)
    → ((a m : ℕ) → after.maker a ≡ frame_at (k, m) → s.maker a ≡ frame_at (k, m))
    → AreHolders p o s k fs qs
    → AreSeenOver p o s k Nothing Nothing fs qs
    → AreSeenOver p after_o after k Nothing Nothing fs qs
stands p at o after_o s after k fs qs grows elsewhere none back held seen =
    all_stand p at o after_o s after k (length fs) Nothing Nothing Nothing Nothing fs qs record {
      grows = grows;
      elsewhere = λ m l. elsewhere m;
      no_member = λ a m e l un. none a m e;
      still_may = λ a m e l x. x;
      made_before = λ a m e l. back a m e;
    } (λ a m e l x. inl x) (omega arith) held seen

module _ (p : Program) (used : BodiesAreWellUsed p) (binds_own : BindsItsOwn p) (kept : WaitsAreKept p) where
  module _ (w : World) (m : Memory) (held : IsHeld p w m) (seen : AreAllSeenOver p w m) where
    -- the frames of a goroutine that runs
    holders_of : (g : ℕ) (f : Frame) (others : List Frame) → w.stacks g ≡ f ∷ others
        → IsHolder p m.origins w.store (g, length others) (first_past (m.pasts g)) f
        × AreHolders p m.origins w.store g others (later_pasts (m.pasts g))
    holders_of g f others running =
        running_held p m.origins w.store g f others (m.pasts g)
        (subst (λ l. AreHolders p m.origins w.store g l (m.pasts g)) running (held.holders g))

    seen_of : (g : ℕ) (f : Frame) (others : List Frame) → w.stacks g ≡ f ∷ others
        → IsSeenOver p m.origins w.store (g, length others) Nothing Nothing (first_past (m.pasts g)) f
        × AreSeenOver p m.origins w.store g (MayAlso f.body (first_past (m.pasts g)).lent Nothing) (MustWait f.body (first_past (m.pasts g)).lent) others (later_pasts (m.pasts g))
    seen_of g f others running =
        running_seen p m.origins w.store g Nothing Nothing f others (m.pasts g)
        (subst (λ l. AreSeenOver p m.origins w.store g Nothing Nothing l (m.pasts g)) running (seen g))

    -- contexts alone change
    contexts_seen : (after : Store) → ChangesContexts w.store after → AreAllSeenOver p (record w { store = after }) m
    contexts_seen after changes k =
        stands p nobody m.origins m.origins w.store after k (w.stacks k) (m.pasts k) (contexts_grow nobody m.origins w.store after changes) (λ i. frame-nobody (k, i))
        (λ a i e none g x. none g (sym (ap (λ (f : ℕ → Option ℕ). f g) changes.same_member) ∙ x))
        (λ a i e. sym (ap (λ (f : ℕ → Maker). f a) changes.same_maker) ∙ e) (held.holders k) (seen k)

    -- a goroutine begins, on a body to which nothing is lent that a frame made
    begun_seen : (g : ℕ) (b : Body) (values : ℕ → Value) (groups : ℕ → Option ℕ) (around : ℕ → Option ℕ)
        → ((v k : ℕ) → around v ≡ Some k → k < w.store.cell_count)
        → ((u c : ℕ) → groups u ≡ Some c → w.store.maker c ≡ outside)
        → (k : ℕ)
        → AreSeenOver p (with_block m.origins w.store.cell_count) (with_cells w.store values groups) k Nothing Nothing
        (put_at w.stacks g (new_frame w.store b around ∷ []) k) (put_at m.pasts g (no_past m.origins w.store b values groups around ∷ []) k)
    begun_seen g b values groups around cells_in foreign =
        one_stack p (with_block m.origins w.store.cell_count) (with_cells w.store values groups) w.stacks m.pasts g
        (new_frame w.store b around ∷ []) (no_past m.origins w.store b values groups around ∷ [])
        (λ k ne. stands p nobody m.origins (with_block m.origins w.store.cell_count) w.store (with_cells w.store values groups) k (w.stacks k) (m.pasts k)
        (block_grows nobody m.origins w.store values groups) (λ i. frame-nobody (k, i)) (λ a i e none. none) (λ a i e. e) (held.holders k) (seen k))
        (seen_new w.store values groups b around cells_in p m.origins (g, 0) (λ v a x e u c i. foreign u c i), tt)

    -- Work that a frame starts

    module _ {f : Frame} {others : List Frame} {rest : Code Event} {literal : Option ℕ} {group : ℕ} (g h : ℕ) (work : StartsWork w g f others rest literal group) where
      startable : Startable f.body work.variable
      startable =
          let it = (holders_of g f others work.is_running).0 in
          let d = work.does_next.comes_to in
          used.starts_in f.body (first_past (m.pasts g)).events (occurrence_of d) work.variable literal it.is_of
          (reached p m.origins w.store (g, length others) (first_past (m.pasts g)) f it work.event rest d) work.is_start

      -- every goroutine, in a store where h is a member of the group
      started_seen : (after_o : Origins) (after : Store) → Grows nobody m.origins after_o w.store after
          → ((a : ℕ) → (a ≡ group → ⊥) → HasNoMember w.store a → HasNoMember after a)
          → ((a : ℕ) (r : Place) → after.maker a ≡ frame_at r → w.store.maker a ≡ frame_at r)
          → (k : ℕ)
          → AreSeenOver p after_o after k Nothing Nothing (put_at w.stacks g (at_code f rest ∷ others) k) (put_at m.pasts g (pasts_behind (m.pasts g) work.does_next.comes_to) k)
      started_seen after_o after grows others_none back =
          let it = holders_of g f others work.is_running in
          let now = seen_of g f others work.is_running in
          let past = first_past (m.pasts g) in
          let source = startable_source it.0 work.variable group startable work.is_held in
          one_stack p after_o after w.stacks m.pasts g (at_code f rest ∷ others) (pasts_behind (m.pasts g) work.does_next.comes_to)
          (λ k ne. others_while_started p m.origins after_o w.store after g f others past (later_pasts (m.pasts g)) group grows it.0 source others_none back k (w.stacks k) (m.pasts k) ne (held.holders k) (seen k)) (
            seen_starting it.0 now.0 grows work.does_next work.is_start work.is_held startable others_none (λ a i e l. back a (g, i) e),
            rest_while_started p m.origins after_o w.store after g f others past (later_pasts (m.pasts g)) group grows it.0 source others_none back it.1 now.1,
          )

    -- Work that a function without a body starts, in a group that it was lent

    outside_seen : {f : Frame} {others : List Frame} {passing : Passing} {y : Lent} {group : ℕ} (g h : ℕ)
        → w.stacks g ≡ f ∷ others
        → ComesToCall f passing
        → Contains passing.lent y
        → y.group ≡ Some group
        → (k : ℕ)
        → AreSeenOver p (with_root m.origins h no_root) (with_member w.store h (Some group)) k Nothing Nothing (w.stacks k) (m.pasts k)
    outside_seen {f} {others} {passing} {y} {group} g h running comes lent is k = by_number (cases_eq k g)
      where
        grows : Grows nobody m.origins (with_root m.origins h no_root) w.store (with_member w.store h (Some group))
        grows = member_grows nobody m.origins w.store no_root h (Some group)

        it : IsHolder p m.origins w.store (g, length others) (first_past (m.pasts g)) f
            × AreHolders p m.origins w.store g others (later_pasts (m.pasts g))
        it = holders_of g f others running

        now : IsSeenOver p m.origins w.store (g, length others) Nothing Nothing (first_past (m.pasts g)) f
            × AreSeenOver p m.origins w.store g (MayAlso f.body (first_past (m.pasts g)).lent Nothing) (MustWait f.body (first_past (m.pasts g)).lent) others (later_pasts (m.pasts g))
        now = seen_of g f others running

        others_none : (a : ℕ) → (a ≡ group → ⊥) → HasNoMember w.store a
            → HasNoMember (with_member w.store h (Some group)) a
        others_none a ne none = joined_none w.store h group a ne none

        source : IsSource w.store (g, length others) f.body (first_past (m.pasts g)).lent group ⊎ (w.store.member g ≡ Some group)
        source =
            inl (lent_source p m.origins w.store (g, length others) (first_past (m.pasts g)) f it.0 passing y group comes lent is)

        its_frame : ComesToCall f passing
            → IsSeenOver p (with_root m.origins h no_root) (with_member w.store h (Some group)) (g, length others) Nothing Nothing (first_past (m.pasts g)) f
        its_frame (at_once way at_once_now) =
            seen_lending_out it.0 now.0 way.waits grows Nothing Nothing f.waiting (λ r x. x) (λ a i e l. e)
            (λ a i e none over. over_grows grows (g, i) Nothing Nothing a e (others_none a (λ same. none (y, lent, is ∙ ap Some (sym same)))) (λ x. x) over)
        its_frame (saved_before {left = left} r) =
            let none = it.0.saved_lend_none passing (subst (λ (l : List Saved). Contains l (saved_pass passing)) (sym r.saved) (contains_here (saved_pass passing) left)) in
            absurd (contains_nil y (subst (λ (l : List Lent). Contains l y) none lent))

        by_number : (k ≡ g) ⊎ (k ≡ g → ⊥)
            → AreSeenOver p (with_root m.origins h no_root) (with_member w.store h (Some group)) k Nothing Nothing (w.stacks k) (m.pasts k)
        by_number (inl same) =
            subst (λ i. AreSeenOver p (with_root m.origins h no_root) (with_member w.store h (Some group)) i Nothing Nothing (w.stacks i) (m.pasts i)) (sym same)
            (subst (λ l. AreSeenOver p (with_root m.origins h no_root) (with_member w.store h (Some group)) g Nothing Nothing l (m.pasts g)) (sym running)
            (with_its_pasts p m.origins w.store g f others (m.pasts g) (subst (λ l. AreHolders p m.origins w.store g l (m.pasts g)) running (held.holders g))
            (with_root m.origins h no_root) (with_member w.store h (Some group))
            (its_frame comes, rest_while_started p m.origins (with_root m.origins h no_root) w.store (with_member w.store h (Some group)) g f others (first_past (m.pasts g)) (later_pasts (m.pasts g)) group grows it.0 source others_none (λ a r e. e) it.1 now.1)))
        by_number (inr ne) =
            others_while_started p m.origins (with_root m.origins h no_root) w.store (with_member w.store h (Some group)) g f others (first_past (m.pasts g)) (later_pasts (m.pasts g)) group grows it.0 source others_none (λ a r e. e)
            k (w.stacks k) (m.pasts k) ne (held.holders k) (seen k)

    members_seen : (next : World) (changes : ChangesMembers p w next)
        → AreAllSeenOver p next (memory_of_members changes m)
    members_seen next (starts_member {f = f} {others = others} {rest = rest} {group = group} g h b values groups work free is_in is_at foreign) =
        let it = (holders_of g f others work.is_running).0 in
        let s = with_member w.store h (Some group) in
        let root : Root = root_of s b values groups f.newest in
        let o = with_root m.origins h root in
        let grows = grows_then nobody m.origins o (with_block o s.cell_count) w.store s (with_cells s values groups)
        (member_grows nobody m.origins w.store root h (Some group)) (block_grows nobody o s values groups) in
        one_stack p (with_block o s.cell_count) (with_cells s values groups) (put_at w.stacks g (at_code f rest ∷ others)) (put_at m.pasts g (pasts_behind (m.pasts g) work.does_next.comes_to))
        h (new_frame w.store b f.newest ∷ []) (no_past o s b values groups f.newest ∷ [])
        (λ k ne. started_seen g h work (with_block o s.cell_count) (with_cells s values groups) grows (λ a other_one none. joined_none w.store h group a other_one none) (λ a r e. e) k)
        (seen_new s values groups b f.newest it.cells_in p o (h, 0) (λ v a x e u c i. outside_is w.store (groups u) c (foreign.foreign u) i), tt)
    members_seen next (starts_stranger {f = f} {others = others} {rest = rest} {group = group} g h work free) =
        started_seen g h work (with_root m.origins h no_root) (with_member w.store h (Some group)) (member_grows nobody m.origins w.store no_root h (Some group))
        (λ a other_one none. joined_none w.store h group a other_one none) (λ a r e. e)
    members_seen next (starts_outside {f = f} {others = others} {passing = passing} {y = y} {group = group} g h running call lent is free) =
        outside_seen g h running call.comes_to_it lent is
    members_seen next (starts_beside {group = a} g h member empty free) = λ k.
        stands p nobody m.origins (with_root m.origins h no_root) w.store (with_member w.store h (Some a)) k (w.stacks k) (m.pasts k)
        (member_grows nobody m.origins w.store no_root h (Some a)) (λ i. frame-nobody (k, i))
        (λ b i e none. joined_none w.store h a b (λ same. none g (member ∙ ap Some (sym same))) none) (λ b i e. e) (held.holders k) (seen k)
    members_seen next (leaves_group {group = group} g member none) =
        λ k. stands p nobody m.origins m.origins w.store (with_member w.store g None) k (w.stacks k) (m.pasts k)
        (member_leaves nobody m.origins w.store g None) (λ i. frame-nobody (k, i)) (λ a i e. left_none w.store g a) (λ a i e. e) (held.holders k) (seen k)

    -- A `go` statement starts a goroutine

    module _ {f : Frame} {others : List Frame} {rest : Code Event} {work : Work} (g : ℕ)
        (sets : SetsOff w g f others work rest) (after_o : Origins) (after : Store)
        (grows : Grows nobody m.origins after_o w.store after)
        (members : (a : ℕ) → HasNoMember w.store a → HasNoMember after a)
        (makers : (a : ℕ) (r : Place) → after.maker a ≡ frame_at r → w.store.maker a ≡ frame_at r)
        (its : IsSeenOver p after_o after (g, length others) Nothing Nothing
        (behind (first_past (m.pasts g)) sets.does_next.comes_to) (at_code f rest))
      where
        going_seen : (k : ℕ)
            → AreSeenOver p after_o after k Nothing Nothing (put_at w.stacks g (at_code f rest ∷ others) k)
            (put_at m.pasts g (pasts_behind (m.pasts g) sets.does_next.comes_to) k)
        going_seen =
            let below = (holders_of g f others sets.is_running).1 in
            let now = (seen_of g f others sets.is_running).1 in
            let q = first_past (m.pasts g) in
            one_stack p after_o after w.stacks m.pasts g (at_code f rest ∷ others)
            (pasts_behind (m.pasts g) sets.does_next.comes_to)
            (λ k ne. stands p nobody m.origins after_o w.store after k (w.stacks k) (m.pasts k) grows (λ i. frame-nobody (k, i))
            (λ a i e none. members a none) (λ a i e. makers a (k, i) e) (held.holders k) (seen k)) (
              its,
              all_stand p nobody m.origins after_o w.store after g (length others) (MayAlso f.body q.lent Nothing)
                  (MayAlso f.body q.lent Nothing) (MustWait f.body q.lent) (MustWait f.body q.lent) others
                  (later_pasts (m.pasts g)) record {
                    grows = grows;
                    elsewhere = λ i l. frame-nobody (g, i);
                    no_member = λ a i e l un none. members a none;
                    still_may = λ a i e l x. x;
                    made_before = λ a i e l. makers a (g, i) e;
                  } (λ a i e l x. inl x) (omega arith) below now,
            )

    goings_seen : (next : World) (going : StartsGoroutine p w next) → AreAllSeenOver p next (memory_of_go going m)
    goings_seen next (starts_call {f = f} {others = others} {v = v} g sets) =
        let it = (holders_of g f others sets.is_running).0 in
        let now = (seen_of g f others sets.is_running).0 in
        let calls = to_call_too (held_value w.store f v) m.origins.to_call in
        let grows = calls_grow nobody m.origins w.store calls (to_call_more (held_value w.store f v) m.origins.to_call) in
        going_seen g sets (record (m.origins) { to_call = calls }) w.store grows (λ a none. none) (λ a r e. e)
        (seen_going it now grows (λ a none. none) (λ a r e. e) sets.does_next (λ relies u k. refl))
    goings_seen next (starts_foreign {f = f} {others = others} {callee = callee} {xs = xs} g sets no_body) =
        let it = (holders_of g f others sets.is_running).0 in
        let now = (seen_of g f others sets.is_running).0 in
        let given = (sending w.store f callee xs).given in
        let calls = declared_too p callee given m.origins.to_call in
        let grows = calls_grow nobody m.origins w.store calls (declared_more p callee given m.origins.to_call) in
        going_seen g sets (record (m.origins) { to_call = calls }) w.store grows (λ a none. none) (λ a r e. e)
        (seen_going it now grows (λ a none. none) (λ a r e. e) sets.does_next (λ relies u k. refl))
    goings_seen next (starts_function {f = f} {others = others} {rest = rest} {callee = callee} {xs = xs} g h b values groups
        sets free is fits) =
        let it = (holders_of g f others sets.is_running).0 in
        let now = (seen_of g f others sets.is_running).0 in
        let root = root_of w.store b values groups nothing_around in
        let begun = with_begun m.origins root in
        let after_o = with_block begun w.store.cell_count in
        let after = with_cells w.store values groups in
        let grows = grows_then nobody m.origins begun after_o w.store w.store after (begun_grows nobody m.origins w.store root)
        (block_grows nobody begun w.store values groups) in
        one_stack p after_o after (put_at w.stacks g (at_code f rest ∷ others))
        (put_at m.pasts g (pasts_behind (m.pasts g) sets.does_next.comes_to)) h (new_frame w.store b nothing_around ∷ [])
        (no_past begun w.store b values groups nothing_around ∷ [])
        (λ k ne. going_seen g sets after_o after grows (λ a none. none) (λ a r e. e)
        (seen_going it now grows (λ a none. none) (λ a r e. e) sets.does_next (λ relies u k. refl)) k) (
          seen_new w.store values groups b nothing_around (λ v k e. absurd (none-some k e)) p begun (h, 0)
              (λ v a x e. absurd (none-some a e)),
          tt,
        )
    goings_seen next (starts_its_literal {f = f} {others = others} {rest = rest} {at = at} g h b values groups sets free is_in
        is_at foreign) =
        let it = (holders_of g f others sets.is_running).0 in
        let now = (seen_of g f others sets.is_running).0 in
        let root = root_of w.store b values groups f.newest in
        let begun = with_begun m.origins root in
        let after_o = with_block begun w.store.cell_count in
        let after = with_cells w.store values groups in
        let grows = grows_then nobody m.origins begun after_o w.store w.store after (begun_grows nobody m.origins w.store root)
        (block_grows nobody begun w.store values groups) in
        one_stack p after_o after (put_at w.stacks g (at_code f rest ∷ others))
        (put_at m.pasts g (pasts_behind (m.pasts g) sets.does_next.comes_to)) h (new_frame w.store b f.newest ∷ [])
        (no_past begun w.store b values groups f.newest ∷ [])
        (λ k ne. going_seen g sets after_o after grows (λ a none. none) (λ a r e. e)
        (seen_going_literal it now grows (λ a none. none) (λ a r e. e) b sets.does_next is_in is_at
        (λ u a waits e. record {
          root = root;
          has_gone = refl;
          is_begun = contains_here root m.origins.begun;
          literal = b;
          variable = u;
          is_body = refl;
          waits_for = waits;
          is_lent = waits_given w.store values groups b f.newest u a waits e;
        })) k) (
          seen_new w.store values groups b f.newest it.cells_in p begun (h, 0)
              (λ v a x e u c i. outside_is w.store (groups u) c (foreign.foreign u) i),
          tt,
        )

    environment_seen : (next : World) (surrounds : Surrounds p w next)
        → AreAllSeenOver p next (memory_of_environment surrounds m)
    environment_seen next (starts g b values groups free of outermost foreign) =
        begun_seen g b values groups nothing_around (λ v k e. absurd (none-some k e)) (λ u c i. outside_is w.store (groups u) c (foreign.foreign u) i)
    environment_seen next (evaluates_literal g f b among escapes) = seen
    environment_seen next (starts_literal g c values groups free among foreign) =
        begun_seen g c.literal values groups c.newest (held.escaped c among).cells_in (λ u x i. outside_is w.store (groups u) x (foreign.foreign u) i)
    environment_seen next (makes_cells values groups foreign) = λ k.
        stands p nobody m.origins (with_block m.origins w.store.cell_count) w.store (with_cells w.store values groups) k (w.stacks k) (m.pasts k)
        (block_grows nobody m.origins w.store values groups) (λ i. frame-nobody (k, i)) (λ a i e none. none) (λ a i e. e) (held.holders k) (seen k)
    environment_seen next (makes_one parent earlier) =
        contexts_seen (with_new w.store parent) (new_changes w.store parent)
    environment_seen next (ends_one a is) = contexts_seen (ending w.store (Some a)) (ending_changes w.store (Some a))
    environment_seen next (calls_any a is) =
        contexts_seen (calling w.store (cancel_function a)) (calling_changes w.store (cancel_function a))
    environment_seen next (makes_outside context earlier) = λ k.
        stands p nobody m.origins m.origins w.store (with_group w.store outside context) k (w.stacks k) (m.pasts k)
        (group_grows nobody m.origins w.store outside context held.known) (λ i. frame-nobody (k, i)) (λ a i e none. none)
        (λ a i e. outside_maker_back w.store context a (k, i) e) (held.holders k) (seen k)
    environment_seen next (joins_outside g a free made) = λ k.
        stands p nobody m.origins (with_root m.origins g no_root) w.store (with_member w.store g (Some a)) k (w.stacks k) (m.pasts k)
        (member_grows nobody m.origins w.store no_root g (Some a)) (λ i. frame-nobody (k, i))
        (λ b i e none. joined_none w.store g a b (λ same. outside-frame (k, i) (sym made ∙ ap w.store.maker (sym same) ∙ e)) none) (λ b i e. e) (held.holders k) (seen k)

    pub step_seen : (next : World) (step : Step p w next) → AreAllSeenOver p next (memory_after step m)
    step_seen next (of_goroutine {f = f} {others = others} {after = after} {frames = frames} g running acts) =
        let it = holders_of g f others running in
        let now = seen_of g f others running in
        let q = first_past (m.pasts g) in
        let qs = later_pasts (m.pasts g) in
        let well = acts_held p used m.origins w.store g f others q qs held.known it.0 it.1 after frames acts in
        one_stack p (origins_after acts m.origins) after w.stacks m.pasts g (frames ++ others) (pasts_after acts m.origins q ++ qs)
        (λ k ne. stands p (frame_at (g, length others)) m.origins (origins_after acts m.origins) w.store after k (w.stacks k) (m.pasts k) well.grows (λ i. other_goroutine g k (length others) i ne)
        (λ a i e none h x. none h (sym (well.same_member h) ∙ x))
        (λ a i e. is_maker_back p w.store (g, length others) f after frames acts a (k, i) e (λ same. ne (ap (λ (r : Place). r.0) same))) (held.holders k) (seen k))
        (acts_seen p used binds_own kept m.origins w.store g f others q qs held.known it.0 it.1 now.0 now.1 after frames acts)
    step_seen next (of_members changes) = members_seen next changes
    step_seen next (of_go going) = goings_seen next going
    step_seen next (of_environment surrounds) = environment_seen next surrounds

  -- in every world of a run
  pub run_seen : (least : ℕ) (w : World) (run : Run p w) → AreAllSeenOver p w (memory_of least run)
  run_seen least w no_step = λ g. tt
  run_seen least w (step_more {w = before} run step) =
      step_seen before (memory_of least run) (run_held p used least before run) (run_seen least before run) w step
