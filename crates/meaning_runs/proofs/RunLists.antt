-- Each list of a body is the list of a run: its moves are steps of the one goroutine.
use Rattle.std.proofs.Common.{◌≡◌, ℕ, ◌+◌, ◌<◌, Bool, true, false, cond, ◌⊎◌, inl, inr, List, [], ◌∷◌, ◌++◌, Option, Some, None, Contains, refl, sym, ap, ◌∙◌, subst, append_assoc, append-nil, true≢false, arith}
use Rattle.meaning.specs.Code.{Occurrence, Code}
use Rattle.meaning.specs.Lists.{Exit}
use Rattle.meaning.specs.Uses.{Callee, VariableAt, Event, other, obtain, clear, call, defer_call, pass, defer_pass, lend, start, try, wait, defer_wait, make, defer_literal, go_call, go_pass, go_literal, go, return_event, obtain_kept, renew, keep, call_kept, defer_kept, give, give_field}
use Rattle.meaning.proofs.Membership.{contains_here, contains_there, contains_cases, contains_nil}
use Rattle.meaning_reports.specs.Loaded.{known_in, trees_of}
use Rattle.meaning_runs.specs.Bodies.{Program, Body, IsOf, IsOutermost, is_parameter_of, is_captured_by, code_of}
use Rattle.meaning_runs.specs.World.{Value, nothing, cancel_function, any_nothing, outside, outside_group, Store, put_at, with_new, calling, ending, waiting_for, MayEndWait, Given, Saved, runs, exits, InObject, Frame, World, empty_world, with_stack, frame_at as frame_at_place, with_group, with_cells, with_member, own_cell, kept_value, is_declaration, cell_or, group_in_cell, held, held_group, binding, binds, bound_cell, binding_group}
use Rattle.meaning_runs.specs.Moves.{Moves}
use Rattle.meaning_runs.specs.Steps.{StartsGoroutine, past_go, starts_call, starts_foreign, starts_its_literal, of_go, ComesTo, DoesNext, Starts, new_one, zero_group, with_context, is_first, WasCalled, HasNoBody, at_once, of_none, Acts, moves_on, does_other, obtains_one, obtains_into, keeps_one, renews_object, calls_kept, saves_kept, gives_object, gives_in_field, clears_one, calls_one, saves_call, makes_group, tries_nothing, ends_wait, saves_wait, evaluates, evaluates_deferred, lends, makes_call, calls_outside, saves_pass, saves_literal, comes_to_return, Makes, IsFree, by_start, starts_member, starts_stranger, leaves_group, starts, makes_outside, of_goroutine, of_members, of_environment}
use Rattle.meaning_runs.specs.Runs.{Run, no_step, step_more}
use Rattle.meaning_runs.specs.Doings.{Does, stays, silently, by_event, CanDo}
use Rattle.meaning_runs.specs.Laws.{HoldsGroup, IsThere, HasFreeGoroutine}
use Rattle.meaning_runs.specs.RunLists.{events_of, events_of_act, events_of_go, IsRunnable, hold_after, HasItsGroup, GroupsComeFirst, is_wait, is_start_of_literal, WaitsComeFirst, is_return, ReturnsComeLast, ends_in_return, HasGoneThrough, ListsAreRun, BodiesAreOfTexts, IsRunnableOfText, ListsOfTextsAreRun}
use Rattle.meaning_runs.proofs.Adequacy.{list_is_done}
use Rattle.meaning_runs.proofs.Contexts.{put_at-same, put_at-other}
use Rattle.meaning_runs.proofs.FreeGoroutines.{acting_members, calling_members, goroutines_are_free, none_given}
use Rattle.meaning_runs.proofs.Places.{calling_count, called_it}
use Rattle.std.proofs.lemmas.Bool.{cases_eq}
use Rattle.meaning.specs.Tracked.{GroupState, idle, live}
use Rattle.meaning_runs.proofs.TrackedBindings.{of_number}
use Rattle.meaning_runs.proofs.LastReturns.{returns_are_last}
use Rattle.meaning_runs.proofs.DeferredLiterals.{deferred_literals_are_there, gone_literals_are_there}
use Rattle.meaning_runs.proofs.StartedLiterals.{started_literals_are_there}

is_or_not : (r : Bool) → (r ≡ true) ⊎ (r ≡ false)
is_or_not true = inl refl
is_or_not false = inr refl

module _ (p : Program) (b : Body) where
  -- the one frame
  abbrev frame_at : Code Event → (ℕ → Option ℕ) → List Saved → List ℕ → List ℕ → List InObject → List Value → Frame
  frame_at c newest saved obtained made kept given = record {
    body = b;
    stage = runs c;
    newest = newest;
    waiting = None;
    saved = saved;
    obtained = obtained;
    made = made;
    kept = kept;
    given_away = given;
    handed_on = [];
  }

  -- A run with these events has come to this code. These variables hold groups, and if no literal was started there is
  -- no member.
  record ComesSoFar (hold : ℕ → Bool) (is_idle : Bool) (done : List (Occurrence Event)) (c : Code Event) : Type 0 where
    world : World
    run : Run p world
    newest : ℕ → Option ℕ
    saved : List Saved
    obtained : List ℕ
    made : List ℕ
    kept : List InObject
    given : List Value
    is_only : world.stacks 0 ≡ frame_at c newest saved obtained made kept given ∷ []
    has_events : events_of run ≡ done
    cells_in : (v k : ℕ) → newest v ≡ Some k → k < world.store.cell_count
    hold_groups : (v : ℕ) → hold v ≡ true → HoldsGroup world.store (frame_at c newest saved obtained made kept given) v
    no_members : is_idle ≡ true → (g : ℕ) → world.store.member g ≡ None

  -- a run with these events has come to its end
  record ComesToEnd (done t : List (Occurrence Event)) (rest : Code Event) : Type 0 where
    world : World
    run : Run p world
    frame : Frame
    is_only : world.stacks 0 ≡ frame ∷ []
    is_its : frame.body ≡ b
    none_waits : frame.waiting ≡ None
    has_events : events_of run ≡ done ++ t
    stands_there : frame.stage ≡ cond (ends_in_return t) exits (runs rest)

  abbrev act : (w : World) (f : Frame) (after : Store) (frames : List Frame) → Run p w → w.stacks 0 ≡ f ∷ [] → Acts p w.store (0, 0) f after frames → Run p (with_stack w after 0 (frames ++ []))
  act w f after frames r at a = step_more r (of_goroutine 0 at a)

  abbrev comes : (c d : Code Event) (f : Frame) (at order : ℕ) (e : Event) → f.stage ≡ runs c → Moves c (Some record { at = at; order = order; event = e }) d → ComesTo f e d
  comes c d f at order e s m = record { at = at; order = order; goes_on = record { code = c; stage = s; moves = m } }

  abbrev next : (c d : Code Event) (f : Frame) (at order : ℕ) (e : Event) → f.stage ≡ runs c → f.waiting ≡ None → Moves c (Some record { at = at; order = order; event = e }) d → DoesNext f e d
  next c d f at order e s n m = record { comes_to = comes c d f at order e s m; none_waits = n }

  -- one act, by these events
  acted : (hold after_hold : ℕ → Bool) (is_idle : Bool) (done new : List (Occurrence Event)) (c d : Code Event) (h : ComesSoFar hold is_idle done c) (after : Store) (newest : ℕ → Option ℕ) (saved : List Saved) (obtained made : List ℕ) (kept : List InObject) (given : List Value) (a : Acts p h.world.store (0, 0) (frame_at c h.newest h.saved h.obtained h.made h.kept h.given) after (frame_at d newest saved obtained made kept given ∷ [])) → events_of_act a ≡ new → ((v k : ℕ) → newest v ≡ Some k → k < after.cell_count) → ((v : ℕ) → after_hold v ≡ true → HoldsGroup after (frame_at d newest saved obtained made kept given) v) → ComesSoFar after_hold is_idle (done ++ new) d
  acted hold after_hold is_idle done new c d h after newest saved obtained made kept given a e within holds = record {
    world = _;
    run = act h.world _ _ _ h.run h.is_only a;
    newest = newest;
    saved = saved;
    obtained = obtained;
    made = made;
    kept = kept;
    given = given;
    is_only = refl;
    has_events = ap (λ l. l ++ events_of_act a) h.has_events ∙ ap (λ l. done ++ l) e;
    cells_in = within;
    hold_groups = holds;
    no_members = λ i g. ap (λ (f : ℕ → Option ℕ). f g) (acting_members p h.world.store (0, 0) (frame_at c h.newest h.saved h.obtained h.made h.kept h.given) after (frame_at d newest saved obtained made kept given ∷ []) a) ∙ h.no_members i g;
  }

  moved : (hold : ℕ → Bool) (is_idle : Bool) (done : List (Occurrence Event)) (c d : Code Event) → Moves c None d → ComesSoFar hold is_idle done c → ComesSoFar hold is_idle done d
  moved hold is_idle done c d m h =
      subst (λ l. ComesSoFar hold is_idle l d) (append-nil done)
      (acted hold hold is_idle done [] c d h _ h.newest h.saved h.obtained h.made h.kept h.given (moves_on record { code = c; stage = refl; moves = m }) refl h.cells_in h.hold_groups)

  -- one more event
  abbrev with_event : List (Occurrence Event) → ℕ → ℕ → Event → List (Occurrence Event)
  with_event done at order e = done ++ record { at = at; order = order; event = e } ∷ []

  no_group_in : (a : ℕ) → None ≡ Some a → ⊥
  no_group_in a e = cc

  -- what is in a cell is there in a store with the same cells
  same_group : (s after : Store) → after.holds ≡ s.holds → (v : ℕ) (o : Option ℕ) → (a : ℕ) × (group_in_cell s v o ≡ Some a) → (a : ℕ) × (group_in_cell after v o ≡ Some a)
  same_group s after same v None h = h
  same_group s after same v (Some k) h = (h.0, ap (λ (q : ℕ → ℕ → Option ℕ). q k v) same ∙ h.1)

  calling_holds : (s : Store) (x : Value) → (calling s x).holds ≡ s.holds
  calling_holds s nothing = refl
  calling_holds s (cancel_function a) = refl

  waiting_same : (s : Store) (group : Option ℕ) → ((waiting_for s group).holds ≡ s.holds) × ((waiting_for s group).cell_count ≡ s.cell_count)
  waiting_same s None = (refl, refl)
  waiting_same s (Some a) = by (s.group_context a)
    where
      by : (context : Option ℕ) → ((ending s context).holds ≡ s.holds) × ((ending s context).cell_count ≡ s.cell_count)
      by None = (refl, refl)
      by (Some x) = (refl, refl)

  -- a Wait may end where no goroutine is a member
  may_end : (s : Store) (group : Option ℕ) → ((g : ℕ) → s.member g ≡ None) → MayEndWait s group
  may_end s None none = tt
  may_end s (Some a) none = λ g m. no_group_in a (sym (none g) ∙ m)

  -- the cell that a binding writes is in the store
  module _ (s : Store) (g : Frame) (u : VariableAt) (within : (v k : ℕ) → g.newest v ≡ Some k → k < s.cell_count) where
    abbrev bound : ℕ
    bound = bound_cell s g u

    bound_in : bound < s.cell_count + 1
    bound_in = by (is_declaration u) (g.newest u.number) refl
      where
        by : (x : Bool) (o : Option ℕ) → g.newest u.number ≡ o → cond x s.cell_count (cell_or s.cell_count o) < s.cell_count + 1
        by true o is = omega arith
        by false None is = omega arith
        by false (Some k) is = let l = within u.number k is in omega (arith, l)

    newest_in : (v k : ℕ) → put_at g.newest u.number (Some bound) v ≡ Some k → k < s.cell_count + 1
    newest_in v k e = by (cases_eq v u.number)
      where
        same : (i j : ℕ) → Some i ≡ Some j → i ≡ j
        same i j q = cc

        by : (v ≡ u.number) ⊎ (v ≡ u.number → ⊥) → k < s.cell_count + 1
        by (inl q) =
            let is = same bound k (sym (put_at-same g.newest u.number (Some bound)) ∙ sym (ap (put_at g.newest u.number (Some bound)) q) ∙ e) in
            let l = bound_in in omega (arith, is, l)
        by (inr q) = let l = within v k (sym (put_at-other g.newest u.number (Some bound) v q) ∙ e) in omega (arith, l)

    -- other variables hold what they held
    other_group : (after : Store) → ((k v : ℕ) → (v ≡ u.number → ⊥) → after.holds k v ≡ s.holds k v) → (v : ℕ) → (v ≡ u.number → ⊥) → HoldsGroup s g v → (a : ℕ) × (group_in_cell after v (put_at g.newest u.number (Some bound) v) ≡ Some a)
    other_group after same v q h =
        (h.0, ap (group_in_cell after v) (put_at-other g.newest u.number (Some bound) v q) ∙ by (g.newest v))
      where
        in_cell_too : (o : Option ℕ) → group_in_cell after v o ≡ group_in_cell s v o
        in_cell_too None = refl
        in_cell_too (Some k) = same k v q

        by : (o : Option ℕ) → group_in_cell after v (g.newest v) ≡ Some h.0
        by o = in_cell_too (g.newest v) ∙ h.1

    -- it holds the group that was made for it
    made_there : (group : ℕ) → group_in_cell (binding_group s g u group) u.number (put_at g.newest u.number (Some bound) u.number) ≡ Some group
    made_there group =
        ap (group_in_cell (binding_group s g u group) u.number) (put_at-same g.newest u.number (Some bound))
        ∙ ap (λ (q : ℕ → Option ℕ). q u.number) (put_at-same s.holds bound (put_at (s.holds bound) u.number (Some group)))
        ∙ put_at-same (s.holds bound) u.number (Some group)

    made_others : (group : ℕ) (k v : ℕ) → (v ≡ u.number → ⊥) → (binding_group s g u group).holds k v ≡ s.holds k v
    made_others group k v ne = by (cases_eq k bound)
      where
        by : (k ≡ bound) ⊎ (k ≡ bound → ⊥) → (binding_group s g u group).holds k v ≡ s.holds k v
        by (inl q) =
            ap (λ j. (binding_group s g u group).holds j v) q
            ∙ ap (λ (h : ℕ → Option ℕ). h v) (put_at-same s.holds bound (put_at (s.holds bound) u.number (Some group)))
            ∙ put_at-other (s.holds bound) u.number (Some group) v ne
            ∙ ap (λ j. s.holds j v) (sym q)
        by (inr q) = ap (λ (h : ℕ → Option ℕ). h v) (put_at-other s.holds bound (put_at (s.holds bound) u.number (Some group)) k q)

  -- a function without a body is called and returns, once it has called its argument
  module _ (hold : ℕ → Bool) (is_idle : Bool) (done : List (Occurrence Event)) (c d : Code Event) (at order : ℕ) (h : ComesSoFar hold is_idle done c) where
    abbrev f : Frame
    f = frame_at c h.newest h.saved h.obtained h.made h.kept h.given

    passed : (u : VariableAt) (g : Callee) (k : ℕ) → Moves c (Some record { at = at; order = order; event = pass u g k }) d → HasNoBody p b g → ComesSoFar hold is_idle (with_event done at order (pass u g k)) d
    passed u g k m none =
        let x = held h.world.store f u.number in
        let argument : Given = record { position = k; value = x } in
        let r1 = act h.world _ _ _ h.run h.is_only (evaluates (comes c d _ at order (pass u g k) refl m) is_first) in
        let r2 = act _ _ _ _ r1 refl (calls_outside {x = argument} record { comes_to_it = at_once record { stage = refl; waits = refl } refl; has_no_body = none } (contains_here argument [])) in
        record {
          world = _;
          run = act _ _ _ _ r2 refl (makes_call record { stage = refl; waits = refl } refl (of_none none λ y among declared. only_argument x y (contains_cases argument y [] among)));
          newest = h.newest;
          saved = h.saved;
          obtained = h.obtained;
          made = h.made;
          kept = h.kept;
          given = h.given;
          is_only = refl;
          has_events = append-nil _ ∙ append-nil _ ∙ ap (λ l. with_event l at order (pass u g k)) h.has_events;
          cells_in = λ v k e. subst (λ n. k < n) (sym (calling_count h.world.store x)) (h.cells_in v k e);
          hold_groups = λ v e. same_group h.world.store (calling h.world.store x) (calling_holds h.world.store x) v (h.newest v) (h.hold_groups v e);
          no_members = λ i n. ap (λ (q : ℕ → Option ℕ). q n) (calling_members h.world.store x) ∙ h.no_members i n;
        }
      where
        only_argument : (x : Value) (y : Given) → (record { position = k; value = x } ≡ y) ⊎ Contains [] y → WasCalled (calling h.world.store x) y.value
        only_argument x y (inl q) = subst (λ (z : Given). WasCalled (calling h.world.store x) z.value) q (called_it h.world.store x)
        only_argument x y (inr n) = absurd (contains_nil y n)

    lent : (v : ℕ) (g : Callee) (k : ℕ) → Moves c (Some record { at = at; order = order; event = lend v g k }) d → HasNoBody p b g → ComesSoFar hold is_idle (with_event done at order (lend v g k)) d
    lent v g k m none =
        let r1 = act h.world _ _ _ h.run h.is_only (lends (comes c d _ at order (lend v g k) refl m) is_first) in
        record {
          world = _;
          run = act _ _ _ _ r1 refl (makes_call record { stage = refl; waits = refl } refl (of_none none λ y among declared. absurd (contains_nil y among)));
          newest = h.newest;
          saved = h.saved;
          obtained = h.obtained;
          made = h.made;
          kept = h.kept;
          given = h.given;
          is_only = refl;
          has_events = append-nil _ ∙ ap (λ l. with_event l at order (lend v g k)) h.has_events;
          cells_in = h.cells_in;
          hold_groups = h.hold_groups;
          no_members = h.no_members;
        }

    saved_pass_of : (u : VariableAt) (g : Callee) (k : ℕ) → Moves c (Some record { at = at; order = order; event = defer_pass u g k }) d → ComesSoFar hold is_idle (with_event done at order (defer_pass u g k)) d
    saved_pass_of u g k m = record {
      world = _;
      run = act _ _ _ _ (act h.world _ _ _ h.run h.is_only (evaluates_deferred (comes c d _ at order (defer_pass u g k) refl m) is_first)) refl (saves_pass record { stage = refl; waits = refl } refl);
      newest = h.newest;
      saved = _;
      obtained = h.obtained;
      made = h.made;
      kept = h.kept;
      given = h.given;
      is_only = refl;
      has_events = append-nil _ ∙ ap (λ l. with_event l at order (defer_pass u g k)) h.has_events;
      cells_in = h.cells_in;
      hold_groups = h.hold_groups;
      no_members = h.no_members;
    }

    -- the goroutine in which work is started is another one
    not_it : (n : ℕ) → IsFree h.world n → 0 ≡ n → ⊥
    not_it n free q =
        let bad : [] ≡ f ∷ [] = sym free.has_no_frame ∙ ap h.world.stacks (sym q) ∙ h.is_only in
        cc

    -- work of which nothing is known is started in a group, and ends at once
    started_stranger : (v group : ℕ) → held_group h.world.store f v ≡ Some group → Moves c (Some record { at = at; order = order; event = start v None }) d → (free : HasFreeGoroutine h.world) → ComesSoFar hold is_idle (with_event done at order (start v None)) d
    started_stranger v group holds m free =
        let step = starts_stranger 0 free.0 record { event = start v None; variable = v; is_running = h.is_only; does_next = next c d _ at order (start v None) refl refl m; is_start = by_start; is_held = holds } free.1 in
        let r1 = step_more h.run (of_members step) in
        let other : free.0 ≡ 0 → ⊥ = λ q. not_it free.0 free.1 (sym q) in
        record {
          world = _;
          run = step_more r1 (of_members (leaves_group free.0 (put_at-same h.world.store.member free.0 (Some group)) (put_at-other h.world.stacks 0 _ free.0 other ∙ free.1.has_no_frame)));
          newest = h.newest;
          saved = h.saved;
          obtained = h.obtained;
          made = h.made;
          kept = h.kept;
          given = h.given;
          is_only = refl;
          has_events = append-nil _ ∙ ap (λ l. with_event l at order (start v None)) h.has_events;
          cells_in = h.cells_in;
          hold_groups = h.hold_groups;
          no_members = λ i n. gone (λ g. h.no_members i g) n (cases_eq n free.0);
        }
      where
        gone : ((g : ℕ) → h.world.store.member g ≡ None) → (n : ℕ) → (n ≡ free.0) ⊎ (n ≡ free.0 → ⊥) → put_at (put_at h.world.store.member free.0 (Some group)) free.0 None n ≡ None
        gone none n (inl q) =
            ap (put_at (put_at h.world.store.member free.0 (Some group)) free.0 None) q
            ∙ put_at-same (put_at h.world.store.member free.0 (Some group)) free.0 None
        gone none n (inr q) =
            put_at-other (put_at h.world.store.member free.0 (Some group)) free.0 None n q
            ∙ put_at-other h.world.store.member free.0 (Some group) n q
            ∙ none n

    -- a literal is started in a group, and does nothing
    started_literal_of : (v group offset : ℕ) → held_group h.world.store f v ≡ Some group → Moves c (Some record { at = at; order = order; event = start v (Some offset) }) d → (free : HasFreeGoroutine h.world) → IsThere b (Some offset) → ComesSoFar hold false (with_event done at order (start v (Some offset))) d
    started_literal_of v group offset holds m free there =
        let step = starts_member 0 free.0 there.0 (λ n. nothing) (λ n. None) record { event = start v (Some offset); variable = v; is_running = h.is_only; does_next = next c d _ at order (start v (Some offset)) refl refl m; is_start = by_start; is_held = holds } free.1 there.1 there.2 (none_given h.world.store) in
        let k = h.world.store.cell_count in
        record {
          world = _;
          run = step_more h.run (of_members step);
          newest = h.newest;
          saved = h.saved;
          obtained = h.obtained;
          made = h.made;
          kept = h.kept;
          given = h.given;
          is_only = put_at-other (put_at h.world.stacks 0 _) free.0 _ 0 (not_it free.0 free.1);
          has_events = ap (λ l. with_event l at order (start v (Some offset))) h.has_events;
          cells_in = λ n i e. let l = h.cells_in n i e in omega (arith, l);
          hold_groups = λ n e. still_holds n (h.newest n) refl (h.hold_groups n e);
          no_members = λ bad n. absurd (true≢false (sym bad));
        }
      where
        after : Store
        after = with_cells (with_member h.world.store free.0 (Some group)) (λ x. nothing) (λ x. None)

        still_holds : (n : ℕ) (o : Option ℕ) → h.newest n ≡ o → HoldsGroup h.world.store f n → HoldsGroup after f n
        still_holds n None is it = let bad : None ≡ Some it.0 = ap (group_in_cell h.world.store n) (sym is) ∙ it.1 in absurd (no_group_in it.0 bad)
        still_holds n (Some k) is it =
            let l = h.cells_in n k is in
            (it.0, ap (group_in_cell after n) is ∙ ap (λ (q : ℕ → Option ℕ). q n) (put_at-other h.world.store.holds h.world.store.cell_count (λ x. None) k (λ q. omega (arith, l, q))) ∙ ap (group_in_cell h.world.store n) (sym is) ∙ it.1)

    -- a goroutine starts that runs outside
    calling_too : (e : Event) (calls : List ℕ) (s : StartsGoroutine p h.world (record (past_go h.world 0 f [] d) { to_call = calls })) → events_of_go s ≡ record { at = at; order = order; event = e } ∷ [] → ComesSoFar hold is_idle (with_event done at order e) d
    calling_too e calls s es = record {
      world = _;
      run = step_more h.run (of_go s);
      newest = h.newest;
      saved = h.saved;
      obtained = h.obtained;
      made = h.made;
      kept = h.kept;
      given = h.given;
      is_only = refl;
      has_events = ap (λ l. l ++ events_of_go s) h.has_events ∙ ap (λ l. done ++ l) es;
      cells_in = h.cells_in;
      hold_groups = h.hold_groups;
      no_members = h.no_members;
    }

    -- or one that runs a literal
    gone_literal_of : (offset : ℕ) → Moves c (Some record { at = at; order = order; event = go (go_literal offset) }) d → (free : HasFreeGoroutine h.world) → IsThere b (Some offset) → ComesSoFar hold is_idle (with_event done at order (go (go_literal offset))) d
    gone_literal_of offset m free there =
        let step = starts_its_literal 0 free.0 there.0 (λ n. nothing) (λ n. None) record { is_running = h.is_only; does_next = next c d _ at order (go (go_literal offset)) refl refl m } free.1 there.1 there.2 (none_given h.world.store) in
        record {
          world = _;
          run = step_more h.run (of_go step);
          newest = h.newest;
          saved = h.saved;
          obtained = h.obtained;
          made = h.made;
          kept = h.kept;
          given = h.given;
          is_only = put_at-other (put_at h.world.stacks 0 _) free.0 _ 0 (not_it free.0 free.1);
          has_events = ap (λ l. with_event l at order (go (go_literal offset))) h.has_events;
          cells_in = λ n i e. let l = h.cells_in n i e in omega (arith, l);
          hold_groups = λ n e. still_holds n (h.newest n) refl (h.hold_groups n e);
          no_members = h.no_members;
        }
      where
        after : Store
        after = with_cells h.world.store (λ x. nothing) (λ x. None)

        still_holds : (n : ℕ) (o : Option ℕ) → h.newest n ≡ o → HoldsGroup h.world.store f n → HoldsGroup after f n
        still_holds n None is it = let bad : None ≡ Some it.0 = ap (group_in_cell h.world.store n) (sym is) ∙ it.1 in absurd (no_group_in it.0 bad)
        still_holds n (Some k) is it =
            let l = h.cells_in n k is in
            (it.0, ap (group_in_cell after n) is ∙ ap (λ (q : ℕ → Option ℕ). q n) (put_at-other h.world.store.holds h.world.store.cell_count (λ x. None) k (λ q. omega (arith, l, q))) ∙ ap (group_in_cell h.world.store n) (sym is) ∙ it.1)

  -- a variable that is bound to no group holds none
  unbound : (hold : ℕ → Bool) (u v : ℕ) → put_at hold u false v ≡ true → (v ≡ u → ⊥) × (hold v ≡ true)
  unbound hold u v e = by (cases_eq v u)
    where
      by : (v ≡ u) ⊎ (v ≡ u → ⊥) → (v ≡ u → ⊥) × (hold v ≡ true)
      by (inl q) = absurd (true≢false (sym e ∙ ap (put_at hold u false) q ∙ put_at-same hold u false))
      by (inr q) = (q, sym (put_at-other hold u false v q) ∙ e)

  abbrev idle_after : Bool → Event → Bool
  idle_after is_idle e = cond (is_start_of_literal e) false is_idle

  module _ (hold : ℕ → Bool) (is_idle : Bool) (done : List (Occurrence Event)) (c d : Code Event) (at order : ℕ) (h : ComesSoFar hold is_idle done c) where
    abbrev its : Frame
    its = frame_at c h.newest h.saved h.obtained h.made h.kept h.given

    -- the store stays, or its cells do
    with_same : (e : Event) (after : Store) (saved : List Saved) (kept : List InObject) (given : List Value) (a : Acts p h.world.store (0, 0) its after (frame_at d h.newest saved h.obtained h.made kept given ∷ [])) → events_of_act a ≡ record { at = at; order = order; event = e } ∷ [] → after.holds ≡ h.world.store.holds → after.cell_count ≡ h.world.store.cell_count → ComesSoFar hold is_idle (with_event done at order e) d
    with_same e after saved kept given a es holds count =
        acted hold hold is_idle done _ c d h after h.newest saved h.obtained h.made kept given a es (λ v k n. subst (λ m. k < m) (sym count) (h.cells_in v k n)) (λ v g. same_group h.world.store after holds v (h.newest v) (h.hold_groups v g))

    -- a variable is bound, and to no group
    with_binding : (e : Event) (s : Store) (u : VariableAt) (value : Value) (obtained : List ℕ) (kept : List InObject) → s.holds ≡ h.world.store.holds → s.cell_count ≡ h.world.store.cell_count → (a : Acts p h.world.store (0, 0) its (binding s its u value) (frame_at d (binds s its u).newest h.saved obtained h.made kept h.given ∷ [])) → events_of_act a ≡ record { at = at; order = order; event = e } ∷ [] → ComesSoFar (put_at hold u.number false) is_idle (with_event done at order e) d
    with_binding e s u value obtained kept holds count a es =
        let within = λ (v k : ℕ) (n : h.newest v ≡ Some k). subst (λ m. k < m) (sym count) (h.cells_in v k n) in
        acted hold (put_at hold u.number false) is_idle done _ c d h (binding s its u value) (binds s its u).newest h.saved obtained h.made kept h.given a es (newest_in s its u within) (λ v g. let w = unbound hold u.number v g in other_group s its u within (binding s its u value) (λ k n ne. refl) v w.0 (same_group h.world.store s holds v (h.newest v) (h.hold_groups v w.1)))

    -- a group is made
    with_made : (u : VariableAt) (state : GroupState) (context : Option ℕ) (s : Store) → s.holds ≡ h.world.store.holds → s.cell_count ≡ h.world.store.cell_count → Makes h.world.store state context s → Moves c (Some record { at = at; order = order; event = make u state }) d → ComesSoFar (put_at hold u.number true) is_idle (with_event done at order (make u state)) d
    with_made u state context s holds count makes m =
        let within = λ (v k : ℕ) (n : h.newest v ≡ Some k). subst (λ m. k < m) (sym count) (h.cells_in v k n) in
        let t = with_group s (frame_at_place (0, 0)) context in
        acted hold (put_at hold u.number true) is_idle done _ c d h _ _ h.saved h.obtained _ h.kept h.given (makes_group (next c d _ at order (make u state) refl refl m) makes) refl (newest_in t its u within) (λ v g. by t holds within v g (cases_eq v u.number))
      where
        by : (t : Store) → t.holds ≡ h.world.store.holds → (within : (v k : ℕ) → h.newest v ≡ Some k → k < t.cell_count) → (v : ℕ) → put_at hold u.number true v ≡ true → (v ≡ u.number) ⊎ (v ≡ u.number → ⊥) → (a : ℕ) × (group_in_cell (binding_group t its u s.group_count) v (put_at h.newest u.number (Some (bound_cell t its u)) v) ≡ Some a)
        by t holds within v g (inl q) =
            (s.group_count, ap (λ n. group_in_cell (binding_group t its u s.group_count) n (put_at h.newest u.number (Some (bound_cell t its u)) n)) q ∙ made_there t its u within s.group_count)
        by t holds within v g (inr q) =
            let held_before = h.hold_groups v (sym (put_at-other hold u.number true v q) ∙ g) in
            other_group t its u within (binding_group t its u s.group_count) (made_others t its u within s.group_count) v q (same_group h.world.store t holds v (h.newest v) held_before)

    past : (e : Event) → Moves c (Some record { at = at; order = order; event = e }) d → IsRunnable p b e → HasItsGroup hold e → (is_wait e ≡ true → is_idle ≡ true) → is_return e ≡ false → ComesSoFar (hold_after hold e) (idle_after is_idle e) (with_event done at order e) d
    past other m k i w n = with_same other _ _ _ _ (does_other (next c d _ at order other refl refl m)) refl refl refl
    past (obtain u g j is_new) m k i w n =
        with_binding (obtain u g j is_new) (with_new h.world.store None) u (cancel_function h.world.store.context_count) (h.world.store.context_count ∷ h.obtained) h.kept refl refl (obtains_one (next c d _ at order (obtain u g j is_new) refl refl m) (new_one None tt)) refl
    past (obtain_kept u g j x) m k i w n =
        with_binding (obtain_kept u g j x) (with_new h.world.store None) (own_cell u.number)
        (cancel_function h.world.store.context_count) (h.world.store.context_count ∷ h.obtained) _ refl refl
        (obtains_into (next c d _ at order (obtain_kept u g j x) refl refl m) (new_one None tt)) refl
    past (renew v x) m k i w n = with_same (renew v x) _ _ _ _ (renews_object (next c d _ at order (renew v x) refl refl m)) refl refl refl
    past (keep v x) m k i w n = with_same (keep v x) _ _ _ _ (keeps_one (next c d _ at order (keep v x) refl refl m)) refl refl refl
    past (call_kept v x) m k i w n =
        with_same (call_kept v x) _ _ _ _ (calls_kept (next c d _ at order (call_kept v x) refl refl m)) refl (calling_holds h.world.store (kept_value h.kept v x)) (calling_count h.world.store (kept_value h.kept v x))
    past (defer_kept v x) m k i w n = with_same (defer_kept v x) _ _ _ _ (saves_kept (next c d _ at order (defer_kept v x) refl refl m)) refl refl refl
    past (give v x) m k i w n = with_same (give v x) _ _ _ _ (gives_object (next c d _ at order (give v x) refl refl m)) refl refl refl
    past (give_field v) m k i w n = with_same (give_field v) _ _ _ _ (gives_in_field (next c d _ at order (give_field v) refl refl m)) refl refl refl
    past (clear u) m k i w n = with_binding (clear u) h.world.store u nothing h.obtained h.kept refl refl (clears_one (next c d _ at order (clear u) refl refl m)) refl
    past (call v) m k i w n =
        with_same (call v) _ _ _ _ (calls_one (next c d _ at order (call v) refl refl m)) refl (calling_holds h.world.store (held h.world.store its v)) (calling_count h.world.store (held h.world.store its v))
    past (defer_call v) m k i w n = with_same (defer_call v) _ _ _ _ (saves_call (next c d _ at order (defer_call v) refl refl m)) refl refl refl
    past (pass u g j) m k i w n = passed hold is_idle done c d at order h u g j m k
    past (defer_pass u g j) m k i w n = saved_pass_of hold is_idle done c d at order h u g j m
    past (lend v g j) m k i w n = lent hold is_idle done c d at order h v g j m k
    past (start v None) m k i w n =
        let holds = h.hold_groups v i in
        started_stranger hold is_idle done c d at order h v holds.0 holds.1 m (goroutines_are_free p h.world h.run)
    past (start v (Some offset)) m k i w n =
        let holds = h.hold_groups v i in
        started_literal_of hold is_idle done c d at order h v holds.0 offset holds.1 m (goroutines_are_free p h.world h.run) k
    past (try v None) m k i w n = with_same (try v None) _ _ _ _ (tries_nothing (next c d _ at order (try v None) refl refl m)) refl refl refl
    past (try v (Some offset)) m k i w n = with_same (try v (Some offset)) _ _ _ _ (tries_nothing (next c d _ at order (try v (Some offset)) refl refl m)) refl refl refl
    past (wait v) m k i w n =
        let group = held_group h.world.store its v in
        let same = waiting_same h.world.store group in
        with_same (wait v) _ _ _ _ (ends_wait (next c d _ at order (wait v) refl refl m) (may_end h.world.store group (h.no_members (w refl)))) refl same.0 same.1
    past (defer_wait v) m k i w n = with_same (defer_wait v) _ _ _ _ (saves_wait (next c d _ at order (defer_wait v) refl refl m)) refl refl refl
    past (make u idle) m k i w n = with_made u idle None h.world.store refl refl zero_group m
    past (make u live) m k i w n = with_made u live _ _ refl refl (with_context None tt) m
    past (defer_literal offset) m k i w n =
        with_same (defer_literal offset) _ _ _ _ (saves_literal k.0 (next c d _ at order (defer_literal offset) refl refl m) k.1 k.2) refl refl refl
    past (go (go_call v)) m k i w n =
        let e = go (go_call v) in
        calling_too hold is_idle done c d at order h e _
        (starts_call 0 record { is_running = h.is_only; does_next = next c d _ at order e refl refl m }) refl
    past (go (go_pass g xs)) m k i w n =
        let e = go (go_pass g xs) in
        calling_too hold is_idle done c d at order h e _
        (starts_foreign 0 record { is_running = h.is_only; does_next = next c d _ at order e refl refl m } k) refl
    past (go (go_literal offset)) m k i w n =
        gone_literal_of hold is_idle done c d at order h offset m (goroutines_are_free p h.world h.run) k
    past (return_event handed) m k i w n = absurd (true≢false n)

  -- a return is taken, whatever is left
  returned : (hold : ℕ → Bool) (is_idle : Bool) (done : List (Occurrence Event)) (c d rest : Code Event) (at order : ℕ) (e : Event) → Moves c (Some record { at = at; order = order; event = e }) d → is_return e ≡ true → ComesSoFar hold is_idle done c → ComesToEnd done (record { at = at; order = order; event = e } ∷ []) rest
  returned hold is_idle done c d rest at order (return_event handed) m n h = record {
    world = _;
    run = act h.world _ _ _ h.run h.is_only (comes_to_return (next c d _ at order (return_event handed) refl refl m));
    frame = _;
    is_only = refl;
    is_its = refl;
    none_waits = refl;
    has_events = ap (λ l. l ++ record { at = at; order = order; event = return_event handed } ∷ []) h.has_events;
    stands_there = refl;
  }
  returned hold is_idle done c d rest at order other m n h = absurd (true≢false (sym n))
  returned hold is_idle done c d rest at order (obtain u f j is_new) m n h = absurd (true≢false (sym n))
  returned hold is_idle done c d rest at order (clear u) m n h = absurd (true≢false (sym n))
  returned hold is_idle done c d rest at order (obtain_kept u f j x) m n h = absurd (true≢false (sym n))
  returned hold is_idle done c d rest at order (renew v x) m n h = absurd (true≢false (sym n))
  returned hold is_idle done c d rest at order (keep v x) m n h = absurd (true≢false (sym n))
  returned hold is_idle done c d rest at order (call_kept v x) m n h = absurd (true≢false (sym n))
  returned hold is_idle done c d rest at order (defer_kept v x) m n h = absurd (true≢false (sym n))
  returned hold is_idle done c d rest at order (give v x) m n h = absurd (true≢false (sym n))
  returned hold is_idle done c d rest at order (give_field v) m n h = absurd (true≢false (sym n))
  returned hold is_idle done c d rest at order (call v) m n h = absurd (true≢false (sym n))
  returned hold is_idle done c d rest at order (defer_call v) m n h = absurd (true≢false (sym n))
  returned hold is_idle done c d rest at order (pass u f j) m n h = absurd (true≢false (sym n))
  returned hold is_idle done c d rest at order (defer_pass u f j) m n h = absurd (true≢false (sym n))
  returned hold is_idle done c d rest at order (lend v f j) m n h = absurd (true≢false (sym n))
  returned hold is_idle done c d rest at order (start v literal) m n h = absurd (true≢false (sym n))
  returned hold is_idle done c d rest at order (try v literal) m n h = absurd (true≢false (sym n))
  returned hold is_idle done c d rest at order (wait v) m n h = absurd (true≢false (sym n))
  returned hold is_idle done c d rest at order (defer_wait v) m n h = absurd (true≢false (sym n))
  returned hold is_idle done c d rest at order (make v state) m n h = absurd (true≢false (sym n))
  returned hold is_idle done c d rest at order (defer_literal offset) m n h = absurd (true≢false (sym n))
  returned hold is_idle done c d rest at order (go work) m n h = absurd (true≢false (sym n))

  -- one more event in front
  after_one : (done t : List (Occurrence Event)) (o : Occurrence Event) (rest : Code Event) → ends_in_return (o ∷ t) ≡ ends_in_return t → ComesToEnd (done ++ o ∷ []) t rest → ComesToEnd done (o ∷ t) rest
  after_one done t o rest same k = record {
    world = k.world;
    run = k.run;
    frame = k.frame;
    is_only = k.is_only;
    is_its = k.is_its;
    none_waits = k.none_waits;
    has_events = k.has_events ∙ append_assoc done (o ∷ []) t;
    stands_there = k.stands_there ∙ ap (λ r. cond r exits (runs rest)) (sym same);
  }

  abbrev AllRunnable : List (Occurrence Event) → Type 0
  AllRunnable t = (o : Occurrence Event) → Contains t o → IsRunnable p b o.event

  -- no Wait is among these, unless no literal was started
  abbrev NoneWaits : Bool → List (Occurrence Event) → Type 0
  NoneWaits is_idle t = (o : Occurrence Event) → Contains t o → is_wait o.event ≡ true → is_idle ≡ true

  none_waits_later : (is_idle : Bool) (o : Occurrence Event) (t : List (Occurrence Event)) → (is_start_of_literal o.event ≡ true → (q : Occurrence Event) → Contains t q → is_wait q.event ≡ false) → NoneWaits is_idle (o ∷ t) → NoneWaits (idle_after is_idle o.event) t
  none_waits_later is_idle o t after before q among waits = by (is_start_of_literal o.event) refl
    where
      by : (x : Bool) → is_start_of_literal o.event ≡ x → cond x false is_idle ≡ true
      by true is = absurd (true≢false (sym waits ∙ after is q among))
      by false is = before q (contains_there o q t among) waits

  through : (hold : ℕ → Bool) (is_idle : Bool) (done t : List (Occurrence Event)) (c rest : Code Event) → Does c t rest → AllRunnable t → GroupsComeFirst hold t → WaitsComeFirst t → NoneWaits is_idle t → ReturnsComeLast t → ComesSoFar hold is_idle done c → ComesToEnd done t rest
  through hold is_idle done t c rest stays each groups waits none last h = record {
    world = h.world;
    run = h.run;
    frame = _;
    is_only = h.is_only;
    is_its = refl;
    none_waits = refl;
    has_events = h.has_events ∙ sym (append-nil done);
    stands_there = refl;
  }
  through hold is_idle done t c rest (silently {d = d} m r) each groups waits none last h =
      through hold is_idle done t d rest r each groups waits none last (moved hold is_idle done c d m h)
  through hold is_idle done t c rest (by_event {d = d} {o = o} {t = []} m r) each groups waits none last h =
      elim (is_or_not (is_return o.event)) [
        | inl y ↦ returned hold is_idle done c d rest o.at o.order o.event m y h
        | inr n ↦ after_one done [] o rest n (through (hold_after hold o.event) (idle_after is_idle o.event) (done ++ o ∷ []) [] d rest r (λ q g. each q (contains_there o q [] g)) groups.1 waits.1 (none_waits_later is_idle o [] waits.0 none) tt (past hold is_idle done c d o.at o.order h o.event m (each o (contains_here o [])) groups.0 (none o (contains_here o [])) n))
      ]
  through hold is_idle done t c rest (by_event {d = d} {o = o} {t = q ∷ u} m r) each groups waits none last h =
      after_one done (q ∷ u) o rest refl (through (hold_after hold o.event) (idle_after is_idle o.event) (done ++ o ∷ []) (q ∷ u) d rest r (λ v g. each v (contains_there o v (q ∷ u) g)) groups.1 waits.1 (none_waits_later is_idle o (q ∷ u) waits.0 none) last.1 (past hold is_idle done c d o.at o.order h o.event m (each o (contains_here o (q ∷ u))) groups.0 (none o (contains_here o (q ∷ u))) last.0))

  -- one group of the environment is at each parameter
  began : IsOf p b → IsOutermost b → ComesSoFar (is_parameter_of b) true [] (code_of b)
  began of out = record {
    world = _;
    run = step_more (step_more no_step (of_environment (makes_outside None tt))) (of_environment (starts 0 b (λ v. nothing) (λ v. Some 0) refl of out record { any = λ v. any_nothing; foreign = λ v. outside_group refl }));
    newest = _;
    saved = [];
    obtained = [];
    made = [];
    kept = [];
    given = [];
    is_only = refl;
    has_events = refl;
    cells_in = λ v k e. in_first v k (is_parameter_of b v) (is_captured_by b v) e;
    hold_groups = λ v e. (0, ap (λ x. group_in_cell (with_cells (with_group empty_world.store outside None) (λ n. nothing) (λ n. Some 0)) v (cond x (Some 0) (cond (is_captured_by b v) None None))) e);
    no_members = λ i g. refl;
  }
    where
      in_first : (v k : ℕ) (x y : Bool) → cond x (Some 0) (cond y None None) ≡ Some k → k < 1
      in_first v k true y e = let same : 0 ≡ k = cc in omega (arith, same)
      in_first v k false true e = absurd (no_group_in k e)
      in_first v k false false e = absurd (no_group_in k e)

  gone_through : (t : List (Occurrence Event)) (x : Exit) (can : CanDo (code_of b) t x) → ComesToEnd [] t can.rest → HasGoneThrough p b t x
  gone_through t x can k = record {
    world = k.world;
    run = k.run;
    has_events = k.has_events;
    goroutine = 0;
    frame = k.frame;
    is_only = k.is_only;
    is_its = k.is_its;
    none_waits = k.none_waits;
    rest = can.rest;
    does_it = can.does_it;
    is_left = can.is_left;
    stands_there = k.stands_there;
  }

pub lists_are_run : ListsAreRun
lists_are_run p b t x of out lists each groups waits last =
    let can = list_is_done (code_of b) t x lists in
    gone_through p b t x can (through p b (is_parameter_of b) true [] t (code_of b) can.rest can.does_it each groups waits (λ o among is. refl) last (began p b of out))

pub bodies_are_of_texts : BodiesAreOfTexts
bodies_are_of_texts p b of texts =
    let found = of_number (known_in p.packages p.tables of.loaded) 0 (trees_of of.loaded) b.file of.is_file in
    let of_text = texts found.1 found.3 in
    record {
      text = of_text.0;
      tree = found.1;
      known = known_in p.packages p.tables of.loaded found.0;
      is_tree = of_text.1;
      is_file = sym found.2;
    }

runnable_of_text : (p : Program) (b : Body) (e : Event)
    → ((at : ℕ) → e ≡ defer_literal at → IsThere b (Some at))
    → ((at : ℕ) → e ≡ go (go_literal at) → IsThere b (Some at))
    → ((v at : ℕ) → Starts e v (Some at) → IsThere b (Some at))
    → IsRunnableOfText p b e
    → IsRunnable p b e
runnable_of_text p b (defer_literal at) there gone started h = there at refl
runnable_of_text p b (go (go_call v)) there gone started h = h
runnable_of_text p b (go (go_pass f xs)) there gone started h = h
runnable_of_text p b (go (go_literal at)) there gone started h = gone at refl
runnable_of_text p b other there gone started h = h
runnable_of_text p b (obtain u c n is_new) there gone started h = h
runnable_of_text p b (clear u) there gone started h = h
runnable_of_text p b (obtain_kept u c n x) there gone started h = h
runnable_of_text p b (renew v x) there gone started h = h
runnable_of_text p b (keep v x) there gone started h = h
runnable_of_text p b (call_kept v x) there gone started h = h
runnable_of_text p b (defer_kept v x) there gone started h = h
runnable_of_text p b (give v x) there gone started h = h
runnable_of_text p b (give_field v) there gone started h = h
runnable_of_text p b (call v) there gone started h = h
runnable_of_text p b (defer_call v) there gone started h = h
runnable_of_text p b (pass u c n) there gone started h = h
runnable_of_text p b (defer_pass u c n) there gone started h = h
runnable_of_text p b (lend g c n) there gone started h = h
runnable_of_text p b (start g None) there gone started h = tt
runnable_of_text p b (start g (Some at)) there gone started h = started g at by_start
runnable_of_text p b (try g literal) there gone started h = h
runnable_of_text p b (wait g) there gone started h = h
runnable_of_text p b (defer_wait g) there gone started h = h
runnable_of_text p b (make u state) there gone started h = h
runnable_of_text p b (return_event handed) there gone started h = h

pub lists_of_texts_are_run : ListsOfTextsAreRun
lists_of_texts_are_run p b t x of out text lists each groups waits =
    lists_are_run p b t x of out lists (λ o among. runnable_of_text p b o.event
    (λ at. deferred_literals_are_there b t x o at text lists among)
    (λ at. gone_literals_are_there b t x o at text lists among)
    (λ v at. started_literals_are_there b t x o v at text lists among) (each o among))
    groups waits (returns_are_last b t x text of.is_body lists)
