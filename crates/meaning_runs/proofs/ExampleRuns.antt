-- A run of each example, to a return.
use Rattle.std.proofs.Common.{◌≡◌, ℕ, ◌<◌, cond, inl, inr, Bool, List, [], ◌∷◌, ◌++◌, length, Option, Some, None, Contains, refl, sym, ap, ◌∙◌, subst, arith}
use Rattle.meaning.specs.Code.{Occurrence, Code, skip, does, then_code}
use Rattle.meaning.specs.Uses.{Callee, Event, other, call, defer_call, defer_literal, return_event}
use Rattle.meaning.proofs.Membership.{contains_here, contains_there, contains_cases, contains_nil}
use Rattle.meaning_runs.specs.Bodies.{Program, Body, IsOf, IsOutermost, is_captured_by, code_of}
use Rattle.meaning_runs.specs.World.{Value, nothing, cancel_function, Store, put_at, cell_or, with_new, calling, any_function, outside_none, Given, runs, Frame, World, empty_world, with_stack, with_cells, in_cell, held, new_frame, nothing_around}
use Rattle.meaning_runs.specs.Moves.{Moves, happens, first_moves, first_is_done}
use Rattle.meaning_runs.specs.Steps.{GoesOn, ComesTo, DoesNext, IsAtEnd, new_one, is_first, Fits, of_function, Acts, moves_on, does_other, obtains_one, calls_one, saves_call, evaluates, makes_call, saves_literal, comes_to_return, runs_call, runs_literal, returns_now, starts, of_goroutine, of_environment}
use Rattle.meaning_runs.specs.Runs.{Run, no_step, step_more, Owes}
use Rattle.meaning_runs.specs.Examples.{program_with, saving, forgetting, passing, taking, deferring, overwriting}
use Rattle.meaning_runs.specs.Returns.{HasQuietReturn, HasLoudReturn, ReturnsExist}
use Rattle.meaning_runs.proofs.Contexts.{put_at-same, put_at-other, called_done, run_is_sound}
use Rattle.meaning_runs.proofs.FreeGoroutines.{none_given}
use Rattle.meaning_runs.proofs.Places.{called_now}
use Rattle.meaning_runs.proofs.ExampleBodies.{one, body_in, place_of, event_at, obtains, passed, both, literal, saving_is_of, saving_is_outermost, saving_is, forgetting_is_of, forgetting_is_outermost, forgetting_is, passing_is_of, passing_is_outermost, passing_is, deferring_is_of, deferring_is_outermost, deferring_is, taking_is_function, taking_is, has_parameter, literal_is_in, literal_is, has_no_parameter, captures_it, assigns, overwriting_is_of, overwriting_is_outermost, overwriting_is}

-- the one goroutine acts
pub act : (p : Program) (w : World) (f : Frame) (others : List Frame) (after : Store) (frames : List Frame) → Run p w → w.stacks 0 ≡ f ∷ others → Acts p w.store (0, length others) f after frames → Run p (with_stack w after 0 (frames ++ others))
act p w f others after frames r at a = step_more r (of_goroutine 0 at a)

pub goes : (f : Frame) (o : Option (Occurrence Event)) (c d : Code Event) → f.stage ≡ runs c → Moves c o d → GoesOn f o d
goes f o c d e m = record { code = c; stage = e; moves = m }

pub comes_at : (f : Frame) (at : ℕ) (e : Event) (c d : Code Event) → f.stage ≡ runs c → Moves c (Some (event_at at e)) d → ComesTo f e d
comes_at f at e c d s m = record { at = at; order = 0; goes_on = goes f _ c d s m }

pub next_at : (f : Frame) (at : ℕ) (e : Event) (c d : Code Event) → f.stage ≡ runs c → Moves c (Some (event_at at e)) d → f.waiting ≡ None → DoesNext f e d
next_at f at e c d s m n = record { comes_to = comes_at f at e c d s m; none_waits = n }

-- the world in which the environment has called a function
abbrev pub begun : Body → World
begun b = with_stack empty_world (with_cells empty_world.store (λ v. nothing) (λ v. None)) 0 (new_frame empty_world.store b nothing_around ∷ [])

pub begins : (p : Program) (b : Body) → IsOf p b → IsOutermost b → Run p (begun b)
begins p b h out = step_more no_step (of_environment (starts 0 b (λ v. nothing) (λ v. None) refl h out (none_given empty_world.store)))

-- the one function that was obtained
pub only_one : {A : Type 0} (x y : A) → Contains (x ∷ []) y → x ≡ y
only_one x y h = elim (contains_cases x y [] h) [ inl e ↦ e | inr g ↦ absurd (contains_nil y g) ]

owes_first : (f : Frame) → Contains f.obtained 0 → f.handed_on ≡ [] → f.given_away ≡ [] → Owes f 0
owes_first f h none own = record {
  was_obtained = h;
  is_kept = λ x. contains_nil (cancel_function 0) (subst (λ l. Contains l (cancel_function 0)) none x);
  is_its_own = λ x. contains_nil (cancel_function 0) (subst (λ l. Contains l (cancel_function 0)) own x);
}

-- the frame owes one function, which was called
pub quiet_of : (p : Program) (w : World) (f : Frame) → Run p w → w.stacks 0 ≡ f ∷ [] → IsAtEnd f → f.body.home ≡ p.looked_at → f.obtained ≡ 0 ∷ [] → f.handed_on ≡ [] → f.given_away ≡ [] → f.made ≡ [] → Contains w.store.called 0 → HasQuietReturn p
quiet_of p w f run at end home obtained none own unmade called =
    (w, f, record { run = run; is_returning = record { goroutine = 0; others = []; is_running = at; is_at_end = end }; is_of_package = home; owed = 0; owes = owes_first f (subst (λ l. Contains l 0) (sym obtained) (contains_here 0 [])) none own }, record { called = each; done = λ a b o h. called_done w.store a b (run_is_sound p w run) (each a o) h; ended = λ group m. absurd (no_group group m); groups_done = λ group a m is. absurd (no_group group m) })
  where
    no_group : (group : ℕ) → Contains f.made group → ⊥
    no_group group m = contains_nil group (subst (λ l. Contains l group) unmade m)

    each : (a : ℕ) → Owes f a → Contains w.store.called a
    each a o = subst (λ n. Contains w.store.called n) (only_one 0 a (subst (λ l. Contains l a) obtained o.was_obtained)) called

loud : HasLoudReturn (program_with (forgetting ∷ []))
loud =
    let r1 = act _ _ _ _ _ _ (begins _ _ forgetting_is_of forgetting_is_outermost) refl (does_other (next_at _ 55 other _ _ (ap runs forgetting_is) (first_moves happens) refl)) in
    let r2 = act _ _ _ _ _ _ r1 refl (moves_on (goes _ _ _ _ refl first_is_done)) in
    let r3 = act _ _ _ _ _ _ r2 refl (obtains_one (next_at _ 58 obtains _ _ refl (first_moves (first_moves (first_moves happens))) refl) (new_one None tt)) in
    let r4 = act _ _ _ _ _ _ r3 refl (moves_on (goes _ _ _ _ refl (first_moves (first_moves first_is_done)))) in
    let r5 = act _ _ _ _ _ _ r4 refl (moves_on (goes _ _ _ _ refl (first_moves first_is_done))) in
    let r6 = act _ _ _ _ _ _ r5 refl (moves_on (goes _ _ _ _ refl first_is_done)) in
    let r7 = act _ _ _ _ _ _ r6 refl (comes_to_return (next_at _ 93 (return_event []) _ _ refl happens refl)) in
    (_, _, record { run = r7; is_returning = record { goroutine = 0; others = []; is_running = refl; is_at_end = record { stage = refl; saved = refl } }; is_of_package = refl; owed = 0; owes = owes_first _ (contains_here 0 []) refl refl }, λ q. contains_nil 0 (q.called 0 (owes_first _ (contains_here 0 []) refl refl)))

-- what the call of `g` gives, and a parameter that fits it
pub fits_g : (b : Body) (s : Store) (value : Value) (callee : Callee) (is_deferred : Bool) → 0 < s.context_count → value ≡ cancel_function 0 → Fits s b record { callee = callee; is_deferred = is_deferred; given = record { position = 0; value = value } ∷ []; lent = [] } (λ v. cancel_function 0) (λ v. None)
fits_g b s value callee is_deferred more is = record {
  same = λ v x among h role. sym is ∙ ap (λ (y : Given). y.value) (only_one _ x h);
  any = λ v. any_function more;
  same_group = λ v y among h role. absurd (contains_nil y h);
  other_groups = λ v. inr outside_none;
}

-- what the parameter of `g` holds
holds_parameter : (s : Store) (t : Store) → t.cells s.cell_count 114 ≡ cancel_function 0 → held t (new_frame s (body_in both (place_of taking)) nothing_around) 114 ≡ cancel_function 0
holds_parameter s t e = ap (λ b. in_cell t 114 (cond b (Some s.cell_count) (cond (is_captured_by (body_in both (place_of taking)) 114) None None))) has_parameter ∙ e

-- The frame has obtained its function, and stands before the next event.
abbrev standing : Body → Code Event → (ℕ → Option ℕ) → Frame
standing b c newest = record {
  body = b;
  stage = runs c;
  newest = newest;
  waiting = None;
  saved = [];
  obtained = 0 ∷ [];
  made = [];
  kept = [];
  given_away = [];
  handed_on = [];
}

record Stands (p : Program) (b : Body) (c : Code Event) : Type 0 where
  world : World
  newest : ℕ → Option ℕ
  run : Run p world
  is_running : world.stacks 0 ≡ standing b c newest ∷ []
  has_cell : newest 61 ≡ Some 1
  holds_it : world.store.cells 1 61 ≡ cancel_function 0
  none_called : world.store.called ≡ []
  has_context : 0 < world.store.context_count
  has_more : 1 < world.store.cell_count

-- what is left before the event
abbrev before : ℕ → Event → ℕ → Code Event
before at e end = then_code (then_code (one (event_at at e)) skip) (does (event_at end (return_event [])))

obtained_one : (p : Program) (b : Body) (rest : Code Event) (end : Occurrence Event) → IsOf p b → IsOutermost b → code_of b ≡ then_code (does (event_at 55 other)) (then_code (then_code (one (event_at 58 obtains)) rest) (does end)) → Stands p b (then_code rest (does end))
obtained_one p b rest end of out is =
    let r1 = act _ _ _ _ _ _ (begins p b of out) refl (does_other (next_at _ 55 other _ _ (ap runs is) (first_moves happens) refl)) in
    let r2 = act _ _ _ _ _ _ r1 refl (moves_on (goes _ _ _ _ refl first_is_done)) in
    let r3 = act _ _ _ _ _ _ r2 refl (obtains_one (next_at _ 58 obtains _ _ refl (first_moves (first_moves (first_moves happens))) refl) (new_one None tt)) in
    let r4 = act _ _ _ _ _ _ r3 refl (moves_on (goes _ _ _ _ refl (first_moves (first_moves first_is_done)))) in
    let r5 = act _ _ _ _ _ _ r4 refl (moves_on (goes _ _ _ _ refl (first_moves first_is_done))) in
    record { world = _; newest = _; run = r5; is_running = refl; has_cell = refl; holds_it = refl; none_called = refl; has_context = omega arith; has_more = omega arith }

quiet : HasQuietReturn (program_with (saving ∷ []))
quiet = from_there (obtained_one _ _ _ _ saving_is_of saving_is_outermost saving_is)
  where
    from_there : Stands (program_with (saving ∷ [])) (body_in (saving ∷ []) (place_of saving)) (before 94 (defer_call 61) 109) → HasQuietReturn (program_with (saving ∷ []))
    from_there h =
        let value = cancel_function 0 in
        let holds : held h.world.store (standing (body_in (saving ∷ []) (place_of saving)) (before 94 (defer_call 61) 109) h.newest) 61 ≡ value = ap (in_cell h.world.store 61) h.has_cell ∙ h.holds_it in
        let r1 = act _ h.world _ _ _ _ h.run h.is_running (saves_call (next_at _ 94 (defer_call 61) _ _ refl (first_moves (first_moves (first_moves happens))) refl)) in
        let r2 = act _ _ _ _ _ _ r1 refl (moves_on (goes _ _ _ _ refl (first_moves (first_moves first_is_done)))) in
        let r3 = act _ _ _ _ _ _ r2 refl (moves_on (goes _ _ _ _ refl (first_moves first_is_done))) in
        let r4 = act _ _ _ _ _ _ r3 refl (moves_on (goes _ _ _ _ refl first_is_done)) in
        let r5 = act _ _ _ _ _ _ r4 refl (comes_to_return (next_at _ 109 (return_event []) _ _ refl happens refl)) in
        let r6 = act _ _ _ _ _ _ r5 refl (runs_call record { stage = refl; saved = refl }) in
        quiet_of _ _ _ r6 refl record { stage = refl; saved = refl } refl refl refl refl refl (called_now h.world.store _ 0 holds)

quiet_by_call : HasQuietReturn (program_with both)
quiet_by_call = from_there (obtained_one _ _ _ _ passing_is_of passing_is_outermost passing_is)
  where
    from_there : Stands (program_with both) (body_in both (place_of passing)) (before 94 passed 104) → HasQuietReturn (program_with both)
    from_there h =
        let r6 = act _ h.world _ _ _ _ h.run h.is_running (evaluates (comes_at _ 94 passed _ _ refl (first_moves (first_moves (first_moves happens)))) is_first) in
        let r7 = act _ _ _ _ _ _ r6 refl (makes_call record { stage = refl; waits = refl } refl (of_function (body_in both (place_of taking)) (λ v. cancel_function 0) (λ v. None) taking_is_function (fits_g _ h.world.store _ _ _ h.has_context (ap (in_cell h.world.store 61) h.has_cell ∙ h.holds_it)))) in
        let g1 = act _ _ _ _ _ _ r7 refl (does_other (next_at _ 136 other _ _ (ap runs taking_is) (first_moves happens) refl)) in
        let g2 = act _ _ _ _ _ _ g1 refl (moves_on (goes _ _ _ _ refl first_is_done)) in
        let g3 = act _ _ _ _ _ _ g2 refl (calls_one {v = 114} (next_at _ 139 (call 114) _ _ refl (first_moves (first_moves (first_moves happens))) refl)) in
        let g4 = act _ _ _ _ _ _ g3 refl (moves_on (goes _ _ _ _ refl (first_moves (first_moves first_is_done)))) in
        let g5 = act _ _ _ _ _ _ g4 refl (moves_on (goes _ _ _ _ refl (first_moves first_is_done))) in
        let g6 = act _ _ _ _ _ _ g5 refl (moves_on (goes _ _ _ _ refl first_is_done)) in
        let g7 = act _ _ _ _ _ _ g6 refl (comes_to_return (next_at _ 143 (return_event []) _ _ refl happens refl)) in
        let g8 = act _ _ _ _ _ _ g7 refl (returns_now record { stage = refl; saved = refl }) in
        let r8 = act _ _ _ _ _ _ g8 refl (moves_on (goes _ _ _ _ refl (first_moves (first_moves first_is_done)))) in
        let r9 = act _ _ _ _ _ _ r8 refl (moves_on (goes _ _ _ _ refl (first_moves first_is_done))) in
        let r10 = act _ _ _ _ _ _ r9 refl (moves_on (goes _ _ _ _ refl first_is_done)) in
        let r11 = act _ _ _ _ _ _ r10 refl (comes_to_return (next_at _ 104 (return_event []) _ _ refl happens refl)) in
        quiet_of _ _ _ r11 refl record { stage = refl; saved = refl } refl refl refl refl refl (called_now (with_cells h.world.store (λ v. cancel_function 0) (λ v. None)) _ 0 (holds_parameter h.world.store (with_cells h.world.store (λ v. cancel_function 0) (λ v. None)) (ap (λ (c : ℕ → Value). c 114) (put_at-same h.world.store.cells h.world.store.cell_count (λ v. cancel_function 0)))))

-- what the literal's variable around it holds
holds_around : (s : Store) (t : Store) (around : ℕ → Option ℕ) (k : ℕ) → around 61 ≡ Some k → t.cells k 61 ≡ cancel_function 0 → held t (new_frame s (body_in (deferring ∷ []) literal) around) 61 ≡ cancel_function 0
holds_around s t around k n e =
    ap (λ b. in_cell t 61 (cond b (Some s.cell_count) (cond (is_captured_by (body_in (deferring ∷ []) literal) 61) (around 61) None))) has_no_parameter
    ∙ ap (λ b. in_cell t 61 (cond b (around 61) None)) captures_it
    ∙ ap (in_cell t 61) n
    ∙ e

still_there : (h : Stands (program_with (deferring ∷ [])) (body_in (deferring ∷ []) (place_of deferring)) (before 94 (defer_literal 100) 122)) → (with_cells h.world.store (λ v. nothing) (λ v. None)).cells 1 61 ≡ cancel_function 0
still_there h = ap (λ (c : ℕ → Value). c 61) (put_at-other h.world.store.cells h.world.store.cell_count (λ v. nothing) 1 (λ q. let more = h.has_more in omega (arith, q, more))) ∙ h.holds_it

quiet_by_literal : HasQuietReturn (program_with (deferring ∷ []))
quiet_by_literal = from_there (obtained_one _ _ _ _ deferring_is_of deferring_is_outermost deferring_is)
  where
    from_there : Stands (program_with (deferring ∷ [])) (body_in (deferring ∷ []) (place_of deferring)) (before 94 (defer_literal 100) 122) → HasQuietReturn (program_with (deferring ∷ []))
    from_there h =
        let r6 = act _ h.world _ _ _ _ h.run h.is_running (saves_literal (body_in (deferring ∷ []) literal) (next_at _ 94 (defer_literal 100) _ _ refl (first_moves (first_moves (first_moves happens))) refl) literal_is_in refl) in
        let r7 = act _ _ _ _ _ _ r6 refl (moves_on (goes _ _ _ _ refl (first_moves (first_moves first_is_done)))) in
        let r8 = act _ _ _ _ _ _ r7 refl (moves_on (goes _ _ _ _ refl (first_moves first_is_done))) in
        let r9 = act _ _ _ _ _ _ r8 refl (moves_on (goes _ _ _ _ refl first_is_done)) in
        let r10 = act _ _ _ _ _ _ r9 refl (comes_to_return (next_at _ 122 (return_event []) _ _ refl happens refl)) in
        let r11 = act _ _ _ _ _ _ r10 refl (runs_literal (λ v. nothing) (λ v. None) record { stage = refl; saved = refl } (none_given _)) in
        let g1 = act _ _ _ _ _ _ r11 refl (does_other (next_at _ 107 other _ _ (ap runs literal_is) (first_moves happens) refl)) in
        let g2 = act _ _ _ _ _ _ g1 refl (moves_on (goes _ _ _ _ refl first_is_done)) in
        let g3 = act _ _ _ _ _ _ g2 refl (calls_one {v = 61} (next_at _ 109 (call 61) _ _ refl (first_moves (first_moves (first_moves happens))) refl)) in
        let g4 = act _ _ _ _ _ _ g3 refl (moves_on (goes _ _ _ _ refl (first_moves (first_moves first_is_done)))) in
        let g5 = act _ _ _ _ _ _ g4 refl (moves_on (goes _ _ _ _ refl (first_moves first_is_done))) in
        let g6 = act _ _ _ _ _ _ g5 refl (moves_on (goes _ _ _ _ refl first_is_done)) in
        let g7 = act _ _ _ _ _ _ g6 refl (comes_to_return (next_at _ 118 (return_event []) _ _ refl happens refl)) in
        let g8 = act _ _ _ _ _ _ g7 refl (returns_now record { stage = refl; saved = refl }) in
        quiet_of _ _ _ g8 refl record { stage = refl; saved = refl } refl refl refl refl refl (called_now (with_cells h.world.store (λ v. nothing) (λ v. None)) _ 0 (holds_around h.world.store (with_cells h.world.store (λ v. nothing) (λ v. None)) h.newest 1 h.has_cell (still_there h)))

-- a later function was called, and the first one not
first_uncalled : (t : Store) (value : Value) (n : ℕ) → value ≡ cancel_function n → t.called ≡ [] → 0 < n → Contains (calling t value).called 0 → ⊥
first_uncalled t nothing n e none more h = let bad : nothing ≡ cancel_function n = e in cc
first_uncalled t (cancel_function m) n e none more h =
    let same : m ≡ n = cc in
    elim (contains_cases m 0 t.called h) [
      | inl q ↦ omega (arith, same, more, q)
      | inr g ↦ contains_nil 0 (subst (λ l. Contains l 0) none g)
    ]

abbrev assigning : Code Event
assigning = then_code (one (event_at 94 assigns)) (then_code (one (event_at 129 (call 61))) skip)

loud_by_assignment : HasLoudReturn (program_with (overwriting ∷ []))
loud_by_assignment = from_there (obtained_one _ _ assigning (event_at 138 (return_event [])) overwriting_is_of overwriting_is_outermost overwriting_is)
  where
    from_there : Stands (program_with (overwriting ∷ [])) (body_in (overwriting ∷ []) (place_of overwriting)) (then_code assigning (does (event_at 138 (return_event [])))) → HasLoudReturn (program_with (overwriting ∷ []))
    from_there h =
        let s = with_new h.world.store None in
        let k = cell_or s.cell_count (h.newest 61) in
        let value = cancel_function h.world.store.context_count in
        let r6 = act _ h.world _ _ _ _ h.run h.is_running (obtains_one (next_at _ 94 assigns _ _ refl (first_moves (first_moves (first_moves happens))) refl) (new_one None tt)) in
        let r7 = act _ _ _ _ _ _ r6 refl (moves_on (goes _ _ _ _ refl (first_moves (first_moves first_is_done)))) in
        let r8 = act _ _ _ _ _ _ r7 refl (moves_on (goes _ _ _ _ refl (first_moves first_is_done))) in
        let r9 = act _ _ _ _ _ _ r8 refl (calls_one {v = 61} (next_at _ 129 (call 61) _ _ refl (first_moves (first_moves (first_moves happens))) refl)) in
        let r10 = act _ _ _ _ _ _ r9 refl (moves_on (goes _ _ _ _ refl (first_moves (first_moves first_is_done)))) in
        let r11 = act _ _ _ _ _ _ r10 refl (moves_on (goes _ _ _ _ refl (first_moves first_is_done))) in
        let r12 = act _ _ _ _ _ _ r11 refl (moves_on (goes _ _ _ _ refl first_is_done)) in
        let r13 = act _ _ _ _ _ _ r12 refl (comes_to_return (next_at _ 138 (return_event []) _ _ refl happens refl)) in
        (_, _, record { run = r13; is_returning = record { goroutine = 0; others = []; is_running = refl; is_at_end = record { stage = refl; saved = refl } }; is_of_package = refl; owed = 0; owes = owes_first _ (contains_there h.world.store.context_count 0 (0 ∷ []) (contains_here 0 [])) refl refl }, λ q. first_uncalled _ _ h.world.store.context_count (ap (λ (c : ℕ → Value). c 61) (put_at-same s.cells k (put_at (s.cells k) 61 value))) h.none_called h.has_context (q.called 0 (owes_first _ (contains_there h.world.store.context_count 0 (0 ∷ []) (contains_here 0 [])) refl refl)))

pub returns_exist : ReturnsExist
returns_exist = record {
  saving_is_quiet = quiet;
  passing_is_quiet = quiet_by_call;
  deferring_is_quiet = quiet_by_literal;
  forgetting_is_loud = loud;
  overwriting_is_loud = loud_by_assignment;
}
