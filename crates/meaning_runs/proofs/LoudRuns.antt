-- A run of each example that loses its cancel function, to a return.
use Rattle.std.proofs.Common.{◌≡◌, ℕ, ◌<◌, [], ◌∷◌, Option, Some, None, Contains, refl, sym, ap, ◌∙◌, subst, arith}
use Rattle.meaning.specs.Code.{Code, returning, skip, does, leave, then_code}
use Rattle.meaning.specs.Uses.{Event, other, defer_literal, return_event}
use Rattle.meaning.proofs.Membership.{contains_here, contains_nil}
use Rattle.meaning_runs.specs.Bodies.{Program, Body, IsOf, IsOutermost, code_of}
use Rattle.meaning_runs.specs.World.{nothing, cancel_function, runs, Frame, World, in_cell}
use Rattle.meaning_runs.specs.Moves.{happens, first_moves, first_is_done, picks_first, picks_second}
use Rattle.meaning_runs.specs.Steps.{IsAtEnd, new_one, is_first, of_function, moves_on, does_other, obtains_one, evaluates, evaluates_deferred, makes_call, saves_pass, saves_literal, comes_to_return, runs_pass, runs_literal, returns_now}
use Rattle.meaning_runs.specs.Runs.{Run, Owes}
use Rattle.meaning_runs.specs.Examples.{program_with, passing}
use Rattle.meaning_runs.specs.Returns.{HasLoudReturn}
use Rattle.meaning_runs.specs.LoudReturns.{ignoring, ignoring_at, deferring_pass, deferring_nothing, deferring_branch, using, branching, returning_early, LostFunctionsAreSeen}
use Rattle.meaning_runs.proofs.ExampleBodies.{one, body_in, place_of, event_at, obtains, passed}
use Rattle.meaning_runs.proofs.ExampleRuns.{act, goes, comes_at, next_at, begins, fits_g}
use Rattle.meaning_runs.proofs.FreeGoroutines.{none_given}
use Rattle.meaning_runs.proofs.LoudBodies.{both, branch_at, calling_at, passing_is_of, passing_is_outermost, passing_is, ignoring_is_function, ignoring_is, using_is_of, using_is_outermost, using_is, branching_is_of, branching_is_outermost, branching_is, returning_early_is_of, returning_early_is_outermost, returning_early_is, deferring_nothing_is_of, deferring_nothing_is_outermost, deferring_nothing_is, deferring_branch_is_of, deferring_branch_is_outermost, deferring_branch_is, empty_literal, empty_literal_is_in, empty_literal_is, branching_literal, branching_literal_is_in, branching_literal_is, both_deferred, passed_later, deferring_pass_is_of, deferring_pass_is_outermost, deferring_pass_is, ignoring_later_is_function, ignoring_later_is}

owes_first : (f : Frame) → f.obtained ≡ 0 ∷ [] → f.handed_on ≡ [] → f.given_away ≡ [] → Owes f 0
owes_first f e none own = record {
  was_obtained = subst (λ l. Contains l 0) (sym e) (contains_here 0 []);
  is_kept = λ x. contains_nil (cancel_function 0) (subst (λ l. Contains l (cancel_function 0)) none x);
  is_its_own = λ x. contains_nil (cancel_function 0) (subst (λ l. Contains l (cancel_function 0)) own x);
}

-- The frame owes one function, and none was called.
pub loud_of : (p : Program) (w : World) (f : Frame) → Run p w → w.stacks 0 ≡ f ∷ [] → IsAtEnd f → f.body.home ≡ p.looked_at → f.obtained ≡ 0 ∷ [] → f.handed_on ≡ [] → f.given_away ≡ [] → w.store.called ≡ [] → HasLoudReturn p
loud_of p w f run at end home obtained none own uncalled =
    (w, f, record { run = run; is_returning = record { goroutine = 0; others = []; is_running = at; is_at_end = end }; is_of_package = home; owed = 0; owes = owes_first f obtained none own }, λ q. contains_nil 0 (subst (λ l. Contains l 0) uncalled (q.called 0 (owes_first f obtained none own))))

-- The frame has obtained its function, and stands before what comes then.
abbrev pub standing : Body → Code Event → (ℕ → Option ℕ) → Frame
standing b c newest = record {
  body = b;
  stage = runs c;
  newest = newest;
  waiting = None;
  saved = [];
  obtained = 0 ∷ [];
  made = [];
  kept = [];
  given_away = [];
  handed_on = [];
}

pub record Stands (p : Program) (b : Body) (c : Code Event) : Type 0 where
  pub world : World
  pub newest : ℕ → Option ℕ
  pub run : Run p world
  pub is_running : world.stacks 0 ≡ standing b c newest ∷ []
  pub has_cell : newest 61 ≡ Some 1
  pub holds_it : world.store.cells 1 61 ≡ cancel_function 0
  pub none_called : world.store.called ≡ []
  pub has_context : 0 < world.store.context_count

pub obtained_one : (p : Program) (b : Body) (rest : Code Event) (end : ℕ) → IsOf p b → IsOutermost b → code_of b ≡ then_code (does (event_at 55 other)) (then_code (then_code (one (event_at 58 obtains)) rest) (does (event_at end (return_event [])))) → Stands p b (then_code rest (does (event_at end (return_event []))))
obtained_one p b rest end of out is =
    let r1 = act _ _ _ _ _ _ (begins p b of out) refl (does_other (next_at _ 55 other _ _ (ap runs is) (first_moves happens) refl)) in
    let r2 = act _ _ _ _ _ _ r1 refl (moves_on (goes _ _ _ _ refl first_is_done)) in
    let r3 = act _ _ _ _ _ _ r2 refl (obtains_one (next_at _ 58 obtains _ _ refl (first_moves (first_moves (first_moves happens))) refl) (new_one None tt)) in
    let r4 = act _ _ _ _ _ _ r3 refl (moves_on (goes _ _ _ _ refl (first_moves (first_moves first_is_done)))) in
    let r5 = act _ _ _ _ _ _ r4 refl (moves_on (goes _ _ _ _ refl (first_moves first_is_done))) in
    record { world = _; newest = _; run = r5; is_running = refl; has_cell = refl; holds_it = refl; none_called = refl; has_context = omega arith }

loud_by_use : HasLoudReturn (program_with (using ∷ []))
loud_by_use = from_there (obtained_one _ _ _ _ using_is_of using_is_outermost using_is)
  where
    from_there : Stands (program_with (using ∷ [])) (body_in (using ∷ []) (place_of using)) (then_code (then_code (one (event_at 94 other)) skip) (does (event_at 105 (return_event [])))) → HasLoudReturn (program_with (using ∷ []))
    from_there h =
        let r1 = act _ h.world _ _ _ _ h.run h.is_running (does_other (next_at _ 94 other _ _ refl (first_moves (first_moves (first_moves happens))) refl)) in
        let r2 = act _ _ _ _ _ _ r1 refl (moves_on (goes _ _ _ _ refl (first_moves (first_moves first_is_done)))) in
        let r3 = act _ _ _ _ _ _ r2 refl (moves_on (goes _ _ _ _ refl (first_moves first_is_done))) in
        let r4 = act _ _ _ _ _ _ r3 refl (moves_on (goes _ _ _ _ refl first_is_done)) in
        let r5 = act _ _ _ _ _ _ r4 refl (comes_to_return (next_at _ 105 (return_event []) _ _ refl happens refl)) in
        loud_of _ _ _ r5 refl record { stage = refl; saved = refl } refl refl refl refl h.none_called

loud_by_branch : HasLoudReturn (program_with (branching ∷ []))
loud_by_branch = from_there (obtained_one _ _ _ _ branching_is_of branching_is_outermost branching_is)
  where
    from_there : Stands (program_with (branching ∷ [])) (body_in (branching ∷ []) (place_of branching)) (then_code (then_code (branch_at 94 (calling_at 110)) skip) (does (event_at 122 (return_event [])))) → HasLoudReturn (program_with (branching ∷ []))
    from_there h =
        let r1 = act _ h.world _ _ _ _ h.run h.is_running (moves_on (goes _ _ _ _ refl (first_moves (first_moves first_is_done)))) in
        let r2 = act _ _ _ _ _ _ r1 refl (does_other (next_at _ 94 other _ _ refl (first_moves (first_moves (first_moves (first_moves happens)))) refl)) in
        let r3 = act _ _ _ _ _ _ r2 refl (moves_on (goes _ _ _ _ refl (first_moves (first_moves (first_moves first_is_done))))) in
        let r4 = act _ _ _ _ _ _ r3 refl (moves_on (goes _ _ _ _ refl (first_moves (first_moves first_is_done)))) in
        let r5 = act _ _ _ _ _ _ r4 refl (moves_on (goes _ _ _ _ refl (first_moves (first_moves picks_second)))) in
        let r6 = act _ _ _ _ _ _ r5 refl (moves_on (goes _ _ _ _ refl (first_moves first_is_done))) in
        let r7 = act _ _ _ _ _ _ r6 refl (moves_on (goes _ _ _ _ refl first_is_done)) in
        let r8 = act _ _ _ _ _ _ r7 refl (comes_to_return (next_at _ 122 (return_event []) _ _ refl happens refl)) in
        loud_of _ _ _ r8 refl record { stage = refl; saved = refl } refl refl refl refl h.none_called

loud_by_early_return : HasLoudReturn (program_with (returning_early ∷ []))
loud_by_early_return = from_there (obtained_one _ _ _ _ returning_early_is_of returning_early_is_outermost returning_early_is)
  where
    from_there : Stands (program_with (returning_early ∷ [])) (body_in (returning_early ∷ []) (place_of returning_early)) (then_code (then_code (branch_at 94 (then_code (then_code (one (event_at 110 (return_event []))) (leave returning)) skip)) (calling_at 121)) (does (event_at 130 (return_event [])))) → HasLoudReturn (program_with (returning_early ∷ []))
    from_there h =
        let r1 = act _ h.world _ _ _ _ h.run h.is_running (moves_on (goes _ _ _ _ refl (first_moves (first_moves first_is_done)))) in
        let r2 = act _ _ _ _ _ _ r1 refl (does_other (next_at _ 94 other _ _ refl (first_moves (first_moves (first_moves (first_moves happens)))) refl)) in
        let r3 = act _ _ _ _ _ _ r2 refl (moves_on (goes _ _ _ _ refl (first_moves (first_moves (first_moves first_is_done))))) in
        let r4 = act _ _ _ _ _ _ r3 refl (moves_on (goes _ _ _ _ refl (first_moves (first_moves first_is_done)))) in
        let r5 = act _ _ _ _ _ _ r4 refl (moves_on (goes _ _ _ _ refl (first_moves (first_moves picks_first)))) in
        let r6 = act _ _ _ _ _ _ r5 refl (comes_to_return (next_at _ 110 (return_event []) _ _ refl (first_moves (first_moves (first_moves (first_moves (first_moves happens))))) refl)) in
        loud_of _ _ _ r6 refl record { stage = refl; saved = refl } refl refl refl refl h.none_called

loud_by_call : HasLoudReturn (program_with both)
loud_by_call = from_there (obtained_one _ _ _ _ passing_is_of passing_is_outermost passing_is)
  where
    from_there : Stands (program_with both) (body_in both (place_of passing)) (then_code (then_code (one (event_at 94 passed)) skip) (does (event_at 104 (return_event [])))) → HasLoudReturn (program_with both)
    from_there h =
        let r1 = act _ h.world _ _ _ _ h.run h.is_running (evaluates (comes_at _ 94 passed _ _ refl (first_moves (first_moves (first_moves happens)))) is_first) in
        let r2 = act _ _ _ _ _ _ r1 refl (makes_call record { stage = refl; waits = refl } refl (of_function (body_in both (place_of ignoring)) (λ v. cancel_function 0) (λ v. None) ignoring_is_function (fits_g _ h.world.store _ _ _ h.has_context (ap (in_cell h.world.store 61) h.has_cell ∙ h.holds_it)))) in
        let g1 = act _ _ _ _ _ _ r2 refl (does_other (next_at _ 136 other _ _ (ap runs ignoring_is) (first_moves happens) refl)) in
        let g2 = act _ _ _ _ _ _ g1 refl (moves_on (goes _ _ _ _ refl first_is_done)) in
        let g3 = act _ _ _ _ _ _ g2 refl (moves_on (goes _ _ _ _ refl first_is_done)) in
        let g4 = act _ _ _ _ _ _ g3 refl (comes_to_return (next_at _ 138 (return_event []) _ _ refl happens refl)) in
        let g5 = act _ _ _ _ _ _ g4 refl (returns_now record { stage = refl; saved = refl }) in
        let r3 = act _ _ _ _ _ _ g5 refl (moves_on (goes _ _ _ _ refl (first_moves (first_moves first_is_done)))) in
        let r4 = act _ _ _ _ _ _ r3 refl (moves_on (goes _ _ _ _ refl (first_moves first_is_done))) in
        let r5 = act _ _ _ _ _ _ r4 refl (moves_on (goes _ _ _ _ refl first_is_done)) in
        let r6 = act _ _ _ _ _ _ r5 refl (comes_to_return (next_at _ 104 (return_event []) _ _ refl happens refl)) in
        loud_of _ _ _ r6 refl record { stage = refl; saved = refl } refl refl refl refl h.none_called

loud_by_saved_call : HasLoudReturn (program_with both_deferred)
loud_by_saved_call = from_there (obtained_one _ _ _ _ deferring_pass_is_of deferring_pass_is_outermost deferring_pass_is)
  where
    from_there : Stands (program_with both_deferred) (body_in both_deferred (place_of deferring_pass)) (then_code (then_code (one (event_at 94 passed_later)) skip) (does (event_at 110 (return_event [])))) → HasLoudReturn (program_with both_deferred)
    from_there h =
        let r1 = act _ h.world _ _ _ _ h.run h.is_running (evaluates_deferred (comes_at _ 94 passed_later _ _ refl (first_moves (first_moves (first_moves happens)))) is_first) in
        let r2 = act _ _ _ _ _ _ r1 refl (saves_pass record { stage = refl; waits = refl } refl) in
        let r3 = act _ _ _ _ _ _ r2 refl (moves_on (goes _ _ _ _ refl (first_moves (first_moves first_is_done)))) in
        let r4 = act _ _ _ _ _ _ r3 refl (moves_on (goes _ _ _ _ refl (first_moves first_is_done))) in
        let r5 = act _ _ _ _ _ _ r4 refl (moves_on (goes _ _ _ _ refl first_is_done)) in
        let r6 = act _ _ _ _ _ _ r5 refl (comes_to_return (next_at _ 110 (return_event []) _ _ refl happens refl)) in
        let r7 = act _ _ _ _ _ _ r6 refl (runs_pass record { stage = refl; saved = refl } (of_function (body_in both_deferred (place_of (ignoring_at 113))) (λ v. cancel_function 0) (λ v. None) ignoring_later_is_function (fits_g _ h.world.store _ _ _ h.has_context (ap (in_cell h.world.store 61) h.has_cell ∙ h.holds_it)))) in
        let g1 = act _ _ _ _ _ _ r7 refl (does_other (next_at _ 142 other _ _ (ap runs ignoring_later_is) (first_moves happens) refl)) in
        let g2 = act _ _ _ _ _ _ g1 refl (moves_on (goes _ _ _ _ refl first_is_done)) in
        let g3 = act _ _ _ _ _ _ g2 refl (moves_on (goes _ _ _ _ refl first_is_done)) in
        let g4 = act _ _ _ _ _ _ g3 refl (comes_to_return (next_at _ 144 (return_event []) _ _ refl happens refl)) in
        let g5 = act _ _ _ _ _ _ g4 refl (returns_now record { stage = refl; saved = refl }) in
        loud_of _ _ _ g5 refl record { stage = refl; saved = refl } refl refl refl refl h.none_called

loud_by_empty_literal : HasLoudReturn (program_with (deferring_nothing ∷ []))
loud_by_empty_literal = from_there (obtained_one _ _ _ _ deferring_nothing_is_of deferring_nothing_is_outermost deferring_nothing_is)
  where
    from_there : Stands (program_with (deferring_nothing ∷ [])) (body_in (deferring_nothing ∷ []) (place_of deferring_nothing)) (then_code (then_code (one (event_at 94 (defer_literal 100))) skip) (does (event_at 112 (return_event [])))) → HasLoudReturn (program_with (deferring_nothing ∷ []))
    from_there h =
        let r1 = act _ h.world _ _ _ _ h.run h.is_running (saves_literal (body_in (deferring_nothing ∷ []) empty_literal) (next_at _ 94 (defer_literal 100) _ _ refl (first_moves (first_moves (first_moves happens))) refl) empty_literal_is_in refl) in
        let r2 = act _ _ _ _ _ _ r1 refl (moves_on (goes _ _ _ _ refl (first_moves (first_moves first_is_done)))) in
        let r3 = act _ _ _ _ _ _ r2 refl (moves_on (goes _ _ _ _ refl (first_moves first_is_done))) in
        let r4 = act _ _ _ _ _ _ r3 refl (moves_on (goes _ _ _ _ refl first_is_done)) in
        let r5 = act _ _ _ _ _ _ r4 refl (comes_to_return (next_at _ 112 (return_event []) _ _ refl happens refl)) in
        let r6 = act _ _ _ _ _ _ r5 refl (runs_literal (λ v. nothing) (λ v. None) record { stage = refl; saved = refl } (none_given _)) in
        let g1 = act _ _ _ _ _ _ r6 refl (does_other (next_at _ 107 other _ _ (ap runs empty_literal_is) (first_moves happens) refl)) in
        let g2 = act _ _ _ _ _ _ g1 refl (moves_on (goes _ _ _ _ refl first_is_done)) in
        let g3 = act _ _ _ _ _ _ g2 refl (moves_on (goes _ _ _ _ refl first_is_done)) in
        let g4 = act _ _ _ _ _ _ g3 refl (comes_to_return (next_at _ 108 (return_event []) _ _ refl happens refl)) in
        let g5 = act _ _ _ _ _ _ g4 refl (returns_now record { stage = refl; saved = refl }) in
        loud_of _ _ _ g5 refl record { stage = refl; saved = refl } refl refl refl refl h.none_called

loud_by_branching_literal : HasLoudReturn (program_with (deferring_branch ∷ []))
loud_by_branching_literal = from_there (obtained_one _ _ _ _ deferring_branch_is_of deferring_branch_is_outermost deferring_branch_is)
  where
    from_there : Stands (program_with (deferring_branch ∷ [])) (body_in (deferring_branch ∷ []) (place_of deferring_branch)) (then_code (then_code (one (event_at 94 (defer_literal 100))) skip) (does (event_at 138 (return_event [])))) → HasLoudReturn (program_with (deferring_branch ∷ []))
    from_there h =
        let r1 = act _ h.world _ _ _ _ h.run h.is_running (saves_literal (body_in (deferring_branch ∷ []) branching_literal) (next_at _ 94 (defer_literal 100) _ _ refl (first_moves (first_moves (first_moves happens))) refl) branching_literal_is_in refl) in
        let r2 = act _ _ _ _ _ _ r1 refl (moves_on (goes _ _ _ _ refl (first_moves (first_moves first_is_done)))) in
        let r3 = act _ _ _ _ _ _ r2 refl (moves_on (goes _ _ _ _ refl (first_moves first_is_done))) in
        let r4 = act _ _ _ _ _ _ r3 refl (moves_on (goes _ _ _ _ refl first_is_done)) in
        let r5 = act _ _ _ _ _ _ r4 refl (comes_to_return (next_at _ 138 (return_event []) _ _ refl happens refl)) in
        let r6 = act _ _ _ _ _ _ r5 refl (runs_literal (λ v. nothing) (λ v. None) record { stage = refl; saved = refl } (none_given _)) in
        let g1 = act _ _ _ _ _ _ r6 refl (does_other (next_at _ 107 other _ _ (ap runs branching_literal_is) (first_moves happens) refl)) in
        let g2 = act _ _ _ _ _ _ g1 refl (moves_on (goes _ _ _ _ refl first_is_done)) in
        let g3 = act _ _ _ _ _ _ g2 refl (moves_on (goes _ _ _ _ refl (first_moves (first_moves first_is_done)))) in
        let g4 = act _ _ _ _ _ _ g3 refl (does_other (next_at _ 109 other _ _ refl (first_moves (first_moves (first_moves (first_moves happens)))) refl)) in
        let g5 = act _ _ _ _ _ _ g4 refl (moves_on (goes _ _ _ _ refl (first_moves (first_moves (first_moves first_is_done))))) in
        let g6 = act _ _ _ _ _ _ g5 refl (moves_on (goes _ _ _ _ refl (first_moves (first_moves first_is_done)))) in
        let g7 = act _ _ _ _ _ _ g6 refl (moves_on (goes _ _ _ _ refl (first_moves (first_moves picks_second)))) in
        let g8 = act _ _ _ _ _ _ g7 refl (moves_on (goes _ _ _ _ refl (first_moves first_is_done))) in
        let g9 = act _ _ _ _ _ _ g8 refl (moves_on (goes _ _ _ _ refl first_is_done)) in
        let g10 = act _ _ _ _ _ _ g9 refl (comes_to_return (next_at _ 134 (return_event []) _ _ refl happens refl)) in
        let g11 = act _ _ _ _ _ _ g10 refl (returns_now record { stage = refl; saved = refl }) in
        loud_of _ _ _ g11 refl record { stage = refl; saved = refl } refl refl refl refl h.none_called

pub lost_functions_are_seen : LostFunctionsAreSeen
lost_functions_are_seen = record {
  ignoring_is_loud = loud_by_call;
  deferring_pass_is_loud = loud_by_saved_call;
  deferring_nothing_is_loud = loud_by_empty_literal;
  deferring_branch_is_loud = loud_by_branching_literal;
  using_is_loud = loud_by_use;
  branching_is_loud = loud_by_branch;
  returning_early_is_loud = loud_by_early_return;
}
