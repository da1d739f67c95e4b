-- A run of each example with groups, to a return.
use Rattle.std.proofs.Common.{◌≡◌, ℕ, ◌⊎◌, inl, inr, true, false, cond, List, [], ◌∷◌, Option, Some, None, Contains, refl, sym, ap, ◌∙◌, subst, arith}
use Rattle.std.proofs.lemmas.Bool.{cases_eq}
use Rattle.meaning.specs.Code.{Code, skip, does, then_code}
use Rattle.meaning.specs.Uses.{Event, other, call, defer_call, return_event}
use Rattle.meaning.proofs.Membership.{contains_here, contains_there, contains_cases, contains_nil}
use Rattle.meaning_runs.specs.Bodies.{Program, Body, is_parameter_of, is_captured_by, code_of}
use Rattle.meaning_runs.specs.World.{Value, nothing, cancel_function, any_nothing, outside, outside_group, Store, put_at, calling, with_member, with_stack, itself, IsDone, HasNoMember, runs, exits, Frame, World, Passing, in_cell, empty_world, with_group, with_cells, group_in_cell, held_group, MayEndWait, new_frame, nothing_around}
use Rattle.meaning_runs.specs.Steps.{IsAtEnd, is_first, of_function, makes_call, IsFree, by_start, by_try, starts, evaluates_literal, starts_literal, makes_outside, of_environment}
use Rattle.meaning_runs.specs.Runs.{Run, no_step, step_more, IsQuiet}
use Rattle.meaning_runs.specs.GroupExamples.{program_of, program_with, awaiting, trying, joining, crossing, leaving_early, leaving_to_parameter, remaking, leaving_to_another, deferring_wait, handing_over}
use Rattle.meaning_runs.specs.GroupReturns.{HasQuietMaker, HasLoudMaker, GroupReturnsExist}
use Rattle.meaning_runs.specs.Returns.{HasQuietReturn, HasLoudReturn}
use Rattle.meaning_runs.proofs.LoudRuns.{loud_of}
use Rattle.meaning_runs.proofs.Contexts.{put_at-same, put_at-other, called_done, run_is_sound}
use Rattle.meaning_runs.proofs.ExampleBodies.{one, event_at}
use Rattle.meaning_runs.proofs.FreeGoroutines.{waiting_members, none_given}
use Rattle.meaning_runs.proofs.GivenValues.{joining_lends, given_values, given_groups, contents_are_given}
use Rattle.meaning_runs.proofs.ExampleRuns.{begins, only_one, quiet_of}
use Rattle.meaning_runs.proofs.ExampleSteps.{acts, past_other, past_maker, same_stack, past_call_of, past_deferral_of, past_making, past_with_context, past_try, past_wait, past_saved_wait, past_loan, past_return, past_stranger, past_start, runs_its_call, runs_its_wait, is_gone, leaves}
use Rattle.meaning_runs.proofs.GroupBodies.{body_of, whole, in_braces, returns_at, waits_at, awaiting_is_of, awaiting_is_outermost, awaiting_is, trying_is_of, trying_is_outermost, trying_is, joining_is_of, joining_is_outermost, joining_is, crossing_is_of, crossing_is_outermost, crossing_is, leaving_early_is_of, leaving_early_is_outermost, leaving_early_is, leaving_to_parameter_is_of, leaving_to_parameter_is_outermost, leaving_to_parameter_is, remaking_is_of, remaking_is_outermost, remaking_is, leaving_to_another_is_of, leaving_to_another_is_outermost, leaving_to_another_is, awaited_literal, awaited_literal_is_in, awaited_literal_is, awaited_literal_has_no_parameter, awaited_literal_captures_it, tried_literal, tried_literal_is_in, tried_literal_is, tried_literal_has_no_parameter, tried_literal_captures_it, first_literal, first_literal_is_in, first_literal_is, first_literal_has_no_parameter, first_literal_captures_it, second_literal, second_literal_is_in, second_literal_is, second_literal_has_no_parameter, second_literal_captures_it, left_literal, left_literal_is_in, left_literal_is, left_literal_has_no_parameter, left_literal_captures_it, crossing_literal, crossing_literal_is_in, crossing_literal_is, other_literal, other_literal_is_in, has_group_parameter, deferring_wait_is_of, deferring_wait_is_outermost, deferring_wait_is, handing_over_is_of, handing_over_is_outermost, handing_over_is, handed_literal, handed_literal_escapes, handed_literal_is, lending, lender, helper, lender_is_of, lender_is_outermost, lender_is, helper_is_function, helper_is, helper_has_parameter, lends_one, helper_gets_it}

-- a maker's return that is quiet, and one that is not
quiet_maker : (p : Program) (w : World) (f : Frame) → Run p w → w.stacks 0 ≡ f ∷ [] → IsAtEnd f → f.body.home ≡ p.looked_at → (group : ℕ) → Contains f.made group → IsQuiet w f → HasQuietMaker p
quiet_maker p w f run at end home group made quiet =
    (w, f, record { run = run; is_returning = record { goroutine = 0; others = []; is_running = at; is_at_end = end }; is_of_package = home; group = group; has_made = made }, quiet)

loud_maker : (p : Program) (w : World) (f : Frame) → Run p w → w.stacks 0 ≡ f ∷ [] → IsAtEnd f → f.body.home ≡ p.looked_at → (group : ℕ) → Contains f.made group → (IsQuiet w f → ⊥) → HasLoudMaker p
loud_maker p w f run at end home group made loud =
    (w, f, record { run = run; is_returning = record { goroutine = 0; others = []; is_running = at; is_at_end = end }; is_of_package = home; group = group; has_made = made }, loud)

-- what an element of a short list is
each_one : (P : ℕ → Type 0) (x : ℕ) → P x → (y : ℕ) → Contains (x ∷ []) y → P y
each_one P x h y c = subst P (only_one x y c) h

each_two : (P : ℕ → Type 0) (x y : ℕ) → P x → P y → (z : ℕ) → Contains (x ∷ y ∷ []) z → P z
each_two P x y h k z c = elim (contains_cases x z (y ∷ []) c) [ inl q ↦ subst P q h | inr r ↦ each_one P y k z r ]

-- Members

-- only these goroutines may be members of the group
abbrev OnlyMembers : (ℕ → Option ℕ) → ℕ → List ℕ → Type 0
OnlyMembers members group hs = (g : ℕ) → members g ≡ Some group → Contains hs g

none_at_first : (group : ℕ) → OnlyMembers (λ g. None) group []
none_at_first group g e = let bad : None ≡ Some group = e in absurd cc

-- one more, of this group or another
one_more : (m : ℕ → Option ℕ) (group a h : ℕ) (hs : List ℕ) → OnlyMembers m group hs → OnlyMembers (put_at m h (Some a)) group (h ∷ hs)
one_more m group a h hs only g e = by (cases_eq g h)
  where
    by : (g ≡ h) ⊎ (g ≡ h → ⊥) → Contains (h ∷ hs) g
    by (inl q) = subst (λ n. Contains (h ∷ hs) n) (sym q) (contains_here h hs)
    by (inr q) = contains_there h g hs (only g (sym (put_at-other m h (Some a) g q) ∙ e))

one_of_another : (m : ℕ → Option ℕ) (group a h : ℕ) (hs : List ℕ) → (a ≡ group → ⊥) → OnlyMembers m group hs → OnlyMembers (put_at m h (Some a)) group hs
one_of_another m group a h hs differs only g e = by (cases_eq g h)
  where
    same : Some a ≡ Some group → a ≡ group
    same q = cc

    by : (g ≡ h) ⊎ (g ≡ h → ⊥) → Contains hs g
    by (inl q) = absurd (differs (same (sym (put_at-same m h (Some a)) ∙ sym (ap (put_at m h (Some a)) q) ∙ e)))
    by (inr q) = only g (sym (put_at-other m h (Some a) g q) ∙ e)

-- one fewer
one_fewer : (m : ℕ → Option ℕ) (group h : ℕ) (hs : List ℕ) → OnlyMembers m group (h ∷ hs) → OnlyMembers (put_at m h None) group hs
one_fewer m group h hs only g e = by (cases_eq g h)
  where
    no_group : None ≡ Some group → ⊥
    no_group q = cc

    by : (g ≡ h) ⊎ (g ≡ h → ⊥) → Contains hs g
    by (inl q) = absurd (no_group (sym (put_at-same m h None) ∙ sym (ap (put_at m h None) q) ∙ e))
    by (inr q) = elim (contains_cases h g hs (only g (sym (put_at-other m h None g q) ∙ e))) [ inl same ↦ absurd (q (sym same)) | inr r ↦ r ]

none_left : (m : ℕ → Option ℕ) (group : ℕ) → OnlyMembers m group [] → (g : ℕ) → m g ≡ Some group → ⊥
none_left m group only g e = contains_nil g (only g e)

-- a member came and went
came_and_went : (group a h : ℕ) → OnlyMembers (put_at (put_at (λ g. None) h (Some a)) h None) group []
came_and_went group a h = one_fewer _ group h [] (one_more _ group a h [] (none_at_first group))

-- What a literal captures

in_literal : (t s : Store) (b : Body) (v : ℕ) (around : ℕ → Option ℕ) (value : Value) → is_parameter_of b v ≡ false → is_captured_by b v ≡ true → in_cell s v (around v) ≡ value → in_cell s v ((new_frame t b around).newest v) ≡ value
in_literal t s b v around value none captures holds =
    ap (λ x. in_cell s v (cond x (Some t.cell_count) (cond (is_captured_by b v) (around v) None))) none
    ∙ ap (λ x. in_cell s v (cond x (around v) None)) captures
    ∙ holds

group_in_literal : (t s : Store) (b : Body) (v : ℕ) (around : ℕ → Option ℕ) (group : Option ℕ) → is_parameter_of b v ≡ false → is_captured_by b v ≡ true → group_in_cell s v (around v) ≡ group → group_in_cell s v ((new_frame t b around).newest v) ≡ group
group_in_literal t s b v around group none captures holds =
    ap (λ x. group_in_cell s v (cond x (Some t.cell_count) (cond (is_captured_by b v) (around v) None))) none
    ∙ ap (λ x. group_in_cell s v (cond x (around v) None)) captures
    ∙ holds

-- The world in which a run has come, and the newest cells of a goroutine's running frame

abbrev world_of : {p : Program} {w : World} → Run p w → World
world_of {w = w} run = w

abbrev newest_of : List Frame → ℕ → Option ℕ
newest_of [] = λ v. None
newest_of (f ∷ fs) = f.newest

-- Members

-- a literal that calls a function at its return
abbrev calls_later : ℕ → ℕ → ℕ → ℕ → ℕ → Code Event
calls_later from at v back end =
    in_braces from (then_code (one (event_at at (defer_call v))) (then_code (returns_at back) skip)) end

module _ (p : Program) (w : World) (h n : ℕ) (t : Store) (b : Body) (around : ℕ → Option ℕ) (run : Run p w) (at : w.stacks h ≡ new_frame t b around ∷ []) (group : ℕ) (is_member : w.store.member h ≡ Some group) where
  -- what is known of it when it is gone
  abbrev without_it : Store → World
  without_it s = with_stack w (with_member s h None) h []

  gone_so : (f : Frame) (s : Store) → s.member ≡ w.store.member → Run p (with_stack w s h (f ∷ [])) → f.stage ≡ exits → f.saved ≡ [] → Run p (without_it s)
  gone_so f s same r stage saved =
      let r1 = is_gone h r (put_at-same w.stacks h (f ∷ [])) stage saved in
      let r2 = subst (Run p) (same_stack w s s h (f ∷ []) []) r1 in
      leaves h r2 (ap (λ (m : ℕ → Option ℕ). m h) same ∙ is_member) (put_at-same w.stacks h [])

  -- it calls the function at its return, and is gone
  member_calls : (from at_call v back end : ℕ) → code_of b ≡ calls_later from at_call v back end → is_parameter_of b v ≡ false → is_captured_by b v ≡ true → in_cell w.store v (around v) ≡ cancel_function n → Run p (without_it (calling w.store (cancel_function n)))
  member_calls from at_call v back end is none captures holds =
      let stack = λ (f : Frame). f ∷ [] in
      let r1 = past_other h run at (ap runs is) refl true refl in
      let r2 = past_deferral_of h r1 (put_at-same w.stacks h _) refl refl true (cancel_function n) (in_literal t w.store b v around (cancel_function n) none captures holds) refl in
      let r3 = subst (Run p) (same_stack w w.store w.store h _ _) r2 in
      let r4 = subst (Run p) (same_stack w w.store w.store h _ _) (past_return h r3 (put_at-same w.stacks h _) refl refl true refl) in
      let r5 = subst (Run p) (same_stack w w.store _ h _ _) (runs_its_call h r4 (cancel_function n) (put_at-same w.stacks h _) refl refl) in
      gone_so _ (calling w.store (cancel_function n)) refl r5 refl refl

  -- it calls the function and returns, and is gone
  member_calls_at_once : (from at_call v back end : ℕ) → code_of b ≡ in_braces from (then_code (one (event_at at_call (call v))) (then_code (returns_at back) skip)) end → is_parameter_of b v ≡ false → is_captured_by b v ≡ true → in_cell w.store v (around v) ≡ cancel_function n → Run p (without_it (calling w.store (cancel_function n)))
  member_calls_at_once from at_call v back end is none captures holds =
      let r1 = past_other h run at (ap runs is) refl true refl in
      let r2 = past_call_of h r1 (put_at-same w.stacks h _) refl refl true (cancel_function n) (in_literal t w.store b v around (cancel_function n) none captures holds) refl in
      let r3 = subst (Run p) (same_stack w w.store (calling w.store (cancel_function n)) h _ _) r2 in
      let r4 = subst (Run p) (same_stack w (calling w.store (cancel_function n)) (calling w.store (cancel_function n)) h _ _) (past_return h r3 (put_at-same w.stacks h _) refl refl true refl) in
      gone_so _ (calling w.store (cancel_function n)) refl r4 refl refl

  -- it says nothing and returns, and is gone
  member_passes : (from passed back end : ℕ) → code_of b ≡ in_braces from (then_code (one (event_at passed other)) (then_code (returns_at back) skip)) end → Run p (without_it w.store)
  member_passes from passed back end is =
      let r1 = past_other h run at (ap runs is) refl true refl in
      let r2 = past_other h r1 (put_at-same w.stacks h _) refl refl true refl in
      let r3 = subst (Run p) (same_stack w w.store w.store h _ _) r2 in
      let r4 = subst (Run p) (same_stack w w.store w.store h _ _) (past_return h r3 (put_at-same w.stacks h _) refl refl true refl) in
      gone_so _ w.store refl r4 refl refl

-- Quiet returns

-- what was obtained was called, what was made has no member, and its context is done
quiet_if : (p : Program) (w : World) (f : Frame) → Run p w → ((a : ℕ) → Contains f.obtained a → Contains w.store.called a) → ((group : ℕ) → Contains f.made group → HasNoMember w.store group) → ((group : ℕ) → Contains f.made group → (a : ℕ) → w.store.group_context group ≡ Some a → IsDone w.store a) → IsQuiet w f
quiet_if p w f run called ended contexts = record {
  called = λ a o. called a o.was_obtained;
  done = λ a b o from. called_done w.store a b (run_is_sound p w run) (called a o.was_obtained) from;
  ended = ended;
  groups_done = λ group a m is. contexts group m a is;
}

no_context : (s : Store) (a : ℕ) → None ≡ Some a → IsDone s a
no_context s a e = absurd cc

awaiting_is_quiet : HasQuietMaker (program_with awaiting)
awaiting_is_quiet =
    let r0 = begins (program_with awaiting) (whole awaiting) awaiting_is_of awaiting_is_outermost in
    let r1 = past_other 0 r0 refl (ap runs awaiting_is) refl true refl in
    let r2 = past_making 0 r1 refl refl refl true refl in
    let r3 = past_maker 0 r2 refl refl refl true refl in
    let r4 = past_start 0 r3 refl refl refl true 1 refl record { has_no_frame = refl; is_no_member = refl } (body_of awaiting awaited_literal) by_start refl awaited_literal_is_in refl in
    let r5 = member_calls _ _ 1 0 (world_of r3).store (body_of awaiting awaited_literal) (newest_of ((world_of r3).stacks 0)) r4 refl 0 refl 175 179 124 196 208 awaited_literal_is awaited_literal_has_no_parameter awaited_literal_captures_it refl in
    let r6 = past_wait 0 r5 refl refl refl true refl (none_left _ 0 (came_and_went 0 0 1)) in
    let r7 = past_return 0 r6 refl refl refl true refl in
    quiet_maker _ _ _ r7 refl record { stage = refl; saved = refl } refl 0 (contains_here 0 []) (quiet_if _ _ _ r7 (each_one _ 0 (contains_here 0 [])) (each_one _ 0 (none_left _ 0 (came_and_went 0 0 1))) (each_one _ 0 (λ a e. no_context _ a e)))

abbrev free_now : {w : World} (h : ℕ) → w.stacks h ≡ [] → w.store.member h ≡ None → IsFree w h
free_now h none no_member = record { has_no_frame = none; is_no_member = no_member }

trying_is_quiet : HasQuietMaker (program_with trying)
trying_is_quiet =
    let r0 = begins (program_with trying) (whole trying) trying_is_of trying_is_outermost in
    let r1 = past_other 0 r0 refl (ap runs trying_is) refl true refl in
    let r2 = past_making 0 r1 refl refl refl true refl in
    let r3 = past_maker 0 r2 refl refl refl true refl in
    let r4 = past_start 0 r3 refl refl refl true 1 refl (free_now 1 refl refl) (body_of trying tried_literal) by_try refl tried_literal_is_in refl in
    let r5 = member_calls _ _ 1 0 (world_of r3).store (body_of trying tried_literal) (newest_of ((world_of r3).stacks 0)) r4 refl 0 refl 178 182 124 199 211 tried_literal_is tried_literal_has_no_parameter tried_literal_captures_it refl in
    let r6 = past_wait 0 r5 refl refl refl true refl (none_left _ 0 (came_and_went 0 0 1)) in
    let r7 = past_return 0 r6 refl refl refl true refl in
    quiet_maker _ _ _ r7 refl record { stage = refl; saved = refl } refl 0 (contains_here 0 []) (quiet_if _ _ _ r7 (each_one _ 0 (contains_here 0 [])) (each_one _ 0 (none_left _ 0 (came_and_went 0 0 1))) (each_one _ 0 (λ a e. no_context _ a e)))

trying_is_loud : HasLoudReturn (program_with trying)
trying_is_loud =
    let r0 = begins (program_with trying) (whole trying) trying_is_of trying_is_outermost in
    let r1 = past_other 0 r0 refl (ap runs trying_is) refl true refl in
    let r2 = past_making 0 r1 refl refl refl true refl in
    let r3 = past_maker 0 r2 refl refl refl true refl in
    let r4 = past_try 0 r3 refl refl refl true refl in
    let r5 = past_wait 0 r4 refl refl refl true refl (none_left _ 0 (none_at_first 0)) in
    let r6 = past_return 0 r5 refl refl refl true refl in
    loud_of _ _ _ r6 refl record { stage = refl; saved = refl } refl refl refl refl refl

-- the second member starts a third one
joining_is_quiet : HasQuietMaker (program_with joining)
joining_is_quiet =
    let r0 = begins (program_with joining) (whole joining) joining_is_of joining_is_outermost in
    let r1 = past_other 0 r0 refl (ap runs joining_is) refl true refl in
    let r2 = past_making 0 r1 refl refl refl true refl in
    let r3 = past_maker 0 r2 refl refl refl true refl in
    let r4 = past_start 0 r3 refl refl refl true 1 refl (free_now 1 refl refl) (body_of joining first_literal) by_start refl first_literal_is_in refl in
    let r5 = member_calls _ _ 1 0 (world_of r3).store (body_of joining first_literal) (newest_of ((world_of r3).stacks 0)) r4 refl 0 refl 175 179 124 196 208 first_literal_is first_literal_has_no_parameter first_literal_captures_it refl in
    let r6 = past_start 0 r5 refl refl refl true 2 refl (free_now 2 refl refl) (body_of joining second_literal) by_start refl second_literal_is_in refl in
    let l1 = past_other 2 r6 refl (ap runs second_literal_is) refl true refl in
    let l2 = past_stranger 2 l1 refl refl refl true 3 (group_in_literal (world_of r5).store (world_of l1).store (body_of joining second_literal) 103 (newest_of ((world_of r5).stacks 0)) (Some 0) second_literal_has_no_parameter second_literal_captures_it refl) (free_now 3 refl refl) by_start refl in
    let l3 = past_return 2 l2 refl refl refl true refl in
    let l4 = is_gone 2 l3 refl refl refl in
    let l5 = leaves 3 l4 refl refl in
    let l6 = leaves 2 l5 refl refl in
    let r7 = past_wait 0 l6 refl refl refl true refl (none_left _ 0 all_left) in
    let r8 = past_return 0 r7 refl refl refl true refl in
    quiet_maker _ _ _ r8 refl record { stage = refl; saved = refl } refl 0 (contains_here 0 []) (quiet_if _ _ _ r8 (each_one _ 0 (contains_here 0 [])) (each_one _ 0 (none_left _ 0 all_left)) (each_one _ 0 (λ a e. no_context _ a e)))
  where
    all_left : OnlyMembers (put_at (put_at (put_at (put_at (put_at (put_at (λ g. None) 1 (Some 0)) 1 None) 2 (Some 0)) 3 (Some 0)) 3 None) 2 None) 0 []
    all_left = one_fewer _ 0 2 [] (one_fewer _ 0 3 (2 ∷ []) (one_more _ 0 0 3 (2 ∷ []) (one_more _ 0 0 2 [] (came_and_went 0 0 1))))

crossing_is_quiet : HasQuietMaker (program_with crossing)
crossing_is_quiet =
    let r0 = begins (program_with crossing) (whole crossing) crossing_is_of crossing_is_outermost in
    let r1 = past_other 0 r0 refl (ap runs crossing_is) refl false refl in
    let r2 = past_making 0 r1 refl refl refl false refl in
    let r3 = past_making 0 r2 refl refl refl false refl in
    let r4 = past_start 0 r3 refl refl refl false 1 refl (free_now 1 refl refl) (body_of crossing crossing_literal) by_start refl crossing_literal_is_in refl in
    let r5 = member_passes _ _ 1 0 (world_of r3).store (body_of crossing crossing_literal) (newest_of ((world_of r3).stacks 0)) r4 refl 1 refl 161 165 179 191 crossing_literal_is in
    let r6 = past_wait 0 r5 refl refl refl false refl (none_left _ 1 (came_and_went 1 1 1)) in
    let r7 = past_other 0 r6 refl refl refl false refl in
    let r8 = past_wait 0 r7 refl refl refl false refl (none_left _ 0 (came_and_went 0 1 1)) in
    let r9 = past_return 0 r8 refl refl refl false refl in
    quiet_maker _ _ _ r9 refl record { stage = refl; saved = refl } refl 1 (contains_here 1 (0 ∷ [])) (quiet_if _ _ _ r9 (λ a c. absurd (contains_nil a c)) (each_two _ 1 0 (none_left _ 1 (came_and_went 1 1 1)) (none_left _ 0 (came_and_went 0 1 1))) (each_two _ 1 0 (λ a e. no_context _ a e) (λ a e. no_context _ a e)))

-- the first member stays, and the variable has another group
remaking_is_loud : HasLoudMaker (program_with remaking)
remaking_is_loud =
    let r0 = begins (program_with remaking) (whole remaking) remaking_is_of remaking_is_outermost in
    let r1 = past_other 0 r0 refl (ap runs remaking_is) refl true refl in
    let r2 = past_making 0 r1 refl refl refl true refl in
    let r3 = past_stranger 0 r2 refl refl refl true 1 refl (free_now 1 refl refl) by_start refl in
    let r4 = past_making 0 r3 refl refl refl true refl in
    let r5 = past_return 0 r4 refl refl refl true refl in
    loud_maker _ _ _ r5 refl record { stage = refl; saved = refl } refl 0 (contains_there 1 0 (0 ∷ []) (contains_here 0 [])) (λ q. q.ended 0 (contains_there 1 0 (0 ∷ []) (contains_here 0 [])) 1 refl)

-- the member of the other group stays
leaving_to_another_is_loud : HasLoudMaker (program_with leaving_to_another)
leaving_to_another_is_loud =
    let r0 = begins (program_with leaving_to_another) (whole leaving_to_another) leaving_to_another_is_of leaving_to_another_is_outermost in
    let r1 = past_other 0 r0 refl (ap runs leaving_to_another_is) refl true refl in
    let r2 = past_making 0 r1 refl refl refl true refl in
    let r3 = past_making 0 r2 refl refl refl true refl in
    let r4 = past_maker 0 r3 refl refl refl true refl in
    let r5 = past_start 0 r4 refl refl refl true 1 refl (free_now 1 refl refl) (body_of leaving_to_another other_literal) by_start refl other_literal_is_in refl in
    from_there _ _ r5 refl refl refl refl refl refl refl (one_of_another _ 0 1 1 [] (λ q. omega (arith, q)) (none_at_first 0)) refl
  where
    from_there : (w : World) (f : Frame) → Run (program_with leaving_to_another) w → w.stacks 0 ≡ f ∷ [] → f.stage ≡ runs (then_code (then_code (then_code skip skip) (then_code (waits_at 234 103) skip)) (does (event_at 250 (return_event [])))) → f.waiting ≡ None → f.saved ≡ [] → f.body.home ≡ 0 → f.made ≡ 1 ∷ 0 ∷ [] → held_group w.store f 103 ≡ Some 0 → OnlyMembers w.store.member 0 [] → w.store.member 1 ≡ Some 1 → HasLoudMaker (program_with leaving_to_another)
    from_there w f run at stage none saved home made holds only member =
        let r6 = past_wait 0 run at stage none true refl (subst (MayEndWait w.store) (sym holds) (none_left w.store.member 0 only)) in
        let r7 = past_return 0 r6 refl refl none true refl in
        let has_made = subst (λ l. Contains l 1) (sym made) (contains_here 1 (0 ∷ [])) in
        loud_maker _ _ _ r7 refl record { stage = refl; saved = saved } home 1 has_made (λ q. q.ended 1 has_made 1 (ap (λ (m : ℕ → Option ℕ). m 1) (waiting_members w.store (held_group w.store f 103)) ∙ member))

leaving_early_is_quiet : HasQuietMaker (program_with leaving_early)
leaving_early_is_quiet =
    let r0 = begins (program_with leaving_early) (whole leaving_early) leaving_early_is_of leaving_early_is_outermost in
    let r1 = past_other 0 r0 refl (ap runs leaving_early_is) refl false refl in
    let r2 = past_with_context 0 r1 refl refl refl false refl in
    let r3 = past_other 0 r2 refl refl refl false refl in
    let r4 = past_stranger 0 r3 refl refl refl false 1 refl (free_now 1 refl refl) by_start refl in
    let r5 = leaves 1 r4 refl refl in
    let r6 = past_wait 0 r5 refl refl refl false refl (none_left _ 0 (came_and_went 0 0 1)) in
    let r7 = past_return 0 r6 refl refl refl false refl in
    quiet_maker _ _ _ r7 refl record { stage = refl; saved = refl } refl 0 (contains_here 0 []) (quiet_if _ _ _ r7 (λ a c. absurd (contains_nil a c)) (each_one _ 0 (none_left _ 0 (came_and_went 0 0 1))) (each_one _ 0 (λ a e. its_context (world_of r7).store a refl e)))
  where
    its_context : (s : Store) (a : ℕ) → s.ended ≡ 0 ∷ [] → Some 0 ≡ Some a → IsDone s a
    its_context s a ended e =
        let same : 0 ≡ a = cc in
        record { context = a; was_ended = subst (λ l. Contains l a) (sym ended) (subst (λ n. Contains (0 ∷ []) n) same (contains_here 0 [])); comes_from = itself }

never_ended : (s : Store) (a : ℕ) → s.ended ≡ [] → IsDone s a → ⊥
never_ended s a none d = contains_nil d.context (subst (λ l. Contains l d.context) none d.was_ended)

leaving_early_is_loud : HasLoudMaker (program_with leaving_early)
leaving_early_is_loud =
    let r0 = begins (program_with leaving_early) (whole leaving_early) leaving_early_is_of leaving_early_is_outermost in
    let r1 = past_other 0 r0 refl (ap runs leaving_early_is) refl true refl in
    let r2 = past_with_context 0 r1 refl refl refl true refl in
    let r3 = past_other 0 r2 refl refl refl true refl in
    let r4 = past_return 0 r3 refl refl refl true refl in
    loud_maker _ _ _ r4 refl record { stage = refl; saved = refl } refl 0 (contains_here 0 []) (λ q. never_ended _ 0 refl (q.groups_done 0 0 (contains_here 0 []) refl))

-- a call of the function that gives it a group of the environment
abbrev begun_with_group : World
begun_with_group = with_stack (record empty_world { store = with_group empty_world.store outside None }) (with_cells (with_group empty_world.store outside None) (λ v. nothing) (λ v. Some 0)) 0 (new_frame (with_group empty_world.store outside None) (whole leaving_to_parameter) nothing_around ∷ [])

begins_with_group : Run (program_with leaving_to_parameter) begun_with_group
begins_with_group =
    step_more (step_more no_step (of_environment (makes_outside None tt))) (of_environment (starts 0 (whole leaving_to_parameter) (λ v. nothing) (λ v. Some 0) refl leaving_to_parameter_is_of leaving_to_parameter_is_outermost record { any = λ v. any_nothing; foreign = λ v. outside_group refl }))

-- what a parameter holds
has_group : (b : Body) (v : ℕ) (s t : Store) (newest : ℕ → Option ℕ) (group : Option ℕ) → is_parameter_of b v ≡ true → newest v ≡ (new_frame t b nothing_around).newest v → s.holds t.cell_count v ≡ group → group_in_cell s v (newest v) ≡ group
has_group b v s t newest group is same holds =
    ap (group_in_cell s v) same
    ∙ ap (λ x. group_in_cell s v (cond x (Some t.cell_count) (cond (is_captured_by b v) None None))) is
    ∙ holds

leaving_to_parameter_is_quiet : HasQuietReturn (program_with leaving_to_parameter)
leaving_to_parameter_is_quiet =
    let r1 = past_other 0 begins_with_group refl (ap runs leaving_to_parameter_is) refl true refl in
    let r2 = past_maker 0 r1 refl refl refl true refl in
    let r3 = past_start 0 r2 refl refl refl true 1 (has_group (whole leaving_to_parameter) 90 (world_of r2).store (with_group empty_world.store outside None) (newest_of ((world_of r2).stacks 0)) (Some 0) has_group_parameter refl refl) (free_now 1 refl refl) (body_of leaving_to_parameter left_literal) by_start refl left_literal_is_in refl in
    let r4 = member_calls_at_once _ _ 1 0 (world_of r2).store (body_of leaving_to_parameter left_literal) (newest_of ((world_of r2).stacks 0)) r3 refl 0 refl 166 170 115 181 193 left_literal_is left_literal_has_no_parameter left_literal_captures_it refl in
    let r5 = past_return 0 r4 refl refl refl true refl in
    quiet_of _ _ _ r5 refl record { stage = refl; saved = refl } refl refl refl refl refl (contains_here 0 [])

leaving_to_parameter_is_loud : HasLoudReturn (program_with leaving_to_parameter)
leaving_to_parameter_is_loud =
    let r1 = past_other 0 begins_with_group refl (ap runs leaving_to_parameter_is) refl true refl in
    let r2 = past_maker 0 r1 refl refl refl true refl in
    let r3 = past_start 0 r2 refl refl refl true 1 (has_group (whole leaving_to_parameter) 90 (world_of r2).store (with_group empty_world.store outside None) (newest_of ((world_of r2).stacks 0)) (Some 0) has_group_parameter refl refl) (free_now 1 refl refl) (body_of leaving_to_parameter left_literal) by_start refl left_literal_is_in refl in
    let r4 = past_return 0 r3 refl refl refl true refl in
    loud_of _ _ _ r4 refl record { stage = refl; saved = refl } refl refl refl refl refl

-- the member leaves, and then the saved Wait ends
deferring_wait_is_quiet : HasQuietMaker (program_with deferring_wait)
deferring_wait_is_quiet =
    let r0 = begins (program_with deferring_wait) (whole deferring_wait) deferring_wait_is_of deferring_wait_is_outermost in
    let r1 = past_other 0 r0 refl (ap runs deferring_wait_is) refl true refl in
    let r2 = past_making 0 r1 refl refl refl true refl in
    let r3 = past_saved_wait 0 r2 refl refl refl true refl in
    let r4 = past_stranger 0 r3 refl refl refl true 1 refl (free_now 1 refl refl) by_start refl in
    let r5 = past_return 0 r4 refl refl refl true refl in
    let r6 = leaves 1 r5 refl refl in
    let r7 = runs_its_wait 0 r6 (Some 0) refl refl refl (none_left _ 0 (came_and_went 0 0 1)) in
    quiet_maker _ _ _ r7 refl record { stage = refl; saved = refl } refl 0 (contains_here 0 []) (quiet_if _ _ _ r7 (λ a c. absurd (contains_nil a c)) (each_one _ 0 (none_left _ 0 (came_and_went 0 0 1))) (each_one _ 0 (λ a e. no_context _ a e)))

-- the literal is called when the function has returned
handing_over_is_loud : HasLoudReturn (program_with handing_over)
handing_over_is_loud =
    let r0 = begins (program_with handing_over) (whole handing_over) handing_over_is_of handing_over_is_outermost in
    let r1 = step_more r0 (of_environment (evaluates_literal 0 _ (body_of handing_over handed_literal) (contains_here _ []) handed_literal_escapes)) in
    let r2 = past_other 0 r1 refl (ap runs handing_over_is) refl true refl in
    let r3 = past_other 0 r2 refl refl refl true refl in
    let r4 = past_return 0 r3 refl refl refl true refl in
    let r5 = is_gone 0 r4 refl refl refl in
    let r6 = step_more r5 (of_environment (starts_literal 0 _ (λ v. nothing) (λ v. None) (free_now 0 refl refl) (contains_here _ []) (none_given _))) in
    let l1 = past_other 0 r6 refl (ap runs handed_literal_is) refl true refl in
    let l2 = past_maker 0 l1 refl refl refl true refl in
    let l3 = past_return 0 l2 refl refl refl true refl in
    loud_of _ _ _ l3 refl record { stage = refl; saved = refl } refl refl refl refl refl

-- the member that the other function started stays
lending_on_is_loud : HasLoudMaker (program_of lending)
lending_on_is_loud =
    let r0 = begins (program_of lending) lender lender_is_of lender_is_outermost in
    let r1 = past_other 0 r0 refl (ap runs lender_is) refl true refl in
    let r2 = past_making 0 r1 refl refl refl true refl in
    let r3 = past_loan 0 r2 refl refl refl true refl in
    let given = contents_are_given (world_of r3).store helper (lends_one (Some 0)) (joining_lends _ None _ record { position = 0; group = Some 0 } (λ q e. absurd (no_call q e)) is_first) in
    let r4 = acts _ _ 0 _ [] _ _ r3 refl (makes_call record { stage = refl; waits = refl } refl (of_function helper (given_values helper (lends_one (Some 0))) (given_groups helper (lends_one (Some 0))) helper_is_function given)) in
    let g1 = past_other 0 r4 refl (ap runs helper_is) refl true refl in
    let g2 = past_stranger 0 g1 refl refl refl true 1 (has_group helper 141 (world_of g1).store (world_of r3).store (newest_of ((world_of g1).stacks 0)) (Some 0) helper_has_parameter refl (helper_gets_it (Some 0))) (free_now 1 refl refl) by_start refl in
    let g3 = past_return 0 g2 refl refl refl true refl in
    let g4 = is_gone 0 g3 refl refl refl in
    let r5 = past_return 0 g4 refl refl refl true refl in
    loud_maker _ _ _ r5 refl record { stage = refl; saved = refl } refl 0 (contains_here 0 []) (λ q. q.ended 0 (contains_here 0 []) 1 refl)
  where
    no_call : (q : Passing) → None ≡ Some q → ⊥
    no_call q e = cc

pub group_returns_exist : GroupReturnsExist
group_returns_exist = record {
  awaiting_is_quiet = awaiting_is_quiet;
  joining_is_quiet = joining_is_quiet;
  trying_is_quiet = trying_is_quiet;
  crossing_is_quiet = crossing_is_quiet;
  leaving_early_is_quiet = leaving_early_is_quiet;
  leaving_to_parameter_is_quiet = leaving_to_parameter_is_quiet;
  trying_is_loud = trying_is_loud;
  leaving_early_is_loud = leaving_early_is_loud;
  remaking_is_loud = remaking_is_loud;
  leaving_to_another_is_loud = leaving_to_another_is_loud;
  leaving_to_parameter_is_loud = leaving_to_parameter_is_loud;
  deferring_wait_is_quiet = deferring_wait_is_quiet;
  lending_on_is_loud = lending_on_is_loud;
  handing_over_is_loud = handing_over_is_loud;
}
