-- Each running frame goes on.
use Rattle.std.proofs.Common.{◌≡◌, ℕ, Bool, true, false, List, [], ◌∷◌, ◌++◌, length, None, refl, sym, ◌∙◌, subst}
use Rattle.meaning.specs.Code.{Code}
use Rattle.meaning.specs.Tracked.{idle, live}
use Rattle.meaning.specs.Uses.{Callee, Event, other, obtain, clear, call, defer_call, pass, defer_pass, lend, start, try, wait, defer_wait, make, defer_literal, go_call, go_pass, go_literal, go, return_event, obtain_kept, renew, keep, call_kept, defer_kept, give, give_field}
use Rattle.meaning_runs.specs.Bodies.{Program}
use Rattle.meaning_runs.specs.World.{nothing, put_at, new_frame, Store, Stage, runs, Frame, World}
use Rattle.meaning_runs.specs.Steps.{at_code, starts_call, starts_its_literal, of_go, DoesNext, new_one, zero_group, with_context, MayJoin, is_first, Acts, moves_on, does_other, obtains_one, clears_one, calls_one, saves_call, makes_group, tries_nothing, ends_wait, saves_wait, evaluates, evaluates_deferred, lends, saves_literal, comes_to_return, runs_call, runs_literal, runs_wait, returns_now, by_start, of_goroutine, obtains_into, keeps_one, renews_object, calls_kept, saves_kept, gives_object, gives_in_field}
use Rattle.meaning_runs.specs.Laws.{GoesTo, StandsAt, stage_behind, IsReady, FramesGoOn, FramesHaveSteps}
use Rattle.meaning_runs.proofs.Contexts.{put_at-same, put_at-other}
use Rattle.meaning_runs.proofs.FreeGoroutines.{none_given, apart, starts_one}

module _ (p : Program) (w : World) (g : ℕ) (f : Frame) (others : List Frame) (at : w.stacks g ≡ f ∷ others) where
  -- what it does, its goroutine's frames are then
  acts : (after : Store) (frames : List Frame) → Acts p w.store (g, length others) f after frames
      → GoesTo p w g (λ fs. fs ≡ frames ++ others)
  acts after frames a = (_, of_goroutine g at a, put_at-same w.stacks g (frames ++ others))

  stands : (after : Store) (frame : Frame) (stage : Stage) → Acts p w.store (g, length others) f after (frame ∷ [])
      → frame.body ≡ f.body
      → frame.stage ≡ stage
      → GoesTo p w g (StandsAt f stage others)
  stands after frame stage a same is =
      let n = acts after (frame ∷ []) a in
      (n.0, n.1, record { frame = frame; is_running = n.2; same_body = same; is_at = is })

  first : (c : Callee) (is_deferred : Bool) (n : ℕ) → f.waiting ≡ None → MayJoin c is_deferred n f.waiting
  first c is_deferred n e = subst (λ o. MayJoin c is_deferred n o) (sym e) is_first

  by_its_event : (e : Event) (rest : Code Event) → DoesNext f e rest → IsReady w f e
      → GoesTo p w g (StandsAt f (stage_behind e rest) others)
  by_its_event other rest d h = stands _ _ _ (does_other d) refl refl
  by_its_event (obtain u c n is_new) rest d h = stands _ _ _ (obtains_one d (new_one None tt)) refl refl
  by_its_event (obtain_kept u c n x) rest d h = stands _ _ _ (obtains_into d (new_one None tt)) refl refl
  by_its_event (renew v x) rest d h = stands _ _ _ (renews_object d) refl refl
  by_its_event (keep v x) rest d h = stands _ _ _ (keeps_one d) refl refl
  by_its_event (call_kept v x) rest d h = stands _ _ _ (calls_kept d) refl refl
  by_its_event (defer_kept v x) rest d h = stands _ _ _ (saves_kept d) refl refl
  by_its_event (give v x) rest d h = stands _ _ _ (gives_object d) refl refl
  by_its_event (give_field v) rest d h = stands _ _ _ (gives_in_field d) refl refl
  by_its_event (clear u) rest d h = stands _ _ _ (clears_one d) refl refl
  by_its_event (call v) rest d h = stands _ _ _ (calls_one d) refl refl
  by_its_event (defer_call v) rest d h = stands _ _ _ (saves_call d) refl refl
  by_its_event (pass u c n) rest d h = stands _ _ _ (evaluates d.comes_to (first c false n d.none_waits)) refl refl
  by_its_event (defer_pass u c n) rest d h =
      stands _ _ _ (evaluates_deferred d.comes_to (first c true n d.none_waits)) refl refl
  by_its_event (lend v c n) rest d h = stands _ _ _ (lends d.comes_to (first c false n d.none_waits)) refl refl
  by_its_event (start v literal) rest d h =
      let n = starts_one p w g f others (start v literal) rest v h.0.0 literal at d by_start h.0.1 h.1 h.2 in (
        n.next,
        n.step,
        record { frame = record f { stage = runs rest }; is_running = n.goes_on; same_body = refl; is_at = refl },
      )
  by_its_event (try v literal) rest d h = stands _ _ _ (tries_nothing d) refl refl
  by_its_event (wait v) rest d h = stands _ _ _ (ends_wait d h) refl refl
  by_its_event (defer_wait v) rest d h = stands _ _ _ (saves_wait d) refl refl
  by_its_event (make u idle) rest d h = stands _ _ _ (makes_group d zero_group) refl refl
  by_its_event (make u live) rest d h = stands _ _ _ (makes_group d (with_context None tt)) refl refl
  by_its_event (defer_literal offset) rest d h = stands _ _ _ (saves_literal h.0 d h.1 h.2) refl refl
  by_its_event (go (go_call v)) rest d h = (
    _,
    of_go (starts_call g record { is_running = at; does_next = d }),
    record {
      frame = at_code f rest;
      is_running = put_at-same w.stacks g (at_code f rest ∷ others);
      same_body = refl;
      is_at = refl;
    },
  )
  by_its_event (go (go_pass callee xs)) rest d h = absurd h
  by_its_event (go (go_literal offset)) rest d h =
      let stacks = put_at w.stacks g (at_code f rest ∷ others) in
      let stack = new_frame w.store h.0.0 f.newest ∷ [] in (
        _,
        of_go (starts_its_literal g h.1.0 h.0.0 (λ v. nothing) (λ v. None) record { is_running = at; does_next = d } h.1.1
            h.0.1 h.0.2 (none_given w.store)),
        record {
          frame = at_code f rest;
          is_running =
              put_at-other stacks h.1.0 stack g (λ q. apart w g h.1.0 f others at h.1.1 (sym q))
              ∙ put_at-same w.stacks g (at_code f rest ∷ others);
          same_body = refl;
          is_at = refl;
        },
      )
  by_its_event (return_event handed) rest d h = stands _ _ _ (comes_to_return d) refl refl

  frame_goes_on : FramesGoOn p w g f others
  frame_goes_on = record {
    silently = λ d. stands _ _ _ (moves_on d) refl refl;
    by_event = λ e d h. by_its_event e _ d h;
    by_saved_call = λ r. acts _ _ (runs_call r);
    by_saved_literal = λ r. acts _ _ (runs_literal (λ v. nothing) (λ v. None) r (none_given w.store));
    by_saved_wait = λ r e. acts _ _ (runs_wait r e);
    at_its_end = λ h. acts _ _ (returns_now h);
  }

pub frames_have_steps : FramesHaveSteps
frames_have_steps = frame_goes_on
