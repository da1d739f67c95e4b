-- What is seen to is seen to after each step too: where the goroutine that sees to it ends by the step, its function has
-- come to its return.
use Rattle.std.proofs.Common.{◌≡◌, ℕ, ◌⊎◌, inl, inr, List, [], ◌∷◌, ◌++◌, refl, sym, ap, ◌∙◌}
use Rattle.std.proofs.lemmas.Bool.{cases_eq}
use Rattle.meaning_runs.specs.Bodies.{Program}
use Rattle.meaning_runs.specs.World.{put_at, Frame, World}
use Rattle.meaning_runs.specs.Steps.{IsAtEnd, ChangesMembers, starts_member, starts_stranger, starts_outside, starts_beside, leaves_group, StartsGoroutine, starts_call, starts_function, starts_foreign, starts_its_literal, Step, of_goroutine, of_members, of_go, of_environment}
use Rattle.meaning_runs.specs.Laws.{CalledForStays}
use Rattle.meaning_runs.specs.Runs.{Run, step_more, was_started, not_yet, runs_on, IsSeenTo, is_so, by_goroutine, IsCalledFor}
use Rattle.meaning_runs.proofs.BegunRoots.{none_left, called_stays, step_started}
use Rattle.meaning_runs.proofs.Contexts.{put_at-same, put_at-other}
use Rattle.meaning_runs.proofs.Followed.{IsSome, cons_is_some, put_some, surrounds_keeps, keeps_then}
use Rattle.meaning_runs.proofs.Starts.{acts_end}

-- it had one frame, which was at its end
record HasEnded (w : World) (g : ℕ) : Type 0 where
  frame : Frame
  is_running : w.stacks g ≡ frame ∷ []
  is_at_end : IsAtEnd frame

some_or_none : (fs : List Frame) → (fs ≡ []) ⊎ IsSome fs
some_or_none [] = inl refl
some_or_none (f ∷ fs) = inr (cons_is_some f fs)

module _ {p : Program} {w : World} (g : ℕ) (some : IsSome (w.stacks g)) where
  members_keep : {next : World} (changes : ChangesMembers p w next) → IsSome (next.stacks g)
  members_keep (starts_member {f = f} {others = others} {rest = rest} h k b values groups work free is_in is_at foreign) =
      put_some (put_at w.stacks h _) k _ g (cons_is_some _ []) (put_some w.stacks h _ g (cons_is_some _ others) some)
  members_keep (starts_stranger {others = others} h k work free) = put_some w.stacks h _ g (cons_is_some _ others) some
  members_keep (starts_outside h k running call lent is free) = some
  members_keep (starts_beside h k member none free) = some
  members_keep (leaves_group h member none) = some

  goings_keep : {next : World} (going : StartsGoroutine p w next) → IsSome (next.stacks g)
  goings_keep (starts_call {others = others} h sets) = put_some w.stacks h _ g (cons_is_some _ others) some
  goings_keep (starts_function {others = others} h k b values groups sets free is fits) =
      put_some (put_at w.stacks h _) k _ g (cons_is_some _ []) (put_some w.stacks h _ g (cons_is_some _ others) some)
  goings_keep (starts_foreign {others = others} h sets no_body) = put_some w.stacks h _ g (cons_is_some _ others) some
  goings_keep (starts_its_literal {others = others} h k b values groups sets free is_in is_at foreign) =
      put_some (put_at w.stacks h _) k _ g (cons_is_some _ []) (put_some w.stacks h _ g (cons_is_some _ others) some)

  step_ends : {next : World} (step : Step p w next) → next.stacks g ≡ [] → HasEnded w g
  step_ends (of_goroutine {f = f} {others = others} {after = after} {frames = frames} h running acts) e = elim (cases_eq g h) [
    | inr ne ↦ absurd (some (sym (put_at-other w.stacks h (frames ++ others) g ne) ∙ e))
    | inl same ↦
        let here = sym (put_at-same w.stacks h (frames ++ others)) ∙ (sym (ap (put_at w.stacks h (frames ++ others)) same) ∙ e) in
        elim (none_left frames others) [
          | inl none ↦ record {
            frame = f;
            is_running = ap w.stacks same ∙ running ∙ ap (λ l. f ∷ l) none.1;
            is_at_end = acts_end acts none.0;
          }
          | inr left ↦ absurd (left (no_others frames others here) (no_frames frames others here))
        ]
  ]
    where
      no_frames : (fs os : List Frame) → fs ++ os ≡ [] → fs ≡ []
      no_frames [] os e = refl
      no_frames (f ∷ fs) os e = absurd (cons_is_some f (fs ++ os) e)

      no_others : (fs os : List Frame) → fs ++ os ≡ [] → os ≡ []
      no_others [] os e = e
      no_others (f ∷ fs) os e = absurd (cons_is_some f (fs ++ os) e)
  step_ends (of_members changes) e = absurd (members_keep changes e)
  step_ends (of_go going) e = absurd (goings_keep going e)
  step_ends (of_environment surrounds) e = absurd (surrounds_keeps surrounds g some e)

seen_on : (p : Program) (a : ℕ) (w next : World) (run : Run p w) (step : Step p w next)
    → IsSeenTo p (IsCalledFor a) w run
    → IsSeenTo p (IsCalledFor a) next (step_more run step)
seen_on p a w next run step (is_so h) = is_so (called_stays p w next a run step h)
seen_on p a w next run step (by_goroutine g was some returns) =
    elim (some_or_none (next.stacks g)) [
      | inr still ↦ by_goroutine g (step_started (was_started run) g some was step) still
          (λ later more f keeps running at_end. returns later more f
          (keeps_then p g w run next (step_more run step) later more (runs_on not_yet step still) keeps) running at_end)
      | inl gone ↦
          let k = step_ends g some step gone in
          seen_on p a w next run step (returns w run k.frame not_yet k.is_running k.is_at_end)
    ]

pub called_for_stays : CalledForStays
called_for_stays p w next a run step seen = seen_on p a w next run step seen
