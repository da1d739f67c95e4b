-- In every run of a program whose bodies are kept, at each return what the frame owes was met, and so was what it has to
-- see to; and each group that it made is over, or a goroutine was started that waits for it.
use Rattle.std.proofs.Common.{◌≡◌, ℕ, ◌⊎◌, length, Contains, subst}
use Rattle.std.proofs.lemmas.Option.{none-some}
use Rattle.meaning_runs.specs.Bodies.{Program}
use Rattle.meaning.specs.Classes.{Promises}
use Rattle.meaning_runs.specs.World.{Place, Frame, World}
use Rattle.meaning_runs.specs.Runs.{Run, no_step, step_more, IsReturning, Owes}
use Rattle.meaning_runs.proofs.CaredActs.{BodiesAreKept}
use Rattle.meaning_runs.proofs.CaredCalls.{made_over, owed_at_end, must_at_end}
use Rattle.meaning_runs.proofs.CaredFor.{MustSee, IsMet, IsCared, AreCared}
use Rattle.meaning_runs.proofs.CaredWorlds.{running_cared, running_over, IsCaredWorld, step_cared}
use Rattle.meaning_runs.proofs.HeldWorlds.{running_held, run_held}
use Rattle.meaning_runs.proofs.Holders.{IsHolder, AreHolders}
use Rattle.meaning_runs.proofs.MadeGroups.{HasNoFaultUnder, IsOver, IsGone, IsSeenOver, AreSeenOver, Nothing}
use Rattle.meaning_runs.proofs.Remembered.{Past, Memory, first_past, memory_of}
use Rattle.meaning_runs.proofs.WhoStarts.{BodiesAreWellUsed}
use Rattle.meaning_runs.proofs.WholeInvariant.{RunsAreFine}

-- in every world of a run each group that a frame made is seen over
abbrev pub GroupsAreSeenOver : Program → Type 0
GroupsAreSeenOver p = (least : ℕ) (w : World) (run : Run p w) (g : ℕ)
    → AreSeenOver p (memory_of least run).origins w.store g Nothing Nothing (w.stacks g) ((memory_of least run).pasts g)

module _ (p : Program) (used : BodiesAreWellUsed p) (kept : BodiesAreKept p) (over : GroupsAreSeenOver p) where
  pub run_cared : (least : ℕ) (w : World) (run : Run p w) → IsCaredWorld p w (memory_of least run)
  run_cared least w no_step = record { functions = λ g. tt; roots = λ g group a e must. absurd (none-some group e) }
  run_cared least w (step_more {w = before} run step) =
      step_cared p used kept before (memory_of least run) (run_held p used least before run) (run_cared least before run)
      (over least before run) w step

  pub runs_are_fine : RunsAreFine p
  runs_are_fine least w run = record {
    held = run_held p used least w run;
    groups = over least w run;
    functions = (run_cared least w run).functions;
    roots = (run_cared least w run).roots;
  }

  -- what a returning frame owes was met, and the groups that it made are over, or gone
  module _ (w : World) (f : Frame) (run : Run p w) (back : IsReturning w f) where
    -- what is said of the frame at some level
    module _ (least : ℕ) where
      abbrev pub m : Memory
      m = memory_of least run

      abbrev pub q : Past
      q = first_past (m.pasts back.goroutine)

      abbrev pub place : Place
      place = (back.goroutine, length back.others)

      pub its_holder : IsHolder p m.origins w.store place q f
      its_holder = (running_held p m.origins w.store back.goroutine f back.others (m.pasts back.goroutine)
          (subst (λ l. AreHolders p m.origins w.store back.goroutine l (m.pasts back.goroutine)) back.is_running
          ((runs_are_fine least w run).held.holders back.goroutine))).0

      pub its_care : IsCared p m.origins w.store Nothing q f
      its_care = (running_cared p m.origins w.store Nothing f back.others (m.pasts back.goroutine)
          (subst (λ l. AreCared p m.origins w.store Nothing l (m.pasts back.goroutine)) back.is_running
          ((runs_are_fine least w run).functions back.goroutine))).0

      its_groups : IsSeenOver p m.origins w.store place Nothing Nothing q f
      its_groups = running_over p m.origins w.store back.goroutine Nothing Nothing f back.others (m.pasts back.goroutine)
          (subst (λ l. AreSeenOver p m.origins w.store back.goroutine Nothing Nothing l (m.pasts back.goroutine))
          back.is_running ((runs_are_fine least w run).groups back.goroutine))

      abbrev its_none : (relies : Promises) × HasNoFaultUnder p f.body relies
      its_none = kept.no_fault f.body its_holder.is_of

      pub owed_is_met : (a : ℕ) → m.origins.least ≡ 0 → Owes f a → IsMet p m.origins w.store a
      owed_is_met = owed_at_end its_holder its_care its_groups its_none (λ v r. kept.called f.body v its_holder.is_of r)
          (λ v r. kept.waited f.body v its_holder.is_of r) back.is_at_end

      pub must_is_met : (a : ℕ) → MustSee p f.body q a → IsMet p m.origins w.store a
      must_is_met = must_at_end its_holder its_care its_groups its_none (λ v r. kept.called f.body v its_holder.is_of r)
          (λ v r. kept.waited f.body v its_holder.is_of r) back.is_at_end

      pub made_is_over : (a : ℕ) → Contains f.made a → IsOver w.store Nothing a ⊎ IsGone m.origins a
      made_is_over = made_over its_holder its_care its_groups its_none (λ v r. kept.called f.body v its_holder.is_of r)
          (λ v r. kept.waited f.body v its_holder.is_of r) back.is_at_end
