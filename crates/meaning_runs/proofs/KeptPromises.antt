-- Where nothing is to be said of any package that runs go through, each body has promises on which its paths have no
-- fault, a variable that it is known to call has some on which it is called, and a group that a literal is known to
-- wait for has some on which it is never left live.
use Rattle.std.proofs.Common.{◌≡◌, ℕ, Some, sym, ◌∙◌}
use Rattle.std.specs.Prelude.{slice_get}
use Rattle.std.proofs.lemmas.Bool.{false≢true}
use Rattle.meaning.specs.Classes.{Promises, CancelClass, opened, kept, safe, pending}
use Rattle.meaning.specs.BodyEvents.{Variable}
use Rattle.meaning_packages.specs.PathFaults.{KeepsCall, paths_of}
use Rattle.meaning_packages.specs.Credits.{Credits, AreFairCredits, no_calls, promises_in}
use Rattle.meaning_reports.specs.Loaded.{LoadedPackage}
use Rattle.meaning_runs.specs.Bodies.{Program, Body, IsRun, IsOf}
use Rattle.meaning_runs.specs.Duties.{calls_in, IsCreditedWith, AreTakenUp, IsWaitingFor}
use Rattle.meaning_runs.specs.Promise.{AreWellKnown, HaveNoFindings}
use Rattle.meaning_runs.proofs.CaredFor.{IsCalledUnder, IsRelied, of_flag, of_credit}
use Rattle.meaning_runs.proofs.Credited.{literals_taken_up, literals_wait}
use Rattle.meaning_runs.proofs.GroupDuties.{never_live, is_safe_at_return, well_used, no_fault_there}
use Rattle.meaning_runs.proofs.KnownFlags.{functions_taken_up}
use Rattle.meaning_runs.proofs.MadeGroups.{HasNoFaultUnder, IsWaitedForUnder}
use Rattle.meaning_runs.proofs.WellUsedBodies.{bodies_are_well_used}
use Rattle.meaning_runs.proofs.WhoStarts.{BodiesAreWellUsed}

safe≢opened : (k : CancelClass) → k ≡ safe → k ≡ opened → ⊥
safe≢opened k e q = let bad : safe ≡ opened = sym e ∙ q in cc

safe≢kept : (k : CancelClass) → k ≡ safe → k ≡ kept → ⊥
safe≢kept k e q = let bad : safe ≡ kept = sym e ∙ q in cc

safe≢pending : (k : CancelClass) (n : ℕ) → k ≡ safe → k ≡ pending n → ⊥
safe≢pending k n e q = let bad : safe ≡ pending n = sym e ∙ q in cc

-- what a literal is credited with it keeps
credit_keeps : (b : Body) (v : Variable) (c : IsCreditedWith b v)
    → KeepsCall (paths_of b.file (promises_in no_calls c.credits b.place.at) b.place) v
credit_keeps b v c = record {
  never_open = λ handed t o back. safe≢opened _ (is_safe_at_return b v c handed t o back);
  never_kept = λ handed t o back. safe≢kept _ (is_safe_at_return b v c handed t o back);
  never_left = λ handed t o back left.
      safe≢pending _ left.left_to.number (is_safe_at_return b v c handed t o back) left.is_pending;
}

module _ (p : Program) (known : AreWellKnown p) (below : HaveNoFindings p (IsRun p)) where
  pub are_well_used : BodiesAreWellUsed p
  are_well_used = bodies_are_well_used p (well_used p below known.of_texts)

  taken_up : (b : Body) (loaded : LoadedPackage) (credits : Credits) → IsOf p b
      → slice_get p.packages b.home ≡ Some loaded
      → AreFairCredits b.file credits
      → AreTakenUp p b (promises_in (calls_in p loaded) credits b.place.at)
  taken_up b loaded credits of is fair =
      let apart = (well_used p below known.of_texts b of).apart in
      record {
        functions = functions_taken_up p known b loaded of is;
        literals = literals_taken_up b apart credits fair (calls_in p loaded);
        waits = literals_wait b apart credits fair (calls_in p loaded);
      }

  -- what a literal relies on for what it captures: on other literals alone
  literals_alone : (b : Body) (credits : Credits) → IsOf p b → AreFairCredits b.file credits
      → AreTakenUp p b (promises_in no_calls credits b.place.at)
  literals_alone b credits of fair =
      let apart = (well_used p below known.of_texts b of).apart in
      record {
        functions = λ f k hands e. absurd (false≢true e);
        literals = literals_taken_up b apart credits fair no_calls;
        waits = literals_wait b apart credits fair no_calls;
      }

  pub no_fault_under : (b : Body) → IsOf p b → (relies : Promises) × HasNoFaultUnder p b relies
  no_fault_under b of =
      let h = no_fault_there p below b of in (
        promises_in (calls_in p of.loaded) h.credits b.place.at,
        record {
          are_taken_up = taken_up b of.loaded h.credits of of.is_package h.are_fair;
          none = h.none;
        },
      )

  pub called_under : (b : Body) (v : Variable) → IsOf p b → IsRelied p b v
      → (relies : Promises) × IsCalledUnder p b relies v
  called_under b v of (of_flag g) = (
    promises_in (calls_in p g.loaded) g.credits b.place.at,
    record {
      are_taken_up = taken_up b g.loaded g.credits of g.is_package g.are_fair;
      is_relied = of_flag g;
      keeps = g.keeps;
    },
  )
  called_under b v of (of_credit c) = (
    promises_in no_calls c.credits b.place.at,
    record {
      are_taken_up = literals_alone b c.credits of c.are_fair;
      is_relied = of_credit c;
      keeps = credit_keeps b v c;
    },
  )

  pub waited_for_under : (b : Body) (v : Variable) → IsOf p b → IsWaitingFor b v
      → (relies : Promises) × IsWaitedForUnder p b relies v
  waited_for_under b v of c = (
    promises_in no_calls c.credits b.place.at,
    record {
      are_taken_up = literals_alone b c.credits of c.are_fair;
      waits_for = c;
      never_live = never_live b v c;
    },
  )
