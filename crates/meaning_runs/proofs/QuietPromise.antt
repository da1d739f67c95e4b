-- Where nothing is to be said of some packages, to which belongs all that these pass or lend to, each return of one of them
-- is as promised, whatever other packages do: in the first edition it is quiet, and in each edition it is settled.
use Rattle.std.proofs.Common.{◌≡◌, true, ◌∙◌, ap}
use Rattle.meaning_reports.specs.Loaded.{HaveDistinctPaths, counts}
use Rattle.meaning_reports.proofs.CountedPackages.{well}
use Rattle.meaning_runs.specs.Bodies.{Program, IsRun}
use Rattle.meaning_runs.specs.Promise.{AreWellKnown, HaveNoFindings, YesIsQuiet, YesIsQuietInAll, YesIsQuietWithoutGo, all_run}
use Rattle.meaning_runs.specs.World.{Frame, World}
use Rattle.meaning_runs.specs.Runs.{Run, IsReturning, IsQuiet, IsOfFirst, IsSettled}
use Rattle.meaning_runs.proofs.CaredActs.{BodiesAreKept}
use Rattle.meaning_runs.proofs.FirstEdition.{first_has_no_go}
use Rattle.meaning_runs.proofs.KeptBodies.{bodies_are_kept}
use Rattle.meaning_runs.proofs.KeptPromises.{are_well_used}
use Rattle.meaning_runs.proofs.MadeGroupWorlds.{run_seen}
use Rattle.meaning_runs.proofs.QuietGroups.{GroupsAreSeenOver}
use Rattle.meaning_runs.proofs.QuietWithoutGo.{return_is_quiet}
use Rattle.meaning_runs.proofs.SeenInAll.{settled_in_all}
use Rattle.meaning_runs.proofs.SettledReturns.{return_is_settled}
use Rattle.meaning_runs.proofs.Shown.{AreAmong}
use Rattle.meaning_runs.proofs.ShownRuns.{quiet_in_all}
use Rattle.meaning_runs.proofs.WhoStarts.{BodiesAreWellUsed}

module _ (p : Program) (known : AreWellKnown p) (none : HaveNoFindings p (IsRun p)) where
  kept : BodiesAreKept p
  kept = bodies_are_kept p known none

  used : BodiesAreWellUsed p
  used = are_well_used p known none

  over : GroupsAreSeenOver p
  over = run_seen p (are_well_used p known none) (bodies_are_kept p known none).binds
      record { each = (bodies_are_kept p known none).waited }

  pub first_is_quiet : IsOfFirst p → (w : World) (f : Frame) → Run p w → IsReturning w f → IsQuiet w f
  first_is_quiet first = return_is_quiet p used kept over (first_has_no_go p first)

  pub is_settled : (w : World) (f : Frame) (run : Run p w) → IsReturning w f → IsSettled p w run f
  is_settled = return_is_settled p used kept over

  among : AreAmong p
  among = record {
    are_closed = known.are_closed;
    are_counted = λ home q is there. well p.packages home q there (known.of_package home q is there).has_no_whole_fault;
  }

  pub first_is_quiet_in_all : HaveDistinctPaths p.packages → IsOfFirst (all_run p) → (w : World) (f : Frame) → Run (all_run p) w
      → IsReturning w f
      → p.are_run f.body.home ≡ true
      → IsQuiet w f
  first_is_quiet_in_all distinct first w f run back here =
      quiet_in_all p among distinct
      (first_is_quiet (λ i q is at. first i q (ap counts at ∙ among.are_counted i q is at) at)) w f run back here

  pub settled_everywhere : HaveDistinctPaths p.packages → (w : World) (f : Frame) (run : Run (all_run p) w) → IsReturning w f
      → p.are_run f.body.home ≡ true
      → IsSettled (all_run p) w run f
  settled_everywhere distinct w f run back here = settled_in_all p among distinct is_settled w f run back here

pub yes_is_quiet_without_go : YesIsQuietWithoutGo
yes_is_quiet_without_go p never known none =
    return_is_quiet p (used p known none) (kept p known none) (over p known none) never

pub yes_is_quiet : YesIsQuiet
yes_is_quiet p known none w f run back home = record {
  in_first = λ first. first_is_quiet p known none first w f run back;
  in_each = is_settled p known none w f run back;
}

pub yes_is_quiet_in_all : YesIsQuietInAll
yes_is_quiet_in_all p distinct known none looked_at w f run back home = record {
  in_first = λ first. first_is_quiet_in_all p known none distinct first w f run back (ap p.are_run home ∙ looked_at);
  in_each = settled_everywhere p known none distinct w f run back (ap p.are_run home ∙ looked_at);
}
