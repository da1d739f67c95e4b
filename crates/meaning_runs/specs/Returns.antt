-- What shows that runs come to returns at which a frame owes a cancel function, quiet ones and others.
use Rattle.std.specs.Prelude.{◌≡◌, ℕ, [], ◌∷◌}
use Rattle.meaning_runs.specs.Bodies.{Program}
use Rattle.meaning_runs.specs.World.{Frame, World}
use Rattle.meaning_runs.specs.Runs.{Run, IsReturning, Owes, IsQuiet}
use Rattle.meaning_runs.specs.Examples.{program_with, saving, forgetting, passing, taking, deferring, overwriting}

pub record ComesToOwingReturn (p : Program) (w : World) (f : Frame) : Type 0 where
  pub run : Run p w
  pub is_returning : IsReturning w f
  pub is_of_package : f.body.home ≡ p.looked_at
  pub owed : ℕ
  pub owes : Owes f owed

abbrev pub HasQuietReturn : Program → Type 0
HasQuietReturn p = (w : World) × (f : Frame) × ComesToOwingReturn p w f × IsQuiet w f

abbrev pub HasLoudReturn : Program → Type 0
HasLoudReturn p = (w : World) × (f : Frame) × ComesToOwingReturn p w f × (IsQuiet w f → ⊥)

pub record ReturnsExist : Type 0 where
  pub saving_is_quiet : HasQuietReturn (program_with (saving ∷ []))
  pub passing_is_quiet : HasQuietReturn (program_with (passing ∷ taking ∷ []))
  pub deferring_is_quiet : HasQuietReturn (program_with (deferring ∷ []))
  pub forgetting_is_loud : HasLoudReturn (program_with (forgetting ∷ []))
  pub overwriting_is_loud : HasLoudReturn (program_with (overwriting ∷ []))
