-- What shows that runs come to returns of frames that made groups, or that left a cancel function to one: quiet ones
-- and others. Of a use that the rules don't allow the machine tells nothing, so no other one of `crossing` stands here.
use Rattle.std.specs.Prelude.{◌≡◌, ℕ, [], ◌∷◌, Contains}
use Rattle.meaning_runs.specs.Bodies.{Program}
use Rattle.meaning_runs.specs.World.{Frame, World}
use Rattle.meaning_runs.specs.Runs.{Run, IsReturning, IsQuiet}
use Rattle.meaning_runs.specs.Returns.{HasQuietReturn, HasLoudReturn}
use Rattle.meaning_runs.specs.GroupExamples.{program_of, program_with, awaiting, trying, joining, crossing, leaving_early, leaving_to_parameter, remaking, leaving_to_another, deferring_wait, handing_over, lending_on, starting_there}

pub record ComesToMakersReturn (p : Program) (w : World) (f : Frame) : Type 0 where
  pub run : Run p w
  pub is_returning : IsReturning w f
  pub is_of_package : f.body.home ≡ p.looked_at
  pub group : ℕ
  pub has_made : Contains f.made group

abbrev pub HasQuietMaker : Program → Type 0
HasQuietMaker p = (w : World) × (f : Frame) × ComesToMakersReturn p w f × IsQuiet w f

abbrev pub HasLoudMaker : Program → Type 0
HasLoudMaker p = (w : World) × (f : Frame) × ComesToMakersReturn p w f × (IsQuiet w f → ⊥)

pub record GroupReturnsExist : Type 0 where
  pub awaiting_is_quiet : HasQuietMaker (program_with awaiting)
  pub joining_is_quiet : HasQuietMaker (program_with joining)
  pub trying_is_quiet : HasQuietMaker (program_with trying)
  pub crossing_is_quiet : HasQuietMaker (program_with crossing)
  pub leaving_early_is_quiet : HasQuietMaker (program_with leaving_early)
  pub leaving_to_parameter_is_quiet : HasQuietReturn (program_with leaving_to_parameter)
  pub deferring_wait_is_quiet : HasQuietMaker (program_with deferring_wait)
  -- the group starts nothing
  pub trying_is_loud : HasLoudReturn (program_with trying)
  -- work goes on, or the context of a group does
  pub leaving_early_is_loud : HasLoudMaker (program_with leaving_early)
  pub remaking_is_loud : HasLoudMaker (program_with remaking)
  pub leaving_to_another_is_loud : HasLoudMaker (program_with leaving_to_another)
  -- the member has not called the function yet
  pub leaving_to_parameter_is_loud : HasLoudReturn (program_with leaving_to_parameter)
  -- the function that gets the group has started work in it
  pub lending_on_is_loud : HasLoudMaker (program_of (lending_on ∷ starting_there ∷ []))
  -- The return is that of the literal, since no other frame has anything to see to: so it is run, whoever gets it.
  pub handing_over_is_loud : HasLoudReturn (program_with handing_over)
