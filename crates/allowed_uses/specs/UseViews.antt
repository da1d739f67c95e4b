-- What the program keeps of an allowed mention, and what it stands for.
use Rattle.std.specs.Prelude.{Bool, List, [], ◌∷◌, Option, Some, None}
use Rattle.allowed_uses.specs.declared.allowed_use.Use.{Use as KeptUse}
use Rattle.allowed_uses.specs.declared.allowed_use.Use.TheVariants.{NotAllowed, Silent, Does}
use Rattle.tracked_rows.specs.EventViews.{event_view}
use Rattle.meaning.specs.Uses.{Event}

abbrev pub use_view : KeptUse → Option (List Event)
use_view NotAllowed = None
use_view Silent = Some []
use_view (Does event) = Some (event_view event ∷ [])

abbrev pub allowed_if : Bool → Event → Option (List Event)
allowed_if is_allowed event = Rattle.meaning.specs.Uses.allowed_if is_allowed (event ∷ [])
