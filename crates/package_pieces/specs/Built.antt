-- A body of a file of a package.
use Rattle.std.specs.Prelude.{◌≡◌, List, Some, slice_get}
use Rattle.bodies.specs.Bodies.{TellsPlace}
use Rattle.bodies.specs.declared.body.Body.{Body}
use Rattle.calls_flags.specs.declared.told_file.ToldFile.{ToldFile}
use Rattle.events.specs.declared.found.Variables.{Variables}
use Rattle.mentions.specs.MarkViews.{body_view}
use Rattle.mentions.specs.declared.mark.BodyPlace.{BodyPlace}
use Rattle.package_pieces.specs.declared.numbers.BodyNumber.{BodyNumber}

-- it is the one of that number, if a file opens it and its variables were sought
abbrev pub IsBuilt : List ToldFile → BodyNumber → Body → Type 0
IsBuilt files number body =
    (file : ToldFile) → slice_get files number.file ≡ Some file
    → (variables : Variables) → file.variables ≡ Some variables
    → (place : BodyPlace) → slice_get file.told.opened.items number.body ≡ Some place
    → TellsPlace number.file file.told variables (body_view place) body
