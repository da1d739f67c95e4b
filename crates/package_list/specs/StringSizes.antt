-- What serves the code that cuts a text: how much of a text lies within a string that is open.
use Rattle.std.specs.Prelude.{ℕ, suc, Bool, true, false, List, [], ◌∷◌, if◌then◌else◌}
use Rattle.package_list.specs.Pieces.{place_after}
use Rattle.package_list.specs.declared.cut.Place.{Place}
use Rattle.package_list.specs.declared.cut.Place.TheVariants.{Outside, InString, Taken}

-- no string is open
abbrev pub is_outside : Place → Bool
is_outside Outside = true
is_outside InString = false
is_outside Taken = false

-- how many bytes there are up to the quote that ends the string, with it; all, where none ends it
abbrev pub string_size : Place → List ℕ → ℕ
string_size place [] = 0
string_size place (b ∷ bytes) =
    if is_outside (place_after place b) then 1 else suc (string_size (place_after place b) bytes)
