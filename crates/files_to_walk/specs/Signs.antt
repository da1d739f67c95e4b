-- Which packages may have a function that gives a cancel function, and of which packages a name says something, as far
-- as the program knows.
use Rattle.std.specs.Prelude.{ℕ, ◌≡◌, Bool, true, List, Option, option_map}
use Rattle.first_values.specs.ValuesByName.{value_of}
use Rattle.whole_packages.specs.WholeEntries.{is_set}
use Rattle.files_to_walk.specs.declared.signs.KnownSigns.{KnownSigns}
use Rattle.files_to_walk.specs.declared.signs.Signs.{Signs}

-- what gives a cancel function has a result that is tracked
abbrev pub GiversAreTold : Signs → Type 0
GiversAreTold signs = signs.gives ≡ true → signs.is_told ≡ true

-- the signs of the package of that path, if anything is known of it
abbrev pub signs_by_path : KnownSigns → List ℕ → Option Signs
signs_by_path known = value_of known.packages

-- a function of the package of that path may give a cancel function
abbrev pub may_give : KnownSigns → List ℕ → Bool
may_give known path = is_set (option_map (λ s. s.gives) (signs_by_path known path))

-- a function of it has a parameter or a result that is tracked, or anything is declared of it
abbrev pub is_told : KnownSigns → List ℕ → Bool
is_told known path = is_set (option_map (λ s. s.is_told) (signs_by_path known path))
