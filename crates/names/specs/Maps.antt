-- Maps in which the first value of a name counts, as functions from names.
use Rattle.std.specs.Prelude.{ℕ, ◌≡◌, Bool, if◌then◌else◌, Option, Some, None, option_map, List}
use Rattle.std.specs.Borrow.{Bor}
use Rattle.indexmap.specs.IndexMap.{IndexMap}
use Rattle.meaning.specs.OuterBlocks.{or_else, is_first_path, any_path, is_called, PackageLevel, package_meant}
pub use Rattle.first_values.specs.ValuesByName.{only_at}
use Rattle.names.specs.Answers.{at_name, text_at}

-- names that had no value have now the one that is given here
abbrev pub Adds :
    {V S : Type 0} → IndexMap (Bor (List ℕ)) V S → IndexMap (Bor (List ℕ)) V S → (List ℕ → Option V) → Type 0
Adds before after given = (name : List ℕ) → at_name after name ≡ or_else (at_name before name) (given name)

abbrev pub AddsTexts :
    {S : Type 0} → IndexMap (Bor (List ℕ)) (Bor (List ℕ)) S → IndexMap (Bor (List ℕ)) (Bor (List ℕ)) S
    → (List ℕ → Option (List ℕ)) → Type 0
AddsTexts before after given = (name : List ℕ) → text_at after name ≡ or_else (text_at before name) (given name)

-- the paths whose imports are looked at
abbrev pub chosen_path : Bool → List ℕ → Bool
chosen_path only_first path = if only_first then is_first_path path else any_path path

-- the import declares that name
abbrev pub import_given : List ℕ → List ℕ → List ℕ → Option (List ℕ)
import_given name path other = if is_called other name then Some path else None

-- whether what the package declares by the name is a function
abbrev pub is_function_in : List PackageLevel → List ℕ → Option Bool
is_function_in block name = option_map (λ d. d.is_function) (package_meant block name)
