-- Of which packages a name says something, by what is known around the package that imports them.
use Rattle.std.specs.Prelude.{ℕ, ◌||◌, Bool, List}
use Rattle.meaning.specs.OuterBlocks.{is_first_path}
use Rattle.one_package.specs.Judgments.{Surroundings}

abbrev pub says_something : Surroundings → List ℕ → Bool
says_something around path = is_first_path path || around.told path
