-- At which bytes a text is cut.
use Rattle.std.specs.Prelude.{ℕ, Bool}
use Rattle.folders.specs.GoModules.{ends_line, is_blank, is_in_word}
use Rattle.folders.specs.declared.go_modules.Stop.{Stop}
use Rattle.folders.specs.declared.go_modules.Stop.TheVariants.{LineEnd, Blank, Word}

abbrev pub stops : Stop → ℕ → Bool
stops LineEnd = ends_line
stops Blank = is_blank
stops Word = is_in_word
