-- By which edition of the rules the packages of a run are judged.
use Rattle.std.specs.Prelude.{ℕ, List, [], ◌∷◌, Option, Some, None}
use Rattle.command_line.specs.Words.{option_texts}
use Rattle.command_line.specs.declared.words.Sources.{Sources}
use Rattle.tree.specs.declared.edition.Edition.{Edition}
use Rattle.tree.specs.declared.edition.Edition.TheVariants.{First, Second}

-- by this edition packages are judged: the one that words ask for, or else this one
abbrev pub edition_or : Edition → Option Edition → Edition
edition_or usual None = usual
edition_or usual (Some asked) = asked

-- by the second edition where a list is named, and else by the first one, unless one is asked for
abbrev pub usual_edition : List (List ℕ) → Edition
usual_edition [] = First
usual_edition (list ∷ lists) = Second

-- all packages of a run are judged by one edition
abbrev pub edition_of_run : Sources → Edition
edition_of_run sources = edition_or (usual_edition (option_texts sources.list)) sources.edition
