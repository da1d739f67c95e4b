-- Which imports of a package have to be yes, by what was told of its files, and by what is known around it.
use Rattle.std.specs.Prelude.{ℕ, ◌&&◌, Bool, true, List}
use Rattle.calls_flags.specs.declared.told_file.ToldFile.{ToldFile}
use Rattle.calls_flags.specs.HandedOn.{files_hand}
use Rattle.tree.specs.declared.edition.Edition.{Edition}
use Rattle.tree.specs.declared.edition.Edition.TheVariants.{First, Second}
use Rattle.one_package.specs.Judgments.{Surroundings}

-- it hands something to the package of that path, which counts as given
abbrev pub is_needed : Edition → Surroundings → List ToldFile → List ℕ → Bool
is_needed First around files path = true
is_needed Second around files path = files_hand path files && around.counted path
