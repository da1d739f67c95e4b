-- Which packages count as given, by what the program keeps of them.
use Rattle.std.specs.Prelude.{◌&&◌, Bool, true, false, not, is_some, map}
use Rattle.std.specs.List.{list_all}
use Rattle.tree.specs.View.{file_syntax}
use Rattle.meaning.specs.TwoFunctions.{second_function}
use Rattle.meaning_reports.specs.Loaded.{counts_by}
use Rattle.whole_packages.specs.declared.loaded_package.Reading.{Reading as KeptReading}
use Rattle.whole_packages.specs.declared.loaded_package.Reading.TheVariants.{Tree, NoTokens, NoTree}
use Rattle.whole_packages.specs.declared.loaded_package.LoadedPackage.{LoadedPackage as KeptPackage}

abbrev pub is_tree : KeptReading → Bool
is_tree Tree = true
is_tree (NoTokens at why) = false
is_tree (NoTree at why) = false

-- each of its files has a tree, and no two of its functions have one name
abbrev pub kept_whole : KeptPackage → Bool
kept_whole k =
    list_all is_tree k.readings.items && not (is_some (second_function (map file_syntax k.trees.items)))

abbrev pub kept_counts : KeptPackage → Bool
kept_counts k = counts_by k.edition (kept_whole k)
