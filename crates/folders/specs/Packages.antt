-- A word `PATH=DIR` of the command line names a package: its import path and the folder of its files.
-- The first `=` parts them, so a path has none and a folder may.
use Rattle.std.specs.Prelude.{◌≡◌, ◌≢◌, ℕ, ◌<◌, List, ◌++◌, length, All, codes}
use Rattle.folders.specs.Names.{IsPrintable}

abbrev pub equals_sign : ℕ
equals_sign = 61

-- the word is the path, its first `=`, and the folder; neither is empty, and the report can print the path
pub record IsPackageWord (word path folder : List ℕ) : Type 0 where
  pub parts : word ≡ path ++ (codes "=" ++ folder)
  pub first : All (λ b. b ≢ equals_sign) path
  pub has_path : 0 < length path
  pub has_folder : 0 < length folder
  pub printable : IsPrintable path
