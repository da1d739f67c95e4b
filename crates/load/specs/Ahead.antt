-- Files that were read before their packages are made.
use Rattle.std.specs.Prelude.{⊤, List, [], ◌∷◌, Option, IfSome, flat_map, map}
use Rattle.lexer.specs.declared.source.Source.{Source}
use Rattle.tree.specs.declared.edition.Edition.{Edition}
use Rattle.load.specs.declared.ahead.FileToRead.{FileToRead}
use Rattle.load.specs.declared.packages.GivenPackage.{GivenPackage}
use Rattle.load.specs.Readings.{IsParsed, Parsed}

-- a file, and the edition in which it is read
abbrev pub EditionAndFile : Type 0
EditionAndFile = Edition × Source

abbrev pub file_view : FileToRead → EditionAndFile
file_view file = (file.edition, file.source.now)

-- these files, in that edition
abbrev pub files_in : Edition → List Source → List EditionAndFile
files_in edition = map (λ source. (edition, source))

-- the files of all packages, package by package
abbrev pub files_of : List GivenPackage → List EditionAndFile
files_of = flat_map (λ given. files_in given.edition given.sources.items)

-- This became of these files, in their order, as far as it is known.
abbrev pub AreReadAhead : List EditionAndFile → List (Option Parsed) → Type 0
AreReadAhead files [] = ⊤
AreReadAhead [] (parsed ∷ more) = ⊤
AreReadAhead (file ∷ files) (parsed ∷ more) = IfSome parsed (IsParsed file.0 file.1) × AreReadAhead files more
