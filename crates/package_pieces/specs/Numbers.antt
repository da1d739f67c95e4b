-- The bodies of the files of a package by their numbers, in their order.
use Rattle.std.specs.Prelude.{ℕ, zero, suc, ◌+◌, List, [], ◌∷◌, if◌then◌else◌, is_none, length}
use Rattle.calls_flags.specs.declared.file_bodies.FileBodies.{FileBodies}
use Rattle.calls_flags.specs.declared.told_file.ToldFile.{ToldFile}
use Rattle.package_pieces.specs.declared.numbers.BodyNumber.{BodyNumber}

-- of the file of that number so many bodies, the first of which stands at that place
abbrev pub numbers_from : ℕ → ℕ → ℕ → List BodyNumber
numbers_from file body zero = []
numbers_from file body (suc count) = record { file = file; body = body } ∷ numbers_from file (body + 1) count

-- how many bodies a file that was told of opens: none, where its variables were not sought
abbrev pub opened_count : ToldFile → ℕ
opened_count file = if is_none file.variables then 0 else length file.told.opened.items

-- the bodies that such a file opens
abbrev pub opened_numbers : ℕ → ToldFile → List BodyNumber
opened_numbers number file = numbers_from number 0 (opened_count file)

-- those that are kept of a file
abbrev pub kept_numbers : ℕ → FileBodies → List BodyNumber
kept_numbers number file = numbers_from number 0 (length file.bodies.items)
