-- Which files are read for the names of Go files that the go command writes for a unit.
-- (`go help test`: files that end in `_test.go` are of tests. cmd/cgo writes for a file X.go that uses C a file
-- X.cgo1.go, and others that begin with `_cgo_`, into another folder; what a person wrote is X.go.)
use Rattle.std.specs.Prelude.{◌≡◌, ◌⊎◌, ℕ, ◌-◌, ◌==◌, ◌||◌, not, if◌then◌else◌, nat_eq, Bool, false, List, [], ◌∷◌, ◌++◌, Option, Some, None, codes, flat_map, length, option_to_list, take}
use Rattle.std.specs.List.{ends_with, starts_with}
use Rattle.std.specs.Option.{option_map_or}
use Rattle.std.specs.Str.{bytes_eq}
use Rattle.folders.specs.GoFiles.{source_name}
use Rattle.folders.specs.ListedFiles.{inside}

abbrev pub slash : ℕ
slash = 47

abbrev pub has_slash : List ℕ → Bool
has_slash [] = false
has_slash (b ∷ bs) = b == slash || has_slash bs

-- what stands in a name behind its last slash
abbrev pub base_name : List ℕ → List ℕ
base_name [] = []
base_name (b ∷ bs) = if has_slash (b ∷ bs) then base_name bs else b ∷ bs

-- the folder of a file, by its name: what stands before the last slash, or, where there is none, the current one
abbrev pub IsFolderOf : List ℕ → List ℕ → Type 0
IsFolderOf name folder =
    (name ≡ folder ++ (slash ∷ base_name name)) ⊎ ((has_slash name ≡ false) × (folder ≡ codes "."))

-- the file lies in the folder, and not in one below it
abbrev pub is_in : List ℕ → List ℕ → Bool
is_in folder name = option_map_or (λ rest. bytes_eq rest (base_name name)) (inside folder name) false

-- X, of a name X.cgo1.go
abbrev pub made_of : List ℕ → Option (List ℕ)
made_of name =
    if ends_with nat_eq name (codes ".cgo1.go") then Some (take (length name - length (codes ".cgo1.go")) name)
    else None

-- the file that stands for a name outside of the folder, by what cgo made it of
abbrev pub file_of : List ℕ → List ℕ → Option (List ℕ) → Option (List ℕ)
file_of folder name (Some front) = Some (source_name folder (front ++ codes ".go"))
file_of folder name None = if starts_with nat_eq (base_name name) (codes "_cgo_") then None else Some name

-- the file that stands for the name, where one does
abbrev pub file_for : List ℕ → List ℕ → Option (List ℕ)
file_for folder name = if is_in folder name then Some name else file_of folder name (made_of (base_name name))

abbrev pub is_of_tests : List ℕ → Bool
is_of_tests name = ends_with nat_eq name (codes "_test.go")

-- files of tests are read where that is asked for
abbrev pub if_read : Bool → Option (List ℕ) → Option (List ℕ)
if_read with_tests None = None
if_read with_tests (Some file) = if with_tests || not (is_of_tests file) then Some file else None

abbrev pub picked_file : Bool → List ℕ → List ℕ → Option (List ℕ)
picked_file with_tests folder name = if_read with_tests (file_for folder name)

-- the files that are read for these names, in their order
abbrev pub picked_files : Bool → List ℕ → List (List ℕ) → List (List ℕ)
picked_files with_tests folder = flat_map (λ name. option_to_list (picked_file with_tests folder name))
