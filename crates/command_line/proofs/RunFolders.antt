-- A file that lies in no folder of a run of the go command.
use Rattle.std.proofs.Common.{◌≡◌, ◌⊎◌, inl, inr, ℕ, ◌&&◌, Bool, true, false, if◌then◌else◌, List, Option, Some, None, codes, nat_eq, refl, sym, ap, ◌∙◌}
use Rattle.std.specs.Prelude.{option_and_then}
use Rattle.std.specs.List.{starts_with}
use Rattle.std.specs.Str.{bytes_eq}
use Rattle.command_line.specs.VetWords.{run_folder, split_last}

neither : (a b : Bool) → (a ≡ false) ⊎ (b ≡ false) → (a && b) ≡ false
neither true true (inl e) = e
neither true true (inr e) = e
neither true false e = refl
neither false b e = refl

abbrev is_run : List ℕ → List ℕ × List ℕ → Bool
is_run name parts = bytes_eq name (codes "vet.cfg") && starts_with nat_eq parts.1 (codes "go-build")

abbrev by_run : List ℕ → List ℕ → List ℕ × List ℕ → Option (List ℕ)
by_run name run parts = if is_run name parts then Some run else None

abbrev by_folder : List ℕ → List ℕ × List ℕ → Option (List ℕ)
by_folder name parts = option_and_then (by_run name parts.0) (split_last parts.0)

abbrev by_file : List ℕ × List ℕ → Option (List ℕ)
by_file parts = option_and_then (by_folder parts.1) (split_last parts.0)

-- these are the parts of the file's name, of that of its folder, and of that of the folder around it
pub no_run_folder : (file unit name run base above last : List ℕ) → Some (unit, name) ≡ split_last file
    → Some (run, base) ≡ split_last unit
    → Some (above, last) ≡ split_last run
    → (bytes_eq name (codes "vet.cfg") ≡ false) ⊎ (starts_with nat_eq last (codes "go-build") ≡ false)
    → None ≡ run_folder file
no_run_folder file unit name run base above last of_file of_unit of_run test =
    ap (λ t. if t then Some run else None)
    (sym (neither (bytes_eq name (codes "vet.cfg")) (starts_with nat_eq last (codes "go-build")) test))
    ∙ (ap (option_and_then (by_run name run)) of_run
    ∙ (ap (option_and_then (by_folder name)) of_unit ∙ ap (option_and_then by_file) of_file))
