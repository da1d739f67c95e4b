-- Names of files that are picked one after the other.
use Rattle.std.proofs.Common.{◌≡◌, ℕ, ◌+◌, ◌<◌, Bool, List, ◌++◌, length, get_or, drop, map, Option, Some, None, option_map, string_bytes, refl, sym, ap, ◌∙◌}
use Rattle.std.proofs.lemmas.List.{append_assoc, drop_more, map-append}
use Rattle.std.specs.Prelude.{String, option_to_list}
use Rattle.std.specs.declared.alloc.Global.{Global}
use Rattle.folders.specs.UnitFiles.{picked_file, picked_files}

abbrev Text : Type 0
Text = String Global

one_at_most : (file : Option Text) → map string_bytes (option_to_list file) ≡ option_to_list (option_map string_bytes file)
one_at_most None = refl
one_at_most (Some file) = refl

module _ (with_tests : Bool) (folder : List ℕ) (names : List Text) (i : ℕ) (name : Text) (inside : i < length names)
    (there : name ≡ get_or names i name) where
  abbrev left : ℕ → List (List ℕ)
  left n = picked_files with_tests folder (map string_bytes (drop n names))

  first_left : left i ≡ option_to_list (picked_file with_tests folder (string_bytes name)) ++ left (i + 1)
  first_left =
      ap (λ l. picked_files with_tests folder (map string_bytes l)) (drop_more names i name inside)
      ∙ ap (λ n. option_to_list (picked_file with_tests folder (string_bytes n)) ++ left (i + 1)) (sym there)

  pub next_picked : (old new : List Text) (file : Option Text) (whole : List (List ℕ))
      → option_map string_bytes file ≡ picked_file with_tests folder (string_bytes name)
      → new ≡ old ++ option_to_list file
      → map string_bytes old ++ left i ≡ whole
      → map string_bytes new ++ left (i + 1) ≡ whole
  next_picked old new file whole picked grown so =
      let kept : map string_bytes (option_to_list file) ≡ option_to_list (picked_file with_tests folder (string_bytes name))
      = one_at_most file ∙ ap option_to_list picked in
      ap (λ l. map string_bytes l ++ left (i + 1)) grown
      ∙ (ap (λ l. l ++ left (i + 1)) (map-append string_bytes old (option_to_list file))
      ∙ (append_assoc (map string_bytes old) (map string_bytes (option_to_list file)) (left (i + 1))
      ∙ (ap (λ l. map string_bytes old ++ (l ++ left (i + 1))) kept
      ∙ (ap (λ l. map string_bytes old ++ l) (sym first_left) ∙ so))))
