-- What is told of each file of a package is told of all.
use Rattle.std.proofs.Common.{◌≡◌, ℕ, suc, ◌+◌, List, [], ◌∷◌, map, Some, refl, subst, arith}
use Rattle.std.specs.Prelude.{slice_get}
use Rattle.calls_flags.proofs.ToldInOrder.{none_told, first_and}
use Rattle.calls_flags.specs.ToldFiles.{known_for, seen_by, TellAllSeen}
use Rattle.calls_flags.specs.declared.told_file.Telling.{Telling}
use Rattle.calls_flags.specs.declared.told_file.ToldFile.{ToldFile}
use Rattle.package_pieces.specs.Told.{IsToldAt}
use Rattle.silent_files.specs.WalkedFiles.{is_walked, seen_if, seen_some}
use Rattle.tree.specs.View.{file_syntax}
use Rattle.tree.specs.declared.file.File.{File}
use Rattle.workers.specs.Pieces.{ComeOf}

module _ (telling : Telling) where
  abbrev Comes : ℕ → File → ToldFile → Type 0
  Comes place file told = IsToldAt telling place told

  told_from : (number : ℕ) (files : List File) (ks : List ToldFile)
      → ((i : ℕ) (file : File) → slice_get files i ≡ Some file → slice_get telling.files.now (number + i) ≡ Some file)
      → ComeOf Comes number files ks
      → TellAllSeen
      (seen_some (is_walked telling.walked.now) (known_for telling) number (map file_syntax files)) ks
  told_from number [] [] at h = none_told
  told_from number [] (k ∷ ks) at h = absurd h
  told_from number (file ∷ files) [] at h = absurd h
  told_from number (file ∷ files) (k ∷ ks) at h =
      let walked = is_walked telling.walked.now in
      let There : File → ℕ → Type 0 = λ f n. slice_get telling.files.now n ≡ Some f in
      first_and (seen_if (walked number) (known_for telling number) (file_syntax file)) k
      (seen_some walked (known_for telling) (number + 1) (map file_syntax files)) ks
      (h.0 file (subst (There file) (omega arith) (at 0 file refl)))
      (told_from (number + 1) files ks (λ i f is. subst (There f) (omega arith) (at (suc i) f is)) h.1)

  pub all_told : (ks : List ToldFile) → ComeOf Comes 0 telling.files.now ks → TellAllSeen (seen_by telling) ks
  all_told ks h =
      told_from 0 telling.files.now ks
      (λ i f is. let There : ℕ → Type 0 = λ n. slice_get telling.files.now n ≡ Some f in subst There (omega arith) is) h
