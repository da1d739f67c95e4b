-- What is handed on in the files that are walked is what the package hands on.
use Rattle.std.proofs.Common.{◌≡◌, ℕ, Bool, true, List, Some, Contains, sym, ◌∙◌, subst}
use Rattle.std.specs.Prelude.{slice_get}
use Rattle.std.proofs.lemmas.Option.{same_Some}
use Rattle.calls_flags.specs.ToldFiles.{TellAllSeen}
use Rattle.calls_flags.specs.declared.told_file.ToldFile.{ToldFile}
use Rattle.meaning_reports.specs.Loaded.{LoadedPackage, Tables, seen_files}
use Rattle.meaning_reports.specs.UsedImports.{IsUsed}
use Rattle.silent_files.specs.WalkedFiles.{walked_files, SkipsSilent}
use Rattle.silent_files.proofs.WalkedFiles.{walks_are_enough}
use Rattle.calls_flags.specs.HandedOn.{files_hand}
use Rattle.calls_flags.specs.UsedPackages.{HandedIsUsed}
use Rattle.calls_flags.proofs.FileHands.{are_handed}

module _ (ps : List LoadedPackage) (tables : Tables) (i : ℕ) (p : LoadedPackage) (walked : ℕ → Bool)
    (kept : List ToldFile) (path : List ℕ) (is_p : slice_get ps i ≡ Some p) (skip : SkipsSilent ps tables p walked)
    (tell : TellAllSeen (walked_files ps tables p walked) kept) where
  used_so : files_hand path kept ≡ true → IsUsed ps tables i path
  used_so e =
      let h = (are_handed (walked_files ps tables p walked) kept path tell).0 e in
      let over = (walks_are_enough.hand_over ps tables p walked h.callee skip).0
      record { file = h.file; is_file = h.is_file; hands = h.hands } in
      record {
        user = p;
        file = over.file;
        callee = h.callee;
        is_user = is_p;
        is_file = over.is_file;
        is_of_path = h.is_of_path;
        hands = over.hands;
      }

  so_used : IsUsed ps tables i path → files_hand path kept ≡ true
  so_used u =
      let same = same_Some u.user p (sym u.is_user ∙ is_p) in
      let over = (walks_are_enough.hand_over ps tables p walked u.callee skip).1 record {
        file = u.file;
        is_file = subst (λ q. Contains (seen_files ps tables q) u.file) same u.is_file;
        hands = u.hands;
      } in
      (are_handed (walked_files ps tables p walked) kept path tell).1 record {
        file = over.file;
        callee = u.callee;
        is_file = over.is_file;
        is_of_path = u.is_of_path;
        hands = over.hands;
      }

pub is_used_so : HandedIsUsed
is_used_so ps tables i p walked kept path is_p skip tell =
    (used_so ps tables i p walked kept path is_p skip tell, so_used ps tables i p walked kept path is_p skip tell)
