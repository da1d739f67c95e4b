-- What is found of a package by its certificates is what the rules say of it.
use Rattle.std.proofs.Common.{◌≡◌, ℕ, List, map, Contains, Some, Option, sym, ap, ◌∙◌, subst}
use Rattle.std.specs.Prelude.{◌↔◌, slice_get}
use Rattle.std.proofs.lemmas.Option.{same_Some}
use Rattle.calls_flags.specs.Claims.{HaveFacts}
use Rattle.meaning.proofs.Membership.{contains_map}
use Rattle.meaning.specs.FunctionFacts.{FunctionFacts}
use Rattle.meaning.specs.Uses.{Seen}
use Rattle.meaning_packages.specs.CallsFlags.{Flags, FileWithCredits, calls_by}
use Rattle.meaning_reports.specs.Loaded.{LoadedPackage, Tables, imported_flags, known_in, seen_files, signatures_of, trees_of}
use Rattle.meaning_runs.proofs.EntryPlaces.{tree_seen}
use Rattle.path_faults.proofs.Places.{place_of}
use Rattle.report.specs.Entries.{Entry, entry_of}
use Rattle.report.specs.declared.diagnostics.Diagnostic.{Diagnostic}
use Rattle.verifier.proofs.OneVerified.{seen_of, claimed_too, one_verified}
use Rattle.verifier.specs.Rules.{GivenByPath, IsVerified, AreFlagsByCertificates, SaysByCertificates}
use Rattle.verifier.specs.SaidEntries.{AreSaid, IsSaidIn}
use Rattle.verifier.specs.Verified.{Given, IsSaid, AreClaimed}

-- the functions of the package have these facts in each of its files
pub have_facts : (ps : List LoadedPackage) (tables : Tables) (p : LoadedPackage) (facts : List ℕ → Option FunctionFacts)
    → ((name : List ℕ) → facts name ≡ signatures_of ps p name)
    → (files : List FileWithCredits) → seen_of files ≡ seen_files ps tables p
    → HaveFacts facts files
have_facts ps tables p facts are files seen = record {
  each = λ file h name.
      let among = contains_map (λ (f : FileWithCredits). f.seen) files file h in
      let at = place_of (seen_files ps tables p) file.seen (subst (λ ss. Contains ss file.seen) seen among) in
      let w = tree_seen (known_in ps tables p) 0 (trees_of p) at.0 file.seen at.1 in
      ap (λ (s : Seen). s.known.functions name) (sym w.2) ∙ sym (are name);
}

-- what is claimed is seen in the files alone
claimed_in : (files others : List FileWithCredits) → seen_of files ≡ seen_of others → (given : Given) (flags : Flags)
    → AreClaimed files given flags
    → AreClaimed others given flags
claimed_in files others same given flags are name k = (
  λ e. claimed_too files others same given name k ((are name k).0 e),
  λ h. (are name k).1 (claimed_too others files (sym same) given name k h),
)

module _ (by : GivenByPath) (ps : List LoadedPackage) (tables : Tables) (i : ℕ) (p : LoadedPackage)
    (is_p : slice_get ps i ≡ Some p) (flags : Flags) (imported : List ℕ → Flags)
    (are_imported : (path name : List ℕ) (k : ℕ) → imported path name k ≡ imported_flags p tables path name k)
    (fs : List FileWithCredits) (seen : seen_of fs ≡ seen_files ps tables p)
    (are_claimed : AreClaimed fs (by p.path) flags) (said : List Diagnostic)
    (are_said : AreSaid (by p.path) flags (calls_by flags imported) (seen_of fs) said) where
  same_imported : imported ≡ imported_flags p tables
  same_imported j path name k = are_imported path name k j

  -- under what is known of the imports
  here : AreSaid (by p.path) flags (calls_by flags (imported_flags p tables)) (seen_of fs) said
  here = subst (λ (f : List ℕ → Flags). AreSaid (by p.path) flags (calls_by flags f) (seen_of fs) said) same_imported are_said

  is_verified : IsVerified by ps tables i p here.files flags
  is_verified = record {
    is_package = is_p;
    are_seen = here.are_seen ∙ seen;
    are_flags = claimed_in fs here.files (sym here.are_seen) (by p.path) flags are_claimed;
    are_credits = here.are_credits;
  }

  pub are_flags : AreFlagsByCertificates by ps tables i p flags
  are_flags = record { files = here.files; is_verified = is_verified }

  says : (x : Entry) → IsSaidIn (by p.path) flags (calls_by flags (imported_flags p tables)) here.files x
      → SaysByCertificates by ps tables i x
  says x h = record {
    loaded = p;
    files = here.files;
    flags = flags;
    is_verified = is_verified;
    number = h.number;
    file = h.file;
    is_file = h.is_file;
    is_said = h.is_said;
  }

  -- under what the package is, and what it is judged by
  of_package : (q : LoadedPackage) → q ≡ p → (others : List FileWithCredits) (more : Flags)
      → IsVerified by ps tables i q others more
      → (number : ℕ) (file : FileWithCredits) → slice_get others number ≡ Some file
      → (x : Entry)
      → IsSaid (by q.path) more (calls_by more (imported_flags q tables)) number file x
      → IsSaidIn (by p.path) flags (calls_by flags (imported_flags p tables)) here.files x
  of_package q same others more verified number file is x h =
      let one = one_verified by ps tables i p others here.files more flags
      (subst (λ (r : LoadedPackage). IsVerified by ps tables i r others more) same verified) is_verified in
      record {
        number = number;
        file = file;
        is_file = subst (λ fs. slice_get fs number ≡ Some file) one.1 is;
        is_said =
            subst (λ (f : Flags). IsSaid (by p.path) f (calls_by f (imported_flags p tables)) number file x) one.0
            (subst (λ (r : LoadedPackage). IsSaid (by r.path) more (calls_by more (imported_flags r tables)) number file x)
            same h);
      }

  pub each : (x : Entry) → Contains (map entry_of said) x ↔ SaysByCertificates by ps tables i x
  each x = (
    λ h. says x ((here.each x).0 h),
    λ h. (here.each x).1
        (of_package h.loaded (same_Some h.loaded p (sym h.is_verified.is_package ∙ is_p)) h.files h.flags h.is_verified
        h.number h.file h.is_file x h.is_said),
  )
