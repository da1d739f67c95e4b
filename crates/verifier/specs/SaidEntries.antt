-- What is said of the bodies of a file besides, as the program goes over them: use faults and faults of passes.
use Rattle.std.specs.Prelude.{ℕ, ◌≡◌, ◌↔◌, ◌⊎◌, Bool, if◌then◌else◌, List, [], ◌∷◌, map, Some, slice_get, Contains}
use Rattle.findings.specs.FoundEntries.{use_entries, AddsEntries, IsOfBodies, IsPassEntry}
use Rattle.meaning.specs.BodyEvents.{body_faults}
use Rattle.meaning.specs.Mentions.{BodyPlace}
use Rattle.meaning.specs.Uses.{Callee, Seen}
use Rattle.meaning_packages.specs.CallsFlags.{Flags, FileWithCredits}
use Rattle.meaning_packages.specs.Credits.{Credits}
use Rattle.report.specs.Entries.{Entry, entry_of}
use Rattle.report.specs.declared.diagnostics.Diagnostic.{Diagnostic}
use Rattle.verifier.specs.FoundBodies.{with_table}
use Rattle.verifier.specs.Verified.{Given, AreGivenCredits, IsSaid, uncertified_entry}

-- a body of which the paths are not followed has no certificate, and nothing is said of that
abbrev pub uncertified_entries : Bool → ℕ → BodyPlace → List Entry
uncertified_entries is_unfollowed number b = if is_unfollowed then [] else uncertified_entry number b ∷ []

module _ (calls : Callee → ℕ → Bool) (number : ℕ) (file : FileWithCredits) where
  abbrev pub IsUseOrPass : BodyPlace → Entry → Type 0
  IsUseOrPass b x = Contains (use_entries number (body_faults file.seen b.at)) x ⊎ IsPassEntry calls number file b x

  -- of one of these bodies
  abbrev pub IsUseOrPassIn : List BodyPlace → Entry → Type 0
  IsUseOrPassIn = IsOfBodies IsUseOrPass

-- all is said that is to be said of the file, with the credits that it has by its certificates
pub record SaysAll
    (given : Given) (own : Flags) (calls : Callee → ℕ → Bool) (number : ℕ) (seen : Seen)
    (before after : List Diagnostic)
    : Type 0 where
  pub credits : Credits
  pub are_given : AreGivenCredits given own calls number (with_table seen credits)
  pub adds : AddsEntries before after (IsSaid given own calls number (with_table seen credits))

-- of one of these files
pub record IsSaidIn
    (given : Given) (own : Flags) (calls : Callee → ℕ → Bool) (files : List FileWithCredits) (x : Entry)
    : Type 0 where
  pub number : ℕ
  pub file : FileWithCredits
  pub is_file : slice_get files number ≡ Some file
  pub is_said : IsSaid given own calls number file x

-- so it is of files that were seen so, where just these entries are said
pub record AreSaid
    (given : Given) (own : Flags) (calls : Callee → ℕ → Bool) (seens : List Seen) (said : List Diagnostic)
    : Type 0 where
  pub files : List FileWithCredits
  pub are_seen : map (λ f. f.seen) files ≡ seens
  pub are_credits : (number : ℕ) (file : FileWithCredits)
      → slice_get files number ≡ Some file
      → AreGivenCredits given own calls number file
  pub each : (x : Entry) → Contains (map entry_of said) x ↔ IsSaidIn given own calls files x
