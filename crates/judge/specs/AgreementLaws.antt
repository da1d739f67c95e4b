-- What `check` and `verify` have to do with each other, of one file. `check` makes the least certificate of each body.
-- Where it has nothing to say of the file, these are believed: `verify` relies on the same literals, and has nothing to
-- say either. And where `verify` believes them, `check` has nothing to say.
use Rattle.std.specs.Prelude.{ℕ, ◌≡◌, Bool, true, List, [], Some, Contains}
use Rattle.judge.specs.OwnGroups.{HaveOwnGroups, KeepByEdition}
use Rattle.certificates.specs.Least.{IsLeastOf}
use Rattle.checker.specs.Certificates.{is_claimed}
use Rattle.meaning.specs.BodyEvents.{Variable, bodies_of, variables_of, unfollowed_faults}
use Rattle.meaning.specs.FunctionFacts.{cancel}
use Rattle.meaning.specs.Mentions.{BodyPlace}
use Rattle.meaning.specs.Uses.{Callee}
use Rattle.meaning_packages.specs.CallsFlags.{Flags, FileWithCredits}
use Rattle.meaning_packages.specs.Credits.{AreFullCredits, promises_in}
use Rattle.meaning_packages.specs.PathFaults.{paths_of, KeepsCall}
use Rattle.meaning_reports.specs.PackageReports.{IsFileFinding}
use Rattle.report.specs.Entries.{Entry}
use Rattle.verifier.specs.Verified.{Given, flags_of_body, AreGivenCredits}
use Rattle.verifier.specs.VerifierLaws.{BodiesHaveOwnPlaces, SaysNothing}

-- the rows that are given for the body are those of its least certificate, under what the file relies on
pub record IsGivenLeast
    (given : Given) (calls : Callee → ℕ → Bool) (number : ℕ) (file : FileWithCredits) (b : BodyPlace)
    : Type 0 where
  pub rows : List (List ℕ)
  pub are_given : given.rows number b.at ≡ Some rows
  pub are_least : IsLeastOf (paths_of file.seen (promises_in calls file.credits b.at) b) rows

-- so it is of each body whose paths are followed
abbrev pub GivesLeast : Given → (Callee → ℕ → Bool) → ℕ → FileWithCredits → Type 0
GivesLeast given calls number file = (b : BodyPlace)
    → Contains (bodies_of file.seen) b
    → unfollowed_faults file.seen b ≡ []
    → IsGivenLeast given calls number file b

-- the file as `check` sees it, with all its credits, and its certificates
pub record HasLeastCertificates
    (given : Given) (calls : Callee → ℕ → Bool) (number : ℕ) (file : FileWithCredits)
    : Type 0 where
  pub are_full : AreFullCredits file.seen file.credits
  pub each : GivesLeast given calls number file

-- each body keeps what is known of its parameters
abbrev pub KeepsItsFlags : Flags → (Callee → ℕ → Bool) → FileWithCredits → Type 0
KeepsItsFlags own calls file = (b : BodyPlace) (v : Variable)
    → Contains (bodies_of file.seen) b
    → unfollowed_faults file.seen b ≡ []
    → Contains (variables_of file.seen b.at) v
    → v.kind ≡ cancel
    → is_claimed (flags_of_body own b) v.role ≡ true
    → KeepsCall (paths_of file.seen (promises_in calls file.credits b.at) b) v

-- `check` finds nothing in the file of that number
abbrev pub FindsNothing : (Callee → ℕ → Bool) → ℕ → FileWithCredits → Type 0
FindsNothing calls number file = (x : Entry) → IsFileFinding calls number file x → ⊥

-- the same file, with the same credits
pub record IsSameFile (file other : FileWithCredits) : Type 0 where
  pub is_seen_so : other.seen ≡ file.seen
  pub has_its_credits : (literal variable : ℕ) → other.credits literal variable ≡ file.credits literal variable

-- The other file is the one that `verify` sees: with the credits of its certificates

abbrev pub LeastCertificatesAreBelieved : Type 0
LeastCertificatesAreBelieved =
    (given : Given) (own : Flags) (calls : Callee → ℕ → Bool) (number : ℕ) (file other : FileWithCredits)
    → HaveOwnGroups file.seen
    → KeepByEdition file.seen
    → HasLeastCertificates given calls number file
    → KeepsItsFlags own calls file
    → other.seen ≡ file.seen
    → AreGivenCredits given own calls number other
    → FindsNothing calls number file
    → IsSameFile file other × SaysNothing given own calls number other

abbrev pub WhatIsBelievedHasNoFinding : Type 0
WhatIsBelievedHasNoFinding =
    (given : Given) (own : Flags) (calls : Callee → ℕ → Bool) (number : ℕ) (file other : FileWithCredits)
    → HaveOwnGroups file.seen
    → KeepByEdition file.seen
    → BodiesHaveOwnPlaces file.seen
    → HasLeastCertificates given calls number file
    → other.seen ≡ file.seen
    → AreGivenCredits given own calls number other
    → SaysNothing given own calls number other
    → IsSameFile file other × FindsNothing calls number file
