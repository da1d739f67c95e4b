-- What a yes of `verify` says: where nothing is said of the files of a package, what its flags say holds, no body has a
-- fault of a path, and what is relied on of literals holds too. So the promise that `check` gives is kept.
use Rattle.std.specs.Prelude.{ℕ, ◌≡◌, Bool, List, Some, slice_get, Contains}
use Rattle.checker.specs.CheckerLaws.{HaveOwnPlaces}
use Rattle.meaning.specs.BodyEvents.{bodies_of}
use Rattle.meaning.specs.Classes.{Promises}
use Rattle.meaning.specs.Mentions.{BodyPlace}
use Rattle.meaning.specs.Uses.{Callee, Seen}
use Rattle.meaning_packages.specs.CallsFlags.{Flags, FileWithCredits, calls_by, AreConsistent}
use Rattle.meaning_packages.specs.Credits.{AreFairCredits}
use Rattle.meaning_packages.specs.PathFaults.{paths_of}
use Rattle.meaning_reports.specs.Loaded.{Tables}
use Rattle.meaning_reports.specs.OneReport.{AreDetermined}
use Rattle.meaning_reports.specs.PackageReports.{IsFileFinding}
use Rattle.meaning_runs.specs.PackageYes.{YesOfAPackageIsQuietBy}
use Rattle.report.specs.Entries.{Entry}
use Rattle.verifier.specs.Rules.{GivenByPath, AreFlagsByCertificates, by_certificates}
use Rattle.verifier.specs.Verified.{Given, AreClaimed, AreGivenCredits, IsSaid}

-- in no body of the file two nodes have one place, as in no text
abbrev pub BodiesHaveOwnPlaces : Seen → Type 0
BodiesHaveOwnPlaces seen =
    (b : BodyPlace) (promises : Promises) → Contains (bodies_of seen) b → HaveOwnPlaces (paths_of seen promises b)

-- nothing is said of the file of that number
abbrev pub SaysNothing : Given → Flags → (Callee → ℕ → Bool) → ℕ → FileWithCredits → Type 0
SaysNothing given own calls number file = (x : Entry) → IsSaid given own calls number file x → ⊥

-- where nothing is said of the files of a package, its flags are consistent
abbrev pub ClaimsAreConsistent : Type 0
ClaimsAreConsistent = (given : Given) (files : List FileWithCredits) (imported : List ℕ → Flags) (flags : Flags)
    → AreClaimed files given flags
    → ((file : FileWithCredits) → Contains files file → BodiesHaveOwnPlaces file.seen)
    → ((number : ℕ) (file : FileWithCredits)
    → slice_get files number ≡ Some file
    → SaysNothing given flags (calls_by flags imported) number file)
    → AreConsistent files imported flags

-- where nothing is said of a file, nothing is found in it
abbrev pub NothingIsFound : Type 0
NothingIsFound = (given : Given) (own : Flags) (calls : Callee → ℕ → Bool) (number : ℕ) (file : FileWithCredits)
    → BodiesHaveOwnPlaces file.seen
    → SaysNothing given own calls number file
    → (x : Entry)
    → IsFileFinding calls number file x
    → ⊥

-- credits by certificates hold
abbrev pub CreditsAreFair : Type 0
CreditsAreFair = (given : Given) (own : Flags) (calls : Callee → ℕ → Bool) (number : ℕ) (file : FileWithCredits)
    → AreGivenCredits given own calls number file
    → AreFairCredits file.seen file.credits

-- a package has one way to have flags by certificates, so that packages have one report by them
abbrev pub FlagsAreDetermined : Type 0
FlagsAreDetermined = (given : GivenByPath) → AreDetermined (AreFlagsByCertificates given)

-- the promise, by certificates, whatever is declared of packages that were not given
abbrev pub YesOfVerifiedIsQuiet : Type 0
YesOfVerifiedIsQuiet =
    (given : GivenByPath) (declared : Tables) → YesOfAPackageIsQuietBy (by_certificates given declared)
