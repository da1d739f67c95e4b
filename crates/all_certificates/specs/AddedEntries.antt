-- What serves the proofs: entries that are added to others.
use Rattle.std.specs.Prelude.{ℕ, ◌≡◌, Bool, List, ◌++◌, Option, None, Some, slice_get}
use Rattle.all_certificates.specs.CertifiedBodies.{IsEntry, HasNoEntry, AreOfBody}
use Rattle.calls_flags.specs.FilesBodies.{TellAll}
use Rattle.calls_flags.specs.declared.file_bodies.FileBodies.{FileBodies}
use Rattle.certificate_json.specs.Certificates.{BodyEntry}
use Rattle.meaning.specs.BodyEvents.{bodies_of}
use Rattle.meaning.specs.Mentions.{BodyPlace}
use Rattle.meaning.specs.Uses.{Callee, Seen}
use Rattle.meaning_packages.specs.CallsFlags.{FileWithCredits}
use Rattle.meaning_packages.specs.Credits.{Credits}
use Rattle.package_pieces.specs.declared.numbers.BodyNumber.{BodyNumber}

abbrev pub IsEntryIf
    : (Callee → ℕ → Bool) → Credits → ℕ → Seen → BodyPlace → Option BodyEntry → Type 0
IsEntryIf calls credits number seen b None = HasNoEntry calls credits number seen b
IsEntryIf calls credits number seen b (Some entry) = IsEntry calls credits number seen b entry

-- entries with this property were added
pub record Adds (AreAdded : List BodyEntry → Type 0) (before after : List BodyEntry) : Type 0 where
  pub added : List BodyEntry
  pub are_added : AreAdded added
  pub is_sum : after ≡ before ++ added

-- they are those of the body of that number, by what is known of functions
abbrev pub AreOfNumber : (Callee → ℕ → Bool) → List FileBodies → BodyNumber → List BodyEntry → Type 0
AreOfNumber calls files number entries =
    (fs : List FileWithCredits) → TellAll fs files
    → (f : FileWithCredits) → slice_get fs number.file ≡ Some f
    → (b : BodyPlace) → slice_get (bodies_of f.seen) number.body ≡ Some b
    → AreOfBody calls f.credits number.file f.seen b entries
