-- What is found of one body of a package.
use Rattle.std.specs.Prelude.{ℕ, ◌≡◌, ◌↔◌, Bool, List, Contains, Some, map, slice_get}
use Rattle.calls_flags.specs.FilesBodies.{TellAll}
use Rattle.calls_flags.specs.declared.file_bodies.FileBodies.{FileBodies}
use Rattle.findings.specs.FoundEntries.{IsBodyEntry, use_entries}
use Rattle.meaning.specs.BodyEvents.{bodies_of}
use Rattle.meaning.specs.Mentions.{BodyPlace}
use Rattle.meaning.specs.Uses.{Callee}
use Rattle.meaning_packages.specs.CallsFlags.{FileWithCredits}
use Rattle.package_pieces.specs.declared.numbers.BodyNumber.{BodyNumber}
use Rattle.report.specs.Entries.{Entry, entry_of}
use Rattle.report.specs.declared.diagnostics.Diagnostic.{Diagnostic}
use Rattle.uses.specs.OutcomeViews.{fault_view}

-- it is all that is to be said of the body of that number, by what is known of functions
abbrev pub AreFoundOf : (Callee → ℕ → Bool) → List FileBodies → BodyNumber → List Diagnostic → Type 0
AreFoundOf calls files number found =
    (fs : List FileWithCredits) → TellAll fs files
    → (f : FileWithCredits) → slice_get fs number.file ≡ Some f
    → (b : BodyPlace) → slice_get (bodies_of f.seen) number.body ≡ Some b
    → (x : Entry)
    → Contains (map entry_of found) x ↔ IsBodyEntry calls number.file f b x

-- what is to be said of a file outside of its bodies
abbrev pub outer_entries : ℕ → FileBodies → List Entry
outer_entries number file = use_entries number (map fault_view file.told.now.outer.items)
