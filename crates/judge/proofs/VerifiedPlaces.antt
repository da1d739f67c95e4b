-- What is said of files by certificates stands in their texts.
use Rattle.std.proofs.Common.{◌≡◌, ℕ, ◌≤◌, Bool, List, length, map, Some, refl, sym, ap, ◌∙◌}
use Rattle.std.specs.Prelude.{slice_get, option_map}
use Rattle.std.proofs.lemmas.Option.{same_Some, slice_get-map}
use Rattle.meaning.specs.Uses.{Callee, Seen}
use Rattle.meaning_packages.specs.CallsFlags.{Flags, FileWithCredits, calls_by}
use Rattle.meaning_packages.specs.PathFaults.{of_a_pass}
use Rattle.meaning_reports.specs.Loaded.{Tables, imported_flags, seen_files}
use Rattle.meaning_reports.specs.PackageReports as by_paths
use Rattle.meaning_runs.specs.EntryPlaces.{LieInFiles, EntriesLieInFilesBy}
use Rattle.meaning_runs.proofs.EntryPlaces.{Stands, finding_in, seen_stands, entries_lie_in_files_by}
use Rattle.report.specs.Entries.{Entry}
use Rattle.verifier.specs.Rules.{GivenByPath, SaysByCertificates, by_certificates}
use Rattle.verifier.specs.Verified.{Given, IsSaid, outside_bodies, of_use, of_pass, not_certified}

said_in : (n : ℕ) (given : Given) (own : Flags) (calls : Callee → ℕ → Bool) (number : ℕ) (file : FileWithCredits) (x : Entry)
    → Stands n file.seen
    → IsSaid given own calls number file x
    → (x.file ≡ number) × (x.offset ≤ n)
said_in n given own calls number file x h (outside_bodies f among) =
    finding_in n calls number file x h (by_paths.outside_bodies f among)
said_in n given own calls number file x h (of_use b f is among) =
    finding_in n calls number file x h (by_paths.of_use b f is among)
said_in n given own calls number file x h (of_pass b f is fault) =
    finding_in n calls number file x h (by_paths.of_path b f is (of_a_pass f fault))
said_in n given own calls number file x h (not_certified b is few none) = (refl, h.begun b is)

sayings_lie : (given : GivenByPath) → LieInFiles (SaysByCertificates given)
sayings_lie given ps i p texts is are tables x none said =
    let q = said.loaded in
    let verified = said.is_verified in
    let file = said.file in
    let same : q ≡ p = same_Some q p (sym verified.is_package ∙ is) in
    let seens : map (λ (f : FileWithCredits). f.seen) said.files ≡ seen_files ps tables p =
    verified.are_seen ∙ ap (seen_files ps tables) same in
    let seen : slice_get (seen_files ps tables p) said.number ≡ Some file.seen =
    sym (ap (λ (l : List Seen). slice_get l said.number) seens)
    ∙ (slice_get-map (λ (f : FileWithCredits). f.seen) said.files said.number
    ∙ ap (option_map (λ (f : FileWithCredits). f.seen)) said.is_file) in
    let text = seen_stands ps tables i p texts is are none said.number file.seen seen in
    let low = said_in (length text.0) (given q.path) said.flags (calls_by said.flags (imported_flags q tables)) said.number file x text.2 said.is_said in
    record { text = text.0; is_file = ap (slice_get texts) low.0 ∙ text.1; within = low.1 }

pub verified_entries_lie : (given : GivenByPath) (declared : Tables)
    → EntriesLieInFilesBy (by_certificates given declared)
verified_entries_lie given declared = entries_lie_in_files_by (by_certificates given declared) (sayings_lie given)
