use Rattle.std.proofs.Common.{List, drop, map}
use Rattle.all_certificates.proofs.AddedEntries.{FilesOn}
use Rattle.calls_flags.specs.FilesBodies.{TellAll}
use Rattle.calls_flags.specs.KnownCalls.{known_calls}
use Rattle.certificate_json.specs.Certificates.{body_of}
use Rattle.meaning_packages.specs.CallsFlags.{FileWithCredits}
use Rattle.all_certificates.proofs.files.entries_of_files.Given as goal

-- the certificates so far, with those of the files that are left, are those of all
abbrev pub invariant-loop-file : goal.invariant-loop-file
invariant-loop-file l =
    (fs : List FileWithCredits) → TellAll fs l.files
    → FilesOn (known_calls l.calls) fs l.file-index (drop l.file-index fs) (map body_of l.entries.items)
