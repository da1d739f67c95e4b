use Rattle.std.proofs.Common.{◌≡◌, ◌++◌, flat_map, drop}
use Rattle.report.specs.Entries.{texts_of}
use Rattle.findings.specs.KeptFields.{kept_in}
use Rattle.findings.proofs.fields.fields_kept.Given as goal

-- what was added, with what is left, is the whole
abbrev pub invariant-loop-file : goal.invariant-loop-file
invariant-loop-file l =
    texts_of l.fields.items ++ flat_map kept_in (drop l.file-index l.files) ≡ flat_map kept_in l.files
