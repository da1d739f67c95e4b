use Rattle.std.proofs.Common.{◌≡◌, ◌++◌, drop}
use Rattle.report.specs.Entries.{texts_of}
use Rattle.findings.proofs.fields.add_names.Given as goal

-- what was added, with what is left, is the whole
abbrev pub invariant-loop-name : goal.invariant-loop-name
invariant-loop-name l =
    texts_of l.fields.items ++ texts_of (drop l.name-index l.names)
    ≡ texts_of l.initial.fields.items ++ texts_of l.names
