use Rattle.calls_flags.proofs.KeptFiles.{AreMade}
use Rattle.verifier.specs.BareFiles.{IsBare}
use Rattle.verifier.proofs.bare_files.bare_files.Given as goal

-- the bodies of the files before the number are made
abbrev pub invariant-loop-number : goal.invariant-loop-number
invariant-loop-number l = AreMade IsBare l.files l.number l.made.items
