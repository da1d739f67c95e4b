use Rattle.calls_flags.proofs.KeptFiles.{AreMade}
use Rattle.calls_flags.specs.FilesBodies.{HasBodies}
use Rattle.calls_flags.proofs.file_bodies.bodies_of_files.Given as goal

-- the bodies of the files before the number are made
abbrev pub invariant-loop-number : goal.invariant-loop-number
invariant-loop-number l = AreMade HasBodies l.files l.number l.made.items
