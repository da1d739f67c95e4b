use Rattle.std.specs.Io.KnownBytes.{Keeps}
use Rattle.printed.proofs.writers.try_write.Given as goal

-- nothing was taken so far
abbrev pub invariant-loop : goal.invariant-loop
invariant-loop g l = Keeps (g.W.Write.contents l.initial.out) (g.W.Write.contents l.out)
