use Rattle.std.proofs.Common.{◌≡◌, drop}
use Rattle.std.specs.List.{list_any}
use Rattle.keeping.specs.ToldFiles.{told_puts}
use Rattle.keeping.proofs.fields.some_told_puts.Given as goal

-- the test of those that are left is that of all
abbrev pub invariant-loop-told : goal.invariant-loop-told
invariant-loop-told l = list_any told_puts (drop l.told-index l.files) ≡ list_any told_puts l.files
