use Rattle.std.proofs.Common.{◌≡◌, drop}
use Rattle.report.specs.Entries.{entry_of}
use Rattle.format_parts.specs.Fixes.{fix_in}
use Rattle.format_parts.proofs.fixes.fix_in.Given as goal

-- the first of those that are left is the first of all
abbrev pub invariant-loop-fix : goal.invariant-loop-fix
invariant-loop-fix l = fix_in l.file (entry_of l.diagnostic) (drop l.fix-index l.fixes) ≡ fix_in l.file (entry_of l.diagnostic) l.fixes
