use Rattle.std.proofs.Common.{slice_get}
use Rattle.report.specs.Entries.{entry_of}
use Rattle.format_parts.proofs.FixParts.{none_told, second_told}
use Rattle.format_parts.proofs.fixes.told_fix.Goals as goal

pub returns-in-First : goal.returns-in-First
returns-in-First c =
    let d = c.args.diagnostic.now in
    none_told c.args.wording c.args.fixes.now (slice_get c.args.sources.now d.file) (entry_of d) c.in-First.is

pub returns-in-Second : goal.returns-in-Second
returns-in-Second c =
    let d = c.args.diagnostic.now in
    second_told c.args.wording c.args.fixes.now (slice_get c.args.sources.now d.file) (entry_of d) _ _ c.in-Second.is c.name_of.ensures c.fix_in.ensures
