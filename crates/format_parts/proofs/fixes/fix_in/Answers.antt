use Rattle.std.proofs.Common.{sym, ◌∙◌}
use Rattle.report.specs.Entries.{entry_of}
use Rattle.format_parts.proofs.FixParts.{fits_here, fits_later, none_fits}
use Rattle.format_parts.proofs.fixes.fix_in.Goals as goal

pub returns-then-fits : goal.returns-then-fits
returns-then-fits c =
    sym (fits_here c.args.file.now (entry_of c.args.diagnostic.now) c.args.fixes.now c.loop-fix.fix-index c.fix-item.result c.loop-fix-test.true c.fix-item.is (sym c.if-fits.ensures))
    ∙ c.loop-fix.invariant

pub loop-fix-preserved : goal.loop-fix-preserved
loop-fix-preserved c =
    sym (fits_later c.args.file.now (entry_of c.args.diagnostic.now) c.args.fixes.now c.loop-fix.fix-index c.fix-item.result c.loop-fix-test.true c.fix-item.is (sym c.if-fits.ensures))
    ∙ c.loop-fix.invariant

pub returns : goal.returns
returns c =
    sym (none_fits c.args.file.now (entry_of c.args.diagnostic.now) c.args.fixes.now c.loop-fix.fix-index c.loop-fix-test.false)
    ∙ c.loop-fix.invariant
