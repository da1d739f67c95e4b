use Rattle.std.proofs.Common.{ap, slice_get, sym, ◌∙◌}
use Rattle.std.specs.Prelude.{option_map}
use Rattle.std.specs.Borrow.{Bor}
use Rattle.suggested_fixes.specs.declared.edits.Fix.{Fix}
use Rattle.format_parts.proofs.Steps.{nothing_put, written_as}
use Rattle.sarif.proofs.FixPieces.{told_is}
use Rattle.sarif.proofs.fixes.write_fixes.Goals as goal

pub returns-in-None-clause-taken : goal.returns-in-None-clause-taken
returns-in-None-clause-taken g c =
    nothing_put _ _ (told_is (slice_get c.args.sources.now c.args.diagnostic.now.file) _ _ (sym c.told_fix.ensures ∙ ap (option_map (λ (fix : Bor Fix). fix.now)) c.in-None.is))

pub returns-in-Some-clause-taken : goal.returns-in-Some-clause-taken
returns-in-Some-clause-taken g c =
    written_as _ _ _ _ (told_is (slice_get c.args.sources.now c.args.diagnostic.now.file) _ _ (sym c.told_fix.ensures ∙ ap (option_map (λ (fix : Bor Fix). fix.now)) c.in-Some.is)) _ c.write_told.ensures.taken
