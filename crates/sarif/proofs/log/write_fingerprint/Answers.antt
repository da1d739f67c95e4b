use Rattle.std.proofs.Common.{◌<◌, ◌^◌, ◌∙◌, ap, rules, slice_get}
use Rattle.report.specs.Entries.{entry_of}
use Rattle.sarif.specs.Fingerprints.{sum_at}
use Rattle.sarif.proofs.SarifPieces.{no_print, print_is}
use Rattle.format_parts.proofs.Steps.{nothing_put, written_as}
use Rattle.sarif.proofs.log.write_fingerprint.Goals as goal

pub returns-in-First-clause-taken : goal.returns-in-First-clause-taken
returns-in-First-clause-taken g c = nothing_put _ _ (no_print _ _ _ c.in-First.is)

pub returns-in-Second-clause-taken : goal.returns-in-Second-clause-taken
returns-in-Second-clause-taken g c =
    let d = c.args.diagnostic.now in
    let fits : c.sum_at.result < 2 ^ 64 = search rules in
    let is = c.sum_at.ensures ∙ ap (λ text. sum_at text d.offset) c.bytes_of.ensures in
    let parts = print_is c.args.wording (slice_get c.args.sources.now d.file) (entry_of d) _ _ c.in-Second.is c.number.ensures is fits in
    written_as _ _ _ _ parts _ c.put_each.ensures.taken
