use Rattle.std.proofs.Common.{slice_get}
use Rattle.std.proofs.lemmas.Result.{err_from_is_err_and}
use Rattle.report.specs.Entries.{entry_of}
use Rattle.sarif.proofs.SarifPieces.{region_same, result_is}
use Rattle.format_parts.proofs.Steps.{begins, goes_on, stops, last_call}
use Rattle.sarif.proofs.log.open_result.Goals as goal

pub returns-in_err-put_each-clause-taken : goal.returns-in_err-put_each-clause-taken
returns-in_err-put_each-clause-taken g c =
    let p = err_from_is_err_and c.from_residual.result c.from_residual.ensures.1 in
    let d = c.args.diagnostic.now in
    let parts = result_is c.args.is_later c.args.wording (slice_get c.args.sources.now d.file) (entry_of d) _ _ _ _ _ _ _ c.name_parts.ensures c.comma.ensures c.number.ensures c.rule_index.ensures c.level.ensures c.words.ensures in
    stops _ _ _ _ _ _ _ parts (begins _ _) c.in_err-put_each.ensures.taken _ p.0 p.1

pub returns-in_err-open_location-clause-taken : goal.returns-in_err-open_location-clause-taken
returns-in_err-open_location-clause-taken g c =
    let p = err_from_is_err_and c.from_residual-in_err-open_location.result c.from_residual-in_err-open_location.ensures.1 in
    let d = c.args.diagnostic.now in
    let parts = result_is c.args.is_later c.args.wording (slice_get c.args.sources.now d.file) (entry_of d) _ _ _ _ _ _ _ c.name_parts.ensures c.comma.ensures c.number.ensures c.rule_index.ensures c.level.ensures c.words.ensures in
    let after_put_each = goes_on _ _ _ _ _ _ _ parts (begins _ _) c.in_ok-put_each.ensures.taken in
    stops _ _ _ _ _ _ _ (region_same _ _ _ _ c.requires _ c.name_of.ensures _) after_put_each c.in_err-open_location.ensures.taken _ p.0 p.1

pub returns-clause-taken : goal.returns-clause-taken
returns-clause-taken g c =
    let d = c.args.diagnostic.now in
    let parts = result_is c.args.is_later c.args.wording (slice_get c.args.sources.now d.file) (entry_of d) _ _ _ _ _ _ _ c.name_parts.ensures c.comma.ensures c.number.ensures c.rule_index.ensures c.level.ensures c.words.ensures in
    let after_put_each = goes_on _ _ _ _ _ _ _ parts (begins _ _) c.in_ok-put_each.ensures.taken in
    last_call _ _ _ _ _ (goes_on _ _ _ _ _ _ _ (region_same _ _ _ _ c.requires _ c.name_of.ensures _) after_put_each c.in_ok-open_location.ensures.taken) _ c.put_all.ensures.taken
