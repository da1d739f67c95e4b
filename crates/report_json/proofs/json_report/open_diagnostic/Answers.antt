use Rattle.std.proofs.Common.{refl, slice_get}
use Rattle.std.proofs.lemmas.Result.{err_from_is_err_and}
use Rattle.report.specs.Entries.{entry_of}
use Rattle.report_json.proofs.JsonPieces.{said_is}
use Rattle.format_parts.proofs.Steps.{begins, goes_on, stops, last_call}
use Rattle.report_json.proofs.json_report.open_diagnostic.Goals as goal

pub returns-in_err-open_place-clause-taken : goal.returns-in_err-open_place-clause-taken
returns-in_err-open_place-clause-taken g c =
    let p = err_from_is_err_and c.from_residual.result c.from_residual.ensures.1 in
    let d = c.args.diagnostic.now in
    let parts = said_is c.args.is_later c.args.wording (slice_get c.args.sources.now d.file) (entry_of d) _ c.args.region _ _ c.name_of.ensures c.requires refl refl in
    stops _ _ _ _ _ _ _ parts (begins _ _) c.in_err-open_place.ensures.taken _ p.0 p.1

pub returns-in_err-write_end-clause-taken : goal.returns-in_err-write_end-clause-taken
returns-in_err-write_end-clause-taken g c =
    let p = err_from_is_err_and c.from_residual-in_err-write_end.result c.from_residual-in_err-write_end.ensures.1 in
    let d = c.args.diagnostic.now in
    let parts = said_is c.args.is_later c.args.wording (slice_get c.args.sources.now d.file) (entry_of d) _ c.args.region _ _ c.name_of.ensures c.requires refl refl in
    let after_place = goes_on _ _ _ _ _ _ _ parts (begins _ _) c.in_ok-open_place.ensures.taken in
    stops _ _ _ _ _ _ _ refl after_place c.in_err-write_end.ensures.taken _ p.0 p.1

pub returns-clause-taken : goal.returns-clause-taken
returns-clause-taken g c =
    let d = c.args.diagnostic.now in
    let parts = said_is c.args.is_later c.args.wording (slice_get c.args.sources.now d.file) (entry_of d) _ c.args.region _ _ c.name_of.ensures c.requires c.number.ensures c.words.ensures in
    let after_place = goes_on _ _ _ _ _ _ _ parts (begins _ _) c.in_ok-open_place.ensures.taken in
    last_call _ _ _ _ _ (goes_on _ _ _ _ _ _ _ refl after_place c.in_ok-write_end.ensures.taken) _ c.put_each.ensures.taken
