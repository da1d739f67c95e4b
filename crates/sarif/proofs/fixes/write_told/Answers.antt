use Rattle.std.proofs.Common.{refl, slice_get}
use Rattle.std.proofs.lemmas.Result.{err_from_is_err_and}
use Rattle.format_parts.proofs.Steps.{begins, goes_on, stops, last_call}
use Rattle.sarif.proofs.FixPieces.{fix_is}
use Rattle.sarif.proofs.fixes.write_told.Goals as goal

pub returns-in_err-put_each-clause-taken : goal.returns-in_err-put_each-clause-taken
returns-in_err-put_each-clause-taken g c =
    let p = err_from_is_err_and c.from_residual.result c.from_residual.ensures.1 in
    let parts = fix_is (slice_get c.args.sources.now c.args.file) c.args.fix.now _ _ _ _ _ c.fix_words.ensures c.name_of-name.ensures c.scheme_of.ensures c.base_of.ensures refl in
    stops _ _ _ _ _ _ _ parts (begins _ _) c.in_err-put_each.ensures.taken _ p.0 p.1

pub returns-in_err-write_replacements-clause-taken : goal.returns-in_err-write_replacements-clause-taken
returns-in_err-write_replacements-clause-taken g c =
    let p = err_from_is_err_and c.from_residual-in_err-write_replacements.result c.from_residual-in_err-write_replacements.ensures.1 in
    let parts = fix_is (slice_get c.args.sources.now c.args.file) c.args.fix.now _ _ _ _ _ c.fix_words.ensures c.name_of-name.ensures c.scheme_of.ensures c.base_of.ensures c.deref.ensures.value in
    let after_put_each = goes_on _ _ _ _ _ _ _ parts (begins _ _) c.in_ok-put_each.ensures.taken in
    stops _ _ _ _ _ _ _ refl after_put_each c.in_err-write_replacements.ensures.taken _ p.0 p.1

pub returns-clause-taken : goal.returns-clause-taken
returns-clause-taken g c =
    let parts = fix_is (slice_get c.args.sources.now c.args.file) c.args.fix.now _ _ _ _ _ c.fix_words.ensures c.name_of-name.ensures c.scheme_of.ensures c.base_of.ensures c.deref.ensures.value in
    let after_put_each = goes_on _ _ _ _ _ _ _ parts (begins _ _) c.in_ok-put_each.ensures.taken in
    last_call _ _ _ _ _ (goes_on _ _ _ _ _ _ _ refl after_put_each c.in_ok-write_replacements.ensures.taken) _ c.put_all.ensures.taken
