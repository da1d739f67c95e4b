use Rattle.std.proofs.Common.{◌++◌, codes, decimal, refl, sym}
use Rattle.std.proofs.lemmas.List.{append_assoc}
use Rattle.std.proofs.lemmas.Result.{err_from_is_err_and}
use Rattle.format_parts.proofs.Steps.{begins, goes_on, stops, last_call}
use Rattle.report_formats.proofs.unit_text.write_shown.Goals as goal

pub returns-in_err-put_pieces-clause-taken : goal.returns-in_err-put_pieces-clause-taken
returns-in_err-put_pieces-clause-taken g c =
    let p = err_from_is_err_and c.from_residual.result c.from_residual.ensures.1 in
    let parts = sym (append_assoc (decimal c.args.number) (codes "\t") (c.args.line.now ++ codes "\n")) in
    stops _ _ _ _ _ _ _ parts (begins _ _) c.in_err-put_pieces.ensures.taken _ p.0 p.1

pub returns-in_err-put_all-clause-taken : goal.returns-in_err-put_all-clause-taken
returns-in_err-put_all-clause-taken g c =
    let p = err_from_is_err_and c.from_residual-in_err-put_all.result c.from_residual-in_err-put_all.ensures.1 in
    let parts = sym (append_assoc (decimal c.args.number) (codes "\t") (c.args.line.now ++ codes "\n")) in
    let begun = goes_on _ _ _ _ _ _ _ parts (begins _ _) c.in_ok-put_pieces.ensures.taken in
    stops _ _ _ _ _ _ _ refl begun c.in_err-put_all.ensures.taken _ p.0 p.1

pub returns-clause-taken : goal.returns-clause-taken
returns-clause-taken g c =
    let parts = sym (append_assoc (decimal c.args.number) (codes "\t") (c.args.line.now ++ codes "\n")) in
    let begun = goes_on _ _ _ _ _ _ _ parts (begins _ _) c.in_ok-put_pieces.ensures.taken in
    last_call _ _ _ _ _ (goes_on _ _ _ _ _ _ _ refl begun c.in_ok-put_all.ensures.taken) _ c.put_all-2.ensures.taken
