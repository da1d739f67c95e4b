use Rattle.std.proofs.Common.{◌≡◌, ◌∙◌, ◌++◌, get_or, drop, sym, ap, rules}
use Rattle.std.proofs.lemmas.Result.{err_from_is_err_and}
use Rattle.format_parts.specs.Pieces.{byte_text, spelled}
use Rattle.format_parts.proofs.Spelled.{first_spelled, front_stops}
use Rattle.format_parts.proofs.strings.put_first.Goals as goal

pub returns-in_err-put_byte-clause-taken : goal.returns-in_err-put_byte-clause-taken
returns-in_err-put_byte-clause-taken g c =
    let p = err_from_is_err_and c.from_residual.result c.from_residual.ensures.1 in
    let bytes = c.args.bytes.now in
    front_stops c.args.spelling bytes (byte_text c.args.spelling (get_or bytes 0 0)) (drop 1 bytes) _ _ (first_spelled c.args.spelling bytes c.requires) c.in_err-put_byte.ensures.taken _ p.0 p.1

pub returns-clause-taken : goal.returns-clause-taken
returns-clause-taken g c =
    let bytes = c.args.bytes.now in
    let first = byte_text c.args.spelling (get_or bytes 0 0) in
    let rest : c.split_at.result.1.now ≡ drop 1 bytes = search rules in
    (first, first_spelled c.args.spelling bytes c.requires ∙ ap (λ t. first ++ spelled c.args.spelling t) (sym rest), c.in_ok-put_byte.ensures.taken)
