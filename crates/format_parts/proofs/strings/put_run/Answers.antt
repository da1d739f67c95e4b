use Rattle.std.proofs.Common.{◌≡◌, ◌∙◌, ◌++◌, take, drop, sym, ap, rules}
use Rattle.std.proofs.lemmas.Result.{err_from_is_err_and}
use Rattle.format_parts.specs.Pieces.{spelled}
use Rattle.format_parts.proofs.Spelled.{plain_run, front_stops}
use Rattle.format_parts.proofs.strings.put_run.Goals as goal

pub returns-in_err-put_all-clause-taken : goal.returns-in_err-put_all-clause-taken
returns-in_err-put_all-clause-taken g c =
    let p = err_from_is_err_and c.from_residual.result c.from_residual.ensures.1 in
    let bytes = c.args.bytes.now in
    let plain = c.split_at.result.0.now in
    let front : plain ≡ take c.args.count bytes = search rules in
    front_stops c.args.spelling bytes plain (drop c.args.count bytes) _ _ (plain_run c.args.spelling bytes c.args.count c.requires.plain ∙ ap (λ t. t ++ spelled c.args.spelling (drop c.args.count bytes)) (sym front)) c.in_err-put_all.ensures.taken _ p.0 p.1

pub returns-clause-taken : goal.returns-clause-taken
returns-clause-taken g c =
    let bytes = c.args.bytes.now in
    let plain = c.split_at.result.0.now in
    let front : plain ≡ take c.args.count bytes = search rules in
    let rest : c.split_at.result.1.now ≡ drop c.args.count bytes = search rules in
    (plain, plain_run c.args.spelling bytes c.args.count c.requires.plain ∙ (ap (λ t. t ++ spelled c.args.spelling (drop c.args.count bytes)) (sym front) ∙ ap (λ t. plain ++ spelled c.args.spelling t) (sym rest)), c.in_ok-put_all.ensures.taken)
