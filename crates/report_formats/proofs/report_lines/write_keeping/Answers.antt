use Rattle.std.proofs.Common.{◌≡◌, ◌∷◌, [], sym, rules}
use Rattle.std.proofs.lemmas.List.{append-nil}
use Rattle.std.proofs.lemmas.Result.{err_from_is_err_and}
use Rattle.report.specs.Entries.{texts_of}
use Rattle.report_formats.specs.ReportLines.{more_names}
use Rattle.report.proofs.Fronts.{fails_within, last_part}
use Rattle.report_formats.proofs.KeepingLines.{line_front, line_end, line_parts}
use Rattle.report_formats.proofs.report_lines.write_keeping.Goals as goal

pub returns-in_err-put_pieces-clause-taken : goal.returns-in_err-put_pieces-clause-taken
returns-in_err-put_pieces-clause-taken g c =
    let p = err_from_is_err_and c.from_residual.result c.from_residual.ensures.1 in
    let first = c.in-Some.first.now.now in
    let more = texts_of c.in-Some.more.now in
    let are : texts_of c.args.fields.now ≡ first ∷ more = search rules in
    let whole = line_parts c.args.path.now _ first more are in
    fails_within _ [] (line_front first) _ _ _ _ whole (sym (append-nil _)) c.in_err-put_pieces.ensures.taken _ p.0 p.1

pub returns-in_err-write_more-clause-taken : goal.returns-in_err-write_more-clause-taken
returns-in_err-write_more-clause-taken g c =
    let p = err_from_is_err_and c.from_residual-in_err-write_more.result c.from_residual-in_err-write_more.ensures.1 in
    let first = c.in-Some.first.now.now in
    let more = texts_of c.in-Some.more.now in
    let are : texts_of c.args.fields.now ≡ first ∷ more = search rules in
    let whole = line_parts c.args.path.now _ first more are in
    fails_within _ (line_front first) _ (line_end c.args.path.now) _ _ _ whole c.in_ok-put_pieces.ensures.taken c.in_err-write_more.ensures.taken _ p.0 p.1

pub returns-clause-taken : goal.returns-clause-taken
returns-clause-taken g c =
    let first = c.in-Some.first.now.now in
    let more = texts_of c.in-Some.more.now in
    let are : texts_of c.args.fields.now ≡ first ∷ more = search rules in
    rw (line_parts c.args.path.now _ first more are)
    (last_part (line_front first) _ _ _ _ c.in_ok-put_pieces.ensures.taken _
    (last_part (more_names more) (line_end c.args.path.now) _ _ _ c.in_ok-write_more.ensures.taken _ c.put_pieces-2.ensures.taken))
