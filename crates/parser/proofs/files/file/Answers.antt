use Rattle.std.proofs.lemmas.Result.{err_from_is_err_and}
use Rattle.parser_base.specs.Places.{cursor, go_text}
use Rattle.parser.proofs.Refusals.{refuses, refuses_too}
use Rattle.parser.proofs.WholeFiles.{no_front, no_declarations, whole_file}
use Rattle.parser.proofs.files.file.Goals as goal

pub returns-in-Err : goal.returns-in-Err
returns-in-Err g c =
    refuses c.args.source.text.now c.in-Err.stop _ _ _ c.fault_in.ensures c.in-Err.ensures (no_front (go_text c.args.source) (cursor c.args.source c.args.place))

pub returns-in_err-declarations : goal.returns-in_err-declarations
returns-in_err-declarations g c =
    let p = err_from_is_err_and c.from_residual.result c.from_residual.ensures.1 in
    rw (p.1, p.2) (refuses_too c.args.source.text.now c.in_err-declarations.field-0.0 _ _ c.in_err-declarations.ensures (no_declarations (go_text c.args.source) (cursor c.args.source c.args.place) _ _ c.in-Ok.ensures))

pub returns : goal.returns
returns g c =
    rw c.span_to-span.ensures (whole_file (go_text c.args.source) (cursor c.args.source c.args.place) _ _ c.in-Ok.ensures _ _ c.in_ok-declarations.ensures)
