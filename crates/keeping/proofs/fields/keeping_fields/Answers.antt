use Rattle.std.proofs.Common.{map, sym, ap, ◌∙◌}
use Rattle.std.proofs.lemmas.Result.{IfOk-weaker}
use Rattle.meaning_reports.specs.Loaded.{fields_by, seen_from}
use Rattle.tree.specs.View.{file_syntax}
use Rattle.keeping.specs.Keeping.{each_known}
use Rattle.keeping.proofs.fields.keeping_fields.Goals as goal

pub returns-in-First : goal.returns-in-First
returns-in-First c = λ put.
    ap (λ e. fields_by e (seen_from (each_known c.args.known) 0 (map file_syntax c.args.files.now))) c.in-First.is
    ∙ sym c.none.ensures

pub returns-in-Second : goal.returns-in-Second
returns-in-Second c =
    IfOk-weaker c.fields_in_second.result _ _
    (λ fields keep put.
    ap (λ e. fields_by e (seen_from (each_known c.args.known) 0 (map file_syntax c.args.files.now))) c.in-Second.is
    ∙ keep put)
    c.fields_in_second.ensures
