use Rattle.std.proofs.Common.{◌≡◌, ℕ, Bool, false, List, ◌++◌, codes, refl}
use Rattle.std.proofs.lemmas.Result.{err_from_is_err_and}
use Rattle.accepting.specs.declared.findings.Verdict.TheVariants.{Yes}
use Rattle.report.specs.Entries.{texts_of}
use Rattle.report_formats.specs.ReportLines.{keeping_line, last_lines, verdict_line}
use Rattle.format_parts.proofs.Steps.{begins, goes_on, stops, last_call}
use Rattle.report_formats.proofs.report_lines.write_yes.Goals as goal

yes_parts : (is_quiet : Bool) (path : List ℕ) (keeping : List (List ℕ)) → is_quiet ≡ false
    → last_lines is_quiet Yes path keeping ≡ keeping_line path keeping ++ verdict_line (codes "yes") path
yes_parts is_quiet path keeping told = rw told refl

pub returns-in_err-write_keeping-clause-taken : goal.returns-in_err-write_keeping-clause-taken
returns-in_err-write_keeping-clause-taken g c =
    let p = err_from_is_err_and c.from_residual.result c.from_residual.ensures.1 in
    let parts = yes_parts c.args.is_quiet c.args.path.now (texts_of c.args.keeping.now) c.if-is_quiet.false in
    stops _ _ _ _ _ _ _ parts (begins _ _) c.in_err-write_keeping.ensures.taken _ p.0 p.1

pub returns-clause-taken : goal.returns-clause-taken
returns-clause-taken g c =
    let parts = yes_parts c.args.is_quiet c.args.path.now (texts_of c.args.keeping.now) c.if-is_quiet.false in
    last_call _ _ _ _ _ (goes_on _ _ _ _ _ _ _ parts (begins _ _) c.in_ok-write_keeping.ensures.taken) _ c.write_verdict.ensures.taken
