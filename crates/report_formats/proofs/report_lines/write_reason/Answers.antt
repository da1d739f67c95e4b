use Rattle.std.proofs.Common.{◌≡◌, ℕ, Option, Some, List, ◌++◌, codes, option_map, refl, rules}
use Rattle.std.proofs.lemmas.Result.{err_from_is_err_and}
use Rattle.accepting.specs.Findings.{accepted_view}
use Rattle.accepting.specs.declared.findings.Acceptance.{Acceptance}
use Rattle.report_formats.specs.ReportLines.{reason_shown}
use Rattle.format_parts.specs.Told.{reason_text}
use Rattle.format_parts.proofs.Steps.{begins, goes_on, stops, last_call}
use Rattle.report_formats.proofs.report_lines.write_reason.Goals as goal

reason_parts : (acceptance : Option Acceptance) (by : Acceptance) (text : List ℕ) → acceptance ≡ Some by
    → text ≡ reason_text (accepted_view by)
    → reason_shown (option_map accepted_view acceptance) ≡ codes " (accepted: " ++ (text ++ codes ")")
reason_parts acceptance by text accepted t = rw (accepted, t) refl

pub returns-in_err-put_all-clause-taken : goal.returns-in_err-put_all-clause-taken
returns-in_err-put_all-clause-taken g c =
    let p = err_from_is_err_and c.from_residual.result c.from_residual.ensures.1 in
    let accepted : c.args.acceptance ≡ Some c.in-Some.by = search rules in
    let parts = reason_parts c.args.acceptance c.in-Some.by _ accepted refl in
    stops _ _ _ _ _ _ _ parts (begins _ _) c.in_err-put_all.ensures.taken _ p.0 p.1

pub returns-in_err-put_all-2-clause-taken : goal.returns-in_err-put_all-2-clause-taken
returns-in_err-put_all-2-clause-taken g c =
    let p = err_from_is_err_and c.from_residual-in_err-put_all-2.result c.from_residual-in_err-put_all-2.ensures.1 in
    let accepted : c.args.acceptance ≡ Some c.in-Some.by = search rules in
    let parts = reason_parts c.args.acceptance c.in-Some.by c.reason_text.result.now accepted c.reason_text.ensures in
    let front = goes_on _ _ _ _ _ _ _ parts (begins _ _) c.in_ok-put_all.ensures.taken in
    stops _ _ _ _ _ _ _ refl front c.in_err-put_all-2.ensures.taken _ p.0 p.1

pub returns-clause-taken : goal.returns-clause-taken
returns-clause-taken g c =
    let accepted : c.args.acceptance ≡ Some c.in-Some.by = search rules in
    let parts = reason_parts c.args.acceptance c.in-Some.by c.reason_text.result.now accepted c.reason_text.ensures in
    let front = goes_on _ _ _ _ _ _ _ parts (begins _ _) c.in_ok-put_all.ensures.taken in
    last_call _ _ _ _ _ (goes_on _ _ _ _ _ _ _ refl front c.in_ok-put_all-2.ensures.taken) _ c.put_all-3.ensures.taken
