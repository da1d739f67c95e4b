use Rattle.std.proofs.Common.{ap, map, refl, ◌∙◌}
use Rattle.std.proofs.lemmas.Result.{err_from_is_err_and}
use Rattle.accepting.specs.Findings.{finding_view, verdict_of}
use Rattle.format_parts.proofs.Steps.{begins, goes_on, stops, last_call}
use Rattle.report_formats.proofs.TextParts.{package_parts}
use Rattle.report_formats.proofs.report_lines.write_package.Goals as goal

pub returns-in_err-write_findings-clause-taken : goal.returns-in_err-write_findings-clause-taken
returns-in_err-write_findings-clause-taken g c =
    let p = err_from_is_err_and c.from_residual.result c.from_residual.ensures.1 in
    let parts = package_parts c.args.style c.args.found.now _ _ _ c.deref.ensures.value refl refl in
    stops _ _ _ _ _ _ _ parts (begins _ _) c.in_err-write_findings.ensures.taken _ p.0 p.1

pub returns-clause-taken : goal.returns-clause-taken
returns-clause-taken g c =
    let verdict = c.verdict_of-verdict.ensures ∙ ap (λ fs. verdict_of (map finding_view fs)) c.deref-2.ensures.value in
    let parts = package_parts c.args.style c.args.found.now _ _ _ c.deref.ensures.value verdict c.deref-3.ensures.value in
    last_call _ _ _ _ _ (goes_on _ _ _ _ _ _ _ parts (begins _ _) c.in_ok-write_findings.ensures.taken) _ c.write_last_lines.ensures.taken
