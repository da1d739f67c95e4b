use Rattle.std.proofs.Common.{◌≡◌, false, ap, map, subst, ◌∙◌}
use Rattle.std.specs.List.{list_all}
use Rattle.accepting.specs.Findings.{found_view, plain_package}
use Rattle.accepting.specs.Found.{told_in}
use Rattle.report_formats.specs.Formats.{text_of}
use Rattle.told_reports.specs.Reports.{gone_in, package_passes, AreCounted}
use Rattle.told_reports.proofs.Passes.{all_viewed}
use Rattle.told_reports.proofs.reports.report_from.Goals as goal

pub returns : goal.returns
returns c =
    let told = told_in c.args.telling (map plain_package c.args.reports.now) in
    let found : map found_view c.in_ok-told.told.items ≡ told =
    c.in_ok-told.ensures ∙ ap (told_in c.args.telling) c.in_ok-plain.ensures in
    let written : map found_view c.deref.result.now ≡ told = ap (map found_view) c.deref.ensures.value ∙ found in
    let compared : map found_view c.deref-2.result.now ≡ told = ap (map found_view) c.deref-2.ensures.value ∙ found in
    let passing : map found_view c.deref-3.result.now ≡ told = ap (map found_view) c.deref-3.ensures.value ∙ found in
    let counted : map found_view c.deref-4.result.now ≡ told = ap (map found_view) c.deref-4.ensures.value ∙ found in
    record {
      is_told = record {
        is_text = c.in_ok-text.ensures ∙ ap (text_of c.args.telling false) written;
        passes = c.pass.ensures ∙ (all_viewed c.deref-3.result.now ∙ ap (list_all package_passes) passing);
        are_counted =
            subst (λ n. AreCounted n told c.counts_of.result) (c.in_ok-gone.ensures ∙ ap (gone_in c.args.telling) compared)
            (subst (λ ps. AreCounted c.in_ok-gone.gone ps c.counts_of.result) counted c.counts_of.ensures);
      };
      verdict = c.are_yes.ensures;
    }
