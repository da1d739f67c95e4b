use Rattle.std.proofs.Common.{◌≡◌, ◌<◌, length, ap, refl, sym, ◌∙◌, take, min, rules}
use Rattle.std.proofs.lemmas.List.{take_min}
use Rattle.std.proofs.lemmas.Option.{slice_get_read}
use Rattle.std.specs.Prelude.{slice_get, not, ◌+◌}
use Rattle.std.specs.List.{suffix_len}
use Rattle.lexer.specs.Place.{is_newline, column_of}
use Rattle.report.specs.ReportText.{bytes_of}
use Rattle.report.proofs.cursors.moved.Goals as goal

pub returns-clause-column : goal.returns-clause-column
returns-clause-column c =
    let text = c.in-Some.source.now.bytes.items in
    let sources = c.args.sources.now in
    let inside : c.args.file < length sources = search rules in
    let there : bytes_of (slice_get sources c.args.file) ≡ text =
    ap bytes_of (slice_get_read sources (length sources) c.args.file c.in-Some.source.now refl inside c.in-Some.ensures.lookup.1) in
    let size : c.len.result ≡ length text = c.len.ensures ∙ c.in-Some.source.now.bytes.ok.0 in
    let clamped : take c.min-offset.result text ≡ take c.args.offset text =
    ap (λ n. take n text) (c.min-offset.ensures ∙ ap (min c.args.offset) size) ∙ take_min c.args.offset text in
    c.place_after.ensures.column
    ∙ (ap (λ t. column_of t c.min-offset.result) c.deref.ensures.value
    ∙ (ap (λ t. 1 + suffix_len (λ b. not (is_newline b)) t) clamped ∙ ap (λ t. column_of t c.args.offset) (sym there)))
