use Rattle.std.proofs.Common.{◌≡◌, ◌≤◌, ◌<◌, ◌+◌, ◌-◌, ℕ, zero, suc, List, [], length, ap, refl, sym, ◌∙◌, take, min, rules, count_by}
use Rattle.std.proofs.lemmas.List.{take_min}
use Rattle.std.proofs.lemmas.Option.{slice_get_read, slice_get_past}
use Rattle.std.specs.Prelude.{slice_get, not}
use Rattle.std.specs.List.{suffix_len}
use Rattle.lexer.specs.Place.{is_newline}
use Rattle.report.specs.ReportText.{bytes_of}
use Rattle.sarif.specs.CodePoints.{begins_code_point, last_bytes, code_point_column}
use Rattle.sarif.proofs.columns.moved_in_code_points.Goals as goal

-- the column behind these bytes
abbrev column_behind : List ℕ → ℕ
column_behind front = 1 + count_by begins_code_point (last_bytes (1 + suffix_len (λ b. not (is_newline b)) front - 1) front)

no_bytes : (offset : ℕ) → code_point_column [] offset ≡ 1
no_bytes zero = refl
no_bytes (suc n) = refl

pub returns-in_default-clause-column : goal.returns-in_default-clause-column
returns-in_default-clause-column c =
    let past : length c.args.sources.now ≤ c.args.file = search rules in
    let gone : bytes_of (slice_get c.args.sources.now c.args.file) ≡ [] = ap bytes_of (slice_get_past c.args.sources.now c.args.file past) in
    c.first_byte.ensures.place.1 ∙ sym (ap (λ t. code_point_column t c.args.offset) gone ∙ no_bytes c.args.offset)

pub returns-clause-column : goal.returns-clause-column
returns-clause-column c =
    let text = c.in-Some.source.now.bytes.items in
    let sources = c.args.sources.now in
    let inside : c.args.file < length sources = search rules in
    let there : bytes_of (slice_get sources c.args.file) ≡ text =
    ap bytes_of (slice_get_read sources (length sources) c.args.file c.in-Some.source.now refl inside c.in-Some.ensures.lookup.1) in
    let size : c.len.result ≡ length text = c.len.ensures ∙ c.in-Some.source.now.bytes.ok.0 in
    let clamped : take c.min-offset.result text ≡ take c.args.offset text =
    ap (λ n. take n text) (c.min-offset.ensures ∙ ap (min c.args.offset) size) ∙ take_min c.args.offset text in
    c.place_in_code_points.ensures.column
    ∙ (ap (λ t. code_point_column t c.min-offset.result) c.deref.ensures.value
    ∙ (ap column_behind clamped ∙ ap (λ t. code_point_column t c.args.offset) (sym there)))
