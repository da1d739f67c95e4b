-- The text of a package, and that of a unit, cut into what is put.
use Rattle.std.proofs.Common.{◌≡◌, ℕ, ◌+◌, ◌<◌, true, Option, List, [], ◌++◌, length, get_or, drop, flat_map, map, if◌then◌else◌, refl, sym, ap, ◌∙◌}
use Rattle.std.specs.Borrow.{Bor}
use Rattle.std.proofs.lemmas.List.{drop_more}
use Rattle.std.proofs.lemmas.List.Folds.{flat_map-map}
use Rattle.report_formats.specs.UnitText.{text_at}
use Rattle.accepting.specs.Findings.{finding_view, found_view, verdict_of}
use Rattle.accepting.specs.declared.findings.Finding.{Finding}
use Rattle.accepting.specs.declared.findings.FoundPackage.{FoundPackage}
use Rattle.accepting.specs.declared.findings.Verdict.{Verdict}
use Rattle.lexer.specs.Place.{line_of}
use Rattle.lexer.specs.declared.source.Source.{Source}
use Rattle.report.specs.Entries.{texts_of}
use Rattle.report.specs.declared.notes.Note.{Note}
use Rattle.report_formats.specs.ReportLines.{all_lines, finding_line, last_lines, note_line, package_text, told_lines}
use Rattle.format_parts.specs.Told.{is_told}
use Rattle.report_formats.specs.UnitText.{lines_around, unit_lines, unit_text, unit_told}
use Rattle.format_parts.specs.declared.style.Style.{Style}

-- what the next one of a list gives, and the rest
pub next_part : {X : Type 0} (part : X → List ℕ) (xs : List X) (i : ℕ) (x : X) → i < length xs → x ≡ get_or xs i x
    → flat_map part (drop i xs) ≡ part x ++ flat_map part (drop (i + 1) xs)
next_part part xs i x inside there =
    ap (flat_map part) (drop_more xs i x inside) ∙ ap (λ y. part y ++ flat_map part (drop (i + 1) xs)) (sym there)

-- what is told of a package: its findings, as they are lent, and its last lines
pub package_parts : (style : Style) (p : FoundPackage) (findings : List Finding) (verdict : Verdict) (keeping : List (Bor (List ℕ)))
    → findings ≡ p.findings.items → verdict ≡ verdict_of (map finding_view p.findings.items) → keeping ≡ p.keeping.items
    → package_text style (found_view p)
    ≡ flat_map (λ f. told_lines style p.sources.now (finding_view f)) findings
    ++ last_lines style.is_quiet verdict p.path.now (texts_of keeping)
package_parts style p findings verdict keeping f v k =
    rw (f, v, k)
    (ap (λ t. t ++ last_lines style.is_quiet (verdict_of (map finding_view p.findings.items)) p.path.now (texts_of p.keeping.items))
    (flat_map-map (told_lines style p.sources.now) finding_view p.findings.items))

-- a finding that is told, with its notes as they are lent
pub told_parts : (style : Style) (sources : List Source) (f : Finding) (notes : List Note)
    → is_told style (finding_view f) ≡ true → notes ≡ f.notes.items
    → told_lines style sources (finding_view f)
    ≡ finding_line style.wording sources (finding_view f) ++ flat_map (note_line style.wording) notes
told_parts style sources f notes told n =
    rw n (ap (λ t. if t then all_lines style.wording sources (finding_view f) else []) told)

-- what is told of a unit: its findings, as they are lent
pub unit_parts : (style : Style) (around : Option ℕ) (p : FoundPackage) (findings : List Finding)
    → findings ≡ p.findings.items
    → unit_text style around (found_view p)
    ≡ flat_map (λ f. unit_told style around p.sources.now (finding_view f)) findings
unit_parts style around p findings f =
    rw f (flat_map-map (unit_told style around p.sources.now) finding_view p.findings.items)

-- the line of a finding, the lines around its place, and its notes
pub lines_parts : (style : Style) (around : Option ℕ) (sources : List Source) (f : Finding) (text : List ℕ) (line : ℕ) (notes : List Note)
    → text ≡ text_at sources f.diagnostic.file → line ≡ line_of (text_at sources f.diagnostic.file) f.diagnostic.offset
    → notes ≡ f.notes.items
    → unit_lines style around sources (finding_view f)
    ≡ finding_line style.wording sources (finding_view f) ++ (lines_around around text line ++ flat_map (note_line style.wording) notes)
lines_parts style around sources f text line notes t l n = rw (n, l, t) refl
