-- The text of a report in each of its forms, with the notes of findings or without.
use Rattle.std.specs.Prelude.{ℕ, Bool, List}
use Rattle.accepting.specs.Findings.{FoundEntry}
use Rattle.accepting.specs.Found.{told_in}
use Rattle.accepting.specs.declared.telling.Telling.{Telling}
use Rattle.report.specs.declared.format.Format.{Format}
use Rattle.report.specs.declared.format.Format.TheVariants.{Text, Json, Sarif}
use Rattle.report_json.specs.JsonText.{json_text}
use Rattle.report_formats.specs.ReportLines.{report_text}
use Rattle.sarif.specs.SarifText.{sarif_text}
use Rattle.format_parts.specs.Told.{style_of}
use Rattle.format_parts.specs.declared.style.Style.{Style}
use Rattle.suggested_fixes.specs.declared.edits.Fix.{Fix}

abbrev pub text_as : Format → Style → List Fix → List FoundEntry → List ℕ
text_as Text style fixes = report_text style
text_as Json style fixes = json_text style fixes
text_as Sarif style fixes = sarif_text style fixes

-- of packages in which all that is accepted is found
abbrev pub text_of : Telling → Bool → List FoundEntry → List ℕ
text_of telling with_reasons = text_as telling.format (style_of telling with_reasons) telling.fixes.now

-- of packages of which nothing is accepted yet
abbrev pub text_in : Telling → Bool → List FoundEntry → List ℕ
text_in telling with_reasons packages = text_of telling with_reasons (told_in telling packages)
