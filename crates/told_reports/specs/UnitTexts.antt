-- The text of a unit, in which its findings are told, and no verdict.
use Rattle.std.specs.Prelude.{ℕ, List, [], ◌∷◌, flat_map}
use Rattle.accepting.specs.Findings.{FoundEntry}
use Rattle.accepting.specs.Found.{found_in}
use Rattle.format_parts.specs.Told.{style_of}
use Rattle.report_formats.specs.UnitJson.{unit_json}
use Rattle.report_formats.specs.UnitText.{unit_text}
use Rattle.format_parts.specs.declared.style.Style.{Style}
use Rattle.suggested_fixes.specs.declared.edits.Fix.{Fix}
use Rattle.told_reports.specs.declared.unit.UnitForm.{UnitForm}
use Rattle.told_reports.specs.declared.unit.UnitShape.{UnitShape}
use Rattle.told_reports.specs.declared.unit.UnitShape.TheVariants.{Text, Json}

abbrev pub shape_text : UnitShape → List Fix → Style → FoundEntry → List ℕ
shape_text (Text around) fixes style p = unit_text style around p
shape_text (Json name) fixes style p = unit_json style fixes name.now p

-- of a unit of which nothing is accepted yet
abbrev pub unit_text_in : UnitForm → FoundEntry → List ℕ
unit_text_in form p =
    flat_map (shape_text form.shape form.telling.fixes.now (style_of form.telling form.with_reasons))
    (found_in form.telling (p ∷ []))
