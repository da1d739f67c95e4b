-- How a unit is judged: by which imports, in which form it is told, and what is kept of it.
use Rattle.std.specs.Prelude.{◌≡◌, ◌==◌, ◌&&◌, ℕ, Bool, true, false, List, [], ◌++◌, filter, map, string_bytes}
use Rattle.std.specs.List.{AllZip}
use Rattle.command_line.specs.Words.{edition_number}
use Rattle.baseline_json.specs.declared.baseline.BaselineFinding.{BaselineFinding}
use Rattle.command_line.specs.declared.vet_told.UnitFlags.{UnitFlags}
use Rattle.command_line.specs.declared.words.ReportWords.{ReportWords}
use Rattle.report.specs.declared.format.Format.TheVariants as Format
use Rattle.declared_json.specs.DeclaredPackages.{packages_of}
use Rattle.unit_reports.specs.OneUnit.{IsReportOfUnit}
use Rattle.unit_reports.specs.UnitLaws.{IsKeptOf}
use Rattle.unit_reports.specs.declared.units.ImportedUnit.{ImportedUnit}
use Rattle.told_reports.specs.declared.unit.UnitForm.{UnitForm}
use Rattle.told_reports.specs.declared.unit.UnitShape.{UnitShape}
use Rattle.told_reports.specs.declared.unit.UnitShape.TheVariants.{Text, Json}
use Rattle.unit_reports.specs.declared.units.UnitReport.{UnitReport}
use Rattle.tree.specs.declared.edition.Edition.TheVariants.{Second}
use Rattle.unit_config.specs.UnitValues.{UnitEntry}
use Rattle.unit_reading.specs.ToldImports.{counts_in}
use Rattle.unit_reading.specs.UnitsTold.{without_suffix}
use Rattle.unit_reading.specs.declared.vetx_input.ToldImport.{ToldImport}
use Rattle.vetx_json.specs.KeptUnits.{vetx_of}
use Rattle.inputs.specs.Tellings.{IsTellingOf}
use Rattle.vet_units.specs.UnitsRead.{edition_of_unit}
use Rattle.vet_units.specs.declared.unit_input.UnitInput.{UnitInput}
use Rattle.vet_units.specs.declared.unit_report.JudgedUnit.{JudgedUnit}

-- Which imports count

-- what is kept of the imported package, by the path of that
pub record IsCounted (told : ToldImport) (one : ImportedUnit) : Type 0 where
  pub is_path : one.path.now ≡ string_bytes told.kept.path
  pub is_kept : one.vetx.now ≡ told.kept

-- of the imports that count, in their order
abbrev pub AreCounted : List ℕ → List ToldImport → List ImportedUnit → Type 0
AreCounted module_path told imports = AllZip IsCounted (filter (counts_in module_path) told) imports

-- One of these counts as not given where the package has a fault as a whole, by the second edition: nothing is known of
-- its functions.
abbrev pub is_not_given : List ℕ → ToldImport → Bool
is_not_given module_path told =
    counts_in module_path told && (told.kept.has_whole_fault && told.kept.edition == edition_number Second)

-- the paths of these packages, in the order of the imports
abbrev pub not_given : List ℕ → List ToldImport → List (List ℕ)
not_given module_path told = map (λ t. string_bytes t.kept.path) (filter (is_not_given module_path) told)

-- How a unit is told

abbrev pub IsShapeOf : UnitFlags → List ℕ → UnitShape → Type 0
IsShapeOf flags id (Text around) = (flags.is_json ≡ false) × (around ≡ flags.lines)
IsShapeOf flags id (Json name) = (flags.is_json ≡ true) × (name.now ≡ id)

abbrev pub words_of : UnitFlags → ReportWords
words_of flags = record { format = Format.Text; accepted = flags.accepted; quiet = flags.quiet }

-- as the flags ask for it, where these findings of an earlier run are accepted
pub record IsFormOf (flags : UnitFlags) (id : List ℕ) (known : List BaselineFinding) (form : UnitForm) : Type 0 where
  pub is_telling : IsTellingOf (edition_of_unit flags) (words_of flags) true known [] form.telling
  pub has_reasons : form.with_reasons ≡ flags.with_reasons
  pub is_shape : IsShapeOf flags id form.shape

-- the text is that of the unit's report, and what is kept of the unit is what the report found, and by what it was
-- judged; what is kept does not depend on how, or whether, the report is told
pub record IsJudgedSo (flags : UnitFlags) (unit : UnitEntry) (input : UnitInput) (judged : JudgedUnit) : Type 0 where
  pub imports : List ImportedUnit
  pub are_imports : AreCounted (string_bytes input.module_path) input.told.items imports
  pub form : UnitForm
  pub is_form : IsFormOf flags unit.id input.baseline.findings.items form
  pub report : UnitReport
  pub is_report : IsReportOfUnit form (packages_of input.outside) imports input.given report
  pub is_text : judged.text.items ≡ report.text.items
  pub are_not_given :
      map string_bytes judged.not_given.items ≡ not_given (string_bytes input.module_path) input.told.items
  pub is_kept : IsKeptOf report (vetx_of judged.kept)
  pub is_edition : judged.kept.edition ≡ edition_number (edition_of_unit flags)
  pub are_facts : string_bytes judged.kept.facts ≡ string_bytes input.digest
  pub is_path : string_bytes judged.kept.path ≡ without_suffix unit.path
  pub is_module : string_bytes judged.kept.module_path ≡ string_bytes input.module_path

-- What serves the proofs: these imports were looked at so far, and with those that are left they are all
pub record AreCountedSoFar
    (module_path : List ℕ) (left all : List ToldImport) (imports : List ImportedUnit)
    : Type 0 where
  pub done : List ToldImport
  pub complete : done ++ filter (counts_in module_path) left ≡ filter (counts_in module_path) all
  pub are_imports : AllZip IsCounted done imports
