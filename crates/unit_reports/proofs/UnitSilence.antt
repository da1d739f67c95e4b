-- A unit of which nothing is printed as text, with accepted findings too, is one of which nothing is said; and the other
-- way round.
use Rattle.std.proofs.Common.{◌≡◌, ℕ, Bool, true, false, if◌then◌else◌, List, [], ◌∷◌, ◌++◌, map, refl, sym, ap, ◌∙◌}
use Rattle.std.specs.Prelude.{flat_map, not, ◌||◌, Option, None, Some}
use Rattle.std.proofs.lemmas.Bool.{false≢true}
use Rattle.std.proofs.lemmas.List.{append-nil}
use Rattle.accepting.specs.ByBaseline.{Key, baseline_keys, findings_by_baseline}
use Rattle.accepting.specs.ByLines.{accepted_by_line, all_directives, findings_by_lines, has_whole_fault, on_line, stale_if}
use Rattle.accepting.specs.Findings.{FindingEntry, FoundEntry, explained_finding, explained_package, is_accepted, plain_finding, plain_package}
use Rattle.accepting.specs.Found.{found_by, found_in}
use Rattle.accepting.specs.Merged.{merged, stands_before, told_before}
use Rattle.accepting.specs.declared.telling.Telling.{Telling}
use Rattle.unit_reports.specs.UnitLaws.{SilentUnitsAreYes, is_text}
use Rattle.unit_reports.specs.Units.{HoldsOfUnit, IsUnitText}
use Rattle.lexer.specs.declared.source.Source.{Source}
use Rattle.one_package.specs.Judgments.{is_yes, says_nothing}
use Rattle.one_package.specs.declared.judged.Judged.{Judged}
use Rattle.report.specs.Notes.{plain_of}
use Rattle.report.specs.Entries.{Entry}
use Rattle.report.specs.declared.codes.Wording.{Wording}
use Rattle.report.specs.declared.codes.Wording.TheVariants.{First, Second}
use Rattle.report.specs.declared.diagnostics.Diagnostic.{Diagnostic}
use Rattle.report.specs.declared.notes.ExplainedDiagnostic.{ExplainedDiagnostic}
use Rattle.report.specs.declared.notes.ExplainedPackage.{ExplainedPackage}
use Rattle.report_formats.specs.ReportLines.{finding_line}
use Rattle.format_parts.specs.Told.{is_told, style_of}
use Rattle.report_formats.specs.UnitText.{unit_lines, unit_text, unit_told}
use Rattle.format_parts.specs.declared.style.Style.{Style}
use Rattle.told_reports.specs.UnitTexts.{shape_text, unit_text_in}
use Rattle.told_reports.specs.declared.unit.UnitForm.{UnitForm}
use Rattle.told_reports.specs.declared.unit.UnitShape.{UnitShape}
use Rattle.told_reports.specs.declared.unit.UnitShape.TheVariants.{Text, Json}

some_bytes : (xs ys : List ℕ) (b : ℕ) → xs ++ b ∷ ys ≡ [] → ⊥
some_bytes [] ys b e = cc
some_bytes (x ∷ xs) ys b e = cc

no_front : (xs ys : List ℕ) → xs ++ ys ≡ [] → xs ≡ []
no_front [] ys e = refl
no_front (x ∷ xs) ys e = cc

-- a line has a colon
no_line : (wording : Wording) (sources : List Source) (f : FindingEntry) → finding_line wording sources f ≡ [] → ⊥
no_line wording sources f e = some_bytes _ _ 58 (no_front _ _ e)

-- where accepted findings are told, each finding has a line
told_line : (style : Style) → style.tells_accepted ≡ true → (around : Option ℕ) (sources : List Source) (f : FindingEntry)
    → unit_told style around sources f ≡ []
    → ⊥
told_line style tells around sources f e =
    no_line style.wording sources f
    (no_front _ _
    (ap (λ (b : Bool). if b || not (is_accepted f) then unit_lines style around sources f else []) (sym tells) ∙ e))

no_text : (style : Style) → style.tells_accepted ≡ true → (around : Option ℕ) (sources : List Source) (fs : List FindingEntry)
    → flat_map (unit_told style around sources) fs ≡ []
    → fs ≡ []
no_text style tells around sources [] e = refl
no_text style tells around sources (f ∷ fs) e =
    absurd (told_line style tells around sources f (no_front (unit_told style around sources f) _ e))

-- What is accepted takes no finding away

none_accepted : (known before : List Key) (sources : List Source) (fs : List FindingEntry)
    → findings_by_baseline known before sources fs ≡ []
    → fs ≡ []
none_accepted known before sources [] e = refl
none_accepted known before sources (f ∷ fs) e = cc

some_told : (f : FindingEntry) (follow : List FindingEntry → List FindingEntry) (ss : List FindingEntry)
    → told_before f.said (λ rest. f ∷ follow rest) ss ≡ []
    → ⊥
some_told f follow [] e = cc
some_told f follow (s ∷ ss) e = by (stands_before s.said f.said) e
  where
    by : (b : Bool)
        → (if b then s ∷ told_before f.said (λ rest. f ∷ follow rest) ss else f ∷ follow (s ∷ ss)) ≡ []
        → ⊥
    by true e = cc
    by false e = cc

none_merged : (fs ss : List FindingEntry) → merged fs ss ≡ [] → fs ≡ []
none_merged [] ss e = refl
none_merged (f ∷ fs) ss e = absurd (some_told f (merged fs) ss e)

none_mapped : {A B : Type 0} (f : A → B) (xs : List A) → map f xs ≡ [] → xs ≡ []
none_mapped f [] e = refl
none_mapped f (x ∷ xs) e = cc

none_by_lines : (stale : Bool) (sources : List Source) (fs : List FindingEntry) → findings_by_lines stale sources fs ≡ []
    → fs ≡ []
none_by_lines stale sources fs e = by (has_whole_fault fs) e
  where
    by : (b : Bool)
        → (if b then fs
        else merged (map (accepted_by_line (on_line (all_directives sources)) sources) fs) (stale_if stale sources fs))
        ≡ []
        → fs ≡ []
    by true e = e
    by false e =
        none_mapped (accepted_by_line (on_line (all_directives sources)) sources) fs
        (none_merged _ (stale_if stale sources fs) e)

-- the text of what is found in one package
found_text : (style : Style) → style.tells_accepted ≡ true → (around : Option ℕ) (wording : Wording) (stale : Bool)
    (known : List Key) (p : FoundEntry)
    → flat_map (unit_text style around) (found_by wording stale known (p ∷ [])) ≡ []
    → p.findings ≡ []
found_text style tells around First stale known p e =
    no_text style tells around p.sources p.findings (no_front _ _ e)
found_text style tells around Second stale known p e =
    none_by_lines stale p.sources p.findings
    (none_accepted known [] p.sources _ (no_text style tells around p.sources _ (no_front _ _ e)))

nothing_found : (around : Option ℕ) (wording : Wording) (stale : Bool) → stale ≡ false → (style : Style) (known : List Key)
    (p : FoundEntry)
    → p.findings ≡ []
    → flat_map (unit_text style around) (found_by wording stale known (p ∷ [])) ≡ []
nothing_found around First stale off style known p none = ap (λ fs. flat_map (unit_told style around p.sources) fs ++ []) none
nothing_found around Second stale off style known p none =
    ap (λ fs. flat_map (unit_told style around p.sources)
    (findings_by_baseline known [] p.sources (findings_by_lines stale p.sources fs)) ++ []) none
    ∙ ap (λ (b : Bool). flat_map (unit_told style around p.sources)
    (findings_by_baseline known [] p.sources (merged [] (stale_if b p.sources []))) ++ []) off

-- Of what is said

no_diagnostic : (ds : List Diagnostic) → map plain_finding ds ≡ [] → says_nothing ds ≡ true
no_diagnostic [] e = refl
no_diagnostic (d ∷ ds) e = cc

nothing_plain : (ds : List Diagnostic) → says_nothing ds ≡ true → map plain_finding ds ≡ []
nothing_plain [] e = refl
nothing_plain (d ∷ ds) e = absurd (false≢true e)

no_explained : (es : List ExplainedDiagnostic) → map explained_finding es ≡ [] → says_nothing (plain_of es) ≡ true
no_explained [] e = refl
no_explained (x ∷ es) e = cc

nothing_explained : (es : List ExplainedDiagnostic) → says_nothing (plain_of es) ≡ true → map explained_finding es ≡ []
nothing_explained [] e = refl
nothing_explained (x ∷ es) e = absurd (false≢true e)

module _ (form : UnitForm) (judged : Judged) (AreNotes : ExplainedPackage → Type 0) (text : List ℕ) where
  text_by : (shape : UnitShape) → is_text shape ≡ true → form.telling.tells_accepted ≡ true → (p : FoundEntry)
      → flat_map (shape_text shape form.telling.fixes.now (style_of form.telling form.with_reasons)) (found_in form.telling (p ∷ [])) ≡ []
      → p.findings ≡ []
  text_by (Text around) prints tells p e =
      found_text (style_of form.telling form.with_reasons) tells around form.telling.wording form.telling.tells_stale
      (baseline_keys form.telling.baseline.now) p e
  text_by (Json name) prints tells p e = absurd (false≢true prints)

  none_by : (shape : UnitShape) → is_text shape ≡ true → form.telling.tells_stale ≡ false → (p : FoundEntry)
      → p.findings ≡ []
      → flat_map (shape_text shape form.telling.fixes.now (style_of form.telling form.with_reasons)) (found_in form.telling (p ∷ [])) ≡ []
  none_by (Text around) prints off p none =
      nothing_found around form.telling.wording form.telling.tells_stale off (style_of form.telling form.with_reasons)
      (baseline_keys form.telling.baseline.now) p none
  none_by (Json name) prints off p none = absurd (false≢true prints)

  silence : (with_reasons : Bool) → is_text form.shape ≡ true → form.telling.tells_accepted ≡ true
      → HoldsOfUnit with_reasons judged AreNotes (λ found. text ≡ unit_text_in form found)
      → text ≡ []
      → is_yes judged.report ≡ true
  silence false prints tells is e =
      no_diagnostic judged.report.diagnostics.items
      (text_by form.shape prints tells (plain_package judged.report) (sym is ∙ e))
  silence true prints tells is e =
      ap (λ p. says_nothing p.diagnostics) (sym is.is_same)
      ∙ no_explained is.explained.diagnostics.items
      (text_by form.shape prints tells (explained_package is.explained) (sym is.so ∙ e))

  silent : (with_reasons : Bool) → is_text form.shape ≡ true → form.telling.tells_stale ≡ false
      → HoldsOfUnit with_reasons judged AreNotes (λ found. text ≡ unit_text_in form found)
      → is_yes judged.report ≡ true
      → text ≡ []
  silent false prints off is none =
      is
      ∙ none_by form.shape prints off (plain_package judged.report) (nothing_plain judged.report.diagnostics.items none)
  silent true prints off is none =
      is.so
      ∙ none_by form.shape prints off (explained_package is.explained)
      (nothing_explained is.explained.diagnostics.items (ap (λ p. says_nothing p.diagnostics) is.is_same ∙ none))

pub silent_units_are_yes : SilentUnitsAreYes
silent_units_are_yes = record {
  silence_is_yes = λ outside run prints tells e.
      run.is_report.verdict
      ∙ silence run.form run.is_report.judged _ run.report.text.items run.form.with_reasons prints tells
      run.is_report.is_text e;
  yes_is_silent = λ outside run prints off quiet.
      silent run.form run.is_report.judged _ run.report.text.items run.form.with_reasons prints off run.is_report.is_text
      (sym run.is_report.verdict ∙ quiet);
}
