-- Where the faults of whole packages stand, and what is said of imports: at an offset of their file's text, or at its
-- end, where the trees are those of the texts and each other fault lies in its text.
use Rattle.std.specs.Prelude.{ℕ, ◌≡◌, ◌≤◌, List, length, Some, slice_get}
use Rattle.tree.specs.declared.edition.Edition.{Edition}
use Rattle.tree.specs.Syntax.{ImportSpec}
use Rattle.report.specs.declared.codes.DiagnosticCode.{DiagnosticCode}
use Rattle.report.specs.Entries.{Entry}
use Rattle.meaning_reports.specs.MeantImports.{IsTreeButForImports}
use Rattle.meaning_reports.specs.Loaded.{Reading, has_tree, has_text_fault, has_tree_fault, LoadedPackage}
use Rattle.meaning_reports.specs.WholeFaults.{ImportsAt, import_entry, IsWholeFault}

-- the file can have that text, in the edition
abbrev pub Fits : Edition → List ℕ → Reading → Type 0
Fits edition text (has_tree tree) = IsTreeButForImports edition text tree
Fits edition text (has_text_fault at why) = at ≤ length text
Fits edition text (has_tree_fault at why) = at ≤ length text

-- the texts of the package's files
pub record AreTextsOf (texts : List (List ℕ)) (p : LoadedPackage) : Type 0 where
  pub each : (n : ℕ) (file : Reading) → slice_get p.files n ≡ Some file
      → (text : List ℕ) × (slice_get texts n ≡ Some text) × Fits p.edition text file

-- the entry stands in one of the texts
pub record StandsIn (texts : List (List ℕ)) (x : Entry) : Type 0 where
  pub text : List ℕ
  pub is_file : slice_get texts x.file ≡ Some text
  pub within : x.offset ≤ length text

pub record WholePlacesLieInFiles : Type 0 where
  pub of_whole : (ps : List LoadedPackage) (i : ℕ) (p : LoadedPackage) (texts : List (List ℕ)) (x : Entry)
      → slice_get ps i ≡ Some p
      → AreTextsOf texts p
      → IsWholeFault ps i x
      → StandsIn texts x
  pub of_import : (ps : List LoadedPackage) (i j file : ℕ) (spec : ImportSpec) (code : DiagnosticCode)
      → (p : LoadedPackage) (texts : List (List ℕ))
      → slice_get ps i ≡ Some p
      → AreTextsOf texts p
      → ImportsAt ps i j file spec
      → StandsIn texts (import_entry file spec code)
