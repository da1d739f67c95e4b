-- What is said by what was read of imports follows from what was told of them.
use Rattle.std.proofs.Common.{◌≡◌, ℕ, List, Some, ap, ◌∙◌, subst}
use Rattle.std.specs.List.{AllZip}
use Rattle.std.specs.Prelude.{slice_get}
use Rattle.declared_json.specs.DeclaredPackages.{PackageEntry}
use Rattle.declared_tables.specs.DeclaredTables.{declared_tables}
use Rattle.imports.specs.Ranks.{HasRank}
use Rattle.imports.specs.Views.{packages_view, text_views}
use Rattle.unit_reports.proofs.UnitImports.{are_told, follows_too, imports_of_read, notes_too}
use Rattle.unit_reports.proofs.UnitTexts.{text_too}
use Rattle.unit_reports.specs.UnitParts.{first_imports, named_among, IsGivenAlone, IsReadAmong, IsReadOf, IsToldUnit, NotesByRead, SaysByRead}
use Rattle.unit_reports.specs.Units.{AreImportsTold, NotesFollowFromTold}
use Rattle.unit_reports.specs.declared.units.ImportedUnit.{ImportedUnit}
use Rattle.unit_reports.specs.declared.units.ReadImports.{ReadImports}
use Rattle.unit_reports.specs.declared.units.ToldUnit.{ToldUnit}
use Rattle.told_reports.specs.declared.unit.UnitForm.{UnitForm}
use Rattle.meaning_reports.specs.Loaded.{LoadedPackage, Tables, import_list, imported_paths}
use Rattle.meaning_reports.specs.PackageReports.{by_paths}
use Rattle.one_package.specs.Judgments.{said_view}
use Rattle.given_packages.specs.declared.given.Given.{Given}
use Rattle.whole_packages.specs.LoadedViews.{TellsPackage}
use Rattle.whole_packages.specs.declared.loaded_package.LoadedPackage.{LoadedPackage as KeptPackage}

module _ (outside : List PackageEntry) (told : List ImportedUnit) (kept : KeptPackage) (given : Given) (imports : ReadImports)
    (alone : IsGivenAlone (declared_tables outside) kept given)
    (paths : text_views imports.paths.items ≡ first_imports (packages_view given.lists.items))
    (read : AllZip IsReadOf (named_among (text_views imports.paths.items) told) imports.read.items) where
  abbrev tables : Tables
  tables = declared_tables outside

  names : (p : LoadedPackage) → TellsPackage p kept → text_views imports.paths.items ≡ imported_paths p
  names p tells = paths ∙ ap first_imports (alone p tells).are_lists

  module _ (ps : List LoadedPackage) (i : ℕ) (p : LoadedPackage) (is_p : slice_get ps i ≡ Some p) (tells : TellsPackage p kept)
      (rank : HasRank (import_list ps) i) (are : AreImportsTold ps p told) where
    read_of : AllZip IsReadOf (named_among (imported_paths p) told) imports.read.items
    read_of = subst (λ qs. AllZip IsReadOf (named_among qs told) imports.read.items) (names p tells) read

    among : IsReadAmong tables ps i p kept imports given.declared
    among = record {
      are_declared = (alone p tells).are_declared;
      are_marked = (alone p tells).are_marked;
      is_there = is_p;
      tells = tells;
      rank = rank;
      are_paths = names p tells;
      are_imports = imports_of_read ps i p is_p told imports.read.items are read_of;
      are_told = are_told ps i p is_p told imports.read.items are read_of;
    }

  pub is_told_unit : (form : UnitForm) (unit : ToldUnit) → SaysByRead form kept imports given.declared unit
      → IsToldUnit form outside told kept unit
  is_told_unit form unit says = record {
    is_judged = record {
      tells = says.tells;
      follows = λ ps i p is_p tells rank are.
          follows_too ps i p is_p told imports.read.items are (read_of ps i p is_p tells rank are) (by_paths tables)
          (said_view unit.judged) (says.follows tables ps i p (among ps i p is_p tells rank are));
    };
    is_text =
        text_too form unit.judged (NotesByRead kept imports given.declared) (NotesFollowFromTold outside told kept) unit.text.items
        (λ e notes ps i p is_p tells rank are.
        notes_too ps i p is_p told imports.read.items are (read_of ps i p is_p tells rank are) tables e
        (notes tables ps i p (among ps i p is_p tells rank are))) says.is_text;
  }
