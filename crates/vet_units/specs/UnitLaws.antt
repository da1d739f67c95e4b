-- What is kept of a unit in a file is what is read of that file for those that import it, where the file has the text
-- that was written to it. That it has, no contract can say: that is the system's, and what hands the file on.
use Rattle.std.specs.Prelude.{ℕ, ◌≡◌, List}
use Rattle.folders.specs.ReadFiles.{bytes_read}
use Rattle.folders.specs.WrittenFiles.{text_of}
use Rattle.folders.specs.declared.whole_files.WrittenFile.{WrittenFile}
use Rattle.unit_config.specs.UnitValues.{UnitEntry}
use Rattle.unit_reading.specs.ToldImports.{IsTold}
use Rattle.unit_reading.specs.declared.vetx_input.ToldImport.{ToldImport}
use Rattle.vetx_json.specs.KeptUnits.{vetx_of, IsInOrder}
use Rattle.vetx_json.specs.declared.vetx.Vetx.{Vetx}
use Rattle.vet_units.specs.UnitRuns.{HoldsKept}

abbrev pub KeptFilesReadBack : Type 0
KeptFilesReadBack = (unit importer : UnitEntry) (kept : Vetx) (file : WrittenFile) (edition : ℕ) (digest : List ℕ)
    (told : ToldImport)
    → HoldsKept unit kept file
    → IsInOrder (vetx_of kept)
    → IsTold edition digest importer told
    → bytes_read told.file ≡ text_of file
    → vetx_of told.kept ≡ vetx_of kept
