use Rattle.std.proofs.Common.{subst}
use Rattle.folders.specs.WrittenFiles.{text_of}
use Rattle.vetx_json.proofs.VetxLaws.{one_of_text}
use Rattle.vetx_json.specs.KeptUnits.{vetx_of}
use Rattle.vetx_json.specs.VetxTexts.{IsVetxText}
use Rattle.vet_units.proofs.unit_laws.kept_files_read_back.Goals as goal

pub returns : goal.returns
returns c unit importer kept file edition digest told holds order is_told same =
    one_of_text (text_of file) (vetx_of told.kept) (vetx_of kept)
    (subst (λ text. IsVetxText text (vetx_of told.kept)) same is_told.is_kept.is_text)
    (holds.is_text.reads_back order)
