-- The certificates of the bodies of files that are all walked are those of the package's.
use Rattle.std.proofs.Common.{◌≡◌, ℕ, true, Bool, List, ap, subst}
use Rattle.all_certificates.specs.CertifiedBodies.{AreOfFiles}
use Rattle.all_certificates.specs.CertifiedPackages.{AreOfBodies}
use Rattle.calls_flags.proofs.CreditedFiles.{all_credited, all_told}
use Rattle.calls_flags.specs.FilesBodies.{HaveBodies, TellAll, with_all_credits}
use Rattle.calls_flags.specs.declared.file_bodies.FileBodies.{FileBodies}
use Rattle.certificate_json.specs.Certificates.{BodyEntry}
use Rattle.meaning_packages.specs.CallsFlags.{FileWithCredits, Flags, calls_by}
use Rattle.meaning_reports.specs.Loaded.{LoadedPackage, Tables, imported_flags, seen_files}
use Rattle.silent_files.proofs.WalkedFiles.{walks_are_enough}
use Rattle.silent_files.specs.WalkedFiles.{walked_files}

pub of_all_walked : (ps : List LoadedPackage) (tables : Tables) (p : LoadedPackage) (walked : ℕ → Bool)
    → ((n : ℕ) → walked n ≡ true)
    → (ks : List FileBodies) → HaveBodies (walked_files ps tables p walked) ks
    → (flags : Flags) (imported : List ℕ → List ℕ → ℕ → Bool)
    → ((path name : List ℕ) (k : ℕ) → imported path name k ≡ imported_flags p tables path name k)
    → (entries : List BodyEntry)
    → ((fs : List FileWithCredits) → TellAll fs ks → AreOfFiles (calls_by flags imported) 0 fs entries)
    → AreOfBodies (calls_by flags (imported_flags p tables)) (seen_files ps tables p) entries
of_all_walked ps tables p walked all ks made flags imported same entries are =
    let seens = seen_files ps tables p in
    let are_bodies : HaveBodies seens ks =
    subst (λ ss. HaveBodies ss ks) (walks_are_enough.all ps tables p walked all) made in
    let are_flags : imported ≡ imported_flags p tables = λ j path name k. same path name k j in
    subst (λ calls. AreOfBodies calls seens entries) (ap (calls_by flags) are_flags)
    (record {
      files = with_all_credits seens ks;
      are_files = all_credited seens ks are_bodies;
      are_of = are (with_all_credits seens ks) (all_told seens ks are_bodies);
    })
