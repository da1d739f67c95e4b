-- What is said of loaded packages by certificates is their report by them.
use Rattle.std.proofs.Common.{List, refl, subst, sym}
use Rattle.std.specs.Prelude.{String, string_bytes}
use Rattle.std.specs.declared.alloc.Global.{Global}
use Rattle.certificate_json.specs.declared.certificates.Certificates.{Certificates}
use Rattle.declared_tables.specs.DeclaredTables.{declared_tables}
use Rattle.judge.specs.Verified.{given_in, TellsVerified, IsVerifiedReport, AreTooOld}
use Rattle.judge.specs.declared.not_given.NotedReport.{NotedReport}
use Rattle.judge.specs.declared.verified.Verified.{Verified}
use Rattle.judge.specs.declared.verified.Verified.TheVariants.{Told, IsTooOld}
use Rattle.judge.proofs.Loads.{tell_loaded, is_report_by}
use Rattle.judge.proofs.VerifiedPlaces.{verified_entries_lie}
use Rattle.load.specs.LoadedBeside.{IsLoadBeside}
use Rattle.load.specs.declared.loaded.Loaded.{Loaded}
use Rattle.load.specs.declared.packages.GivenPackage.{GivenPackage}
use Rattle.declared_json.specs.DeclaredPackages.{PackageEntry, packages_of}
use Rattle.accepting.specs.declared.telling.Telling.{Telling}
use Rattle.checker.proofs.CheckedLists.{leaves_no_fault, keeps_claims, settles_what_it_says}
use Rattle.verifier.proofs.VerifiedYes.{yes_of_verified_is_quiet}
use Rattle.verifier.specs.Rules.{by_certificates}
use Rattle.verifier.specs.VerifierLaws.{YesOfVerifiedIsQuiet}

quiet : YesOfVerifiedIsQuiet
quiet = yes_of_verified_is_quiet leaves_no_fault keeps_claims settles_what_it_says

-- what is told of the packages is told where what was given is declared of others
pub told_beside : (telling : Telling) (outside : List PackageEntry) (given : List GivenPackage) (loaded : Loaded)
    (certificates : Certificates) (told : Verified)
    → IsLoadBeside given outside loaded
    → TellsVerified telling (declared_tables (packages_of loaded.outside)) loaded.packages.items certificates told
    → TellsVerified telling (declared_tables outside) loaded.packages.items certificates told
told_beside telling outside given loaded certificates told beside tells =
    subst (λ (es : List PackageEntry). TellsVerified telling (declared_tables es) loaded.packages.items certificates told)
    beside.is_outside tells

pub is_verified : (telling : Telling) (outside : List PackageEntry) (given : List GivenPackage) (loaded : Loaded)
    (certificates : Certificates) (noted : NotedReport)
    → IsLoadBeside given outside loaded
    → TellsVerified telling (declared_tables outside) loaded.packages.items certificates (Told noted)
    → IsVerifiedReport telling outside given certificates noted.report
unfolding is_report_by
is_verified telling outside given loaded certificates noted beside told =
    let rules = given_in certificates in
    let declared = declared_tables outside in
    let load = beside.load in
    record {
      is_report =
          is_report_by (by_certificates rules) telling outside refl (quiet rules declared)
          (verified_entries_lie rules declared) given loaded noted.report beside told.1;
      none_is_too_old_for =
          sym (told.0 load.meant (tell_loaded given loaded.packages.items load) load.distinct);
    }

pub are_too_old : (telling : Telling) (outside : List PackageEntry) (given : List GivenPackage) (loaded : Loaded)
    (certificates : Certificates) (path : String Global)
    → IsLoadBeside given outside loaded
    → TellsVerified telling (declared_tables outside) loaded.packages.items certificates (IsTooOld path)
    → AreTooOld outside given certificates (string_bytes path)
are_too_old telling outside given loaded certificates path beside told =
    let load = beside.load in
    record {
      loaded = loaded;
      load = beside;
      is_first = sym (told load.meant (tell_loaded given loaded.packages.items load) load.distinct);
    }
