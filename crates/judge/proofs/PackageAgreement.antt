-- Reports by paths and by least certificates agree. What is claimed is what the flags say, so the tables are the same, by
-- the order of imports. Then nothing is to be said of a package by the one exactly where nothing is by the other: of its
-- files by the laws of one file, and of its imports since these are yes too.
use Rattle.std.proofs.Common.{◌≡◌, ℕ, zero, suc, ◌<◌, inl, inr, Bool, List, [], ◌∷◌, length, Some, Contains, refl, sym, ap, ◌∙◌, subst, arith}
use Rattle.std.specs.Prelude.{◌↔◌, option_map, slice_get}
use Rattle.std.proofs.lemmas.Option.{none-some, same_Some, slice_get-map, slice_get_within, slice_get_cases}
use Rattle.judge.proofs.FileAgreement.{least_certificates_are_believed, what_is_believed_has_no_finding}
use Rattle.judge.proofs.LowerLaws.{LowerLaws}
use Rattle.judge.proofs.PackageFiles.{IsOfText, credited_seen, all_full, of_text, keeps_flags}
use Rattle.judge.specs.AgreementLaws.{HasLeastCertificates, FindsNothing}
use Rattle.judge.specs.PackageLaws.{AreGivenByPaths, ReportsAgree}
use Rattle.meaning.proofs.Membership.{contains_nil, contains_here}
use Rattle.meaning.specs.Uses.{Callee, Seen}
use Rattle.meaning_packages.specs.CallsFlags.{Flags, FileWithCredits, calls_by}
use Rattle.meaning_reports.proofs.OneReport.{one_way, seen_by}
use Rattle.meaning_reports.specs.Loaded.{LoadedPackage, Tables, imported_flags, seen_files}
use Rattle.meaning_reports.specs.OneReport.{AreDetermined}
use Rattle.meaning_reports.specs.PackageReports.{Rules, IsFindingBy, of_whole, of_import, of_dot, of_files, IsYesBy, Said, IsReportBy, SaysByPaths, by_paths}
use Rattle.meaning_reports.specs.PackageTables.{IsTableBy, empty, full, AreTablesBy, IsJudged, AreFlagsByPaths}
use Rattle.meaning_reports.specs.WholeFaults.{HasNoWholeFault}
use Rattle.meaning_runs.proofs.EntryPlaces.{seen_there}
use Rattle.meaning_runs.specs.BodyOffsets.{BodiesAreApart}
use Rattle.meaning_runs.specs.PackageYes.{IsYesIn}
use Rattle.meaning_runs.specs.Promise.{AreTreesOfTexts}
use Rattle.path_faults.proofs.Places.{contains_at}
use Rattle.report.specs.Entries.{Entry}
use Rattle.verifier.proofs.OneVerified.{seen_of, one_claimed}
use Rattle.verifier.specs.Rules.{GivenByPath, IsVerified, AreFlagsByCertificates, SaysByCertificates, by_certificates}
use Rattle.verifier.specs.Verified.{AreClaimed, AreGivenCredits}
use Rattle.verifier.specs.VerifierLaws.{SaysNothing}

-- Flags

-- by both rules they are those that are claimed
record AreFlagsByClaims (given : GivenByPath) (ps : List LoadedPackage) (tables : Tables) (i : ℕ) (p : LoadedPackage)
    (flags : Flags) : Type 0 where
  files : List FileWithCredits
  are_seen : seen_of files ≡ seen_files ps tables p
  are_claimed : AreClaimed files (given p.path) flags

determined : (given : GivenByPath) → AreDetermined (AreFlagsByClaims given)
determined given ps one other i p flags more is none same first second =
    let seen : seen_files ps one p ≡ seen_files ps other p = ap (seen_by ps p) same in
    one_claimed first.files second.files (first.are_seen ∙ (seen ∙ sym second.are_seen)) (given p.path) flags more
    first.are_claimed second.are_claimed

module _ (declared : Tables) (given : GivenByPath) (ps : List LoadedPackage) (tables : Tables) where
  tables_by_paths : AreGivenByPaths given ps tables → AreTablesBy AreFlagsByPaths declared ps tables
      → AreTablesBy (AreFlagsByClaims given) declared ps tables
  tables_by_paths least are = record {
    of_package = λ i p is. by i p (are.of_package i p is);
    of_others = are.of_others;
  }
    where
      by : (i : ℕ) (p : LoadedPackage) → IsTableBy AreFlagsByPaths ps tables i p (tables p.path)
          → IsTableBy (AreFlagsByClaims given) ps tables i p (tables p.path)
      by i p (empty x fault h) = empty x fault h
      by i p (full flags none its signatures calls told) =
          full flags none (record {
            files = its.files;
            are_seen = credited_seen its.is_judged.are_files;
            are_claimed = (least i p its.files flags its.is_judged).are_claimed;
          }) signatures calls told

  tables_by_certificates : AreTablesBy (AreFlagsByCertificates given) declared ps tables
      → AreTablesBy (AreFlagsByClaims given) declared ps tables
  tables_by_certificates are = record {
    of_package = λ i p is. by i p (are.of_package i p is);
    of_others = are.of_others;
  }
    where
      by : (i : ℕ) (p : LoadedPackage) → IsTableBy (AreFlagsByCertificates given) ps tables i p (tables p.path)
          → IsTableBy (AreFlagsByClaims given) ps tables i p (tables p.path)
      by i p (empty x fault h) = empty x fault h
      by i p (full flags none its signatures calls told) =
          full flags none (record {
            files = its.files;
            are_seen = its.is_verified.are_seen;
            are_claimed = its.is_verified.are_flags;
          }) signatures calls told

-- Files at one place

-- the file there that is seen so
record IsFileAt (files : List FileWithCredits) (number : ℕ) (seen : Seen) : Type 0 where
  file : FileWithCredits
  is_there : slice_get files number ≡ Some file
  is_seen_so : file.seen ≡ seen

file_at : (files : List FileWithCredits) (number : ℕ) (seen : Seen) → slice_get (seen_of files) number ≡ Some seen
    → IsFileAt files number seen
file_at [] number seen e = absurd (none-some seen e)
file_at (f ∷ fs) zero seen e = record { file = f; is_there = refl; is_seen_so = same_Some f.seen seen e }
file_at (f ∷ fs) (suc number) seen e =
    let w = file_at fs number seen e in
    record { file = w.file; is_there = w.is_there; is_seen_so = w.is_seen_so }

other_at : (files others : List FileWithCredits) (number : ℕ) (file : FileWithCredits) → seen_of files ≡ seen_of others
    → slice_get files number ≡ Some file
    → IsFileAt others number file.seen
other_at files others number file same e =
    file_at others number file.seen
    (ap (λ seens. slice_get seens number) (sym same)
    ∙ (slice_get-map (λ (f : FileWithCredits). f.seen) files number ∙ ap (option_map (λ (f : FileWithCredits). f.seen)) e))

-- Packages

module _ (laws : LowerLaws) (bodies : BodiesAreApart) (declared : Tables) (given : GivenByPath)
    (ps : List LoadedPackage) (tables : Tables) (texts : (i : ℕ) (p : LoadedPackage) → slice_get ps i ≡ Some p → AreTreesOfTexts p)
    (least : AreGivenByPaths given ps tables) where
  -- a package that is judged by both

  module _ (i : ℕ) (p : LoadedPackage) (files others : List FileWithCredits) (flags more : Flags)
      (judged : IsJudged ps tables i p files flags) (verified : IsVerified given ps tables i p others more) where
    same_seen : seen_of files ≡ seen_of others
    same_seen = credited_seen judged.are_files ∙ sym verified.are_seen

    same_flags : more ≡ flags
    same_flags =
        one_claimed others files (sym same_seen) (given p.path) more flags verified.are_flags
        (least i p files flags judged).are_claimed

    abbrev calls : Callee → ℕ → Bool
    calls = calls_by flags (imported_flags p tables)

    has_least : (number : ℕ) (file : FileWithCredits) → slice_get files number ≡ Some file
        → HasLeastCertificates (given p.path) calls number file
    has_least number file is = record {
      are_full = all_full judged.are_files file (contains_at files number file is);
      each = (least i p files flags judged).give_least number file is;
    }

    given_credits : (number : ℕ) (other : FileWithCredits) → slice_get others number ≡ Some other
        → AreGivenCredits (given p.path) flags calls number other
    given_credits number other is =
        subst (λ (f : Flags). AreGivenCredits (given p.path) f (calls_by f (imported_flags p tables)) number other)
        same_flags (verified.are_credits number other is)

    module _ (number : ℕ) (file other : FileWithCredits) (is : slice_get files number ≡ Some file)
        (is_other : slice_get others number ≡ Some other) (same : other.seen ≡ file.seen) where
      its_text : IsOfText file.seen
      its_text =
          of_text bodies ps tables p (texts i p judged.is_package) number file.seen
          (seen_there (seen_files ps tables p) files judged.are_files number file is)

      says_nothing : FindsNothing calls number file → SaysNothing (given p.path) flags calls number other
      says_nothing nothing =
          (least_certificates_are_believed laws (given p.path) flags calls number file other its_text.have_own_groups its_text.keep_by_edition
          (has_least number file is)
          (keeps_flags bodies ps tables i p (texts i p judged.is_package) files flags judged file
          (contains_at files number file is))
          same (given_credits number other is_other) nothing).1

      finds_nothing : SaysNothing (given p.path) flags calls number other → FindsNothing calls number file
      finds_nothing nothing =
          (what_is_believed_has_no_finding laws (given p.path) flags calls number file other its_text.have_own_groups its_text.keep_by_edition
          its_text.have_own_places (has_least number file is) same (given_credits number other is_other) nothing).1

  module _ (by_path : AreTablesBy AreFlagsByPaths declared ps tables)
      (by_cert : AreTablesBy (AreFlagsByCertificates given) declared ps tables) where
    -- a package without a fault of the whole package is judged by both
    its_flags : (i : ℕ) (p : LoadedPackage) → slice_get ps i ≡ Some p → HasNoWholeFault ps i
        → (flags : Flags) × AreFlagsByPaths ps tables i p flags
    its_flags i p is none = by (by_path.of_package i p is)
      where
        by : IsTableBy AreFlagsByPaths ps tables i p (tables p.path) → (flags : Flags) × AreFlagsByPaths ps tables i p flags
        by (empty x fault h) = absurd (none x fault)
        by (full flags nothing its signatures calls told) = (flags, its)

    its_claims : (i : ℕ) (p : LoadedPackage) → slice_get ps i ≡ Some p → HasNoWholeFault ps i
        → (flags : Flags) × AreFlagsByCertificates given ps tables i p flags
    its_claims i p is none = by (by_cert.of_package i p is)
      where
        by : IsTableBy (AreFlagsByCertificates given) ps tables i p (tables p.path)
            → (flags : Flags) × AreFlagsByCertificates given ps tables i p flags
        by (empty x fault h) = absurd (none x fault)
        by (full flags nothing its signatures calls told) = (flags, its)

    -- what is said of files by certificates is not said where nothing is by paths
    none_said : (i : ℕ) (x : Entry) → HasNoWholeFault ps i → IsYesBy (by_paths declared) ps tables i
        → SaysByCertificates given ps tables i x
        → ⊥
    none_said i x none its_yes s =
        let p = s.loaded in
        let w = its_flags i p s.is_verified.is_package none in
        let judged = w.1.is_judged in
        let files = w.1.files in
        let there = other_at s.files files s.number s.file
        (sym (same_seen i p files s.files w.0 s.flags judged s.is_verified)) s.is_file in
        let quiet = says_nothing i p files s.files w.0 s.flags judged s.is_verified s.number there.file s.file there.is_there
        s.is_file (sym there.is_seen_so)
        (λ y finding. its_yes y (of_files none (record {
          flags = w.0;
          number = s.number;
          file = there.file;
          is_of = record { loaded = p; files = files; is_judged = judged; is_file = there.is_there };
          is_finding = finding;
        }))) in
        subst (λ (f : Flags). SaysNothing (given p.path) f (calls_by f (imported_flags p tables)) s.number s.file)
        (sym (same_flags i p files s.files w.0 s.flags judged s.is_verified)) quiet x s.is_said

    none_found : (i : ℕ) (x : Entry) → HasNoWholeFault ps i → IsYesBy (by_certificates given declared) ps tables i
        → SaysByPaths ps tables i x
        → ⊥
    none_found i x none its_yes s =
        let p = s.is_of.loaded in
        let judged = s.is_of.is_judged in
        let files = s.is_of.files in
        let w = its_claims i p judged.is_package none in
        let verified = w.1.is_verified in
        let others = w.1.files in
        let there = other_at files others s.number s.file (same_seen i p files others s.flags w.0 judged verified)
        s.is_of.is_file in
        let same = same_flags i p files others s.flags w.0 judged verified in
        let nothing : SaysNothing (given p.path) w.0 (calls_by w.0 (imported_flags p tables)) s.number there.file =
        λ y said. its_yes y (of_files none (record {
          loaded = p;
          files = others;
          flags = w.0;
          is_verified = verified;
          number = s.number;
          file = there.file;
          is_file = there.is_there;
          is_said = said;
        })) in
        finds_nothing i p files others s.flags w.0 judged verified s.number s.file there.file s.is_of.is_file there.is_there
        there.is_seen_so
        (subst (λ (f : Flags). SaysNothing (given p.path) f (calls_by f (imported_flags p tables)) s.number there.file) same
        nothing)
        x s.is_finding

    quiet_by_certificates : (i : ℕ) (x : Entry) → IsFindingBy (by_certificates given declared) ps tables i x
        → IsYesBy (by_paths declared) ps tables i
        → ⊥
    quiet_by_certificates i x (of_whole h) its_yes = its_yes x (of_whole h)
    quiet_by_certificates i x (of_import j number spec y none im needed finding) its_yes =
        quiet_by_certificates j y finding (λ z h. its_yes _ (of_import j number spec z none im needed h))
    quiet_by_certificates i x (of_dot file dot none out) its_yes = its_yes _ (of_dot file dot none out)
    quiet_by_certificates i x (of_files none said) its_yes = none_said i x none its_yes said

    quiet_by_paths : (i : ℕ) (x : Entry) → IsFindingBy (by_paths declared) ps tables i x
        → IsYesBy (by_certificates given declared) ps tables i
        → ⊥
    quiet_by_paths i x (of_whole h) its_yes = its_yes x (of_whole h)
    quiet_by_paths i x (of_import j number spec y none im needed finding) its_yes =
        quiet_by_paths j y finding (λ z h. its_yes _ (of_import j number spec z none im needed h))
    quiet_by_paths i x (of_dot file dot none out) its_yes = its_yes _ (of_dot file dot none out)
    quiet_by_paths i x (of_files none said) its_yes = none_found i x none its_yes said

    pub same_yes : (i : ℕ) → IsYesBy (by_paths declared) ps tables i
        ↔ IsYesBy (by_certificates given declared) ps tables i
    same_yes i = (λ its_yes x h. quiet_by_certificates i x h its_yes, λ its_yes x h. quiet_by_paths i x h its_yes)

-- Reports

no_entry : (xs : List Entry) → ((x : Entry) → Contains xs x → ⊥) → xs ≡ []
no_entry [] none = refl
no_entry (x ∷ xs) none = absurd (none x (contains_here x xs))

module _ (rules : Rules) (ps : List LoadedPackage) (report : List Said) (is : IsReportBy rules ps report) where
  pub is_yes : (i : ℕ) → IsYesIn ps report i → IsYesBy rules ps is.tables i
  is_yes i its_yes x h =
      let w = is.of_package i its_yes.loaded its_yes.said its_yes.is_package its_yes.is_said in
      contains_nil x (subst (λ xs. Contains xs x) its_yes.is_yes ((w.are_findings.each x).1 h))

  pub said_yes : (i : ℕ) (p : LoadedPackage) → slice_get ps i ≡ Some p → IsYesBy rules ps is.tables i → IsYesIn ps report i
  said_yes i p is_package its_yes = elim (slice_get_cases report i).1 [
    | inl w ↦
        let said = is.of_package i p w.0 is_package w.2 in
        record {
          loaded = p;
          said = w.0;
          is_package = is_package;
          is_said = w.2;
          is_yes = no_entry w.0.entries (λ x among. its_yes x ((said.are_findings.each x).0 among));
        }
    | inr past ↦
        let low : i < length ps = slice_get_within ps i p is_package in
        let long = is.is_as_long in
        let out = past.0 in
        absurd (omega (arith, low, long, out))
  ]

-- by the tables of both
pub tables_agree : LowerLaws → BodiesAreApart → (declared : Tables) (given : GivenByPath) (ps : List LoadedPackage)
    (checked verified : Tables)
    → AreTablesBy AreFlagsByPaths declared ps checked
    → AreTablesBy (AreFlagsByCertificates given) declared ps verified
    → ((i : ℕ) (p : LoadedPackage) → slice_get ps i ≡ Some p → AreTreesOfTexts p)
    → AreGivenByPaths given ps checked
    → (checked ≡ verified)
    × ((i : ℕ) → IsYesBy (by_paths declared) ps checked i ↔ IsYesBy (by_certificates given declared) ps verified i)
tables_agree laws bodies declared given ps checked verified by_path by_cert texts least =
    (same, λ i. subst (λ t. IsYesBy (by_paths declared) ps checked i ↔ IsYesBy (by_certificates given declared) ps t i) same (agree i))
  where
    same : checked ≡ verified
    same =
        one_way (AreFlagsByClaims given) (determined given) declared ps checked verified
        (tables_by_paths declared given ps checked least by_path)
        (tables_by_certificates declared given ps verified by_cert)

    agree : (i : ℕ) → IsYesBy (by_paths declared) ps checked i ↔ IsYesBy (by_certificates given declared) ps checked i
    agree =
        same_yes laws bodies declared given ps checked texts least by_path
        (subst (AreTablesBy (AreFlagsByCertificates given) declared ps) (sym same) by_cert)

pub reports_agree : LowerLaws → BodiesAreApart → ReportsAgree
reports_agree laws bodies declared given ps checked verified is_checked is_verified texts least = (
  agree.0,
  λ i. (
    λ its_yes. said_yes (by_certificates given declared) ps verified is_verified i its_yes.loaded its_yes.is_package
        ((agree.1 i).0 (is_yes (by_paths declared) ps checked is_checked i its_yes)),
    λ its_yes. said_yes (by_paths declared) ps checked is_checked i its_yes.loaded its_yes.is_package
        ((agree.1 i).1 (is_yes (by_certificates given declared) ps verified is_verified i its_yes)),
  ),
)
  where
    agree : (is_checked.tables ≡ is_verified.tables)
        × ((i : ℕ) → IsYesBy (by_paths declared) ps is_checked.tables i
        ↔ IsYesBy (by_certificates given declared) ps is_verified.tables i)
    agree =
        tables_agree laws bodies declared given ps is_checked.tables is_verified.tables is_checked.are_tables
        is_verified.are_tables texts least
