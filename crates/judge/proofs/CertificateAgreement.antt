-- What the certificates that `check` makes of packages give for them is what the law of reports asks: the rows of least
-- certificates, and just the claims that the tables say.
use Rattle.std.proofs.Common.{◌≡◌, ℕ, zero, suc, ◌<◌, ◌^◌, inl, inr, Bool, true, false, List, [], ◌∷◌, length, Option, Some, None, Contains, refl, sym, ap, ◌∙◌, subst, arith}
use Rattle.std.specs.Prelude.{if◌then◌else◌, is_some, flat_map, slice_get}
use Rattle.std.specs.Str.{bytes_eq}
use Rattle.std.specs.List.{list_any}
use Rattle.std.proofs.lemmas.Bool.{false≢true, lt-ltb}
use Rattle.std.proofs.lemmas.Option.{none-some, same_Some, slice_get_within, slice_get_cases}
use Rattle.std.proofs.lemmas.Slice.Eq.{bytes_eq-Decides}
use Rattle.judge.proofs.GivenClaims.{told, told_is_known, known_is_told, in_files, first_is, first_told}
use Rattle.judge.proofs.GivenRowsFound.{gives_least}
use Rattle.judge.proofs.LowerLaws.{LowerLaws}
use Rattle.judge.proofs.PackageAgreement.{reports_agree}
use Rattle.judge.proofs.PackageFiles.{IsOfText, file_seen_at, of_text}
use Rattle.judge.specs.CertificateLaws.{given_in, CanBeWritten, CertificatesAgree}
use Rattle.judge.specs.PackageLaws.{IsGivenByPaths, AreGivenByPaths}
use Rattle.all_certificates.specs.CertifiedBodies.{AreOfFiles}
use Rattle.all_certificates.specs.CertifiedPackages.{IsCertificateOf, AreCertificatesBy, AreCertificatesOfAll}
use Rattle.plain_tables.specs.Tables.{is_none_of, entries_for, IsPlain}
use Rattle.certificate_json.specs.Certificates.{PackageEntry}
use Rattle.meaning.specs.FunctionFacts.{cancel, cancel_type, CancelType, FunctionFacts}
use Rattle.meaning.specs.Uses.{Seen, facts_take, facts_take_type, has_kind_at, has_type_at}
use Rattle.meaning_packages.specs.CallsFlags.{Flags, FileWithCredits, calls_by}
use Rattle.meaning_packages.specs.Credits.{promises_in}
use Rattle.meaning_reports.proofs.OneAnswer.{one_list}
use Rattle.meaning_reports.proofs.OneReport.{one_way, flags_by_paths}
use Rattle.meaning_reports.specs.Loaded.{LoadedPackage, Tables, imported_flags, means_in, signatures_of, trees_of, seen_files}
use Rattle.meaning_reports.specs.PackageTables.{IsTableBy, empty, full, IsJudged, AreFlagsByPaths, AreTables}
use Rattle.meaning_runs.proofs.EntryPlaces.{seen_there}
use Rattle.meaning_runs.specs.BodyOffsets.{BodiesAreApart}
use Rattle.meaning_runs.specs.Promise.{AreTreesOfTexts}
use Rattle.path_faults.proofs.Places.{place_of}
use Rattle.table_json.specs.declared.table.Parameter.{Parameter}
use Rattle.table_json.specs.TableValues.{if_fits}
use Rattle.verifier.specs.GivenViews.{claim_at, first_params, claim_in, given_of, package_in}
use Rattle.verifier.specs.Verified.{nothing_known, IsClaimed, AreClaimed}
use Rattle.calls_flags.proofs.ComesBack.{by_code_alone}
use Rattle.whole_packages.specs.LoadedViews.{HaveDistinctPaths}

-- The package of a path

package_found : (ps : List LoadedPackage) (entries : List PackageEntry)
    → ((i : ℕ) (p : LoadedPackage) (e : PackageEntry) → slice_get ps i ≡ Some p → slice_get entries i ≡ Some e → e.path ≡ p.path)
    → ((i j : ℕ) (p q : LoadedPackage) → slice_get ps i ≡ Some p → slice_get ps j ≡ Some q → p.path ≡ q.path → i ≡ j)
    → (i : ℕ) (p : LoadedPackage) (e : PackageEntry) → slice_get ps i ≡ Some p → slice_get entries i ≡ Some e
    → package_in entries p.path ≡ Some e
package_found ps [] paths apart i p e is_p is_e = absurd (none-some e is_e)
package_found [] (x ∷ xs) paths apart i p e is_p is_e = absurd (none-some p is_p)
package_found (q ∷ ps) (x ∷ xs) paths apart zero p e is_p is_e =
    let same : x ≡ e = same_Some x e is_e in
    let path : x.path ≡ p.path = ap (λ (y : PackageEntry). y.path) same ∙ paths 0 p e is_p is_e in
    ap (λ b. if b then Some x else package_in xs p.path) ((bytes_eq-Decides x.path p.path).1 path) ∙ ap Some same
package_found (q ∷ ps) (x ∷ xs) paths apart (suc i) p e is_p is_e =
    by (bytes_eq x.path p.path) (bytes_eq-Decides x.path p.path).0
    (package_found ps xs (λ j r f a b. paths (suc j) r f a b)
    (λ j k r s a b same. (let n = apart (suc j) (suc k) r s a b same in omega (arith, n))) i p e is_p is_e)
  where
    by : (b : Bool) → (b ≡ true → x.path ≡ p.path) → package_in xs p.path ≡ Some e
        → (if b then Some x else package_in xs p.path) ≡ Some e
    by true same rest =
        let n = apart 0 (suc i) q p refl is_p (sym (paths 0 q x refl refl) ∙ same refl) in
        absurd (omega (arith, n))
    by false same rest = rest

-- Tables by paths

-- the table of a package that is judged
pub record HasTable (ps : List LoadedPackage) (tables : Tables) (p : LoadedPackage) (flags : Flags) : Type 0 where
  pub are_calls : (tables p.path).calls ≡ flags
  pub are_signatures : (name : List ℕ) → (tables p.path).signatures name ≡ signatures_of ps p name

has_table : (declared : Tables) (ps : List LoadedPackage) (tables : Tables) (are : AreTables declared ps tables) (i : ℕ)
    (p : LoadedPackage) (files : List FileWithCredits) (flags : Flags)
    → IsJudged ps tables i p files flags
    → HasTable ps tables p flags
has_table declared ps tables are i p files flags judged = by (are.of_package i p judged.is_package)
  where
    by : IsTableBy AreFlagsByPaths ps tables i p (tables p.path) → HasTable ps tables p flags
    by (empty x fault h) = absurd (judged.has_no_whole_fault x fault)
    by (full more none its signatures calls told) =
        let same = flags_by_paths ps tables tables i p more flags judged.is_package none refl its
        record { files = files; is_judged = judged } in
        record {
          are_calls = λ j name k. (calls name k ∙ ap (λ (f : Flags). f name k) same) j;
          are_signatures = signatures;
        }

-- Claims

not_empty : (ps : List Parameter) (k : ℕ) (t : CancelType) → claim_at ps k ≡ Some t → is_none_of ps ≡ false
not_empty [] k t e = cc
not_empty (p ∷ ps) k t e = refl

pub some_facts : (k : ℕ) (o : Option FunctionFacts) → facts_take cancel k o ≡ true
    → (f : FunctionFacts) × (o ≡ Some f) × (list_any (has_kind_at cancel k) f.parameters ≡ true)
some_facts k None e = absurd (false≢true e)
some_facts k (Some f) e = (f, refl, e)

module _ (ps : List LoadedPackage) (tables : Tables) (i : ℕ) (p : LoadedPackage) (files : List FileWithCredits) (flags : Flags)
    (judged : IsJudged ps tables i p files flags) (table : HasTable ps tables p flags) (entry : PackageEntry)
    (is_plain : IsPlain (tables p.path) entry.facts) (fits : CanBeWritten tables p) where
  functions_of : (file : FileWithCredits) → Contains files file → (name : List ℕ)
      → file.seen.known.functions name ≡ (tables p.path).signatures name
  functions_of file among name =
      let place = place_of files file among in
      let w = file_seen_at ps tables p files judged.are_files place.0 file place.1 in
      ap (λ (s : Seen). s.known.functions name) (sym w.2) ∙ sym (table.are_signatures name)

  claimed : (name : List ℕ) (k : ℕ) → flags name k ≡ true → IsClaimed files (given_of (Some entry)) name k
  claimed name k e =
      let kept = judged.are_flags.are_consistent.each name k e in
      let functions = functions_of kept.file kept.is_of_package name in
      let known : (tables p.path).calls name k ≡ true = ap (λ (f : Flags). f name k) table.are_calls ∙ e in
      let facts = some_facts k ((tables p.path).signatures name)
      (ap (facts_take cancel k) (sym functions) ∙ kept.is_claim.is_cancel_parameter) in
      let signature = in_files p.edition (means_in ps p) name 0 (trees_of p) facts.0 (sym (table.are_signatures name) ∙ facts.1) in
      let calls = (tables p.path).calls name in
      let told_there = known_is_told calls k known (fits.positions_fit name k known) signature.means 0 signature.items
      (ap (list_any (has_kind_at cancel k)) (sym signature.are_parameters) ∙ facts.2) in
      let is_told : claim_at (told calls facts.0.parameters) k ≡ Some told_there.type =
      ap (λ qs. claim_at (told calls qs) k) signature.are_parameters ∙ told_there.is_told in
      let first = first_told (tables p.path) name is_plain.names facts.0
      (is_plain.are_all name (ap is_some facts.1)) facts.1
      (not_empty (told calls facts.0.parameters) k told_there.type is_told) in
      record {
        file = kept.file;
        body = kept.body;
        variable = kept.variable;
        type = told_there.type;
        is_of_package = kept.is_of_package;
        is_claim = kept.is_claim;
        is_given =
            ap (λ es. claim_in (first_params es name) k) is_plain.are_told
            ∙ (ap (λ o. claim_in o k) first ∙ is_told);
        has_its_type =
            ap (facts_take_type (cancel_type told_there.type) k) (functions ∙ facts.1)
            ∙ (ap (list_any (has_type_at (cancel_type told_there.type) k)) signature.are_parameters ∙ told_there.has_its_type);
        comes_back = by_code_alone kept.file.seen.known.edition kept.file.seen
            (promises_in (calls_by flags (imported_flags p tables)) kept.file.credits kept.body.at) nothing_known kept.body
            kept.comes_back;
      }

  known_so : (name : List ℕ) (k : ℕ) → IsClaimed files (given_of (Some entry)) name k → flags name k ≡ true
  known_so name k h =
      by (first_params (flat_map (entries_for (tables p.path)) is_plain.names) name) refl
      (ap (λ es. claim_in (first_params es name) k) (sym is_plain.are_told) ∙ h.is_given)
    where
      by : (o : Option (List Parameter)) → first_params (flat_map (entries_for (tables p.path)) is_plain.names) name ≡ o
          → claim_in o k ≡ Some h.type
          → flags name k ≡ true
      by None q e = cc
      by (Some params) q e =
          let w = first_is (tables p.path) name is_plain.names params q in
          ap (λ (f : Flags). f name k) (sym table.are_calls)
          ∙ told_is_known ((tables p.path).calls name) w.facts.parameters k h.type
          (ap (λ ps. claim_at ps k) (sym w.are_told) ∙ e)

  pub are_claimed : AreClaimed files (given_of (Some entry)) flags
  are_claimed name k = (claimed name k, known_so name k)

-- All of a package

module _ (bodies : BodiesAreApart) (declared : Tables) (ps : List LoadedPackage) (entries : List PackageEntry)
    (tables : Tables) (distinct : HaveDistinctPaths ps) (are : AreTables declared ps tables)
    (certificates : AreCertificatesBy ps tables entries)
    (texts : (i : ℕ) (p : LoadedPackage) → slice_get ps i ≡ Some p → AreTreesOfTexts p)
    (fits : (i : ℕ) (p : LoadedPackage) → slice_get ps i ≡ Some p → CanBeWritten tables p) where
  module _ (i : ℕ) (p : LoadedPackage) (files : List FileWithCredits) (flags : Flags)
      (judged : IsJudged ps tables i p files flags) (entry : PackageEntry) (is : slice_get entries i ≡ Some entry) where
    its_table : HasTable ps tables p flags
    its_table = has_table declared ps tables are i p files flags judged

    certificate : IsCertificateOf ps tables i p entry
    certificate = certificates.each i p entry judged.is_package is

    number_fits : (number : ℕ) (file : FileWithCredits) → slice_get files number ≡ Some file → if_fits number ≡ None → ⊥
    number_fits number file there none =
        let w = file_seen_at ps tables p files judged.are_files number file there in
        let within = slice_get_within (trees_of p) number w.0 w.1 in
        let most = (fits i p judged.is_package).files_fit in
        none-some number
        (sym none ∙ ap (λ b. if b then Some number else None) (lt-ltb number (2 ^ 32) (omega (arith, within, most))))

    of_package : IsGivenByPaths (given_of (Some entry)) tables p files flags
    of_package =
        let of_bodies = certificate.are_bodies.of_bodies judged.has_no_whole_fault in
        let same = one_list (seen_files ps tables p) of_bodies.files files of_bodies.are_files judged.are_files in
        record {
          are_claimed =
              are_claimed ps tables i p files flags judged its_table entry certificate.are_facts
              (fits i p judged.is_package);
          give_least = λ number file there.
              gives_least (calls_by flags (imported_flags p tables)) entry files
              (subst (λ (fs : List FileWithCredits). AreOfFiles (calls_by flags (imported_flags p tables)) 0 fs entry.bodies) same
              (subst (λ (f : Flags). AreOfFiles (calls_by f (imported_flags p tables)) 0 of_bodies.files entry.bodies)
              its_table.are_calls of_bodies.are_of))
              number file there (number_fits number file there)
              (text_at number file there).one_each;
        }
      where
        text_at : (number : ℕ) (file : FileWithCredits) → slice_get files number ≡ Some file → IsOfText file.seen
        text_at number file there =
            of_text bodies ps tables p (texts i p judged.is_package) number file.seen
            (seen_there (seen_files ps tables p) files judged.are_files number file there)

  pub given_by_paths : AreGivenByPaths (given_in entries) ps tables
  given_by_paths i p files flags judged = elim (slice_get_cases entries i).1 [
    | inl w ↦
        subst (λ o. IsGivenByPaths (given_of o) tables p files flags)
        (sym (package_found ps entries (λ j q e a b. (certificates.each j q e a b).is_path) distinct.same i p w.0
        judged.is_package w.2))
        (of_package i p files flags judged w.0 w.2)
    | inr past ↦
        let low : i < length ps = slice_get_within ps i p judged.is_package in
        let long = certificates.are_as_many in
        let out = past.0 in
        absurd (omega (arith, low, long, out))
  ]

-- so it is by the tables of `check`
pub given_by_check : BodiesAreApart → (declared : Tables) (ps : List LoadedPackage) (entries : List PackageEntry)
    (tables : Tables)
    → AreTables declared ps tables
    → HaveDistinctPaths ps
    → AreCertificatesOfAll declared ps entries
    → ((i : ℕ) (p : LoadedPackage) → slice_get ps i ≡ Some p → AreTreesOfTexts p)
    → ((i : ℕ) (p : LoadedPackage) → slice_get ps i ≡ Some p → CanBeWritten tables p)
    → AreGivenByPaths (given_in entries) ps tables
given_by_check bodies declared ps entries tables are distinct certificates texts fits =
    given_by_paths bodies declared ps entries tables distinct are
    (subst (λ t. AreCertificatesBy ps t entries)
    (one_way AreFlagsByPaths flags_by_paths declared ps certificates.tables tables certificates.are_tables are)
    certificates.are_certificates)
    texts fits

pub certificates_agree : LowerLaws → BodiesAreApart → CertificatesAgree
certificates_agree laws bodies declared ps entries checked verified is_checked is_verified distinct certificates texts fits =
    reports_agree laws bodies declared (given_in entries) ps checked verified is_checked is_verified texts
    (given_by_check bodies declared ps entries is_checked.tables is_checked.are_tables distinct certificates texts fits)
