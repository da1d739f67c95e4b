-- Reports of given packages by paths and by certificates. The packages of both are alike, since they were loaded of the
-- same files; so what is proved of reports on one list of packages is so of these.
use Rattle.std.proofs.Common.{◌≡◌, ℕ, zero, suc, Bool, true, false, List, [], ◌∷◌, map, length, Option, Some, None, refl, sym, ap, ◌∙◌, subst, arith}
use Rattle.std.specs.Prelude.{◌↔◌, option_map, slice_get}
use Rattle.std.specs.List.{list_all}
use Rattle.std.proofs.lemmas.Bool.{and_parts, and_from}
use Rattle.std.proofs.lemmas.List.{length-map}
use Rattle.std.proofs.lemmas.Option.{none-some, same_Some, slice_get-map, slice_get_within}
use Rattle.judge.proofs.AlikePackages.{AreAlike, loaded_alike, turned_packages, package_there, lists_same, verified_too, yes_too, tables_too}
use Rattle.judge.proofs.CertificateAgreement.{given_by_check}
use Rattle.judge.proofs.FullCredits.{yes_by_paths}
use Rattle.judge.proofs.LowerLaws.{LowerLaws}
use Rattle.judge.proofs.PackageAgreement.{is_yes as yes_by_rules, said_yes, tables_agree}
use Rattle.judge.proofs.WrittenNumbers.{can_be_written}
use Rattle.judge.specs.GivenPackages.{AreReadOf, WrittenCertificatesAreBelieved, FullCreditsAreBelieved}
use Rattle.all_certificates.specs.CertifiedPackages.{AreCertificatesOfAll}
use Rattle.all_certificates.specs.OrderLaws.{CertificatesReadBack}
use Rattle.all_packages.specs.Reports.{report_in}
use Rattle.certificate_json.specs.CertificateTexts.{AreCertificatesOf}
use Rattle.certificate_json.specs.Certificates.{PackageEntry, packages_of}
use Rattle.certificate_json.specs.declared.certificates.Certificates.{Certificates}
use Rattle.declared_tables.specs.DeclaredTables.{declared_tables}
use Rattle.imports.specs.Ranks.{Package, Chain}
use Rattle.judge.proofs.OneLoad.{one_order}
use Rattle.load.proofs.TreesOfTexts.{of_texts}
use Rattle.judge.proofs.SourcePlaces.{there}
use Rattle.judge.specs.QuietYes.{IsToldYes}
use Rattle.judge.specs.Reports.{Report, IsReportBy}
use Rattle.judge.specs.Verified.{given_in, too_old}
use Rattle.load.specs.GivenPackages.{PathAndFiles, entry_of as path_and_files, AreLoaded}
use Rattle.load.specs.declared.packages.GivenPackage.{GivenPackage}
use Rattle.meaning_reports.specs.Loaded.{LoadedPackage, Tables}
use Rattle.meaning_reports.specs.PackageReports.{Rules, IsYesBy, by_paths}
use Rattle.meaning_reports.specs.PackageReports as reports
use Rattle.meaning_reports.specs.PackageTables.{AreTablesBy}
use Rattle.meaning_runs.specs.BodyOffsets.{BodiesAreApart}
use Rattle.meaning_runs.specs.PackageYes.{IsYesIn}
use Rattle.meaning_runs.specs.Promise.{AreTreesOfTexts}
use Rattle.one_package.specs.Judgments.{said_view, says_nothing, is_yes}
use Rattle.one_package.specs.declared.judged.Judged.{Judged}
use Rattle.declared_json.specs.DeclaredPackages as declared_json
use Rattle.report.specs.Entries.{entry_of}
use Rattle.report.specs.declared.diagnostics.Diagnostic.{Diagnostic}
use Rattle.accepting.specs.declared.telling.Telling.{Telling}
use Rattle.table_json.specs.declared.table.Version.{Version}
use Rattle.table_json.specs.declared.table.Version.TheVariants.{Newer}
use Rattle.verifier.specs.Rules.{GivenByPath, AreFlagsByCertificates, by_certificates}
use Rattle.verifier.specs.VerifierLaws.{ClaimsAreConsistent, NothingIsFound}

-- What is told

no_entry : (ds : List Diagnostic) → says_nothing ds ≡ true → map entry_of ds ≡ []
no_entry [] e = refl
no_entry (d ∷ ds) e = let bad : false ≡ true = e in cc

nothing_told : (ds : List Diagnostic) → map entry_of ds ≡ [] → says_nothing ds ≡ true
nothing_told [] e = refl
nothing_told (d ∷ ds) e = cc

module _ (rules : Rules) (ps : List LoadedPackage) (said : List Judged) (is : reports.IsReportBy rules ps (map said_view said))
  where
    yes_of_told : (i : ℕ) → IsToldYes ps said i → IsYesBy rules ps is.tables i
    yes_of_told i told = yes_by_rules rules ps (map said_view said) is i (record {
      loaded = told.loaded;
      said = said_view told.judged;
      is_package = told.is_package;
      is_said = slice_get-map said_view said i ∙ ap (option_map said_view) told.is_said;
      is_yes = no_entry told.judged.report.diagnostics.items told.is_yes;
    })

    told_of_yes : (i : ℕ) (p : LoadedPackage) → slice_get ps i ≡ Some p → IsYesBy rules ps is.tables i
        → IsToldYes ps said i
    told_of_yes i p is_package its_yes = by (slice_get said i) refl
      where
        in_report : IsYesIn ps (map said_view said) i
        in_report = said_yes rules ps (map said_view said) is i p is_package its_yes

        by : (o : Option Judged) → slice_get said i ≡ o → IsToldYes ps said i
        by None e =
            absurd (none-some in_report.said
            (sym (slice_get-map said_view said i ∙ ap (option_map said_view) e) ∙ in_report.is_said))
        by (Some j) e =
            let same = same_Some (said_view j) in_report.said
            (sym (slice_get-map said_view said i ∙ ap (option_map said_view) e) ∙ in_report.is_said) in
            record {
              loaded = p;
              judged = j;
              is_package = is_package;
              is_said = e;
              is_yes = nothing_told j.report.diagnostics.items (ap (λ (s : reports.Said). s.entries) same ∙ in_report.is_yes);
            }

-- Verdicts

each_yes : (said : List Judged) → list_all is_yes (map report_in said) ≡ true
    → (i : ℕ) (j : Judged) → slice_get said i ≡ Some j
    → is_yes j.report ≡ true
each_yes [] e i j there = absurd (none-some j there)
each_yes (x ∷ xs) e zero j there =
    ap (λ (y : Judged). is_yes y.report) (sym (same_Some x j there))
    ∙ (and_parts (is_yes x.report) (list_all is_yes (map report_in xs)) e).0
each_yes (x ∷ xs) e (suc i) j there =
    each_yes xs (and_parts (is_yes x.report) (list_all is_yes (map report_in xs)) e).1 i j there

all_yes : (said : List Judged) → ((i : ℕ) (j : Judged) → slice_get said i ≡ Some j → is_yes j.report ≡ true)
    → list_all is_yes (map report_in said) ≡ true
all_yes [] h = refl
all_yes (x ∷ xs) h =
    and_from (is_yes x.report) (list_all is_yes (map report_in xs)) (h 0 x refl) (all_yes xs (λ i j e. h (suc i) j e))

same_test : (a b : Bool) → (a ≡ true → b ≡ true) → (b ≡ true → a ≡ true) → a ≡ b
same_test true b there back = sym (there refl)
same_test false true there back = back refl
same_test false false there back = refl

-- where the one says yes of all of them, and the other of each of which the one does, the other says yes of all too
all_too : (ps qs : List LoadedPackage) (said others : List Judged) → AreAlike qs ps → length said ≡ length ps
    → length others ≡ length qs
    → ((i : ℕ) → IsToldYes ps said i → IsToldYes qs others i)
    → list_all is_yes (map report_in said) ≡ true
    → list_all is_yes (map report_in others) ≡ true
all_too ps qs said others alike long longer each e = all_yes others λ i j is.
    let within = slice_get_within others i j is in
    let q = there qs i (omega (arith, within, longer)) in
    let p = package_there qs ps alike i q.0 q.1 in
    let inside = slice_get_within ps i p.0 p.1 in
    let s = there said i (omega (arith, inside, long)) in
    let told = each i (record {
      loaded = p.0;
      judged = s.0;
      is_package = p.1;
      is_said = s.1;
      is_yes = each_yes said e i s.0 s.1;
    }) in
    ap (λ (x : Judged). is_yes x.report) (same_Some j told.judged (sym is ∙ told.is_said)) ∙ told.is_yes

-- Two reports

module _ (outside : List declared_json.PackageEntry) (given : List GivenPackage) (by : GivenByPath) (checked verified : Report)
    (telling other : Telling) (h : IsReportBy by_paths telling outside given checked)
    (k : IsReportBy (by_certificates by) other outside given verified) where
  abbrev declared : Tables
  declared = declared_tables outside

  abbrev ps : List LoadedPackage
  ps = h.load.load.meant

  abbrev qs : List LoadedPackage
  qs = k.load.load.meant

  abbrev known : Tables
  known = k.are_reports.is_report.tables

  abbrev more_known : Tables
  more_known = h.are_reports.is_report.tables

  alike : AreAlike ps qs
  alike =
      let order = one_order (map path_and_files given) h.loaded.packages.items k.loaded.packages.items h.load.load
      k.load.load in
      loaded_alike h.load.load.in_order ps qs h.loaded.packages.items k.loaded.packages.items h.load.load.are_loaded
      (subst (λ (es : List PathAndFiles). AreLoaded es qs k.loaded.packages.items) (sym order) k.load.load.are_loaded)

  back : AreAlike qs ps
  back = turned_packages ps qs alike

  texts : (i : ℕ) (p : LoadedPackage) → slice_get ps i ≡ Some p → AreTreesOfTexts p
  texts = of_texts h.load.load.in_order ps h.loaded.packages.items h.load.load.are_loaded

  by_cert : AreTablesBy (AreFlagsByCertificates by) declared ps known
  by_cert = tables_too qs ps back by declared known k.are_reports.is_report.are_tables

  -- of the packages of the one report, `verify` would say the same
  verified_yes : (i : ℕ) → IsToldYes qs k.said i → IsYesBy (by_certificates by declared) ps known i
  verified_yes i told =
      yes_too qs ps back by declared known i (yes_of_told (by_certificates by declared) qs k.said k.are_reports.is_report i told)

  told_verified : (i : ℕ) (p : LoadedPackage) → slice_get ps i ≡ Some p → IsYesBy (by_certificates by declared) ps known i
      → IsToldYes qs k.said i
  told_verified i p is its_yes =
      let q = package_there ps qs alike i p is in
      told_of_yes (by_certificates by declared) qs k.said k.are_reports.is_report i q.0 q.1
      (yes_too ps qs alike by declared known i its_yes)

  checked_yes : (i : ℕ) → IsToldYes ps h.said i → IsYesBy (by_paths declared) ps more_known i
  checked_yes = yes_of_told (by_paths declared) ps h.said h.are_reports.is_report

  told_checked : (i : ℕ) (p : LoadedPackage) → slice_get ps i ≡ Some p → IsYesBy (by_paths declared) ps more_known i
      → IsToldYes ps h.said i
  told_checked = told_of_yes (by_paths declared) ps h.said h.are_reports.is_report

  -- the package at a place of the other report
  package_here : (i : ℕ) → IsToldYes qs k.said i → (p : LoadedPackage) × (slice_get ps i ≡ Some p)
  package_here i told = let w = package_there qs ps back i told.loaded told.is_package in (w.0, w.1)

  as_long : length h.said ≡ length ps
  as_long = sym (length-map h.said said_view) ∙ h.are_reports.is_report.is_as_long

  others_as_long : length k.said ≡ length qs
  others_as_long = sym (length-map k.said said_view) ∙ k.are_reports.is_report.is_as_long

  same_verdict : ((i : ℕ) → IsToldYes ps h.said i ↔ IsToldYes qs k.said i) → checked.yes ≡ verified.yes
  same_verdict each =
      h.told.verdict
      ∙ (same_test (list_all is_yes (map report_in h.said)) (list_all is_yes (map report_in k.said))
      (all_too ps qs h.said k.said back as_long others_as_long (λ i. (each i).0))
      (all_too qs ps k.said h.said alike others_as_long as_long (λ i. (each i).1))
      ∙ sym k.told.verdict)

-- Certificates of a report

pub full_credits_are_believed : BodiesAreApart → ClaimsAreConsistent → NothingIsFound → FullCreditsAreBelieved
full_credits_are_believed bodies consistent found telling other outside given certificates checked verified i h is_verified credits told =
    let by = given_in certificates in
    let k = is_verified.is_report in
    let ps = h.load.load.meant in
    let qs = k.load.load.meant in
    let known = k.are_reports.is_report.tables in
    let declared = declared_tables outside in
    let same = alike outside given by checked verified telling other h k in
    let p = package_here outside given by checked verified telling other h k i told in
    told_checked outside given by checked verified telling other h k i p.0 p.1
    (yes_by_paths bodies consistent found declared by ps known h.are_reports.is_report.tables
    (by_cert outside given by checked verified telling other h k) h.are_reports.is_report.are_tables i
    (verified_yes outside given by checked verified telling other h k i told)
    (λ j q chain is. texts outside given by checked verified telling other h k j q is)
    (λ j chain q files flags file verified_there among.
    let w = package_there ps qs same j q verified_there.is_package in
    credits j (subst (λ (l : List Package). Chain l i j) (lists_same ps qs same) chain) w.0 files flags file
    (verified_too ps qs same by declared known j q w.0 files flags w.2 w.1 verified_there) among))

-- what is read of the text are the certificates that were written
read_back : (text : List ℕ) (certificates : Certificates) (entries : List PackageEntry)
    → AreCertificatesOf text Newer entries
    → AreReadOf text certificates
    → (certificates.version ≡ Newer) × (packages_of certificates ≡ entries)
read_back text certificates entries written read =
    let same = read Newer entries written in (sym same.0, sym same.1)

-- of each package, where these are the certificates of `check`
each_believed : LowerLaws → BodiesAreApart → (telling other : Telling) (outside : List declared_json.PackageEntry)
    (given : List GivenPackage) (certificates : Certificates) (checked verified : Report)
    (h : IsReportBy by_paths telling outside given checked)
    (k : IsReportBy (by_certificates (given_in certificates)) other outside given verified)
    → AreCertificatesOfAll (declared_tables outside) h.load.load.meant (packages_of certificates)
    → (i : ℕ)
    → IsToldYes h.load.load.meant h.said i ↔ IsToldYes k.load.load.meant k.said i
each_believed laws bodies telling other outside given certificates checked verified h k certified i =
    let by = given_in certificates in
    let declared = declared_tables outside in
    let ps = h.load.load.meant in
    let tables = h.are_reports.is_report.tables in
    let are = h.are_reports.is_report.are_tables in
    let trees = texts outside given by checked verified telling other h k in
    let fits = can_be_written given h.loaded.packages.items h.load.can_be_loaded h.load.load declared tables are trees in
    let agree = tables_agree laws bodies declared by ps tables k.are_reports.is_report.tables are
    (by_cert outside given by checked verified telling other h k) trees
    (given_by_check bodies declared ps (packages_of certificates) tables are h.load.load.distinct certified trees fits) in (
      λ told. told_verified outside given by checked verified telling other h k i told.loaded told.is_package
          ((agree.1 i).0 (checked_yes outside given by checked verified telling other h k i told)),
      λ told.
          let p = package_here outside given by checked verified telling other h k i told in
          told_checked outside given by checked verified telling other h k i p.0 p.1
          ((agree.1 i).1 (verified_yes outside given by checked verified telling other h k i told)),
    )

pub written_certificates_are_believed : LowerLaws → BodiesAreApart → CertificatesReadBack → WrittenCertificatesAreBelieved
written_certificates_are_believed laws bodies reads_back telling other outside given text certificates checked verified is_checked is_read =
    let h = is_checked.is_report in
    let load = h.load.load in
    let same = read_back text certificates is_checked.entries
    (reads_back (declared_tables outside) load.meant is_checked.entries text is_checked.are_certificates load.distinct
    (of_texts load.in_order load.meant h.loaded.packages.items load.are_loaded) is_checked.is_text).reads_back is_read in
    let certified = subst (AreCertificatesOfAll (declared_tables outside) load.meant) (sym same.1)
    is_checked.are_certificates in
    record {
      of_each = λ is_verified i.
          each_believed laws bodies telling other outside given certificates checked verified h is_verified.is_report certified i;
      of_all = λ is_verified.
          same_verdict outside given (given_in certificates) checked verified telling other h is_verified.is_report
          (each_believed laws bodies telling other outside given certificates checked verified h is_verified.is_report certified);
      of_none_too_old = λ path old.
          none-some path (ap (λ (v : Version). too_old v old.load.load.meant) (sym same.0) ∙ old.is_first);
    }
