-- What is made of packages that were judged are their certificates.
use Rattle.std.proofs.Common.{◌≡◌, ℕ, ◌+◌, List, Some, option_map, sym, ap, ◌∙◌, subst, arith}
use Rattle.std.specs.Prelude.{slice_get}
use Rattle.std.proofs.lemmas.List.{length-map}
use Rattle.std.proofs.lemmas.Option.{slice_get-map}
use Rattle.all_certificates.proofs.MadeCertificates.{as_many, made_there}
use Rattle.all_certificates.specs.CertifiedPackages.{are_of_bodies, AreCertificatesOfAll, IsCertificateOf}
use Rattle.all_certificates.specs.KeptCertificates.{AreMadeFrom, IsMadeAt}
use Rattle.all_packages.proofs.KeptPackages.{kept_of}
use Rattle.one_package.specs.Certified.{certificates_in}
use Rattle.all_packages.specs.Reports.{AreAllCertified, AreReports}
use Rattle.one_package.specs.Judgments.{table_view, said_view}
use Rattle.plain_tables.specs.Tables.{IsPlain}
use Rattle.one_package.specs.declared.judged.Judged.{Judged}
use Rattle.certificate_json.specs.Certificates.{PackageEntry}
use Rattle.gathering.proofs.Results.{below_each}
use Rattle.meaning_reports.specs.Loaded.{LoadedPackage, PackageTable, Tables}
use Rattle.meaning_reports.specs.PackageReports.{by_paths}
use Rattle.meaning_reports.specs.PackageTables.{IsTable}
use Rattle.whole_packages.specs.LoadedViews.{TellPackages}
use Rattle.whole_packages.specs.declared.loaded_package.LoadedPackage.{LoadedPackage as KeptPackage}

module _ (declared : Tables) (ps : List LoadedPackage) (kept : List KeptPackage) (tell : TellPackages ps kept)
    (said : List Judged) (reports : AreReports declared ps kept said)
    (certified : AreAllCertified (by_paths declared) are_of_bodies ps said) where
  abbrev tables : Tables
  tables = reports.is_report.tables

  -- of one package
  one_certified : (i : ℕ) (p : LoadedPackage) (k : KeptPackage) (j : Judged) (entry : PackageEntry)
      → slice_get ps i ≡ Some p
      → slice_get kept i ≡ Some k
      → slice_get said i ≡ Some j
      → IsMadeAt kept i j entry
      → IsCertificateOf ps tables i p entry
  one_certified i p k j entry is_p is_k is_j made =
      let its = reports.is_report.of_package i p (said_view j) is_p (slice_get-map said_view said i ∙ ap (option_map said_view) is_j) in
      let own : table_view j ≡ tables p.path = its.is_table in
      let has = certified i p j is_p is_j tables (below_each (by_paths declared) ps tables reports.is_report.are_tables i) in
      let is_table : IsTable ps tables i p (table_view j) =
      subst (IsTable ps tables i p) (sym own) (reports.is_report.are_tables.of_package i p is_p) in
      record {
        is_path = made.is_path ∙ its.is_path;
        are_bodies = record {
          of_bodies = λ none.
              subst (are_of_bodies ps tables p (tables p.path).calls) (sym made.are_bodies)
              (subst (λ (t : PackageTable). are_of_bodies ps tables p t.calls (certificates_in j)) own (has.of_bodies none));
          are_none = λ x whole. made.are_bodies ∙ has.are_none x whole;
        };
        are_facts =
            subst (λ t. IsPlain t entry.facts) own
            (made.are_facts k ps tables i p is_k (tell.each i p k is_p is_k) is_table);
      }

  pub all_certified : (entries : List PackageEntry) → AreMadeFrom kept 0 said entries → AreCertificatesOfAll declared ps entries
  all_certified entries made = record {
    tables = tables;
    are_tables = reports.is_report.are_tables;
    are_certificates = record {
      are_as_many = as_many kept 0 said entries made ∙ (sym (length-map said said_view) ∙ reports.is_report.is_as_long);
      each = λ i p entry is_p is_entry.
          let there = made_there kept 0 said entries made i entry is_entry in
          let k = kept_of ps kept tell i p is_p in
          one_certified i p k.0 there.judged entry is_p k.1 there.is_there
          (subst (λ n. IsMadeAt kept n there.judged entry) (let e : i + 0 ≡ i = omega arith in e) there.is_made);
    };
  }
