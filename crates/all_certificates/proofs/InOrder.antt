-- Certificates of packages whose trees are those of texts are in order, and so they are written as they stand.
use Rattle.std.proofs.Common.{◌≡◌, ℕ, zero, suc, ◌<◌, Bool, true, false, List, [], ◌∷◌, map, length, Some, option_map, refl, sym, ap, ◌∙◌, subst, arith}
use Rattle.std.specs.Prelude.{slice_get}
use Rattle.std.specs.Cmp.Lexicographic.{same_text, texts_ties}
use Rattle.std.specs.List.{AllByRecursion, IsDistinct}
use Rattle.std.specs.Ordering.{eq_by_cmp}
use Rattle.std.proofs.lemmas.List.{length-map}
use Rattle.std.proofs.lemmas.Option.{same_Some, slice_get-map, slice_get_within}
use Rattle.serde_json.specs.Written.{compact_text}
use Rattle.table_json.specs.declared.table.Version.TheVariants.{Newer}
use Rattle.table_json.specs.Tables.{by_bytes}
use Rattle.certificate_json.specs.Certificates.{PackageEntry, path_of, AreApart, HasOrder, AreInOrder}
use Rattle.certificate_json.specs.CertificateTexts.{AreCertificatesOf}
use Rattle.certificate_json.specs.CertificateValues.{certificates_value}
use Rattle.certificate_json.specs.WrittenCertificates.{IsTold, CertificatesInOrderAreWritten}
use Rattle.meaning_reports.specs.Loaded.{LoadedPackage, Tables}
use Rattle.whole_packages.specs.LoadedViews.{HaveDistinctPaths}
use Rattle.all_certificates.specs.CertifiedPackages.{AreCertificatesOfAll}
use Rattle.all_certificates.specs.OrderLaws.{AreAllOfTexts, CertificatesAreInOrder, CertificatesReadBack}
use Rattle.plain_tables.proofs.FactOrder.{facts_in_order}
use Rattle.all_certificates.proofs.BodyOrder.{bodies_in_order}

-- Lists by their places

item_at : {A : Type 0} (xs : List A) (i : ℕ) → i < length xs → (x : A) × (slice_get xs i ≡ Some x)
item_at [] i within = absurd (omega (arith, within))
item_at (x ∷ xs) zero within = (x, refl)
item_at (x ∷ xs) (suc i) within = item_at xs i (omega (arith, within))

each_at : {A : Type 0} (P : A → Type 0) (xs : List A) → ((i : ℕ) (x : A) → slice_get xs i ≡ Some x → P x)
    → AllByRecursion P xs
each_at P [] h = tt
each_at P (x ∷ xs) h = (h 0 x refl, each_at P xs λ i y is. h (suc i) y is)

never_first : (b : Bool) (i : ℕ) → (b ≡ true → 0 ≡ suc i) → b ≡ false
never_first true i h = let first = h refl in absurd (omega (arith, first))
never_first false i h = refl

-- keys of which no two places have one
distinct_at : {K : Type 0} (same : K → K → Bool) (xs : List K)
    → ((i j : ℕ) (x y : K) → slice_get xs i ≡ Some x → slice_get xs j ≡ Some y → same x y ≡ true → i ≡ j)
    → IsDistinct same xs
unfolding IsDistinct
distinct_at same [] h = tt
distinct_at same (x ∷ xs) h = (
  each_at (λ y. same x y ≡ false) xs λ i y is. never_first (same x y) i (h 0 (suc i) x y refl is),
  distinct_at same xs λ i j y z is there e.
      let later = h (suc i) (suc j) y z is there e in omega (arith, later),
)

same_path : (xs ys : List ℕ) → eq_by_cmp by_bytes xs ys ≡ true → xs ≡ ys
same_path xs ys e = same_text xs ys (sym e ∙ sym (texts_ties xs ys))

-- Packages

module _ (declared : Tables) (ps : List LoadedPackage) (entries : List PackageEntry)
    (are : AreCertificatesOfAll declared ps entries) where
  its_package : (i : ℕ) (entry : PackageEntry) → slice_get entries i ≡ Some entry
      → (p : LoadedPackage) × (slice_get ps i ≡ Some p)
  its_package i entry is =
      let within = slice_get_within entries i entry is in
      let long = are.are_certificates.are_as_many in
      item_at ps i (omega (arith, within, long))

  path_there : (i : ℕ) (path : List ℕ) → slice_get (map path_of entries) i ≡ Some path
      → (p : LoadedPackage) × (slice_get ps i ≡ Some p) × (p.path ≡ path)
  path_there i path is =
      let within = slice_get_within (map path_of entries) i path is in
      let long = length-map entries path_of in
      let entry = item_at entries i (omega (arith, within, long)) in
      let same : entry.0.path ≡ path =
      same_Some entry.0.path path (sym (slice_get-map path_of entries i ∙ ap (option_map path_of) entry.1) ∙ is) in
      let p = its_package i entry.0 entry.1 in
      (p.0, p.1, sym (are.are_certificates.each i p.0 entry.0 p.1 entry.1).is_path ∙ same)

  apart : HaveDistinctPaths ps → AreApart entries
  apart distinct = distinct_at (eq_by_cmp by_bytes) (map path_of entries) λ i j x y is there same.
      let p = path_there i x is in
      let q = path_there j y there in
      distinct.same i j p.0 q.0 p.1 q.1 (p.2 ∙ (same_path x y same ∙ sym q.2))

  of_entry : AreAllOfTexts ps → (i : ℕ) (entry : PackageEntry) → slice_get entries i ≡ Some entry
      → HasOrder entry × IsTold entry
  of_entry texts i entry is =
      let p = its_package i entry is in
      let its = are.are_certificates.each i p.0 entry p.1 is in
      let table = are.are_tables.of_package i p.0 p.1 in
      let facts = facts_in_order ps are.tables i p.0 (are.tables p.0.path) entry.facts table its.are_facts in (
        record {
          bodies_rise = bodies_in_order ps are.tables i p.0 entry.bodies table (texts i p.0 p.1) its.are_bodies;
          facts_in_order = facts.0;
        },
        facts.1,
      )

pub certificates_are_in_order : CertificatesAreInOrder
certificates_are_in_order declared ps entries are distinct texts = record {
  apart = apart declared ps entries are distinct;
  each_in_order = each_at HasOrder entries λ i entry is. (of_entry declared ps entries are texts i entry is).0;
}

-- by the law of `certificate_json`
pub certificates_read_back : CertificatesInOrderAreWritten → CertificatesReadBack
certificates_read_back law declared ps entries text are distinct texts written =
    let order = certificates_are_in_order declared ps entries are distinct texts in
    let told = each_at IsTold entries λ i entry is. (of_entry declared ps entries are texts i entry is).1 in
    let same : written.written ≡ entries = law entries written.written written.are_written order told in
    record {
      is_text = written.is_text ∙ ap (λ es. compact_text (certificates_value es)) same;
      reads_back =
          subst (λ es. AreCertificatesOf text Newer es) same
          (written.reads_back (subst AreInOrder (sym same) order));
    }
