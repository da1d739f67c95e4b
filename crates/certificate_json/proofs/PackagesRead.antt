-- What is read of packages, one by one, and of those of a text.
use Rattle.std.proofs.Common.{◌≡◌, inr, ℕ, List, Option, Some, None, Vec, Global, map, codes, refl, sym, ap, subst, ◌∙◌}
use Rattle.std.proofs.lemmas.Cmp.{nat_list_cmp_total}
use Rattle.std.specs.Prelude.{⊤}
use Rattle.serde_json.specs.Data.{Data, Members, string, object, no_members, put}
use Rattle.json_reading.specs.Made.{AreSome, IsAll, IsMadeWith, IsNoneWith, IsNoObjectOf, IsNotVersioned, IsObjectOf, IsVersioned}
use Rattle.json_reading.specs.Standing.{IsListOf, IsNoList, Judges, Refutes}
use Rattle.json_reading.proofs.ItemsMade.{made_with, no_object_of, none_with, one_all, one_object, one_with, some_are}
use Rattle.table_json.specs.declared.fault.TableFault.{TableFault}
use Rattle.table_json.specs.declared.fault.TableFault.TheVariants.{WrongShape}
use Rattle.table_json.specs.declared.table.Version.{Version}
use Rattle.table_json.specs.MembersRead.{AreFunctionsIn, IsText}
use Rattle.table_json.specs.Parts.{IsValueFault, Refuses}
use Rattle.table_json.specs.Tables.{Entry, name_of}
use Rattle.table_json.specs.TableTexts.{version_of}
use Rattle.table_json.specs.TableValues.{list, number_of, IsFunctionIn}
use Rattle.table_json.proofs.ArrangedRead.{one_arranged_in}
use Rattle.table_json.proofs.ListedRead.{is_listed, no_listed, none_else, one_value, IsListed}
use Rattle.table_json.proofs.ParametersRead.{same_text}
use Rattle.table_json.proofs.Readings.{one_in, one_version, refused_in}
use Rattle.table_json.proofs.ValueParts.{version_fits}
use Rattle.certificate_json.specs.declared.certificates.Package.{Package}
use Rattle.certificate_json.specs.Certificates.{BodyEntry, PackageEntry, package_of, place_of, AreApart}
use Rattle.certificate_json.specs.CertificateTexts.{HasWrongShape}
use Rattle.certificate_json.specs.CertificateValues.{AreCertificatesIn, IsBodyValue, IsPackageIn}
use Rattle.certificate_json.specs.MembersRead.{AreBodiesIn}
use Rattle.certificate_json.proofs.BodyReadings.{one_body, place_total}

module _ (version : Version) where
  -- Packages

  abbrev AreParts : Members → List BodyEntry × (List Entry × (List ℕ × ⊤)) → Type 0
  AreParts =
      IsMadeWith (codes "bodies") AreBodiesIn (IsMadeWith (codes "facts") (AreFunctionsIn version) (IsMadeWith (codes "path") IsText IsAll))

  abbrev NoneAre : Members → Type 0
  NoneAre =
      IsNoneWith (codes "bodies") (Refutes AreBodiesIn) (IsNoneWith (codes "facts") (Refutes (AreFunctionsIn version)) (IsNoneWith (codes "path") (Refutes IsText) AreSome))

  parts_of : (value : Data) (p : PackageEntry) → IsPackageIn version value p
      → IsObjectOf AreParts value (p.bodies, (p.facts, (p.path, tt)))
  parts_of value p is =
      let path = put (codes "path") (string p.path) no_members in
      let facts = put (codes "facts") (list is.facts) path in (
        put (codes "bodies") (list is.bodies) facts,
        is.is_value,
        made_with _ _ _ (list is.bodies) facts _ _ refl (is.bodies, refl, is.are_bodies)
            (made_with _ _ _ (list is.facts) path _ _ refl (is.facts, refl, is.are_facts)
            (made_with _ _ _ (string p.path) no_members _ _ refl refl refl)),
      )

  pub no_package : (value : Data) → IsNoObjectOf NoneAre value → Refutes (IsPackageIn version) value
  no_package value none p = λ is.
      no_object_of AreParts NoneAre
      (none_with _ _ _ _ _ (λ v no. no)
      (none_with _ _ _ _ _ (λ v no. no) (none_with _ _ _ _ _ (λ v no. no) some_are)))
      value none (p.bodies, (p.facts, (p.path, tt))) (parts_of value p is)

  -- the package of an object of which these were read
  pub package_read : {B F P : Type 0} (bodies : B → List BodyEntry) (facts : F → List Entry) (path : P → List ℕ) (value : Data)
      (bs : B) (fs : F) (p : P) (end : ⊤)
      → IsObjectOf (IsMadeWith (codes "bodies") (λ d b. AreBodiesIn d (bodies b)) (IsMadeWith (codes "facts") (λ d f. AreFunctionsIn version d (facts f)) (IsMadeWith (codes "path") (λ d s. IsText d (path s)) IsAll)))
      value (bs, (fs, (p, end)))
      → IsPackageIn version value (record { path = path p; bodies = bodies bs; facts = facts fs })
  package_read bodies facts path value bs fs p end is =
      let first = is.2 in
      let second = first.are_others in
      let third = second.are_others in
      record {
        bodies = first.is_value.0;
        facts = second.is_value.0;
        is_value =
            is.1
            ∙ ap object
            (first.are_members
            ∙ (λ i. put (codes "bodies") (first.is_value.1 i)
            ((second.are_members
            ∙ (λ j. put (codes "facts") (second.is_value.1 j)
            ((third.are_members ∙ (λ k. put (codes "path") (third.is_value k) (third.are_others k))) j))) i)));
        are_bodies = first.is_value.2;
        are_facts = second.is_value.2;
      }

  one_package : (value : Data) (p q : PackageEntry) → IsPackageIn version value p → IsPackageIn version value q → p ≡ q
  one_package value p q h k =
      let same =
      one_object AreParts
      (one_with _ _ _ (one_arranged_in place_total place_of IsBodyValue one_body)
      (one_with _ _ _ (one_arranged_in nat_list_cmp_total name_of (IsFunctionIn version) (one_in version)) (one_with _ _ _ (λ v a b e f. same_text (sym e ∙ f)) one_all)))
      value (p.bodies, (p.facts, (p.path, tt))) (q.bodies, (q.facts, (q.path, tt))) (parts_of value p h) (parts_of value q k) in
      λ i. record { path = (same i).1.1.0; bodies = (same i).0; facts = (same i).1.0 }

  -- Packages of a text

  listed_of : (value : Data) (ps : List PackageEntry) → AreCertificatesIn version value ps
      → IsListed (codes "packages") (IsPackageIn version) (number_of version) value ps
  listed_of value ps is = record { values = is.values; is_value = is.is_value; each = is.each }

  one_of : (value : Data) (a b : List PackageEntry) → AreCertificatesIn version value a → AreCertificatesIn version value b
      → a ≡ b
  one_of value a b h k =
      one_value (codes "packages") (IsPackageIn version) (λ v. refl) value one_package (number_of version)
      (number_of version) a b (listed_of value a h) (listed_of value b k)

  pub version_there : (value : Data) (ps : List PackageEntry) → AreCertificatesIn version value ps
      → version_of value ≡ Some (number_of version)
  version_there value ps h = ap version_of h.is_value ∙ version_fits version

  abbrev AreRead : Data → Vec Package Global → Type 0
  AreRead = IsVersioned (codes "packages") (λ d ps. IsListOf (λ v p. IsPackageIn version v (package_of p)) d ps.items)

  abbrev NoneAreRead : Data → Type 0
  NoneAreRead = IsNotVersioned (codes "packages") (IsNoList (Refutes (IsPackageIn version)))

  module _ (value : Data) (read : Option (Vec Package Global)) (h : Judges AreRead NoneAreRead value read) where
    pub none_read : read ≡ None → Refutes (AreCertificatesIn version) value
    none_read none ps = λ is.
        no_listed (codes "packages") (IsPackageIn version) (λ v. refl) value
        (subst (Judges AreRead NoneAreRead value) none h) (number_of version) ps (listed_of value ps is)

    module _ (found : Vec Package Global) (some : read ≡ Some found) where
      pub packages_read : AreApart (map package_of found.items) → version_of value ≡ Some (number_of version)
          → AreCertificatesIn version value (map package_of found.items)
      packages_read apart at_version =
          let listed =
          is_listed (codes "packages") (IsPackageIn version) (λ v. refl) value package_of found
          (subst (Judges AreRead NoneAreRead value) some h) (number_of version) at_version in
          record { values = listed.values; is_value = listed.is_value; each = listed.each; apart = apart }

      pub not_apart : ¬ AreApart (map package_of found.items) → Refutes (AreCertificatesIn version) value
      not_apart twice ps = λ is.
          twice
          (subst AreApart
          (none_else (codes "packages") (IsPackageIn version) (λ v. refl) value package_of found
          (subst (Judges AreRead NoneAreRead value) some h) one_package (number_of version) ps (listed_of value ps is))
          is.apart)

-- Certificates of any version

pub one_meaning : (value : Data) (v w : Version) (a b : List PackageEntry) → AreCertificatesIn v value a
    → AreCertificatesIn w value b
    → (v ≡ w) × (a ≡ b)
one_meaning value v w a b h k =
    let same = one_version value v w (version_there v value a h) (version_there w value b k) in
    (same, one_of w value a b (subst (λ u. AreCertificatesIn u value a) same h) k)

-- where the version is right, what is refused in that version is no certificates
refused : (version : Version) (value : Data) (fault : TableFault) → version_of value ≡ Some (number_of version)
    → Refuses (AreCertificatesIn version value) fault
    → IsValueFault HasWrongShape value fault
refused = refused_in AreCertificatesIn version_there HasWrongShape λ value is_known none. inr (is_known, none)

-- What is read where the version is known

module _ (version : Version) where
  abbrev IsRead : Data → Vec Package Global → Type 0
  IsRead value ps = version_of value ≡ Some (number_of version) → AreCertificatesIn version value (map package_of ps.items)

  pub whole_read : (value : Data) (found : Option (Vec Package Global)) (ps : Vec Package Global)
      → Judges IsRead (Refutes (AreCertificatesIn version)) value found
      → found ≡ Some ps
      → version_of value ≡ Some (number_of version)
      → AreCertificatesIn version value (map package_of ps.items)
  whole_read value found ps h some at_version =
      subst (Judges IsRead (Refutes (AreCertificatesIn version)) value) some h at_version

  pub no_whole : (value : Data) (found : Option (Vec Package Global))
      → Judges IsRead (Refutes (AreCertificatesIn version)) value found
      → found ≡ None
      → version_of value ≡ Some (number_of version)
      → HasWrongShape value
  no_whole value found h none at_version =
      refused version value WrongShape at_version
      (subst (Judges IsRead (Refutes (AreCertificatesIn version)) value) none h)
