-- The value of certificates has no floats and is not deep, and what is written reads back.
use Rattle.std.proofs.Common.{◌≡◌, ℕ, ◌≤◌, List, [], ◌∷◌, false, ◌||◌, Some, map, refl, sym, ap, subst, ◌∙◌, arith}
use Rattle.std.proofs.lemmas.List.Sorted.{IsPermutation-refl}
use Rattle.std.specs.List.{AllByRecursion, AllZip}
use Rattle.serde_json.specs.Data.{Data, depth}
use Rattle.serde_json.specs.Read.{read}
use Rattle.serde_json.specs.Written.{has_float, compact_text}
use Rattle.table_json.specs.declared.table.Version.TheVariants.{Newer}
use Rattle.table_json.specs.Parts.{HasFits as HasFunctionFits}
use Rattle.table_json.specs.Tables.{Entry}
use Rattle.table_json.specs.TableValues.{whole, function_value}
use Rattle.table_json.specs.WrittenTables.{AreWritten, IsOrdered}
use Rattle.table_json.proofs.TableLaws.{list_back}
use Rattle.table_json.proofs.Writing.{none_float, not_deep, function-has_float, function-depth}
use Rattle.certificate_json.specs.Certificates.{BodyEntry, PackageEntry, by_place, place_of, AreInOrder, HasOrder}
use Rattle.certificate_json.specs.CertificateValues.{body_value, certificates_value, certificates_with, masks_value, package_value, package_with, AreCertificatesIn, AreMasks, IsBodyValue, IsMask, IsPackageIn}
use Rattle.certificate_json.specs.Parts.{AllSmall, HasBodyFits, HasPackageFits, IsPackageText, IsWholeText}
use Rattle.certificate_json.specs.WrittenCertificates.{IsWrittenAs, IsWrittenText}

-- No floats

masks-has_float : (masks : List ℕ) → has_float (masks_value masks) ≡ false
masks-has_float masks = none_float whole (λ n. refl) masks

body-has_float : (b : BodyEntry) → has_float (body_value b) ≡ false
body-has_float b = λ i. false || (false || (none_float masks_value masks-has_float b.states i || false))

package-has_float : (p : PackageEntry) → has_float (package_value p) ≡ false
package-has_float p =
    let bodies = none_float body_value body-has_float p.bodies in
    let facts = none_float function_value function-has_float p.facts in
    λ i. bodies i || (facts i || (false || false))

certificates-has_float : (packages : List PackageEntry) → has_float (certificates_value packages) ≡ false
certificates-has_float packages = λ i. none_float package_value package-has_float packages i || (false || false)

-- Not deep

masks-depth : (masks : List ℕ) → depth (masks_value masks) ≤ 1
masks-depth masks = let each = not_deep whole 0 (λ n. omega arith) masks in omega arith

body-depth : (b : BodyEntry) → depth (body_value b) ≤ 3
body-depth b = let states = not_deep masks_value 1 masks-depth b.states in omega arith

package-depth : (p : PackageEntry) → depth (package_value p) ≤ 5
package-depth p =
    let bodies = not_deep body_value 3 body-depth p.bodies in
    let facts = not_deep function_value 3 function-depth p.facts in
    omega arith

certificates-depth : (packages : List PackageEntry) → depth (certificates_value packages) ≤ 127
certificates-depth packages = let each = not_deep package_value 5 package-depth packages in omega arith

-- What is written reads back

each_mask_back : (masks : List ℕ) → AllSmall masks → AllZip IsMask (map whole masks) masks
each_mask_back [] small = tt
each_mask_back (m ∷ masks) small = ((refl, small.0), each_mask_back masks small.1)

states_back : (states : List (List ℕ)) → AllByRecursion AllSmall states
    → AllZip AreMasks (map masks_value states) states
states_back [] small = tt
states_back (masks ∷ states) small = (
  record { values = map whole masks; is_value = refl; each = each_mask_back masks small.0 },
  states_back states small.1,
)

bodies_back : (bodies : List BodyEntry) → AllByRecursion HasBodyFits bodies
    → AllZip IsBodyValue (map body_value bodies) bodies
bodies_back [] fits = tt
bodies_back (b ∷ bodies) fits = (
  record {
    states = map masks_value b.states;
    is_value = refl;
    at_fits = fits.0.at_fits;
    file_fits = fits.0.file_fits;
    each = states_back b.states fits.0.masks_small;
  },
  bodies_back bodies fits.1,
)

package_back : (p : PackageEntry) → HasOrder p → HasPackageFits p → IsPackageIn Newer (package_value p) p
package_back p order fits = record {
  bodies = map body_value p.bodies;
  facts = map function_value p.facts;
  is_value = refl;
  are_bodies = record {
    given = p.bodies;
    each = bodies_back p.bodies fits.bodies_fit;
    arranged = record { same = IsPermutation-refl p.bodies; rise = order.bodies_rise };
  };
  are_facts = list_back p.facts order.facts_in_order fits.facts_fit;
}

packages_back : (packages : List PackageEntry) → AllByRecursion HasOrder packages → AllByRecursion HasPackageFits packages
    → AllZip (IsPackageIn Newer) (map package_value packages) packages
packages_back [] order fits = tt
packages_back (p ∷ packages) order fits = (package_back p order.0 fits.0, packages_back packages order.1 fits.1)

certificates_back : (packages : List PackageEntry) → AreInOrder packages → AllByRecursion HasPackageFits packages
    → AreCertificatesIn Newer (certificates_value packages) packages
certificates_back packages order fits = record {
  values = map package_value packages;
  is_value = refl;
  each = packages_back packages order.each_in_order fits;
  apart = order.apart;
}

-- The value that is written

packages_written : (packages : List PackageEntry) (values : List Data) → AllZip IsPackageText packages values
    → (written : List PackageEntry) × (AllZip IsWrittenAs packages written) × (values ≡ map package_value written)
    × AllByRecursion HasPackageFits written
packages_written [] [] h = ([], tt, refl, tt)
packages_written [] (v ∷ values) h = absurd h
packages_written (p ∷ packages) [] h = absurd h
packages_written (p ∷ packages) (v ∷ values) h =
    let rest = packages_written packages values h.1 in (
      h.0.written ∷ rest.0,
      (h.0.is_written, rest.1),
      (λ i. h.0.is_value i ∷ rest.2 i),
      (h.0.fits, rest.3),
    )

pub package_text : (p : PackageEntry) (value : Data) (bodies : List BodyEntry) (facts : List Entry) (bs fs : List Data)
    → IsOrdered by_place place_of p.bodies bodies
    → AreWritten p.facts facts
    → bs ≡ map body_value bodies
    → AllByRecursion HasBodyFits bodies
    → fs ≡ map function_value facts
    → AllByRecursion HasFunctionFits facts
    → value ≡ package_with p.path bs fs
    → IsPackageText p value
package_text p value bodies facts bs fs are_bodies are_facts body_values bodies_fit fact_values facts_fit is = record {
  written = record { path = p.path; bodies = bodies; facts = facts };
  is_written = record { is_path = refl; are_bodies = are_bodies; are_facts = are_facts };
  is_value = is ∙ (λ i. package_with p.path (body_values i) (fact_values i));
  fits = record { bodies_fit = bodies_fit; facts_fit = facts_fit };
}

pub whole_text : (packages : List PackageEntry) (value : Data) (values : List Data)
    → AllZip IsPackageText packages values
    → value ≡ certificates_with 2 values
    → IsWholeText packages value
whole_text packages value values each is =
    let parts = packages_written packages values each in
    record {
      written = parts.0;
      are_written = parts.1;
      is_value = is ∙ ap (certificates_with 2) parts.2;
      fit = parts.3;
    }

pub text_of : (packages : List PackageEntry) (value : Data) (text : List ℕ) → IsWholeText packages value
    → (has_float value ≡ false → text ≡ compact_text value)
    → (depth value ≤ 127 → read text ≡ Some value)
    → IsWrittenText packages text
text_of packages value text h of_value reads = record {
  written = h.written;
  are_written = h.are_written;
  is_text = of_value (ap has_float h.is_value ∙ certificates-has_float h.written) ∙ ap compact_text h.is_value;
  reads_back = λ order. record {
    value = value;
    is_json = reads (subst (λ v. depth v ≤ 127) (sym h.is_value) (certificates-depth h.written));
    are_certificates =
        subst (λ v. AreCertificatesIn Newer v h.written) (sym h.is_value) (certificates_back h.written order h.fit);
  };
}
