-- A text is that of one list of packages at most, which is in order; and why a text is none.
use Rattle.std.proofs.Common.{◌≡◌, inl, inr, ℕ, List, [], ◌∷◌, None, Some, refl, sym, ap, subst, ◌∙◌}
use Rattle.std.specs.List.{AllByRecursion, AllZip}
use Rattle.serde_json.specs.Data.{Data, object}
use Rattle.serde_json.specs.Read.{read}
use Rattle.table_json.specs.declared.table.Version.{Version}
use Rattle.table_json.specs.declared.table.Version.TheVariants.{Newer}
use Rattle.table_json.specs.TableTexts.{version_of}
use Rattle.table_json.specs.TableValues.{number_of}
use Rattle.table_json.proofs.Arranged.{each_permuted}
use Rattle.table_json.proofs.Readings.{none_some}
use Rattle.table_json.proofs.TableLaws.{newer_in_order}
use Rattle.table_json.proofs.TablesRead.{version_again}
use Rattle.table_json.proofs.ValueParts.{some_same}
use Rattle.declared_json.specs.declared.fault.DeclaredFault.{DeclaredFault}
use Rattle.declared_json.specs.declared.fault.DeclaredFault.TheVariants.{NotJson, WrongVersion, WrongShape, Reserved, OutOfMemory}
use Rattle.declared_json.specs.DeclaredPackages.{FunctionEntry, PackageEntry, first_reserved, AreInOrder, HasOrder, IsPackageInOrder}
use Rattle.declared_json.specs.DeclaredTexts.{HasWrongShape, HasWrongVersion, IsDeclaredFault, IsDeclaredText}
use Rattle.declared_json.specs.DeclaredValues.{IsDeclaredValue, IsOutsideValue, IsPackageValue}
use Rattle.declared_json.proofs.PackagesRead.{one_meaning, version_there}

-- What is read is in order

function_in_order : (value : Data) (f : FunctionEntry) → IsDeclaredValue value f → HasOrder f
function_in_order value f h = record {
  facts_in_order = newer_in_order (object h.facts) f.facts h.are_facts;
  gives_below = h.gives_below;
  causes_below = h.causes_below;
}

functions_in_order : (values : List Data) (given : List FunctionEntry) → AllZip IsDeclaredValue values given
    → AllByRecursion HasOrder given
functions_in_order [] [] h = tt
functions_in_order [] (f ∷ fs) h = absurd h
functions_in_order (v ∷ values) [] h = absurd h
functions_in_order (v ∷ values) (f ∷ fs) h = (function_in_order v f h.0, functions_in_order values fs h.1)

package_in_order : (value : Data) (p : PackageEntry) → IsPackageValue value p → IsPackageInOrder p
package_in_order value p h =
    let are = h.are_functions in
    record {
      names_rise = are.arranged.rise;
      each_in_order =
          each_permuted HasOrder are.given p.functions are.arranged.same
          (functions_in_order h.functions are.given are.each);
    }

packages_in_order : (values : List Data) (packages : List PackageEntry) → AllZip IsPackageValue values packages
    → AllByRecursion IsPackageInOrder packages
packages_in_order [] [] h = tt
packages_in_order [] (p ∷ packages) h = absurd h
packages_in_order (v ∷ values) [] h = absurd h
packages_in_order (v ∷ values) (p ∷ packages) h = (package_in_order v p h.0, packages_in_order values packages h.1)

pub in_order : (value : Data) (packages : List PackageEntry) → IsOutsideValue value packages
    → first_reserved packages ≡ None
    → AreInOrder packages
in_order value packages h none = record {
  apart = h.apart;
  none_reserved = none;
  each_in_order = packages_in_order h.values packages h.each;
}

-- A text is that of one list of packages at most

pub no_other : (text : List ℕ) (value : Data) (packages other : List PackageEntry) → read text ≡ Some value
    → IsOutsideValue value packages
    → IsDeclaredText text other
    → other ≡ packages
no_other text value packages other e h k =
    let same = some_same k.value value (sym k.is_json ∙ e) in
    one_meaning value other packages (subst (λ d. IsOutsideValue d other) same k.are_packages) h

-- A text that is that of declared facts is read, unless memory is refused

not_wrong_version : (value : Data) → version_of value ≡ Some 2 → HasWrongVersion value → ⊥
not_wrong_version value e h = h.2 (some_same h.0 2 (sym h.1 ∙ e))

not_wrong_shape : (value : Data) (packages : List PackageEntry) → IsOutsideValue value packages → HasWrongShape value
    → ⊥
not_wrong_shape value packages h (inl none) = none_some (version_of value) 2 none (version_there value packages h)
not_wrong_shape value packages h (inr none) = none.1 packages h

-- where the text is that of declared facts, memory was refused
abbrev pub IsOfMemory : List ℕ → DeclaredFault → Type 0
IsOfMemory text fault = (packages : List PackageEntry) → IsDeclaredText text packages → fault ≡ OutOfMemory

module _ (text : List ℕ) (value : Data) (e : read text ≡ Some value) (packages : List PackageEntry) (k : IsDeclaredText text packages) where
  are_there : IsOutsideValue value packages
  are_there = subst (λ d. IsOutsideValue d packages) (some_same k.value value (sym k.is_json ∙ e)) k.are_packages

pub only_memory : (text : List ℕ) (fault : DeclaredFault) → IsDeclaredFault text fault → IsOfMemory text fault
only_memory text NotJson h packages k = absurd (none_some (read text) k.value h k.is_json)
only_memory text WrongVersion h packages k =
    absurd (not_wrong_version h.0 (version_there h.0 packages (are_there text h.0 h.1 packages k)) h.2)
only_memory text WrongShape h packages k =
    absurd (not_wrong_shape h.0 packages (are_there text h.0 h.1 packages k) h.2)
only_memory text (Reserved path) h packages k =
    let same = one_meaning h.0 packages h.2.0 (are_there text h.0 h.1 packages k) h.2.1 in
    absurd (none_some (first_reserved packages) path k.none_reserved (ap first_reserved same ∙ h.2.2))
only_memory text OutOfMemory h packages k = refl

-- What came of a version

-- the version of the text is this
abbrev pub HasVersion : List ℕ → Version → Type 0
HasVersion text version =
    (value : Data) × (read text ≡ Some value) × (version_of value ≡ Some (number_of version))

-- the version of its value, whoever reads it
pub newer_again : (text : List ℕ) (version : Version) (value : Data) → version ≡ Newer → HasVersion text version
    → read text ≡ Some value
    → version_of value ≡ Some 2
newer_again text version value is h e =
    version_again text version h.0 value h.1 h.2 e ∙ ap (λ v. Some (number_of v)) is
