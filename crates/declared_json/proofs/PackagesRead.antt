-- What is read of packages, one by one, and of those of a text.
use Rattle.std.proofs.Common.{◌≡◌, inr, ℕ, List, Option, Some, None, Vec, Global, map, codes, refl, sym, ap, subst, ◌∙◌}
use Rattle.std.proofs.lemmas.Cmp.{nat_list_cmp_total}
use Rattle.std.specs.Prelude.{⊤}
use Rattle.serde_json.specs.Data.{Data, Members, string, object, no_members, put}
use Rattle.json_reading.specs.Made.{AreSome, IsAll, IsMadeWith, IsNoneWith, IsNoObjectOf, IsNotVersioned, IsObjectOf, IsVersioned}
use Rattle.json_reading.specs.Standing.{IsListOf, IsNoList, Judges, Refutes}
use Rattle.json_reading.proofs.ItemsMade.{made_with, no_object_of, none_with, one_all, one_object, one_with, some_are}
use Rattle.table_json.specs.MembersRead.{IsText}
use Rattle.table_json.specs.TableTexts.{version_of}
use Rattle.table_json.specs.TableValues.{list}
use Rattle.table_json.proofs.ArrangedRead.{one_arranged_in}
use Rattle.table_json.proofs.ListedRead.{is_listed, no_listed, none_else, one_value, IsListed}
use Rattle.table_json.proofs.ParametersRead.{same_text}
use Rattle.declared_json.specs.declared.outside.DeclaredPackage.{DeclaredPackage}
use Rattle.declared_json.specs.MembersRead.{AreDeclaredIn}
use Rattle.declared_json.specs.DeclaredPackages.{FunctionEntry, PackageEntry, name_of, package_of, AreApart}
use Rattle.declared_json.specs.DeclaredTexts.{HasWrongShape}
use Rattle.declared_json.specs.DeclaredValues.{IsDeclaredValue, IsOutsideValue, IsPackageValue}
use Rattle.declared_json.proofs.FunctionsRead.{one_declared}

-- Packages

abbrev AreParts : Members → List FunctionEntry × (List ℕ × ⊤) → Type 0
AreParts = IsMadeWith (codes "functions") AreDeclaredIn (IsMadeWith (codes "path") IsText IsAll)

abbrev NoneAre : Members → Type 0
NoneAre = IsNoneWith (codes "functions") (Refutes AreDeclaredIn) (IsNoneWith (codes "path") (Refutes IsText) AreSome)

parts_of : (value : Data) (p : PackageEntry) → IsPackageValue value p
    → IsObjectOf AreParts value (p.functions, (p.path, tt))
parts_of value p is =
    let path = put (codes "path") (string p.path) no_members in (
      put (codes "functions") (list is.functions) path,
      is.is_value,
      made_with _ _ _ (list is.functions) path _ _ refl (is.functions, refl, is.are_functions)
          (made_with _ _ _ (string p.path) no_members _ _ refl refl refl),
    )

pub no_package : (value : Data) → IsNoObjectOf NoneAre value → Refutes IsPackageValue value
no_package value none p = λ is.
    no_object_of AreParts NoneAre
    (none_with _ _ _ _ _ (λ v no. no) (none_with _ _ _ _ _ (λ v no. no) some_are)) value none
    (p.functions, (p.path, tt)) (parts_of value p is)

-- the package of an object of which these were read
pub package_read : {F P : Type 0} (functions : F → List FunctionEntry) (path : P → List ℕ) (value : Data) (fs : F) (p : P)
    (end : ⊤)
    → IsObjectOf (IsMadeWith (codes "functions") (λ d f. AreDeclaredIn d (functions f)) (IsMadeWith (codes "path") (λ d s. IsText d (path s)) IsAll))
    value (fs, (p, end))
    → IsPackageValue value (record { path = path p; functions = functions fs })
package_read functions path value fs p end is =
    let found = is.2.is_value in
    let rest = is.2.are_others in
    record {
      functions = found.0;
      is_value =
          is.1
          ∙ ap object
          (is.2.are_members
          ∙ (λ i. put (codes "functions") (found.1 i)
          ((rest.are_members ∙ (λ j. put (codes "path") (rest.is_value j) (rest.are_others j))) i)));
      are_functions = found.2;
    }

pub one_package : (value : Data) (p q : PackageEntry) → IsPackageValue value p → IsPackageValue value q → p ≡ q
one_package value p q h k =
    let same =
    one_object AreParts
    (one_with _ _ _ (one_arranged_in nat_list_cmp_total name_of IsDeclaredValue one_declared)
    (one_with _ _ _ (λ v a b e f. same_text (sym e ∙ f)) one_all))
    value (p.functions, (p.path, tt)) (q.functions, (q.path, tt)) (parts_of value p h) (parts_of value q k) in
    λ i. record { path = (same i).1.0; functions = (same i).0 }

-- Packages of a text

abbrev packages : List ℕ
packages = codes "packages"

abbrev AreRead : Data → Vec DeclaredPackage Global → Type 0
AreRead = IsVersioned packages (λ d ps. IsListOf (λ v p. IsPackageValue v (package_of p)) d ps.items)

abbrev NoneAreRead : Data → Type 0
NoneAreRead = IsNotVersioned packages (IsNoList (Refutes IsPackageValue))

listed_of : (value : Data) (ps : List PackageEntry) → IsOutsideValue value ps
    → IsListed packages IsPackageValue 2 value ps
listed_of value ps is = record { values = is.values; is_value = is.is_value; each = is.each }

-- a value is that of one list of packages at most
pub one_meaning : (value : Data) (a b : List PackageEntry) → IsOutsideValue value a → IsOutsideValue value b → a ≡ b
one_meaning value a b h k =
    one_value packages IsPackageValue (λ v. refl) value one_package 2 2 a b (listed_of value a h) (listed_of value b k)

pub version_there : (value : Data) (ps : List PackageEntry) → IsOutsideValue value ps → version_of value ≡ Some 2
version_there value ps h = ap version_of h.is_value

module _ (value : Data) (read : Option (Vec DeclaredPackage Global)) (h : Judges AreRead NoneAreRead value read) where
  pub none_read : read ≡ None → Refutes IsOutsideValue value
  none_read none ps = λ is.
      no_listed packages IsPackageValue (λ v. refl) value (subst (Judges AreRead NoneAreRead value) none h) 2 ps
      (listed_of value ps is)

  module _ (found : Vec DeclaredPackage Global) (some : read ≡ Some found) where
    pub packages_read : AreApart (map package_of found.items) → version_of value ≡ Some 2
        → IsOutsideValue value (map package_of found.items)
    packages_read apart at_version =
        let listed =
        is_listed packages IsPackageValue (λ v. refl) value package_of found
        (subst (Judges AreRead NoneAreRead value) some h) 2 at_version in
        record { values = listed.values; is_value = listed.is_value; each = listed.each; apart = apart }

    pub not_apart : ¬ AreApart (map package_of found.items) → Refutes IsOutsideValue value
    not_apart twice ps = λ is.
        twice
        (subst AreApart
        (none_else packages IsPackageValue (λ v. refl) value package_of found
        (subst (Judges AreRead NoneAreRead value) some h) one_package 2 ps (listed_of value ps is))
        is.apart)

-- What is read where the version is known

abbrev IsRead : Data → Vec DeclaredPackage Global → Type 0
IsRead value ps = version_of value ≡ Some 2 → IsOutsideValue value (map package_of ps.items)

pub whole_read : (value : Data) (found : Option (Vec DeclaredPackage Global)) (ps : Vec DeclaredPackage Global)
    → Judges IsRead (Refutes IsOutsideValue) value found
    → found ≡ Some ps
    → version_of value ≡ Some 2
    → IsOutsideValue value (map package_of ps.items)
whole_read value found ps h some at_version = subst (Judges IsRead (Refutes IsOutsideValue) value) some h at_version

pub no_whole : (value : Data) (found : Option (Vec DeclaredPackage Global))
    → Judges IsRead (Refutes IsOutsideValue) value found
    → found ≡ None
    → version_of value ≡ Some 2
    → HasWrongShape value
no_whole value found h none at_version =
    inr (at_version, subst (Judges IsRead (Refutes IsOutsideValue) value) none h)
