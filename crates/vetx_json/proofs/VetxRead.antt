-- What is read of what is kept of a package.
use Rattle.std.proofs.Common.{◌≡◌, ℕ, Bool, List, codes, option_and_then, rules, refl, sym, ap, ◌∙◌}
use Rattle.std.proofs.lemmas.Cmp.{nat_list_cmp_total}
use Rattle.std.specs.Prelude.{⊤}
use Rattle.serde_json.specs.Data.{Data, Members, boolean, string, object, member, no_members, put}
use Rattle.serde_json.specs.Find.{as_bool, as_number, as_u64, get}
use Rattle.json_reading.specs.Made.{AreSome, IsAll, IsMadeWith, IsNoneWith, IsNoObjectOf, IsObjectOf}
use Rattle.json_reading.specs.Standing.{Refutes}
use Rattle.json_reading.proofs.ItemsMade.{made_with, no_object_of, none_with, one_all, one_object, one_with, some_are}
use Rattle.table_json.specs.MembersRead.{IsPosition, IsText, IsTruth}
use Rattle.table_json.specs.TableValues.{list, whole, Fits}
use Rattle.table_json.proofs.ArrangedRead.{one_arranged_in}
use Rattle.table_json.proofs.ParametersRead.{same_text}
use Rattle.table_json.proofs.ValueParts.{some_same}
use Rattle.vetx_json.specs.KeptUnits.{FunctionEntry, VetxEntry, name_of}
use Rattle.vetx_json.specs.VetxValues.{AreFunctionsIn, AreFunctionsOf, IsFunctionValue, IsVetxValue}
use Rattle.vetx_json.proofs.FunctionsRead.{one_function, one_number}

-- The parts of the value, member by member

abbrev Verdicts : Type 0
Verdicts = ℕ × (Bool × (Bool × ⊤))

abbrev Names : Type 0
Names = List ℕ × (List ℕ × (List ℕ × Verdicts))

abbrev Parts : Type 0
Parts = ℕ × (List ℕ × (List FunctionEntry × Names))

-- the value of what is kept, with a version
abbrev vetx_at : ℕ → VetxEntry → List Data → Data
vetx_at version v functions = object (
    member (codes "edition") (whole v.edition) (
    member (codes "facts") (string v.facts) (
    member (codes "functions") (list functions) (
    member (codes "module") (string v.module_path) (
    member (codes "name") (string v.name) (
    member (codes "path") (string v.path) (
    member (codes "version") (whole version) (
    member (codes "whole") (boolean v.has_whole_fault) (
    member (codes "yes") (boolean v.is_yes) no_members)))))))))

module _ {T F : Type 0} (text : T → List ℕ) (functions : F → List FunctionEntry) where
  abbrev pub AreVerdictsBy : Members → Verdicts → Type 0
  AreVerdictsBy =
      IsMadeWith (codes "version") IsPosition (IsMadeWith (codes "whole") IsTruth (IsMadeWith (codes "yes") IsTruth IsAll))

  abbrev pub AreNamesBy : Members → T × (T × (T × Verdicts)) → Type 0
  AreNamesBy =
      IsMadeWith (codes "module") (λ d t. IsText d (text t))
      (IsMadeWith (codes "name") (λ d t. IsText d (text t))
      (IsMadeWith (codes "path") (λ d t. IsText d (text t)) AreVerdictsBy))

  abbrev pub ArePartsBy : Members → ℕ × (T × (F × (T × (T × (T × Verdicts))))) → Type 0
  ArePartsBy =
      IsMadeWith (codes "edition") IsPosition
      (IsMadeWith (codes "facts") (λ d t. IsText d (text t))
      (IsMadeWith (codes "functions") (λ d f. AreFunctionsIn d (functions f)) AreNamesBy))

  module _ (value : Data) (edition : ℕ) (facts : T) (fs : F) (module_path name path : T) (version : ℕ) (has_whole_fault is_yes : Bool) (end : ⊤)
      (is : IsObjectOf ArePartsBy value (edition, (facts, (fs, (module_path, (name, (path, (version, (has_whole_fault, (is_yes, end))))))))))
    where
      abbrev pub entry : VetxEntry
      entry = record {
        edition = edition;
        facts = text facts;
        path = text path;
        name = text name;
        module_path = text module_path;
        has_whole_fault = has_whole_fault;
        is_yes = is_yes;
        functions = functions fs;
      }

      pub parts_read : (values : List Data) × (value ≡ vetx_at version entry values) × Fits edition × AreFunctionsOf values (functions fs)
      parts_read =
          let m1 = is.2 in
          let m2 = m1.are_others in
          let m3 = m2.are_others in
          let m4 = m3.are_others in
          let m5 = m4.are_others in
          let m6 = m5.are_others in
          let m7 = m6.are_others in
          let m8 = m7.are_others in
          let m9 = m8.are_others in
          let e9 = m9.are_members ∙ (λ i. put (codes "yes") (m9.is_value i) (m9.are_others i)) in
          let e8 = m8.are_members ∙ (λ i. put (codes "whole") (m8.is_value i) (e9 i)) in
          let e7 = m7.are_members ∙ (λ i. put (codes "version") (m7.is_value.0 i) (e8 i)) in
          let e6 = m6.are_members ∙ (λ i. put (codes "path") (m6.is_value i) (e7 i)) in
          let e5 = m5.are_members ∙ (λ i. put (codes "name") (m5.is_value i) (e6 i)) in
          let e4 = m4.are_members ∙ (λ i. put (codes "module") (m4.is_value i) (e5 i)) in
          let e3 = m3.are_members ∙ (λ i. put (codes "functions") (m3.is_value.1 i) (e4 i)) in
          let e2 = m2.are_members ∙ (λ i. put (codes "facts") (m2.is_value i) (e3 i)) in (
            m3.is_value.0,
            is.1 ∙ ap object (m1.are_members ∙ (λ i. put (codes "edition") (m1.is_value.0 i) (e2 i))),
            m1.is_value.1,
            m3.is_value.2,
          )

      -- what is kept, of an object of which these were read
      pub vetx_read : version ≡ 1 → IsVetxValue value entry
      vetx_read first =
          let read = parts_read in
          record {
            functions = read.0;
            is_value = read.1 ∙ ap (λ n. vetx_at n entry read.0) first;
            edition_fits = read.2;
            are_functions = read.3;
          }

      -- one of another version is that of nothing that is kept
      pub another_version : (version ≡ 1 → ⊥) → Refutes IsVetxValue value
      another_version other v = λ k.
          other (some_same version 1 (ap (λ d. option_and_then as_u64 (option_and_then as_number (get (codes "version") d)))
          (sym parts_read.1 ∙ k.is_value)))

abbrev AreParts : Members → Parts → Type 0
AreParts = ArePartsBy (λ t. t) (λ f. f)

abbrev NoVerdicts : Members → Type 0
NoVerdicts =
    IsNoneWith (codes "version") (Refutes IsPosition)
    (IsNoneWith (codes "whole") (Refutes IsTruth) (IsNoneWith (codes "yes") (Refutes IsTruth) AreSome))

abbrev NoNames : Members → Type 0
NoNames =
    IsNoneWith (codes "module") (Refutes IsText)
    (IsNoneWith (codes "name") (Refutes IsText) (IsNoneWith (codes "path") (Refutes IsText) NoVerdicts))

abbrev pub NoParts : Members → Type 0
NoParts =
    IsNoneWith (codes "edition") (Refutes IsPosition)
    (IsNoneWith (codes "facts") (Refutes IsText)
    (IsNoneWith (codes "functions") (Refutes AreFunctionsIn) NoNames))

abbrev pub parts : VetxEntry → Parts
parts v =
    (v.edition, (v.facts, (v.functions, (v.module_path, (v.name, (v.path, (1, (v.has_whole_fault, (v.is_yes, tt)))))))))

one_fits : Fits 1
one_fits = search rules

parts_of : (value : Data) (v : VetxEntry) → IsVetxValue value v → IsObjectOf AreParts value (parts v)
parts_of value v is =
    let o9 = put (codes "yes") (boolean v.is_yes) no_members in
    let o8 = put (codes "whole") (boolean v.has_whole_fault) o9 in
    let o7 = put (codes "version") (whole 1) o8 in
    let o6 = put (codes "path") (string v.path) o7 in
    let o5 = put (codes "name") (string v.name) o6 in
    let o4 = put (codes "module") (string v.module_path) o5 in
    let o3 = put (codes "functions") (list is.functions) o4 in
    let o2 = put (codes "facts") (string v.facts) o3 in (
      put (codes "edition") (whole v.edition) o2,
      is.is_value,
      made_with _ _ _ (whole v.edition) o2 _ _ refl (refl, is.edition_fits)
          (made_with _ _ _ (string v.facts) o3 _ _ refl refl
          (made_with _ _ _ (list is.functions) o4 _ _ refl (is.functions, refl, is.are_functions)
          (made_with _ _ _ (string v.module_path) o5 _ _ refl refl
          (made_with _ _ _ (string v.name) o6 _ _ refl refl
          (made_with _ _ _ (string v.path) o7 _ _ refl refl
          (made_with _ _ _ (whole 1) o8 _ _ refl (refl, one_fits)
          (made_with _ _ _ (boolean v.has_whole_fault) o9 _ _ refl refl
          (made_with _ _ _ (boolean v.is_yes) no_members _ _ refl refl refl)))))))),
    )

-- No value of what is kept

pub no_vetx : (value : Data) → IsNoObjectOf NoParts value → Refutes IsVetxValue value
no_vetx value none v = λ is.
    no_object_of AreParts NoParts
    (none_with _ _ _ _ _ (λ d no. no) (none_with _ _ _ _ _ (λ d no. no) (none_with _ _ _ _ _ (λ d no. no)
    (none_with _ _ _ _ _ (λ d no. no) (none_with _ _ _ _ _ (λ d no. no) (none_with _ _ _ _ _ (λ d no. no)
    (none_with _ _ _ _ _ (λ d no. no) (none_with _ _ _ _ _ (λ d no. no) (none_with _ _ _ _ _ (λ d no. no) some_are)))))))))
    value none (parts v) (parts_of value v is)

-- There is one at most

one_text : (value : Data) (s t : List ℕ) → IsText value s → IsText value t → s ≡ t
one_text value s t h k = same_text (sym h ∙ k)

one_truth : (value : Data) (a b : Bool) → IsTruth value a → IsTruth value b → a ≡ b
one_truth value a b h k = some_same a b (ap as_bool (sym h ∙ k))

one_parts : (value : Data) (a b : Parts) → IsObjectOf AreParts value a → IsObjectOf AreParts value b → a ≡ b
one_parts =
    one_object AreParts
    (one_with _ _ _ one_number (one_with _ _ _ one_text
    (one_with _ _ _ (one_arranged_in nat_list_cmp_total name_of IsFunctionValue one_function)
    (one_with _ _ _ one_text (one_with _ _ _ one_text (one_with _ _ _ one_text
    (one_with _ _ _ one_number (one_with _ _ _ one_truth (one_with _ _ _ one_truth one_all)))))))))

pub one_vetx : (value : Data) (v w : VetxEntry) → IsVetxValue value v → IsVetxValue value w → v ≡ w
one_vetx value v w h k =
    let same = one_parts value (parts v) (parts w) (parts_of value v h) (parts_of value w k) in
    λ i. record {
      edition = (same i).0;
      facts = (same i).1.0;
      functions = (same i).1.1.0;
      module_path = (same i).1.1.1.0;
      name = (same i).1.1.1.1.0;
      path = (same i).1.1.1.1.1.0;
      has_whole_fault = (same i).1.1.1.1.1.1.1.0;
      is_yes = (same i).1.1.1.1.1.1.1.1.0;
    }
