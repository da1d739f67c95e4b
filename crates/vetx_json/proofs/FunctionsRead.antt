-- What is read of a function, and of what it gives unless there is an error.
use Rattle.std.proofs.Common.{◌≡◌, ℕ, List, None, Vec, Global, map, codes, option_and_then, refl, sym, ap, subst, ◌∙◌}
use Rattle.std.specs.Prelude.{⊤}
use Rattle.std.specs.List.{AllZip}
use Rattle.serde_json.specs.Data.{Data, object, Members, no_members, put}
use Rattle.serde_json.specs.Find.{as_number, as_u64, get_member}
use Rattle.json_reading.specs.Keyed.{members_in}
use Rattle.json_reading.specs.Made.{AreSome, IsAll, IsMadeWith, IsNoneWith, IsNoObjectOf, IsObjectOf}
use Rattle.json_reading.specs.Standing.{IsListOf, IsNoList, Refutes}
use Rattle.json_reading.proofs.ItemsMade.{made_with, no_object_of, none_with, one_all, one_object, one_with, some_are}
use Rattle.table_json.specs.declared.table.Function.{Function}
use Rattle.table_json.specs.declared.table.Version.{Version}
use Rattle.table_json.specs.declared.table.Version.TheVariants.{Newer}
use Rattle.table_json.specs.MembersRead.{IsPosition}
use Rattle.table_json.specs.Tables.{Entry, entry_of}
use Rattle.table_json.specs.TableValues.{list, whole, IsFunctionIn, IsFunctionValue as AreFacts}
use Rattle.table_json.proofs.OneList.{one_list}
use Rattle.table_json.proofs.Readings.{one_function as one_entry}
use Rattle.table_json.proofs.ValueParts.{some_same}
use Rattle.table_json.proofs.ValuesRead.{array_same, no_list, none_zip, zip_seen}
use Rattle.vetx_json.specs.declared.functions.KeptUnless.{KeptUnless}
use Rattle.vetx_json.specs.KeptUnits.{FunctionEntry, UnlessEntry, unless_of}
use Rattle.vetx_json.specs.VetxValues.{IsFunctionValue, IsUnlessValue}

pub one_number : (value : Data) (m n : ℕ) → IsPosition value m → IsPosition value n → m ≡ n
one_number value m n h k = some_same m n (ap (λ v. option_and_then as_u64 (as_number v)) (sym h.0 ∙ k.0))

-- What is given unless there is an error

abbrev pub AreUnlessParts : Members → ℕ × (ℕ × ⊤) → Type 0
AreUnlessParts = IsMadeWith (codes "error") IsPosition (IsMadeWith (codes "given") IsPosition IsAll)

abbrev pub NoUnlessParts : Members → Type 0
NoUnlessParts =
    IsNoneWith (codes "error") (Refutes IsPosition) (IsNoneWith (codes "given") (Refutes IsPosition) AreSome)

unless_parts : (value : Data) (u : UnlessEntry) → IsUnlessValue value u
    → IsObjectOf AreUnlessParts value (u.error, (u.given, tt))
unless_parts value u is =
    let given = put (codes "given") (whole u.given) no_members in (
      put (codes "error") (whole u.error) given,
      is.is_value,
      made_with _ _ _ (whole u.error) given _ _ refl (refl, is.error_fits)
          (made_with _ _ _ (whole u.given) no_members _ _ refl (refl, is.given_fits) refl),
    )

pub unless_read : (value : Data) (error given : ℕ) (end : ⊤) → IsObjectOf AreUnlessParts value (error, (given, end))
    → IsUnlessValue value (record { given = given; error = error })
unless_read value error given end is =
    let rest = is.2.are_others in
    record {
      is_value =
          is.1
          ∙ ap object
          (is.2.are_members
          ∙ (λ i. put (codes "error") (is.2.is_value.0 i)
          ((rest.are_members ∙ (λ j. put (codes "given") (rest.is_value.0 j) (rest.are_others j))) i)));
      given_fits = rest.is_value.1;
      error_fits = is.2.is_value.1;
    }

pub no_unless : (value : Data) → IsNoObjectOf NoUnlessParts value → Refutes IsUnlessValue value
no_unless value none u = λ is.
    no_object_of AreUnlessParts NoUnlessParts
    (none_with _ _ _ _ _ (λ v no. no) (none_with _ _ _ _ _ (λ v no. no) some_are)) value none
    (u.error, (u.given, tt)) (unless_parts value u is)

one_unless : (value : Data) (u w : UnlessEntry) → IsUnlessValue value u → IsUnlessValue value w → u ≡ w
one_unless value u w h k =
    let same =
    one_object AreUnlessParts (one_with _ _ _ one_number (one_with _ _ _ one_number one_all))
    value (u.error, (u.given, tt)) (w.error, (w.given, tt)) (unless_parts value u h) (unless_parts value w k) in
    λ i. record { given = (same i).1.0; error = (same i).0 }

-- Lists

one_list_of : {X : Type 0} (Is : Data → X → Type 0) → ((value : Data) (x y : X) → Is value x → Is value y → x ≡ y)
    → (value : Data) (xs ys : List X)
    → IsListOf Is value xs
    → IsListOf Is value ys
    → xs ≡ ys
one_list_of Is one value xs ys h k =
    one_list Is one h.0 xs ys h.2
    (subst (λ vs. AllZip Is vs ys) (sym (array_same h.0 k.0 (sym h.1 ∙ k.1))) k.2)

-- Functions

abbrev IsFacts : Members → Entry → Type 0
IsFacts ms facts = AreFacts (object ms) facts

abbrev AreParts : Members → List UnlessEntry × (ℕ × Entry) → Type 0
AreParts = IsMadeWith (codes "unless") (IsListOf IsUnlessValue) (IsMadeWith (codes "results") IsPosition IsFacts)

results_only : (ms : Members) (facts : Entry) → IsFacts ms facts → get_member (codes "results") ms ≡ None
results_only ms facts is = ap (λ v. get_member (codes "results") (members_in v)) is.is_value

unless_only : (ms : Members) (n : ℕ) (facts : Entry) → IsFacts ms facts
    → get_member (codes "unless") (put (codes "results") (whole n) ms) ≡ None
unless_only ms n facts is =
    ap (λ v. get_member (codes "unless") (put (codes "results") (whole n) (members_in v))) is.is_value

parts_of : (value : Data) (f : FunctionEntry) → IsFunctionValue value f
    → IsObjectOf AreParts value (f.unless, (f.results, f.facts))
parts_of value f is =
    let rest = put (codes "results") (whole f.results) is.facts in (
      put (codes "unless") (list is.unless) rest,
      is.is_value,
      made_with _ _ _ (list is.unless) rest _ _ (unless_only is.facts f.results f.facts is.are_facts)
          (is.unless, refl, is.are_unless)
          (made_with _ _ _ (whole f.results) is.facts _ _ (results_only is.facts f.facts is.are_facts)
          (refl, is.results_fit) is.are_facts),
    )

pub one_function : (value : Data) (f g : FunctionEntry) → IsFunctionValue value f → IsFunctionValue value g → f ≡ g
one_function value f g h k =
    let same =
    one_object AreParts
    (one_with _ _ _ (one_list_of IsUnlessValue one_unless)
    (one_with _ _ _ one_number (λ ms. one_entry (object ms))))
    value (f.unless, (f.results, f.facts)) (g.unless, (g.results, g.facts)) (parts_of value f h) (parts_of value g k) in
    λ i. record { facts = (same i).1.1; results = (same i).1.0; unless = (same i).0 }

module _ (version : Version) (newer : version ≡ Newer) where
  abbrev pub AreGiven : Members → Vec KeptUnless Global × (ℕ × Function) → Type 0
  AreGiven =
      IsMadeWith (codes "unless") (λ d us. IsListOf (λ v u. IsUnlessValue v (unless_of u)) d us.items)
      (IsMadeWith (codes "results") IsPosition (λ ms f. IsFunctionIn version (object ms) (entry_of f)))

  abbrev pub NoneAreGiven : Members → Type 0
  NoneAreGiven =
      IsNoneWith (codes "unless") (IsNoList (Refutes IsUnlessValue))
      (IsNoneWith (codes "results") (Refutes IsPosition) (λ ms. Refutes (IsFunctionIn version) (object ms)))

  pub function_read : (value : Data) (us : Vec KeptUnless Global) (n : ℕ) (f : Function)
      → IsObjectOf AreGiven value (us, (n, f))
      → IsFunctionValue value (record { facts = entry_of f; results = n; unless = map unless_of us.items })
  function_read value us n f is =
      let unless = is.2.is_value in
      let rest = is.2.are_others in
      record {
        facts = rest.others;
        unless = unless.0;
        are_facts = subst (λ v. IsFunctionIn v (object rest.others) (entry_of f)) newer rest.are_others;
        is_value =
            is.1
            ∙ ap object
            (is.2.are_members
            ∙ (λ i. put (codes "unless") (unless.1 i)
            ((rest.are_members ∙ (λ j. put (codes "results") (rest.is_value.0 j) rest.others)) i)));
        results_fit = rest.is_value.1;
        are_unless = zip_seen IsUnlessValue unless_of unless.0 us.items unless.2;
      }

  pub no_function : (value : Data) → IsNoObjectOf NoneAreGiven value → Refutes IsFunctionValue value
  no_function value none f = λ is.
      no_object_of AreParts NoneAreGiven
      (none_with _ _ _ _ _ (no_list IsUnlessValue (AllZip IsUnlessValue) (none_zip IsUnlessValue))
      (none_with _ _ _ _ _ (λ v no. no) (λ ms no. subst (λ v. Refutes (IsFunctionIn v) (object ms)) newer no)))
      value none (f.unless, (f.results, f.facts)) (parts_of value f is)
