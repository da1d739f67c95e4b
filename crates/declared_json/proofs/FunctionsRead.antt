-- What is read of a function.
use Rattle.std.proofs.Common.{◌≡◌, ◌&&◌, ℕ, Bool, true, false, List, Option, Some, None, if◌then◌else◌, option_map, option_and_then, codes, true≢false, refl, sym, ap, ap₂, subst, ◌∙◌}
use Rattle.std.proofs.lemmas.Bool.{and_parts}
use Rattle.json.specs.Token.{Token}
use Rattle.serde_json.specs.Data.{Data, object, Members, put}
use Rattle.serde_json.specs.Find.{as_number, as_u64, get_member}
use Rattle.json_reading.specs.Keyed.{members_in}
use Rattle.json_reading.specs.Made.{IsMadeWith, IsNoneWith, IsNoObjectOf, IsObjectOf}
use Rattle.json_reading.specs.Standing.{Judges, ReadsAs, Refutes}
use Rattle.json_reading.proofs.ItemsMade.{item_read, made_with, no_item_read, no_object_of, none_with, one_object, one_with, read_back}
use Rattle.table_json.specs.declared.table.Function.{Function}
use Rattle.table_json.specs.declared.table.Version.{Version}
use Rattle.table_json.specs.declared.table.Version.TheVariants.{Newer}
use Rattle.table_json.specs.MembersRead.{IsPosition}
use Rattle.table_json.specs.Tables.{Entry, entry_of}
use Rattle.table_json.specs.TableValues.{whole, IsFunctionIn, IsFunctionValue}
use Rattle.table_json.proofs.Readings.{one_function}
use Rattle.table_json.proofs.ValueParts.{some_same}
use Rattle.declared_json.specs.declared.outside.DeclaredFunction.{DeclaredFunction}
use Rattle.declared_json.specs.MembersRead.{declared_entry, declared_with, fits_results}
use Rattle.declared_json.specs.DeclaredPackages.{FunctionEntry, are_below, function_of}
use Rattle.declared_json.specs.DeclaredValues.{IsDeclaredValue}

abbrev results : List ℕ
results = codes "results"

-- The parts of a function's value

abbrev IsFacts : Members → Entry → Type 0
IsFacts ms facts = IsFunctionValue (object ms) facts

-- the number of results, and the facts beside it
abbrev AreParts : Members → ℕ × Entry → Type 0
AreParts = IsMadeWith results IsPosition IsFacts

abbrev HasParts : Data → ℕ → Entry → Type 0
HasParts value count facts = IsObjectOf AreParts value (count, facts)

facts_only : (ms : Members) (facts : Entry) → IsFacts ms facts → get_member results ms ≡ None
facts_only ms facts is = ap (λ v. get_member results (members_in v)) is.is_value

parts_of : (value : Data) (f : FunctionEntry) → IsDeclaredValue value f → HasParts value f.results f.facts
parts_of value f is = (
  put results (whole f.results) is.facts,
  is.is_value,
  made_with _ _ _ (whole f.results) is.facts _ _ (facts_only is.facts f.facts is.are_facts) (refl, is.results_fit)
      is.are_facts,
)

one_position : (value : Data) (m n : ℕ) → IsPosition value m → IsPosition value n → m ≡ n
one_position value m n h k = some_same m n (ap (λ v. option_and_then as_u64 (as_number v)) (sym h.0 ∙ k.0))

one_parts : (value : Data) (a b : ℕ × Entry) → IsObjectOf AreParts value a → IsObjectOf AreParts value b → a ≡ b
one_parts = one_object AreParts (one_with _ _ _ one_position (λ ms. one_function (object ms)))

pub one_declared : (value : Data) (f g : FunctionEntry) → IsDeclaredValue value f → IsDeclaredValue value g → f ≡ g
one_declared value f g h k =
    let same =
    one_parts value (f.results, f.facts) (g.results, g.facts) (parts_of value f h) (parts_of value g k) in
    λ i. record { facts = (same i).1; results = (same i).0 }

-- The function of these parts

-- the positions that are given fit, or they don't
declared : (value : Data) (facts : Entry) (n : ℕ) (fits : Bool) → fits_results facts n ≡ fits → HasParts value n facts
    → Judges IsDeclaredValue (Refutes IsDeclaredValue) value (if fits then Some (declared_entry facts n) else None)
declared value facts n false e is = λ f h.
    let same = one_parts value (f.results, f.facts) (n, facts) (parts_of value f h) is in
    let fit : fits_results f.facts f.results ≡ true = ap₂ (λ a b. a && b) h.gives_below h.causes_below in
    true≢false (sym fit ∙ (λ i. fits_results (same i).1 (same i).0) ∙ e)
declared value facts n true e is =
    let parts = and_parts (are_below n facts.gives) (are_below n facts.causes) e in
    record {
      facts = is.2.others;
      are_facts = is.2.are_others;
      is_value = is.1 ∙ ap object (is.2.are_members ∙ ap (λ v. put results v is.2.others) is.2.is_value.0);
      results_fit = is.2.is_value.1;
      gives_below = parts.0;
      causes_below = parts.1;
    }

module _ (version : Version) (newer : version ≡ Newer) (standing : Option (Data × List Token)) (new : List Token) where
  abbrev IsGiven : Data → ℕ × Function → Type 0
  IsGiven = IsObjectOf (IsMadeWith results IsPosition (λ ms f. IsFunctionIn version (object ms) (entry_of f)))

  abbrev IsNotGiven : Data → Type 0
  IsNotGiven = IsNoObjectOf (IsNoneWith results (Refutes IsPosition) (λ ms. Refutes (IsFunctionIn version) (object ms)))

  parts_given : (value : Data) (n : ℕ) (f : Function) → IsGiven value (n, f) → HasParts value n (entry_of f)
  parts_given value n f is = (
    is.0,
    is.1,
    record {
      value = is.2.value;
      others = is.2.others;
      not_there = is.2.not_there;
      are_members = is.2.are_members;
      is_value = is.2.is_value;
      are_others = subst (λ v. IsFunctionIn v (object is.2.others) (entry_of f)) newer is.2.are_others;
    },
  )

  pub declared_read : (read : Option (ℕ × Function)) (n : ℕ) (f : Function) (found : Option DeclaredFunction)
      → ReadsAs IsGiven IsNotGiven standing new read
      → read ≡ Some (n, f)
      → option_map function_of found ≡ declared_with (entry_of f) n
      → ReadsAs (λ d o. IsDeclaredValue d (function_of o)) (Refutes IsDeclaredValue) standing new found
  unfolding declared_with
  declared_read read n f found h some same =
      let is = item_read IsGiven IsNotGiven standing new read h (n, f) some in
      read_back IsDeclaredValue function_of (Refutes IsDeclaredValue) standing new found
      (record {
        value = is.0;
        stands = is.1;
        judged =
            subst (Judges IsDeclaredValue (Refutes IsDeclaredValue) is.0) (sym same)
            (declared is.0 (entry_of f) n (fits_results (entry_of f) n) refl (parts_given is.0 n f is.2));
      })

  pub none_declared : (read : Option (ℕ × Function)) → ReadsAs IsGiven IsNotGiven standing new read → read ≡ None
      → ReadsAs {X = DeclaredFunction} (λ d o. IsDeclaredValue d (function_of o)) (Refutes IsDeclaredValue) standing new None
  none_declared read h none =
      let is = no_item_read IsGiven IsNotGiven standing new read h none in
      record {
        value = is.0;
        stands = is.1;
        judged = λ f k.
            no_object_of AreParts
            (IsNoneWith results (Refutes IsPosition) (λ ms. Refutes (IsFunctionIn version) (object ms)))
            (none_with _ _ _ _ _ (λ v no. no) (λ ms no. subst (λ v. Refutes (IsFunctionIn v) (object ms)) newer no))
            is.0 is.2 (f.results, f.facts) (parts_of is.0 f k);
      }
