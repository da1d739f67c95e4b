-- What is found in values, and in lists of them.
use Rattle.std.proofs.Common.{◌≡◌, inl, inr, ℕ, ◌++◌, List, [], ◌∷◌, Option, Some, None, Vec, Global, map, option_and_then, option_map, refl, sym, ap, ◌∙◌}
use Rattle.std.specs.List.{AllZip}
use Rattle.json.specs.Token.{Token}
use Rattle.serde_json.specs.Data.{Data, null, boolean, number, string, array, object}
use Rattle.serde_json.specs.Find.{as_object, get}
use Rattle.serde_json.specs.View.{items_of}
use Rattle.json_reading.specs.Standing.{IsListOf, IsNoList, Judges, ReadsAs, SomeIs}
use Rattle.baseline_json.specs.declared.baseline.BaselineFinding.{BaselineFinding}
use Rattle.baseline_json.specs.BaselineRead.{both_lists, ReadsIn}
use Rattle.baseline_json.specs.BaselineValues.{BaselineEntry, entry_of, finding_in, findings_in, findings_of, package_in, packages_of}

-- What is found in a value, seen as something else

module _ {V X : Type 0} (seen : V → X) (find : Data → Option X) where
  pub judged : (value : Data) (found : Option V) → option_map seen found ≡ find value
      → Judges (λ d v. find d ≡ Some (seen v)) (λ d. find d ≡ None) value found
  judged value None e = sym e
  judged value (Some v) e = sym e

-- What is no object has nothing under a key

some_none : {A : Type 0} {a : A} → Some a ≡ None → ⊥
some_none e = absurd (cc)

pub nothing_under : (key : List ℕ) (value : Data) → as_object value ≡ None → get key value ≡ None
nothing_under key null e = refl
nothing_under key (boolean b) e = refl
nothing_under key (number n) e = refl
nothing_under key (string s) e = refl
nothing_under key (array ds) e = refl
nothing_under key (object ms) e = absurd (some_none e)

-- Lists of findings

abbrev IsFinding : Data → BaselineFinding → Type 0
IsFinding value finding = finding_in value ≡ Some (entry_of finding)

abbrev IsNoFinding : Data → Type 0
IsNoFinding value = finding_in value ≡ None

abbrev with_rest : Option (List BaselineEntry) → Option BaselineEntry → Option (List BaselineEntry)
with_rest rest found = option_and_then (λ entry. option_map (λ entries. entry ∷ entries) rest) found

items_there : (ds : List Data) (findings : List BaselineFinding) → AllZip IsFinding ds findings
    → Some (map entry_of findings) ≡ findings_of (items_of ds)
items_there [] [] h = refl
items_there [] (f ∷ findings) h = absurd h
items_there (d ∷ ds) [] h = absurd h
items_there (d ∷ ds) (f ∷ findings) h =
    let rest = items_there ds findings h.1 in λ i. with_rest (rest i) (sym h.0 i)

none_with : (o : Option BaselineEntry) → None ≡ with_rest None o
none_with None = refl
none_with (Some e) = refl

one_is_none : (ds : List Data) → SomeIs IsNoFinding ds → None ≡ findings_of (items_of ds)
one_is_none [] h = absurd h
one_is_none (d ∷ ds) (inl h) = λ i. with_rest (findings_of (items_of ds)) (sym h i)
one_is_none (d ∷ ds) (inr h) =
    let rest = one_is_none ds h in none_with (finding_in d) ∙ (λ i. with_rest (rest i) (finding_in d))

findings_found : (value : Data) (found : Option (Vec BaselineFinding Global))
    → Judges (IsListOf IsFinding) (IsNoList IsNoFinding) value (option_map (λ list. list.items) found)
    → option_map (λ list. map entry_of list.items) found ≡ findings_in value
findings_found value None (inl e) = λ i. option_and_then findings_of (sym e i)
findings_found value None (inr h) = one_is_none h.0 h.2 ∙ sym (ap findings_in h.1)
findings_found value (Some list) h = items_there h.0 list.items h.2 ∙ sym (ap findings_in h.1)

pub findings_read : (standing : Option (Data × List Token)) (new : List Token) (found : Option (Vec BaselineFinding Global))
    → ReadsAs (IsListOf IsFinding) (IsNoList IsNoFinding) standing new (option_map (λ list. list.items) found)
    → ReadsIn findings_in standing new (option_map (λ list. map entry_of list.items) found)
findings_read standing new found read = (read.value, read.stands, findings_found read.value found read.judged)

-- Findings of packages, one package after the other

abbrev then_rest : Option (List BaselineEntry) → Option (List BaselineEntry) → Option (List BaselineEntry)
then_rest rest first = option_and_then (λ entries. option_map (λ others. entries ++ others) rest) first

none_after : (xs : List BaselineEntry) → xs ++ [] ≡ xs
none_after [] = refl
none_after (x ∷ xs) = ap (λ ys. x ∷ ys) (none_after xs)

only_one : (first : Option (List BaselineEntry)) → both_lists (Some []) first ≡ then_rest (Some []) first
only_one None = refl
only_one (Some xs) = ap Some (sym (none_after xs))

grouped : (xs ys zs : List BaselineEntry) → (xs ++ ys) ++ zs ≡ xs ++ (ys ++ zs)
grouped [] ys zs = refl
grouped (x ∷ xs) ys zs = ap (λ all. x ∷ all) (grouped xs ys zs)

in_turn : (first rest last : Option (List BaselineEntry))
    → both_lists (then_rest rest first) last ≡ then_rest (both_lists rest last) first
in_turn None rest last = refl
in_turn (Some xs) None last = refl
in_turn (Some xs) (Some ys) None = refl
in_turn (Some xs) (Some ys) (Some zs) = ap Some (grouped xs ys zs)

package_last : (ds : List Data) (value : Data)
    → both_lists (packages_of (items_of ds)) (package_in value) ≡ packages_of (items_of (ds ++ value ∷ []))
package_last [] value = only_one (package_in value)
package_last (d ∷ ds) value =
    in_turn (package_in d) (packages_of (items_of ds)) (package_in value)
    ∙ ap (λ rest. then_rest rest (package_in d)) (package_last ds value)

-- one package more
pub package_more : (ds : List Data) (value : Data) (found entries more : Option (List BaselineEntry))
    → found ≡ packages_of (items_of ds)
    → entries ≡ package_in value
    → more ≡ both_lists found entries
    → more ≡ packages_of (items_of (ds ++ value ∷ []))
package_more ds value found entries more before one both =
    both ∙ (λ i. both_lists (before i) (one i)) ∙ package_last ds value
