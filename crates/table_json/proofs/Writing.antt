-- The value of a table has no floats, and is not deep.
use Rattle.std.proofs.Common.{◌≡◌, ℕ, ◌≤◌, List, [], ◌∷◌, false, ◌||◌, map, refl, ap, ◌∙◌, arith}
use Rattle.serde_json.specs.Data.{Data, depth, items_depth}
use Rattle.serde_json.specs.View.{items_of}
use Rattle.serde_json.specs.Written.{has_float, items_have_float, compact_text}
use Rattle.table_json.specs.declared.table.Parameter.{Parameter}
use Rattle.table_json.specs.declared.table.Parameter.TheVariants.{Cancel, Cause, Group}
use Rattle.table_json.specs.Tables.{Entry}
use Rattle.table_json.specs.TableValues.{whole, parameter_value, function_value, table_value}

module _ {A : Type 0} (value_of : A → Data) where
  pub none_float : ((a : A) → has_float (value_of a) ≡ false) → (xs : List A)
      → items_have_float (items_of (map value_of xs)) ≡ false
  none_float each [] = refl
  none_float each (x ∷ xs) = ap (λ b. b || items_have_float (items_of (map value_of xs))) (each x) ∙ none_float each xs

  pub not_deep : (n : ℕ) → ((a : A) → depth (value_of a) ≤ n) → (xs : List A) → items_depth (items_of (map value_of xs)) ≤ n
  not_deep n each [] = omega arith
  not_deep n each (x ∷ xs) = omega (arith, each x, not_deep n each xs)

pub parameter-has_float : (p : Parameter) → has_float (parameter_value p) ≡ false
parameter-has_float (Cancel at calls) = refl
parameter-has_float (Cause at calls) = refl
parameter-has_float (Group at) = refl

pub function-has_float : (f : Entry) → has_float (function_value f) ≡ false
function-has_float f =
    let gives = none_float whole (λ n. refl) f.gives in
    let causes = none_float whole (λ n. refl) f.causes in
    let params = none_float parameter_value parameter-has_float f.params in
    λ i. causes i || (gives i || (false || (params i || false)))

pub table-has_float : (table : List Entry) → has_float (table_value table) ≡ false
table-has_float table = λ i. none_float function_value function-has_float table i || (false || false)

pub parameter-depth : (p : Parameter) → depth (parameter_value p) ≤ 1
parameter-depth (Cancel at calls) = omega arith
parameter-depth (Cause at calls) = omega arith
parameter-depth (Group at) = omega arith

pub function-depth : (f : Entry) → depth (function_value f) ≤ 3
function-depth f =
    let gives = not_deep whole 1 (λ n. omega arith) f.gives in
    let causes = not_deep whole 1 (λ n. omega arith) f.causes in
    let params = not_deep parameter_value 1 parameter-depth f.params in
    omega arith

pub table-depth : (table : List Entry) → depth (table_value table) ≤ 127
table-depth table = let functions = not_deep function_value 3 function-depth table in omega arith

-- the text of a value that is a table's
pub text_of_table : (value : Data) (table : List Entry) (text : List ℕ) → value ≡ table_value table
    → (has_float value ≡ false → text ≡ compact_text value)
    → text ≡ compact_text (table_value table)
text_of_table value table text is of_value =
    of_value (ap has_float is ∙ table-has_float table) ∙ ap compact_text is
