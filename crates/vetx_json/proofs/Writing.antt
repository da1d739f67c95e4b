-- The value of what is kept has no floats, and is not deep.
use Rattle.std.proofs.Common.{◌≡◌, ℕ, ◌≤◌, List, false, ◌||◌, refl, ap, ◌∙◌, arith}
use Rattle.serde_json.specs.Data.{Data, depth}
use Rattle.serde_json.specs.Written.{has_float, compact_text}
use Rattle.table_json.specs.TableValues.{whole, parameter_value}
use Rattle.table_json.proofs.Writing.{none_float, not_deep, parameter-depth, parameter-has_float}
use Rattle.vetx_json.specs.KeptUnits.{FunctionEntry, VetxEntry}
use Rattle.vetx_json.specs.VetxValues.{function_value, unless_value, vetx_value}

function-has_float : (f : FunctionEntry) → has_float (function_value f) ≡ false
function-has_float f =
    let causes = none_float whole (λ n. refl) f.facts.causes in
    let gives = none_float whole (λ n. refl) f.facts.gives in
    let params = none_float parameter_value parameter-has_float f.facts.params in
    let unless = none_float unless_value (λ u. refl) f.unless in
    λ i. causes i || (gives i || (false || (params i || (false || (unless i || false)))))

vetx-has_float : (v : VetxEntry) → has_float (vetx_value v) ≡ false
vetx-has_float v =
    let functions = none_float function_value function-has_float v.functions in
    λ i. false || (false || (functions i || false))

function-depth : (f : FunctionEntry) → depth (function_value f) ≤ 3
function-depth f =
    let causes = not_deep whole 1 (λ n. omega arith) f.facts.causes in
    let gives = not_deep whole 1 (λ n. omega arith) f.facts.gives in
    let params = not_deep parameter_value 1 parameter-depth f.facts.params in
    let unless = not_deep unless_value 1 (λ u. omega arith) f.unless in
    omega arith

pub vetx-depth : (v : VetxEntry) → depth (vetx_value v) ≤ 127
vetx-depth v = let functions = not_deep function_value 3 function-depth v.functions in omega arith

-- the text of a value that is that of what is kept
pub text_of_vetx : (value : Data) (v : VetxEntry) (text : List ℕ) → value ≡ vetx_value v
    → (has_float value ≡ false → text ≡ compact_text value)
    → text ≡ compact_text (vetx_value v)
text_of_vetx value v text is of_value =
    of_value (ap has_float is ∙ vetx-has_float v) ∙ ap compact_text is
