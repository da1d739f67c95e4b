-- What passing a list, an object or a value says.
use Rattle.std.proofs.Common.{◌≡◌, ℕ, List, Option, None, Result, IfErr, sym, ap, subst, ◌∙◌}
use Rattle.std.proofs.lemmas.Result.{err_from_is_err_and}
use Rattle.std.specs.Result.{IsErrAnd}
use Rattle.json.specs.Token.{Token}
use Rattle.json.specs.Json.{parse_map, after_end_array}
use Rattle.serde_json.specs.Data.{Items, item}
use Rattle.json_reading.specs.Standing.{value_at, items_at, Passes, Stops}
use Rattle.json_reading.specs.declared.stop.Stop.{Stop}
use Rattle.json_reading.specs.declared.stop.Stop.TheVariants.{NotJson, OutOfMemory}
use Rattle.json_reading.proofs.Turns.{item_next}

-- what passes the one passes the other, and where there is none of the one, there is none of the other
pub record Leaves {A : Type 0} (all left : Option (A × List Token)) : Type 0 where
  pub passes : (new : List Token) → Passes left new → Passes all new
  pub none : left ≡ None → all ≡ None

pub passes_by : {A B : Type 0} (f : A → B) (all : Option (B × List Token)) (left : Option (A × List Token)) (new : List Token)
    → all ≡ parse_map f left
    → Passes left new
    → Passes all new
passes_by f all left new e h = (f h.0, e ∙ ap (parse_map f) h.1)

pub stops_by : {A B : Type 0} (all : Option (B × List Token)) (left : Option (A × List Token)) (stop : Stop)
    → (left ≡ None → all ≡ None)
    → Stops left stop
    → Stops all stop
stops_by all left NotJson none h = none h
stops_by all left OutOfMemory none h = tt

pub leaves_next : (depth : ℕ) (all : Option (Items × List Token)) (ts r : List Token) → after_end_array ts ≡ None
    → Leaves all (items_at depth ts)
    → Passes (value_at depth ts) r
    → Leaves all (items_at depth r)
leaves_next depth all ts r going h passed =
    let next = item_next depth ts r passed.0 going passed.1 in
    record {
      passes = λ new k. h.passes new (passes_by (item passed.0) (items_at depth ts) (items_at depth r) new next k);
      none = λ e. h.none (next ∙ ap (parse_map (item passed.0)) e);
    }

-- a fault that `?` hands on as it is
pub handed_on : {T Fault : Type 0} (r : Result T Fault) (fault : Fault) (P : Fault → Type 0)
    → IsErrAnd r (λ told. told ≡ fault)
    → P fault
    → IfErr r P
handed_on r fault P h holds =
    let told = err_from_is_err_and r h in subst (λ x. IfErr x P) (sym told.1) (subst P (sym told.2) holds)
