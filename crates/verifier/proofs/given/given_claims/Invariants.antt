use Rattle.std.proofs.Common.{◌≡◌, ℕ, List, map, drop}
use Rattle.meaning.specs.OuterBlocks.{or_else}
use Rattle.table_json.specs.Tables.{entry_of}
use Rattle.verifier.specs.GivenViews.{params_at, first_params}
use Rattle.verifier.proofs.given.given_claims.Given as goal

-- the parameters so far, with those of the functions that are left, are all
abbrev pub invariant-loop-function : goal.invariant-loop-function
invariant-loop-function l =
    (name : List ℕ)
    → or_else (params_at l.given name) (first_params (map entry_of (drop l.function-index l.functions)) name)
    ≡ first_params (map entry_of l.functions) name
