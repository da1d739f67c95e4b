use Rattle.std.proofs.Common.{◌≡◌, ℕ, ◌&&◌, ◌||◌, List, bytes_eq, drop}
use Rattle.std.specs.List.{list_any}
use Rattle.called_parameters.specs.Called.{is_called}
use Rattle.declared_tables.specs.DeclaredTables.{is_called_at}
use Rattle.declared_tables.proofs.functions.add_calls.Given as goal

-- what was added, with what is left, is the whole
abbrev pub invariant-loop-parameter : goal.invariant-loop-parameter
invariant-loop-parameter l =
    (n : List ℕ) (k : ℕ)
    → (is_called l.called n k || (bytes_eq n l.name && list_any (is_called_at k) (drop l.parameter-index l.params)))
    ≡ (is_called l.initial.called n k || (bytes_eq n l.name && list_any (is_called_at k) l.params))
