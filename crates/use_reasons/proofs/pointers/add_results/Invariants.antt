use Rattle.std.proofs.Common.{◌≡◌, ℕ, drop}
use Rattle.meaning.specs.OuterBlocks.{or_else}
use Rattle.meaning.specs.Scopes.{parameters_named}
use Rattle.tree.specs.View.{parameters_syntax}
use Rattle.use_reasons.specs.ReasonViews.{reason_in}
use Rattle.use_reasons.specs.UseReasons.{result_named}
use Rattle.use_reasons.proofs.pointers.add_results.Given as goal

-- what was added, with what the results that are left tell, is what all tell
abbrev pub invariant-loop-item : goal.invariant-loop-item
invariant-loop-item l =
    (n : ℕ)
    → or_else (reason_in l.pointers n)
    (result_named n (parameters_named (parameters_syntax (drop l.item-index l.results))))
    ≡ or_else (reason_in l.initial.pointers n) (result_named n (parameters_named (parameters_syntax l.results)))
