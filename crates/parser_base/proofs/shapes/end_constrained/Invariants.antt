use Rattle.std.proofs.Common.{◌≡◌, drop}
use Rattle.meaning.specs.WellFormed.{end_constrained}
use Rattle.tree.specs.View.{parameters_syntax}
use Rattle.parser_base.proofs.Constrained.{ends_so}
use Rattle.parser_base.proofs.shapes.end_constrained.Given as goal

abbrev pub invariant-loop-param : goal.invariant-loop-param
invariant-loop-param l =
    ends_so l.is_constrained (parameters_syntax (drop l.param-index l.params)) ≡ end_constrained (parameters_syntax l.params)
