use Rattle.std.proofs.Common.{◌≡◌, drop}
use Rattle.meaning.specs.WellFormed.{has_named_item}
use Rattle.tree.specs.View.{parameters_syntax}
use Rattle.parser_parts.proofs.signatures.has_named.Given as goal

abbrev pub invariant-loop-param : goal.invariant-loop-param
invariant-loop-param l =
    has_named_item (parameters_syntax (drop l.param-index l.params)) ≡ has_named_item (parameters_syntax l.params)
