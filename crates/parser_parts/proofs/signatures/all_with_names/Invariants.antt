use Rattle.std.proofs.Common.{◌≡◌, reverse, vec_len}
use Rattle.tree.specs.View.{parameters_syntax}
use Rattle.tree_reader.specs.Reader.{with_names}
use Rattle.parser_parts.proofs.NamedItems.{settled_before}
use Rattle.parser_parts.proofs.signatures.all_with_names.Given as goal

abbrev pub invariant-loop-param : goal.invariant-loop-param
invariant-loop-param l =
    settled_before l.named.items (with_names (parameters_syntax (reverse l.params.items))) ≡ with_names (parameters_syntax l.fn.params.items)

abbrev pub decreases-loop-param : goal.decreases-loop-param
decreases-loop-param l = vec_len l.params
