use Rattle.std.proofs.Common.{◌≡◌, ℕ, List, drop}
use Rattle.meaning.specs.OuterBlocks.{or_else, specs_at_package_level}
use Rattle.names.specs.Answers.{at_name}
use Rattle.names.specs.Maps.{is_function_in}
use Rattle.tree.specs.View.{specs_syntax}
use Rattle.names.proofs.package_block.add_specs.Given as goal

abbrev pub invariant-loop-spec : goal.invariant-loop-spec
invariant-loop-spec l =
    (n : List ℕ)
    → or_else (at_name l.block n) (is_function_in (specs_at_package_level (specs_syntax (drop l.spec-index l.specs))) n)
    ≡ or_else (at_name l.initial.block n) (is_function_in (specs_at_package_level (specs_syntax l.specs)) n)
