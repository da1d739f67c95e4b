use Rattle.std.proofs.Common.{◌≡◌, ◌++◌, drop, map}
use Rattle.meaning.specs.Kept.{elements}
use Rattle.tree.specs.View.{expressions_syntax}
use Rattle.kept_forms.specs.FormViews.{element_view}
use Rattle.kept_forms.proofs.elements.add_elements.Given as goal

-- what was added, with what is left, is the whole
abbrev pub invariant-loop-value : goal.invariant-loop-value
invariant-loop-value l =
    map element_view l.found.items ++ elements (expressions_syntax (drop l.value-index l.values))
    ≡ map element_view l.initial.found.items ++ elements (expressions_syntax l.values)
