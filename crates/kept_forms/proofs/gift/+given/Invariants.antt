use Rattle.std.proofs.Common.{◌≡◌, ◌++◌, drop, map}
use Rattle.meaning.specs.Kept.{elements_gifts}
use Rattle.tree.specs.View.{expressions_syntax}
use Rattle.kept_forms.specs.FormViews.{gift_view, type_syntax}
use Rattle.kept_forms.proofs.gift.+given.Given as goal

-- what was added, with what is left, is the whole
abbrev pub invariant-add_elements-loop-value : goal.invariant-add_elements-loop-value
invariant-add_elements-loop-value l =
    map gift_view l.found.items
    ++ elements_gifts (type_syntax l.literal) (expressions_syntax (drop l.value-index l.values))
    ≡ map gift_view l.initial.found.items ++ elements_gifts (type_syntax l.literal) (expressions_syntax l.values)
