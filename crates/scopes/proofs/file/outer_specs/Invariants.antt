use Rattle.std.proofs.Common.{◌≡◌, ◌++◌, drop}
use Rattle.meaning.specs.Scopes.{outer_specs_names}
use Rattle.scopes.specs.Views.{namings_view}
use Rattle.tree.specs.View.{specs_syntax}
use Rattle.scopes.proofs.file.outer_specs.Given as goal

-- what was added with what the rest adds is the whole
abbrev pub invariant-loop-item : goal.invariant-loop-item
invariant-loop-item l =
    namings_view l.namings.items ++ outer_specs_names (specs_syntax (drop l.item-index l.list))
    ≡ namings_view l.initial.namings.items ++ outer_specs_names (specs_syntax l.list)
