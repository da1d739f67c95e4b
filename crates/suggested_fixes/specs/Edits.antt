-- Edits lie within a text: each begins no later than it ends, and ends no later than the text.
use Rattle.std.specs.Prelude.{ℕ, Bool, ◌≡◌, ◌&&◌, nat_le, true, List, length}
use Rattle.std.specs.List.{list_all, All}
use Rattle.suggested_fixes.specs.declared.edits.Edit.{Edit}
use Rattle.suggested_fixes.specs.declared.edits.Fix.{Fix}

abbrev pub is_within : (size : ℕ) → Edit → Bool
is_within size edit = nat_le edit.start edit.end && nat_le edit.end size

abbrev pub are_within : (size : ℕ) → List Edit → Bool
are_within size = list_all (is_within size)

-- those of each fix
abbrev pub lie_within : (size : ℕ) → List Fix → Bool
lie_within size = list_all (λ fix. are_within size fix.edits.items)
