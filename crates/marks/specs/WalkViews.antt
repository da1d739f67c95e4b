-- What a walk adds: in the second edition all marks that the definition lists, those of fields where it is told of
-- them; in the first edition those but for what conditions find out, and none of fields. And the parts of a tree that
-- it looks at besides: the rows of a declaration.
use Rattle.std.specs.Prelude.{ℕ, ◌≡◌, Bool, false, List, ◌++◌}
use Rattle.tree.specs.declared.edition.Edition.{Edition}
use Rattle.tree.specs.declared.edition.Edition.TheVariants.{First, Second}
use Rattle.marks.specs.declared.by_edition.Told.{Told}
use Rattle.marks.specs.declared.by_edition.Walk.{Walk}
use Rattle.mentions.specs.MarkViews.{marks_view}
use Rattle.meaning.specs.Mentions.{Named, Role, Mark, mention, is_found, marks_by}

abbrev pub marks_told : Told → List Mark → List Mark
marks_told told marks = marks_by told.edition told.some_keep marks

-- in the first edition no field keeps
abbrev pub tells_by : Edition → Bool → Bool
tells_by First some_keep = false
tells_by Second some_keep = some_keep

-- marks of fields are made
abbrev pub tells_fields : Told → Bool
tells_fields told = tells_by told.edition told.some_keep

-- by what the walk marks, which stays
pub record AddsBy (before after : Walk) (marks : List Mark) : Type 0 where
  pub keeps : after.told ≡ before.told
  pub adds : marks_view after.marks.list.items ≡ marks_view before.marks.list.items ++ marks_told before.told marks

-- no mention in that role is what a condition finds out
abbrev pub FindsNothing : Role → Type 0
FindsNothing role = (site : ℕ) (n : Named) → is_found (mention site role n) ≡ false
