use Rattle.std.proofs.Common.{inl, inr, sym, ◌∙◌}
use Rattle.files_to_walk.proofs.skipping.may_name_makers.Goals as goal

pub returns-then-imports_one : goal.returns-then-imports_one
returns-then-imports_one c none = inr (c.may_name_telling.ensures none)

pub returns-else-imports_one : goal.returns-else-imports_one
returns-else-imports_one c none = inl (sym c.imports_one.ensures ∙ c.if-imports_one.false)
