use Rattle.std.proofs.Common.{◌≡◌, drop}
use Rattle.imports.specs.Views.{text_views}
use Rattle.unit_reports.specs.UnitParts.{is_named}
use Rattle.unit_reports.proofs.units.is_named.Given as goal

-- the path is one of those that are left if it is one of all
abbrev pub invariant-loop-one : goal.invariant-loop-one
invariant-loop-one l = is_named (text_views (drop l.one-index l.paths)) l.path ≡ is_named (text_views l.paths) l.path
