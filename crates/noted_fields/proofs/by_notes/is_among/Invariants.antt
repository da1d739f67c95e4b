use Rattle.std.proofs.Common.{◌≡◌, drop}
use Rattle.imports.specs.Views.{text_views}
use Rattle.noted_fields.specs.NotedFields.{is_among}
use Rattle.noted_fields.proofs.by_notes.is_among.Given as goal

-- the test of those that are left is that of all
abbrev pub invariant-loop-other : goal.invariant-loop-other
invariant-loop-other l =
    is_among (text_views (drop l.other-index l.names)) l.name ≡ is_among (text_views l.names) l.name
