use Rattle.std.proofs.Common.{◌≡◌, ◌++◌, drop, map}
use Rattle.meaning.specs.Mentions.{declared_elsewhere}
use Rattle.mentions.specs.MarkViews.{marks_view}
use Rattle.scopes.specs.Views.{bare_view}
use Rattle.marks.proofs.file.declare_bare_names.Given as goal

-- what was added with what the other names add is the whole
abbrev pub invariant-loop-name : goal.invariant-loop-name
invariant-loop-name l =
    marks_view l.marks.list.items ++ declared_elsewhere l.site (map bare_view (drop l.name-index l.names))
    ≡ marks_view l.initial.marks.list.items ++ declared_elsewhere l.site (map bare_view l.names)
