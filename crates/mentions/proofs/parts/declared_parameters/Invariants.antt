use Rattle.std.proofs.Common.{◌≡◌, ◌++◌, drop}
use Rattle.meaning.specs.Mentions.{declared_elsewhere}
use Rattle.meaning.specs.Scopes.{parameters_named}
use Rattle.mentions.specs.MarkViews.{marks_view}
use Rattle.tree.specs.View.{parameters_syntax}
use Rattle.mentions.proofs.parts.declared_parameters.Given as goal

-- what was added with what the other parameters add is the whole
abbrev pub invariant-loop-param : goal.invariant-loop-param
invariant-loop-param l =
    marks_view l.marks.list.items ++ declared_elsewhere l.site (parameters_named (parameters_syntax (drop l.param-index l.params)))
    ≡ marks_view l.initial.marks.list.items ++ declared_elsewhere l.site (parameters_named (parameters_syntax l.params))
