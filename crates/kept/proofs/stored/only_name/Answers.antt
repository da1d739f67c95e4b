use Rattle.std.proofs.Common.{ap, ◌∙◌}
use Rattle.meaning.specs.Kept.{some_bare}
use Rattle.tree.specs.View.{expressions_syntax}
use Rattle.kept_forms.proofs.DeclaredForms.{same_only}
use Rattle.kept.proofs.stored.only_name.Goals as goal

pub returns-in-Some : goal.returns-in-Some
returns-in-Some c =
    c.as_bare.ensures
    ∙ ap some_bare ((rw c.in-Some.is at c.only.ensures) ∙ same_only (expressions_syntax c.args.values.now))

pub returns-in-None : goal.returns-in-None
returns-in-None c =
    ap some_bare ((rw c.in-None.is at c.only.ensures) ∙ same_only (expressions_syntax c.args.values.now))
