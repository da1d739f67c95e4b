use Rattle.std.proofs.Common.{ap, ◌∙◌}
use Rattle.meaning.specs.Kept.{some_fields}
use Rattle.tree.specs.View.{expressions_syntax}
use Rattle.kept_forms.proofs.AddedParts.{ok_same, adds_none_of}
use Rattle.kept_forms.proofs.DeclaredForms.{same_only}
use Rattle.kept_forms.proofs.elements.add_only_fields.Goals as goal

pub returns-in-Some : goal.returns-in-Some
returns-in-Some c =
    ok_same c.add_fields_in.result _ _ _ _
    (ap some_fields ((rw c.in-Some.is at c.only.ensures) ∙ same_only (expressions_syntax c.args.values.now)))
    c.add_fields_in.ensures

pub returns-in-None : goal.returns-in-None
returns-in-None c =
    adds_none_of _ _
    (ap some_fields ((rw c.in-None.is at c.only.ensures) ∙ same_only (expressions_syntax c.args.values.now)))
