use Rattle.std.proofs.Common.{◌-◌, ◌++◌, length, map, ap, ◌∙◌}
use Rattle.std.proofs.lemmas.Result.{IfOk-weaker}
use Rattle.events.specs.VariableViews.{variable_view}
use Rattle.meaning.specs.declared.TheConstants.{MOST_GROUPS}
use Rattle.checker.specs.Certificates.{spare}
use Rattle.checker.proofs.FewVariables.{same_groups}
use Rattle.checker.proofs.laid_out.groups_of_bits.Goals as goal

pub returns : goal.returns
returns c =
    IfOk-weaker c.groups_with_bits.result _ _
    (λ groups is.
    is
    ∙ ap (λ ns. ns ++ spare (MOST_GROUPS - length ns))
    (c.deref.ensures.value ∙ c.in_ok-numbers.ensures.groups ∙ same_groups (map variable_view c.args.variables.now)))
    c.groups_with_bits.ensures
