use Rattle.std.proofs.Common.{map, ◌∙◌, subst}
use Rattle.std.proofs.lemmas.Result.{IfOk-weaker}
use Rattle.certificates.specs.Rows.{arriving, TellRows}
use Rattle.checker.specs.Certificates.{groups_with_bits}
use Rattle.events.specs.VariableViews.{variable_view}
use Rattle.certificates.proofs.rows.rows_of.Goals as goal

pub returns : goal.returns
returns g c =
    IfOk-weaker c.rows_with.result _ _
    (λ rows told.
    let views = map variable_view c.args.variables.now in
    let tell = subst (λ groups. TellRows
    (arriving (g.A.Arrivals.cancels c.args.arrivals.now) (g.A.Arrivals.groups c.args.arrivals.now) groups) views
    c.deref-2.result.now rows.items) (c.deref.ensures.value ∙ c.in_ok-groups.ensures) told in
    subst (λ order. TellRows
    (arriving (g.A.Arrivals.cancels c.args.arrivals.now) (g.A.Arrivals.groups c.args.arrivals.now)
    (groups_with_bits views)) views order rows.items) c.deref-2.ensures.value tell)
    c.rows_with.ensures
