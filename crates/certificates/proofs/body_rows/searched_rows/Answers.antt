use Rattle.std.proofs.Common.{map, ap, ◌∙◌}
use Rattle.std.proofs.lemmas.Result.{IfOk-weaker}
use Rattle.certificates.proofs.BodyRows.{followed_with, made_rows}
use Rattle.credits.specs.CreditViews.{has}
use Rattle.events.specs.VariableViews.{variable_view}
use Rattle.bodies.specs.Solutions.{cancel_arrives, group_arrives}
use Rattle.meaning_packages.specs.Credits.{promises_in}
use Rattle.meaning_packages.specs.PathFaults.{paths_of}
use Rattle.certificates.proofs.body_rows.searched_rows.Goals as goal

pub returns : goal.returns
returns g c =
    IfOk-weaker c.rows_of.result _ _
    (λ rows told file seen b tells is_kept.
    let body = c.args.body.now in
    let kept = c.args.kept.now in
    let solution = c.in_ok-solution.solution in
    record {
      is_followed = followed_with file seen b body tells kept is_kept;
      is_least =
          made_rows (paths_of seen (promises_in (g.C.Calls.are_called c.args.calls.now) (has c.args.credits.now) b.at) b) kept
          (tells.is_graph kept is_kept) (cancel_arrives solution)
          (group_arrives solution) (c.in_ok-solution.ensures.nodes file seen b tells is_kept) rows.items
          (map variable_view c.deref.result.now) (ap (map variable_view) c.deref.ensures.value ∙ tells.are_variables) told;
    })
    c.rows_of.ensures
