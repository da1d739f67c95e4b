use Rattle.std.proofs.Common.{map, false, ap, ◌∙◌, subst}
use Rattle.std.proofs.lemmas.Result.{IfOk-weaker}
use Rattle.bodies.specs.Bodies.{IsOrderedGraph, code_in}
use Rattle.certificates.proofs.BodyRows.{followed_unless, none_without, no_classes, made_rows}
use Rattle.events.specs.VariableViews.{variable_view}
use Rattle.meaning_packages.specs.PathFaults.{paths_of}
use Rattle.certificates.proofs.body_rows.empty_rows.Goals as goal

pub returns : goal.returns
returns c =
    IfOk-weaker c.rows_of.result _ _
    (λ rows told file seen b tells_file tells is unset promises.
    let body = c.args.body.now in
    let kept = c.in_ok-kept.kept in
    let paths = paths_of seen promises b in
    record {
      is_followed = followed_unless file seen b body tells unset;
      is_least =
          made_rows paths kept
          (subst (λ p. IsOrderedGraph (code_in seen p) kept) tells.is_place (c.in_ok-kept.ensures seen tells_file))
          (λ i n k. false) (λ i n k. false)
          (no_classes paths (λ i n k. false) (λ i n k. false) (none_without file seen b body tells is unset)) rows.items
          (map variable_view c.deref.result.now) (ap (map variable_view) c.deref.ensures.value ∙ tells.are_variables) told;
    })
    c.rows_of.ensures
