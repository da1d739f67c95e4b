use Rattle.std.proofs.Common.{◌≡◌, ◌≤◌, length, ap, ◌∙◌, arith}
use Rattle.std.proofs.lemmas.List.{length-map}
use Rattle.imports.specs.Views.{package_view, packages_view, ranking_view, rows_view}
use Rattle.imports.proofs.Ordered.{begins, settles, all_settled, serves, ordered}
use Rattle.imports.proofs.ordering.order.Goals as goal

pub loop-place-init : goal.loop-place-init
loop-place-init c =
    begins (packages_view c.args.packages.now) (rows_view c.deref.result.now) (ranking_view c.in_ok-ranking.ranking)
    (ap rows_view c.deref.ensures.value ∙ c.in_ok-given.ensures)
    c.in_ok-ranking.ensures

pub loop-place-preserved : goal.loop-place-preserved
loop-place-preserved c =
    settles (packages_view c.args.packages.now) c.loop-place.place (ranking_view c.loop-place.ranking)
    (ranking_view c.settle.new.self)
    c.loop-place.invariant
    c.in_ok-settle.ensures

pub loop-rank-init : goal.loop-rank-init
loop-rank-init c =
    let same : length (packages_view c.args.packages.now) ≡ length c.args.packages.now =
    length-map c.args.packages.now package_view in
    let past : length (packages_view c.args.packages.now) ≤ c.loop-place.place = omega (arith, same) in
    all_settled (packages_view c.args.packages.now) c.loop-place.place (ranking_view c.loop-place.ranking)
    past
    c.loop-place.invariant

pub loop-rank-preserved : goal.loop-rank-preserved
loop-rank-preserved c =
    serves (packages_view c.args.packages.now) c.loop-rank.rank (ranking_view c.loop-rank.ranking)
    (ranking_view c.serve_rank.new.self)
    c.loop-rank.invariant
    c.in_ok-serve_rank.ensures

pub returns : goal.returns
returns c =
    let same : length (packages_view c.args.packages.now) ≡ length c.args.packages.now =
    length-map c.args.packages.now package_view in
    let all : c.loop-rank.rank ≡ length (packages_view c.args.packages.now) = omega (arith, same) in
    ordered (packages_view c.args.packages.now) (ranking_view c.loop-rank.ranking) c.loop-rank.rank all
    c.loop-rank.invariant
