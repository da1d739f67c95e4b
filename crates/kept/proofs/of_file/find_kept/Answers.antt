use Rattle.std.proofs.Common.{◌≡◌, map, ap, ◌∙◌}
use Rattle.std.specs.Prelude.{◌==◌}
use Rattle.std.specs.List.{filter}
use Rattle.tracked.specs.LocalViews.{seen_view}
use Rattle.meaning.specs.Kept.{Keep, kept_of, belongs}
use Rattle.kept.specs.KeptViews.{belongs_in, keep_view}
use Rattle.kept.proofs.RowsTogether.{rows_known, sides_known}
use Rattle.kept.proofs.of_file.find_kept.Goals as goal

pub returns : goal.returns
returns c =
    let seen = seen_view c.args.seen.now in
    let belong : (k : Keep) → belongs_in c.in_ok-sides.sides k ≡ belongs seen k =
    sides_known seen c.in_ok-gathered.gathered c.in_ok-sides.sides c.in_ok-gathered.ensures c.in_ok-sides.ensures in
    let rows : map keep_view c.in_ok-rows.rows.items ≡ kept_of seen =
    rows_known seen (map keep_view c.deref.result.now) c.in_ok-sides.sides
    (ap (map keep_view) c.deref.ensures.value ∙ c.in_ok-gathered.ensures.keeps) belong _ c.in_ok-rows.ensures in
    record {
      rows = rows;
      together = λ x. c.in_ok-together.ensures x
          ∙ ap (λ ks. filter (λ k. k.object == x) (map keep_view ks)) c.deref-2.ensures.value
          ∙ ap (filter (λ k. k.object == x)) rows;
      belongs = belong;
    }
