use Rattle.std.proofs.Common.{◌<◌, sym, ◌∙◌, subst}
use Rattle.kept.specs.KeptViews.{keep_view}
use Rattle.kept.proofs.RowsTogether.{stands_there}
use Rattle.kept.proofs.of_file.put_keep.Goals as goal

pub returns-then-index-keep-2 : goal.returns-then-index-keep-2
returns-then-index-keep-2 c =
    stands_there (keep_view c.args.keep) c.args.rows.now.items c.loop-index.index c.index-then-index-len.result.now
    (subst (λ n. c.loop-index.index < n) (c.len-2.ensures ∙ c.args.rows.now.ok.0) c.if-index-len.true) c.index-then-index-len.ensures (sym c.if-index-keep-2.true) c.loop-index.invariant.0
