use Rattle.std.proofs.Common.{◌&&◌, sym, ap, ◌∙◌}
use Rattle.std.specs.Prelude.{◌==◌}
use Rattle.std.specs.List.{list_any}
use Rattle.std.proofs.lemmas.Result.{IfOk-weaker}
use Rattle.mentions.specs.MarkViews.{mark_view}
use Rattle.tracked.specs.LocalViews.{seen_view}
use Rattle.meaning.specs.Kept.{places_given}
use Rattle.kept.proofs.holder.gives_there.Goals as goal

pub returns-then-is_declared_in : goal.returns-then-is_declared_in
returns-then-is_declared_in c =
    let gives = list_any (λ n. n == c.args.address.at) (places_given (seen_view c.args.seen.now).known (mark_view c.args.mark)) in
    IfOk-weaker c.mark_gives_at.result _ _
    (λ is tells. tells ∙ ap (λ b. b && gives) (sym c.if-is_declared_in.true ∙ c.is_declared_in.ensures))
    c.mark_gives_at.ensures

pub returns : goal.returns
returns c =
    let gives = list_any (λ n. n == c.args.address.at) (places_given (seen_view c.args.seen.now).known (mark_view c.args.mark)) in
    ap (λ b. b && gives) (sym c.if-is_declared_in.false ∙ c.is_declared_in.ensures)
