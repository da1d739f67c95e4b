use Rattle.std.proofs.Common.{◌≡◌, None, length, replicate, subst, sym, ap, ◌∙◌, rules}
use Rattle.std.proofs.lemmas.Result.{IfOk-weaker}
use Rattle.workers.specs.Outcomes.{placed_all, AreOutcomes}
use Rattle.workers.proofs.Placed.{are_outcomes, as_lent}
use Rattle.workers.proofs.shares.outcomes.Goals as goal

pub returns : goal.returns
returns g c =
    let is_outcome = g.W.Work.is_outcome c.args.work.now in
    let items = c.args.items.now in
    let shares = c.fill_all.new.shares in
    let outcomes = are_outcomes is_outcome items c.new-queue.result.items.now shares c.new-queue.ensures c.fill_all.ensures in
    let as_many : length shares ≡ c.in_ok-shares.shares.len = search rules in
    let same = ap (λ ss. placed_all ss (replicate (length items) None)) (as_lent _ shares _ as_many) in
    IfOk-weaker c.gather.result _ _ (λ found placed. subst (AreOutcomes is_outcome items) (sym (placed ∙ same)) outcomes)
    c.gather.ensures
