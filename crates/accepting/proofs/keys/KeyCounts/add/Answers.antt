use Rattle.std.proofs.Common.{refl, ap, ◌∙◌}
use Rattle.accepting.specs.KeptKeys.{one_more}
use Rattle.accepting.proofs.KeyCounts.{updated}
use Rattle.accepting.proofs.keys.KeyCounts.add.Goals as goal

pub returns : goal.returns
returns c = λ k.
    updated _ (λ x y. refl) one_more c.args.self.now.counts.entries c.insert.new.self.entries c.args.key
    c.saturating_add.result (c.saturating_add.ensures ∙ ap one_more c.left-left.ensures)
    c.in_ok-insert.ensures.updates.1 c.in_ok-insert.ensures.updates.3 k
