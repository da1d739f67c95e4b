use Rattle.std.proofs.Common.{◌-◌, refl, ap}
use Rattle.accepting.specs.KeptKeys.{one_less}
use Rattle.accepting.proofs.KeyCounts.{updated}
use Rattle.accepting.proofs.keys.KeyCounts.take.Goals as goal

pub returns-clause-left : goal.returns-clause-left
returns-clause-left c = λ k.
    updated _ (λ x y. refl) one_less c.args.self.now.counts.entries c.insert.new.self.entries c.args.key
    (c.left-left.result - 1) (ap one_less c.left-left.ensures) c.in_ok-insert.ensures.updates.1
    c.in_ok-insert.ensures.updates.3 k
