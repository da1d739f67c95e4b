use Rattle.std.proofs.Common.{sym, ◌∙◌}
use Rattle.first_values.proofs.Inserted.{inserted, none_from}
use Rattle.first_values.proofs.FirstValues.insert.Goals as goal

pub returns-in_ok-insert-clause-ok : goal.returns-in_ok-insert-clause-ok
returns-in_ok-insert-clause-ok g c =
    inserted c.args.self.now.values c.insert.new.self c.args.name c.args.value
    (none_from _ (sym c.contains_key.ensures ∙ c.if-not-contains_key.true)) c.in_ok-insert.ensures.updates
