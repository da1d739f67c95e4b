use Rattle.std.proofs.Common.{sym, ◌∙◌}
use Rattle.names.proofs.Adding.{inserted, none_from}
use Rattle.names.proofs.first.keep_first_name.Goals as goal

pub returns-in_ok-insert-clause-added : goal.returns-in_ok-insert-clause-added
returns-in_ok-insert-clause-added g c =
    inserted c.args.map.now c.insert.new.self c.args.name c.args.value
    (none_from _ (sym c.contains_key.ensures ∙ c.if-not-contains_key.true)) c.in_ok-insert.ensures.updates
