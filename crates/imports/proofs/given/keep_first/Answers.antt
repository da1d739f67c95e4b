use Rattle.std.proofs.Common.{sym, ◌∙◌}
use Rattle.imports.proofs.FirstPlaces.{inserted, none_from}
use Rattle.imports.proofs.given.keep_first.Goals as goal

pub returns-in_ok-insert : goal.returns-in_ok-insert
returns-in_ok-insert c =
    inserted c.args.places.now c.insert.new.self c.args.path c.args.place
    (none_from _ (sym c.contains_key.ensures ∙ c.if-not-contains_key.true)) c.in_ok-insert.ensures.updates
