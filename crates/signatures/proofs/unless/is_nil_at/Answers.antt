use Rattle.std.proofs.Common.{ap, ◌∙◌}
use Rattle.std.specs.Prelude.{codes}
use Rattle.meaning.specs.FunctionFacts.{means_universe}
use Rattle.signatures.specs.Meanings.{meanings_of}
use Rattle.facts.proofs.ListedItems.{nil_in, item-there, item-past}
use Rattle.signatures.proofs.unless.is_nil_at.Goals as goal

pub returns-in-Some : goal.returns-in-Some
returns-in-Some c =
    c.means_universe.ensures
    ∙ ap (means_universe (meanings_of c.args.told) (codes "nil")) c.as_bare.ensures
    ∙ ap (nil_in (meanings_of c.args.told))
    (item-there c.args.items.now c.args.position c.in-Some.item.now c.in-Some.ensures.lookup.3.0 c.in-Some.ensures.lookup.1)

pub returns-in-None : goal.returns-in-None
returns-in-None c =
    ap (nil_in (meanings_of c.args.told)) (item-past c.args.items.now c.args.position c.in-None.ensures.lookup.3)
