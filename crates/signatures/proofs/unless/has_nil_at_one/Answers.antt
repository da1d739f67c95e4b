use Rattle.facts.specs.FactViews.{unless_view}
use Rattle.signatures.specs.Meanings.{meanings_of}
use Rattle.facts.proofs.ListedItems.{given-nil, error-nil, other-many}
use Rattle.signatures.proofs.unless.has_nil_at_one.Goals as goal

pub returns-then-is_nil_at : goal.returns-then-is_nil_at
returns-then-is_nil_at c =
    given-nil (meanings_of c.args.told) c.args.results (unless_view c.args.unless) c.args.items.now c.is_nil_at.result
    c.if-items-results.true c.if-is_nil_at.true c.is_nil_at.ensures

pub returns-else-is_nil_at : goal.returns-else-is_nil_at
returns-else-is_nil_at c =
    error-nil (meanings_of c.args.told) c.args.results (unless_view c.args.unless) c.args.items.now c.is_nil_at.result
    c.is_nil_at-else-is_nil_at.result c.if-items-results.true c.if-is_nil_at.false c.is_nil_at.ensures
    c.is_nil_at-else-is_nil_at.ensures

pub returns-else-items-results : goal.returns-else-items-results
returns-else-items-results c =
    other-many (meanings_of c.args.told) c.args.results (unless_view c.args.unless) c.args.items.now
    c.if-items-results.false
