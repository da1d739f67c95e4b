use Rattle.names.proofs.KeptLocals.{kept-link_on, kept-link_smaller, kept-push, kept-links}
use Rattle.names.proofs.innermost.links.Goals as goal

pub loop-end-preserved : goal.loop-end-preserved
loop-end-preserved c =
    kept-link_on _ _ _ _ _ _ _ c.loop-index.invariant c.loop-end.invariant c.loop-index-test.true c.loop-end-test.true
    c.if-ordered-end.true c.index-end.ensures

pub loop-end-smaller : goal.loop-end-smaller
loop-end-smaller c =
    kept-link_smaller _ _ _ _ _ c.loop-index.invariant c.loop-end.invariant c.loop-end-test.true c.index-end.ensures

pub loop-index-preserved : goal.loop-index-preserved
loop-index-preserved c =
    kept-push _ _ _ _ _ c.loop-index.invariant c.loop-end.invariant c.in_ok-push.ensures.items

pub returns : goal.returns
returns c = kept-links _ _ _ c.loop-index.invariant c.loop-index-test.false c.loop-index.auto.index-end
