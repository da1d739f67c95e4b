use Rattle.std.proofs.Common.{sym, subst}
use Rattle.std.proofs.lemmas.Result.{IfOk-weaker}
use Rattle.verifier.proofs.LeftNumbers.{none_left, some_left}
use Rattle.verifier.specs.ReliedOn.{AreLeft}
use Rattle.verifier.proofs.relied.left_of.Goals as goal

pub returns-then-not-comes : goal.returns-then-not-comes
returns-then-not-comes c = λ file seen b tells is_kept.
    subst (AreLeft seen b c.args.numbers.now) (sym c.new.ensures.items)
    (none_left seen b c.in_ok-comes.comes (c.in_ok-comes.ensures file seen b tells is_kept) c.if-not-comes.true
    c.args.numbers.now)

pub returns : goal.returns
returns c =
    IfOk-weaker c.unbound.result _ _
    (λ left is file seen b tells is_kept.
    some_left seen b c.in_ok-comes.comes (c.in_ok-comes.ensures file seen b tells is_kept) c.if-not-comes.false file
    c.args.body.now tells c.args.numbers.now left.items is)
    c.unbound.ensures
