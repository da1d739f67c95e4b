use Rattle.std.proofs.Common.{ℕ, List, Option, Some, option_map, sym, ap, subst}
use Rattle.verifier.specs.ReliedOn.{AreLeft, AreLeftIf}
use Rattle.verifier.proofs.relied.relied_on.Goals as goal

pub returns : goal.returns
returns c = λ file seen b tells is_kept.
    subst (λ (o : Option (List ℕ)). AreLeftIf seen b o (Some c.in_ok-left.left.items))
    (ap (option_map (λ ns. ns.items)) (sym c.in-Some.is))
    (subst (λ ns. AreLeft seen b ns c.in_ok-left.left.items) c.deref.ensures.value
    (c.in_ok-left.ensures file seen b tells is_kept))
