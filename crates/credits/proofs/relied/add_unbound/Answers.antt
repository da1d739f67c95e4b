use Rattle.std.proofs.Common.{◌++◌, sym, ap, ◌∙◌}
use Rattle.std.proofs.lemmas.List.{append-nil}
use Rattle.credits.proofs.ReliedOn.{none_unbound, one_unbound}
use Rattle.credits.proofs.relied.add_unbound.Goals as goal

pub returns-then-is_among : goal.returns-then-is_among
returns-then-is_among c =
    let old = c.args.left.now.items in
    sym (append-nil old)
    ∙ ap (λ l. old ++ l) (none_unbound c.args.bound.now c.args.number (sym c.is_among.ensures ∙ c.if-is_among.true))

pub returns : goal.returns
returns c =
    c.in_ok-push.ensures.items
    ∙ ap (λ l. c.args.left.now.items ++ l)
    (one_unbound c.args.bound.now c.args.number (sym c.is_among.ensures ∙ c.if-is_among.false))
