use Rattle.std.proofs.Common.{ℕ, ◌+◌, List, ◌++◌, drop, sym, ap, ◌∙◌, append_assoc}
use Rattle.std.specs.List.{filter}
use Rattle.std.proofs.lemmas.List.{append-nil, at_drop_all, get_or_default}
use Rattle.tree.proofs.Depths.{drop_item}
use Rattle.credits.specs.ReliedOn.{is_unbound, unbound_number}
use Rattle.credits.proofs.ReliedOn.{filter_first}
use Rattle.credits.proofs.relied.unbound.Goals as goal

pub loop-number-preserved : goal.loop-number-preserved
loop-number-preserved c =
    let bound = c.args.bound.now in
    let numbers = c.args.numbers.now in
    let i = c.loop-number.number-index in
    let within = c.loop-number-test.true in
    let rest = filter (is_unbound bound) (drop (i + 1) numbers) in
    ap (λ l. l ++ rest) c.in_ok-add_unbound.ensures
    ∙ append_assoc c.loop-number.left.items (unbound_number bound _) rest
    ∙ ap (λ l. c.loop-number.left.items ++ l)
    (sym (ap (filter (is_unbound bound)) (drop_item numbers i _ within (get_or_default numbers i _ _ within))
    ∙ filter_first bound _ (drop (i + 1) numbers)))
    ∙ c.loop-number.invariant

pub returns : goal.returns
returns c =
    sym (append-nil c.loop-number.left.items)
    ∙ ap (λ l. c.loop-number.left.items ++ l)
    (sym (at_drop_all (λ (ns : List ℕ). filter (is_unbound c.args.bound.now) ns) c.args.numbers.now c.loop-number.number-index
    c.loop-number-test.false))
    ∙ c.loop-number.invariant
