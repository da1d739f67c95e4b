use Rattle.std.proofs.Common.{◌++◌, refl, ap, ◌∙◌, subst, arith}
use Rattle.code.specs.CodeViews.{code_view}
use Rattle.code.proofs.Codes.{code_view-Skip, code_view-Does, code_view-Alone, code_view-Leave, code_view-Then, code_view-Sequence, code_view-Choice, code_view-Repeats, code_view-UpTo, code_view-UpToFalls}
use Rattle.flow.specs.GraphViews.{Firsts}
use Rattle.flow.proofs.FirstNodes.{if_ok, first_then, first_alone, first_inside, first_so_far-none, first_so_far-first, first_so_far-next, first_so_far-all, ways_so_far-none, ways_so_far-next, ways_so_far-all}
use Rattle.flow.proofs.Falls.{first_inside_falls}
use Rattle.flow.proofs.firsts.+firsts.Goals as goal

pub firsts-returns-in-Skip : goal.firsts-returns-in-Skip
firsts-returns-in-Skip g t c =
    rw (c.in-Skip.is, code_view-Skip)
    (if_ok c.copied.result (λ v h. record { are_first = λ fits. h; is_past = λ fits. omega arith; stay = refl }) c.copied.ensures)

pub firsts-returns-in-Does : goal.firsts-returns-in-Does
firsts-returns-in-Does g t c =
    rw (c.in-Does.is, code_view-Does)
    (if_ok c.first_node.result (λ v h. record { are_first = λ fits. h; is_past = c.first_node.ensures.past; stay = refl }) c.first_node.ensures.node)

pub firsts-returns-in-Alone : goal.firsts-returns-in-Alone
firsts-returns-in-Alone g t c =
    rw (c.in-Alone.is, code_view-Alone)
    (if_ok c.first_node-in-Alone.result (λ v h. first_alone _ _ _ _ c.args.exits.now v h c.first_node-in-Alone.ensures.past) c.first_node-in-Alone.ensures.node)

pub firsts-returns-in-Leave : goal.firsts-returns-in-Leave
firsts-returns-in-Leave g t c =
    rw (c.in-Leave.is, code_view-Leave)
    (if_ok c.copied-in-Leave.result (λ v h. record { are_first = λ fits. h ∙ c.at.ensures; is_past = λ fits. omega arith; stay = refl }) c.copied-in-Leave.ensures)

pub firsts-returns-in_ok-later-in-Then : goal.firsts-returns-in_ok-later-in-Then
firsts-returns-in_ok-later-in-Then g t c =
    rw (c.in-Then.is, code_view-Then, ← c.deref.ensures, ← c.deref-in-Then.ensures)
    (if_ok c.firsts-in-Then.result
    (λ v h. first_then _ _ _ _ _ _ c.args.exits.now c.firsts.new.exits c.firsts-in-Then.new.exits
    c.in_ok-later-in-Then.later v c.in_ok-later-in-Then.ensures
    (subst (λ z. Firsts c.firsts.new.behind c.firsts-in-Then.new.behind (code_view c.deref-in-Then.result.now) z c.firsts.new.exits c.firsts-in-Then.new.exits v) c.deref-in-Then-2.ensures.value h))
    c.firsts-in-Then.ensures)

pub firsts-returns-in-Sequence : goal.firsts-returns-in-Sequence
firsts-returns-in-Sequence g t c =
    rw (c.in-Sequence.is, code_view-Sequence, ← c.deref-in-Sequence.ensures.value) c.firsts_of_sequence.ensures

pub firsts-returns-in-Choice : goal.firsts-returns-in-Choice
firsts-returns-in-Choice g t c =
    rw (c.in-Choice.is, code_view-Choice, ← c.deref-in-Choice.ensures.value) c.firsts_of_choice.ensures

pub firsts-returns-in-Repeats : goal.firsts-returns-in-Repeats
firsts-returns-in-Repeats g t c =
    rw (c.in-Repeats.is, code_view-Repeats, ← c.deref-in-Repeats.ensures)
    (if_ok c.firsts-in-Repeats.result (λ v h. record { are_first = h.are_first; is_past = h.is_past; stay = h.stay }) c.firsts-in-Repeats.ensures)

pub firsts-returns-in_ok-nodes-in-UpTo : goal.firsts-returns-in_ok-nodes-in-UpTo
firsts-returns-in_ok-nodes-in-UpTo g t c =
    rw (c.in-UpTo.is, code_view-UpTo, ← c.deref-in-UpTo.ensures)
    (first_inside _ _ _ _ _ c.args.exits.now c.enter.new.self c.firsts-in-UpTo.new.exits c.leave.new.self _
    c.in_ok-enter-in-UpTo.ensures c.in_ok-nodes-in-UpTo.ensures c.leave.ensures)

pub firsts-returns-in_ok-nodes-in-UpToFalls : goal.firsts-returns-in_ok-nodes-in-UpToFalls
firsts-returns-in_ok-nodes-in-UpToFalls g t c =
    rw (c.in-UpToFalls.is, code_view-UpToFalls, ← c.deref-in-UpToFalls.ensures.value, ← c.deref-in-UpToFalls-2.ensures)
    (first_inside_falls _ _ _ _ _ c.args.exits.now c.enter_falls.new.self c.firsts-in-UpToFalls.new.exits
    c.leave-in-UpToFalls.new.self _ c.in_ok-enter_falls-in-UpToFalls.ensures c.in_ok-nodes-in-UpToFalls.ensures
    c.leave-in-UpToFalls.ensures)

pub firsts_of_choice-loop-code-init : goal.firsts_of_choice-loop-code-init
firsts_of_choice-loop-code-init g t c = ways_so_far-none _ _ _ _ _ c.new-nodes.ensures.items

pub firsts_of_choice-loop-code-preserved : goal.firsts_of_choice-loop-code-preserved
firsts_of_choice-loop-code-preserved g t c =
    ways_so_far-next c.args.codes.now c.loop-code.code-index c.code-item.result _ c.loop-code.behind c.firsts.new.behind
    _ _ c.args.exits.now c.loop-code.exits c.firsts.new.exits c.loop-code.nodes c.in_ok-own.own c.in_ok-nodes.nodes
    c.loop-code-test.true c.code-item.is c.loop-code.invariant c.in_ok-own.ensures
    (c.in_ok-nodes.ensures ∙ ap (λ z. c.in_ok-own.own.items ++ z) c.deref.ensures.value)

pub firsts_of_choice-returns : goal.firsts_of_choice-returns
firsts_of_choice-returns g t c =
    ways_so_far-all c.args.codes.now c.loop-code.code-index _ _ _ _ _ _ _ c.loop-code-test.false c.loop-code.invariant

pub firsts_of_sequence-returns-in_default : goal.firsts_of_sequence-returns-in_default
firsts_of_sequence-returns-in_default g t c =
    if_ok c.copied.result
    (λ v h. first_so_far-all c.args.codes.now 0 _ _ _ _ _ _ _ (omega (arith, c.in_default.ensures.cases))
    (first_so_far-none _ _ _ c.args.exits.now v h))
    c.copied.ensures

pub firsts_of_sequence-loop-code-init : goal.firsts_of_sequence-loop-code-init
firsts_of_sequence-loop-code-init g t c =
    rw (c.in-Some.ensures.cases.0)
    (first_so_far-first _ _ (code_view c.in-Some.last.now) _ _ c.args.exits.now c.firsts.new.exits c.in_ok-nodes.nodes
    c.in_ok-nodes.ensures)

pub firsts_of_sequence-loop-code-preserved : goal.firsts_of_sequence-loop-code-preserved
firsts_of_sequence-loop-code-preserved g t c =
    first_so_far-next c.in-Some.others.now c.loop-code.code-index c.code-item.result _ c.loop-code.behind
    c.firsts-in-loop-code.new.behind _ _ c.args.exits.now c.loop-code.exits c.firsts-in-loop-code.new.exits c.loop-code.nodes
    c.in_ok-nodes-2.nodes c.loop-code-test.true c.code-item.is c.loop-code.invariant
    (subst (λ z. Firsts c.loop-code.behind c.firsts-in-loop-code.new.behind (code_view c.code-item.result) z c.loop-code.exits
    c.firsts-in-loop-code.new.exits c.in_ok-nodes-2.nodes) c.deref.ensures.value c.in_ok-nodes-2.ensures)

pub firsts_of_sequence-returns : goal.firsts_of_sequence-returns
firsts_of_sequence-returns g t c =
    first_so_far-all c.in-Some.others.now c.loop-code.code-index _ _ _ _ _ _ _ c.loop-code-test.false
    c.loop-code.invariant
