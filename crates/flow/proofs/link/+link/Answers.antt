use Rattle.std.proofs.Common.{◌++◌, refl, sym, ap, ◌∙◌, subst}
use Rattle.code.specs.CodeViews.{code_view}
use Rattle.code.proofs.Codes.{code_view-Skip, code_view-Does, code_view-Alone, code_view-Leave, code_view-Then, code_view-Sequence, code_view-Choice, code_view-Repeats, code_view-UpTo, code_view-UpToFalls}
use Rattle.flow.specs.GraphViews.{Adds}
use Rattle.meaning.specs.Code.{skip}
use Rattle.flow.specs.TurnSizes.{turn_sizes, FirstsOfTurn, Takes}
use Rattle.flow.proofs.FirstNodes.{if_ok}
use Rattle.flow.proofs.TurnCounts.{sizes_backward, sizes_one_of}
use Rattle.flow.proofs.LinkedNodes.{adds_none, adds_one, adds_then, adds_inside, takes_none, takes_on, takes_both, takes_turn, taken_so_far-none, taken_so_far-next, taken_so_far-all, added_so_far-none, added_so_far-next, added_so_far-all, ways_added-none, ways_added-next, ways_added-all}
use Rattle.flow.proofs.Falls.{turn_sizes_falls, adds_inside_falls}
use Rattle.flow.proofs.link.+link.Goals as goal

pub link-returns-in-Skip : goal.link-returns-in-Skip
link-returns-in-Skip g t c =
    rw (c.in-Skip.is, code_view-Skip)
    (takes_none _ (adds_none _ _ c.args.graph.now.exits c.args.graph.now.nodes c.args.next refl refl refl))

pub link-returns-in-Does : goal.link-returns-in-Does
link-returns-in-Does g t c =
    rw (c.in-Does.is, code_view-Does)
    (if_ok c.add.result (λ v h. takes_none _ (adds_one _ _ c.args.graph.now.exits c.args.graph.now.nodes c.add.new.nodes v h)) c.add.ensures)

pub link-returns-in-Alone : goal.link-returns-in-Alone
link-returns-in-Alone g t c =
    rw (c.in-Alone.is, code_view-Alone)
    (if_ok c.add-in-Alone.result
    (λ v h. takes_none _ (adds_then _ skip _ c.args.graph.now.exits _ _ c.args.graph.now.nodes c.args.graph.now.nodes c.add-in-Alone.new.nodes c.args.next v
    (adds_none skip _ c.args.graph.now.exits c.args.graph.now.nodes c.args.next refl refl refl)
    (adds_one _ _ c.args.graph.now.exits c.args.graph.now.nodes c.add-in-Alone.new.nodes v h))) c.add-in-Alone.ensures)

pub link-returns-in-Leave : goal.link-returns-in-Leave
link-returns-in-Leave g t c =
    rw (c.in-Leave.is, code_view-Leave)
    (if_ok c.copied.result
    (λ v h. takes_none _ (adds_none _ _ c.args.graph.now.exits c.args.graph.now.nodes v refl refl (h ∙ c.at.ensures))) c.copied.ensures)

pub link-returns-in_ok-later-in-Then : goal.link-returns-in_ok-later-in-Then
link-returns-in_ok-later-in-Then g t c =
    rw (c.in-Then.is, code_view-Then, ← c.deref.ensures, ← c.deref-in-Then.ensures)
    (if_ok c.link-in-Then.result
    (λ v h. takes_both _ _ _ c.link.new.graph.sizes.left.now c.link-in-Then.new.graph.sizes.left.now
    (λ of_b of_a. adds_then _ _ _ c.args.graph.now.exits c.link.new.graph.exits c.link-in-Then.new.graph.exits c.args.graph.now.nodes
    c.link.new.graph.nodes c.link-in-Then.new.graph.nodes c.in_ok-later-in-Then.later v of_b of_a)
    c.in_ok-later-in-Then.ensures h)
    c.link-in-Then.ensures)

pub link-returns-in-Sequence : goal.link-returns-in-Sequence
link-returns-in-Sequence g t c =
    rw (c.in-Sequence.is, code_view-Sequence, sizes_backward, ← c.deref-in-Sequence.ensures.value) c.link_sequence.ensures

pub link-returns-in-Choice : goal.link-returns-in-Choice
link-returns-in-Choice g t c =
    rw (c.in-Choice.is, code_view-Choice, sizes_one_of, ← c.deref-in-Choice.ensures.value, ← c.deref-in-Choice-2.ensures.value)
    c.link_choice.ensures

pub link-returns-in_ok-link-in-Repeats : goal.link-returns-in_ok-link-in-Repeats
link-returns-in_ok-link-in-Repeats g t c =
    rw (c.in-Repeats.is, code_view-Repeats, ← c.deref-in-Repeats.ensures)
    (takes_turn _ _ c.args.graph.now.exits c.firsts_of_turn.new.exits c.link-in-Repeats.new.graph.exits c.args.graph.now.nodes
    c.link-in-Repeats.new.graph.nodes c.in_ok-first-in-Repeats.first c.in_ok-link-in-Repeats.field-0
    c.args.graph.now.sizes.left.now c.firsts_of_turn.new.sizes.left.now c.link-in-Repeats.new.graph.sizes.left.now
    (subst (λ z. FirstsOfTurn z (code_view c.deref-in-Repeats.result.now) c.args.graph.now.exits
    c.firsts_of_turn.new.exits c.args.graph.now.sizes.left.now c.firsts_of_turn.new.sizes.left.now
    c.in_ok-first-in-Repeats.first) (c.len.ensures ∙ c.args.graph.now.nodes.ok.0) c.in_ok-first-in-Repeats.ensures)
    (subst (λ z. Takes (turn_sizes (code_view c.deref-in-Repeats.result.now)) c.firsts_of_turn.new.sizes.left.now
    c.link-in-Repeats.new.graph.sizes.left.now (Adds (code_view c.deref-in-Repeats.result.now) z
    c.firsts_of_turn.new.exits c.link-in-Repeats.new.graph.exits c.args.graph.now.nodes c.link-in-Repeats.new.graph.nodes
    c.in_ok-link-in-Repeats.field-0)) (c.in_ok-behind-in-Repeats.ensures ∙ c.deref-in-Repeats-2.ensures.value)
    (subst (λ z. Takes (turn_sizes (code_view z)) c.firsts_of_turn.new.sizes.left.now
    c.link-in-Repeats.new.graph.sizes.left.now (Adds (code_view z) c.in_ok-behind-in-Repeats.behind.items
    c.firsts_of_turn.new.exits c.link-in-Repeats.new.graph.exits c.args.graph.now.nodes c.link-in-Repeats.new.graph.nodes
    c.in_ok-link-in-Repeats.field-0))
    (c.deref-in-Repeats-3.ensures ∙ sym c.deref-in-Repeats.ensures) c.in_ok-link-in-Repeats.ensures)))

pub link-returns-in_ok-first-in-UpTo : goal.link-returns-in_ok-first-in-UpTo
link-returns-in_ok-first-in-UpTo g t c =
    rw (c.in-UpTo.is, code_view-UpTo, ← c.deref-in-UpTo-2.ensures)
    (takes_on _ _ _
    (λ of_a. adds_inside _ _ _ c.args.graph.now.exits c.enter.new.self c.link-in-UpTo.new.graph.exits c.leave.new.self
    c.args.graph.now.nodes c.link-in-UpTo.new.graph.nodes _
    (rw c.deref-in-UpTo.ensures.value at c.in_ok-enter-in-UpTo.ensures) of_a c.leave.ensures)
    c.in_ok-first-in-UpTo.ensures)

pub link-returns-in_ok-first-in-UpToFalls : goal.link-returns-in_ok-first-in-UpToFalls
link-returns-in_ok-first-in-UpToFalls g t c =
    rw (c.in-UpToFalls.is, code_view-UpToFalls, turn_sizes_falls, ← c.deref-in-UpToFalls.ensures.value, ← c.deref-in-UpToFalls-3.ensures)
    (takes_on _ _ _
    (λ of_a. adds_inside_falls _ _ _ c.args.graph.now.exits c.enter_falls.new.self c.link-in-UpToFalls.new.graph.exits
    c.leave-in-UpToFalls.new.self c.args.graph.now.nodes c.link-in-UpToFalls.new.graph.nodes _
    (rw c.deref-in-UpToFalls-2.ensures.value at c.in_ok-enter_falls-in-UpToFalls.ensures) of_a c.leave-in-UpToFalls.ensures)
    c.in_ok-first-in-UpToFalls.ensures)

pub link_choice-loop-code-init : goal.link_choice-loop-code-init
link_choice-loop-code-init g t c = taken_so_far-none _ _ (ways_added-none _ _ _ _ _ c.new-first.ensures.items)

pub link_choice-loop-code-preserved : goal.link_choice-loop-code-preserved
link_choice-loop-code-preserved g t c =
    taken_so_far-next _ c.args.codes.now c.loop-code.code-index c.code-item.result _ c.loop-code.graph.sizes.left.now
    c.link.new.graph.sizes.left.now c.loop-code-test.true c.code-item.is
    (λ so_far of_c. ways_added-next c.args.codes.now c.loop-code.code-index c.code-item.result _ _ c.args.graph.now.exits
    c.loop-code.graph.exits c.link.new.graph.exits c.args.graph.now.nodes c.loop-code.graph.nodes c.link.new.graph.nodes c.loop-code.first
    c.in_ok-own.own c.in_ok-first.first c.loop-code-test.true c.code-item.is so_far of_c
    (c.in_ok-first.ensures ∙ ap (λ z. c.in_ok-own.own.items ++ z) c.deref.ensures.value))
    c.loop-code.invariant (rw c.in_ok-after.ensures at c.in_ok-own.ensures)

pub link_choice-returns : goal.link_choice-returns
link_choice-returns g t c =
    taken_so_far-all _ c.args.codes.now c.loop-code.code-index _ _ c.loop-code-test.false
    (ways_added-all c.args.codes.now c.loop-code.code-index _ _ _ _ _ _ _ c.loop-code-test.false)
    c.loop-code.invariant

pub link_sequence-loop-code-init : goal.link_sequence-loop-code-init
link_sequence-loop-code-init g t c =
    taken_so_far-none _ _ (added_so_far-none _ _ c.args.graph.now.exits c.args.graph.now.nodes c.args.next refl)

pub link_sequence-loop-code-preserved : goal.link_sequence-loop-code-preserved
link_sequence-loop-code-preserved g t c =
    taken_so_far-next _ c.args.codes.now c.loop-code.code-index c.code-item.result _ c.loop-code.graph.sizes.left.now
    c.link.new.graph.sizes.left.now c.loop-code-test.true c.code-item.is
    (added_so_far-next c.args.codes.now c.loop-code.code-index c.code-item.result _ _ c.args.graph.now.exits
    c.loop-code.graph.exits c.link.new.graph.exits c.args.graph.now.nodes c.loop-code.graph.nodes c.link.new.graph.nodes
    c.loop-code.first c.in_ok-first.first c.loop-code-test.true c.code-item.is)
    c.loop-code.invariant c.in_ok-first.ensures

pub link_sequence-returns : goal.link_sequence-returns
link_sequence-returns g t c =
    taken_so_far-all _ c.args.codes.now c.loop-code.code-index _ _ c.loop-code-test.false
    (added_so_far-all c.args.codes.now c.loop-code.code-index _ _ _ _ _ _ _ c.loop-code-test.false)
    c.loop-code.invariant
