use Rattle.std.proofs.Common.{refl}
use Rattle.code.proofs.Codes.{code_view-Skip, code_view-Does, code_view-Alone, code_view-Leave, code_view-Then, code_view-Sequence, code_view-Choice, code_view-Repeats, code_view-UpTo, code_view-UpToFalls}
use Rattle.flow.proofs.FirstNodes.{if_ok}
use Rattle.flow.proofs.TurnCounts.{counts_none, counts_then, counts_sequence, counts_choice, counted-none, counted-next, counted-all}
use Rattle.flow.proofs.Falls.{counts_falls}
use Rattle.flow.proofs.turns.+count.Goals as goal

pub count-returns-in-Skip : goal.count-returns-in-Skip
count-returns-in-Skip g t c = rw (c.in-Skip.is, code_view-Skip) (counts_none _ _ _ refl refl)

pub count-returns-in-Does : goal.count-returns-in-Does
count-returns-in-Does g t c = rw (c.in-Does.is, code_view-Does) (counts_none _ _ _ refl refl)

pub count-returns-in-Alone : goal.count-returns-in-Alone
count-returns-in-Alone g t c = rw (c.in-Alone.is, code_view-Alone) (counts_none _ _ _ refl refl)

pub count-returns-in-Leave : goal.count-returns-in-Leave
count-returns-in-Leave g t c = rw (c.in-Leave.is, code_view-Leave) (counts_none _ _ _ refl refl)

pub count-returns-in_ok-own-in-Then : goal.count-returns-in_ok-own-in-Then
count-returns-in_ok-own-in-Then g t c =
    rw (c.in-Then.is, code_view-Then, ← c.deref.ensures, ← c.deref-in-Then.ensures)
    (counts_then _ _ _ _ _ _ _ _ c.in_ok-behind-in-Then.ensures c.in_ok-own-in-Then.ensures c.saturating_add.ensures)

pub count-returns-in-Sequence : goal.count-returns-in-Sequence
count-returns-in-Sequence g t c =
    rw (c.in-Sequence.is, code_view-Sequence, ← c.deref-in-Sequence.ensures.value)
    (if_ok c.count_all.result (λ v h. counts_sequence _ _ _ v h) c.count_all.ensures)

pub count-returns-in-Choice : goal.count-returns-in-Choice
count-returns-in-Choice g t c =
    rw (c.in-Choice.is, code_view-Choice, ← c.deref-in-Choice.ensures.value)
    (if_ok c.count_all-in-Choice.result (λ v h. counts_choice _ _ _ v h) c.count_all-in-Choice.ensures)

pub count-returns-in-Repeats : goal.count-returns-in-Repeats
count-returns-in-Repeats g t c =
    rw (c.in-Repeats.is, code_view-Repeats, ← c.deref-in-Repeats.ensures) c.count_turn.ensures

pub count-returns-in-UpTo : goal.count-returns-in-UpTo
count-returns-in-UpTo g t c =
    rw (c.in-UpTo.is, code_view-UpTo, ← c.deref-in-UpTo.ensures)
    (if_ok c.count-in-UpTo.result (λ v h. record { is_size = h.is_size; are_turns = h.are_turns }) c.count-in-UpTo.ensures)

pub count-returns-in-UpToFalls : goal.count-returns-in-UpToFalls
count-returns-in-UpToFalls g t c =
    rw (c.in-UpToFalls.is, code_view-UpToFalls, ← c.deref-in-UpToFalls.ensures)
    (if_ok c.count-in-UpToFalls.result (λ v h. counts_falls _ _ _ _ v h) c.count-in-UpToFalls.ensures)

pub count_all-loop-code-init : goal.count_all-loop-code-init
count_all-loop-code-init g t c = counted-none _ _

pub count_all-loop-code-preserved : goal.count_all-loop-code-preserved
count_all-loop-code-preserved g t c =
    counted-next c.args.codes.now c.loop-code.code-index c.code-item.result _ _ c.loop-code.sizes.items
    c.count.new.sizes.items c.loop-code.sum c.in_ok-own.own _ c.loop-code-test.true c.code-item.is
    c.loop-code.invariant c.in_ok-own.ensures c.saturating_add-sum.ensures

pub count_all-returns : goal.count_all-returns
count_all-returns g t c =
    counted-all c.args.codes.now c.loop-code.code-index _ _ _ _ c.loop-code-test.false c.loop-code.invariant
