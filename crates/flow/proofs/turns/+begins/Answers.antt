use Rattle.std.proofs.Common.{refl, sym, ap, ◌∙◌, map}
use Rattle.std.proofs.lemmas.Bool.{ne_eqb}
use Rattle.std.proofs.lemmas.List.{length-map}
use Rattle.code.specs.CodeViews.{code_view}
use Rattle.flow.specs.TurnSizes.{last_begins}
use Rattle.code.proofs.Codes.{code_view-Skip, code_view-Does, code_view-Alone, code_view-Leave, code_view-Then, code_view-Sequence, code_view-Choice, code_view-Repeats, code_view-UpTo, code_view-UpToFalls}
use Rattle.flow.proofs.TurnCounts.{begins_backward, begins_only, begins_more, last_found}
use Rattle.flow.proofs.Falls.{begins_falls}
use Rattle.flow.proofs.turns.+begins.Goals as goal

pub begins_with_event-returns-in-Skip : goal.begins_with_event-returns-in-Skip
begins_with_event-returns-in-Skip g t c = rw (c.in-Skip.is, code_view-Skip) refl

pub begins_with_event-returns-in-Does : goal.begins_with_event-returns-in-Does
begins_with_event-returns-in-Does g t c = rw (c.in-Does.is, code_view-Does) refl

pub begins_with_event-returns-in-Alone : goal.begins_with_event-returns-in-Alone
begins_with_event-returns-in-Alone g t c = rw (c.in-Alone.is, code_view-Alone) refl

pub begins_with_event-returns-in-Leave : goal.begins_with_event-returns-in-Leave
begins_with_event-returns-in-Leave g t c = rw (c.in-Leave.is, code_view-Leave) refl

pub begins_with_event-returns-in-Then : goal.begins_with_event-returns-in-Then
begins_with_event-returns-in-Then g t c =
    rw (c.in-Then.is, code_view-Then, ← c.deref.ensures) c.begins_with_event.ensures

pub begins_with_event-returns-in-Sequence : goal.begins_with_event-returns-in-Sequence
begins_with_event-returns-in-Sequence g t c =
    rw (c.in-Sequence.is, code_view-Sequence, begins_backward, ← c.deref-in-Sequence.ensures.value) c.last_begins.ensures

pub begins_with_event-returns-in-Repeats : goal.begins_with_event-returns-in-Repeats
begins_with_event-returns-in-Repeats g t c =
    rw (c.in-Repeats.is, code_view-Repeats, ← c.deref-in-Repeats.ensures) c.begins_with_event-in-Repeats.ensures

pub begins_with_event-returns-in-UpTo : goal.begins_with_event-returns-in-UpTo
begins_with_event-returns-in-UpTo g t c =
    rw (c.in-UpTo.is, code_view-UpTo, ← c.deref-in-UpTo.ensures) c.begins_with_event-in-UpTo.ensures

pub begins_with_event-returns-in-UpToFalls : goal.begins_with_event-returns-in-UpToFalls
begins_with_event-returns-in-UpToFalls g t c =
    rw (c.in-UpToFalls.is, code_view-UpToFalls, begins_falls, ← c.deref-in-UpToFalls.ensures)
    c.begins_with_event-in-UpToFalls.ensures

pub begins_with_event-returns-then-len-eq1 : goal.begins_with_event-returns-then-len-eq1
begins_with_event-returns-then-len-eq1 g t c =
    rw (c.in-Choice.is, code_view-Choice)
    (c.last_begins-then-len-eq1.ensures
    ∙ ap (λ z. last_begins (map code_view z)) c.deref-then-len-eq1.ensures.value
    ∙ begins_only (map code_view c.in-Choice.codes.items) c.len.result
    (c.len.ensures ∙ c.in-Choice.codes.ok.0 ∙ sym (length-map c.in-Choice.codes.items code_view)) c.if-len-eq1.true)

pub begins_with_event-returns-else-len-eq1 : goal.begins_with_event-returns-else-len-eq1
begins_with_event-returns-else-len-eq1 g t c =
    rw (c.in-Choice.is, code_view-Choice)
    (ne_eqb c.len.result 1 c.if-len-eq1.false
    ∙ sym (begins_more (map code_view c.in-Choice.codes.items) c.len.result
    (c.len.ensures ∙ c.in-Choice.codes.ok.0 ∙ sym (length-map c.in-Choice.codes.items code_view)) c.if-len-eq1.false))

pub last_begins-returns-in-Some : goal.last_begins-returns-in-Some
last_begins-returns-in-Some g t c =
    c.begins_with_event.ensures ∙ sym (last_found c.args.codes.now c.in-Some.code.now c.in-Some.ensures.value)
