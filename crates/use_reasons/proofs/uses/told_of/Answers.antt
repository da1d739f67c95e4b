use Rattle.std.proofs.Common.{ap, ap₂, ◌∙◌}
use Rattle.meaning.specs.OuterBlocks.{or_else}
use Rattle.tracked_rows.specs.RowViews.{known_view}
use Rattle.use_reasons.specs.UseReasons.{pointed_of}
use Rattle.use_reasons.proofs.uses.told_of.Goals as goal

pub returns-in-OfCancel : goal.returns-in-OfCancel
returns-in-OfCancel c = λ marks has.
    rw c.in-OfCancel.is
    (c.first_of.ensures
    ∙ ap₂ or_else (c.get.ensures ∙ has.compared c.args.asked.at) (c.get-in-OfCancel.ensures ∙ has.cancels c.args.asked.at))

pub returns-in-OfGroup : goal.returns-in-OfGroup
returns-in-OfGroup c = λ marks has.
    rw c.in-OfGroup.is
    (c.first_of-in-OfGroup.ensures
    ∙ ap₂ or_else (c.get-in-OfGroup.ensures ∙ has.compared c.args.asked.at)
    (c.get-in-OfGroup-2.ensures ∙ has.groups c.args.asked.at))

pub returns-in-Some : goal.returns-in-Some
returns-in-Some c = λ marks has.
    rw c.in-BoundAgain.is
    (c.get-in-Some.ensures ∙ has.pointers c.in-Some.number
    ∙ ap (pointed_of (known_view c.args.known) marks) (rw c.in-Some.is at c.local_meant.ensures))

pub returns-in-None : goal.returns-in-None
returns-in-None c = λ marks has.
    rw c.in-BoundAgain.is (ap (pointed_of (known_view c.args.known) marks) (rw c.in-None.is at c.local_meant.ensures))
