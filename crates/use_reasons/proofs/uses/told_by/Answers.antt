use Rattle.std.proofs.Common.{ap, map, refl, ◌∙◌}
use Rattle.meaning.specs.OuterBlocks.{or_else}
use Rattle.meaning.specs.Tracked.{placed}
use Rattle.mentions.specs.MarkViews.{body_view, marks_view}
use Rattle.tracked_rows.specs.RowViews.{known_view}
use Rattle.use_reasons.specs.UseReasons.{first_by, compared_in, cancel_by, group_by, pointed_by}
use Rattle.use_reasons.proofs.FirstReasons.{last_mark, next_mark}
use Rattle.use_reasons.proofs.uses.told_by.Goals as goal

pub loop-mark-init : goal.loop-mark-init
loop-mark-init c =
    let known = known_view c.args.known in
    let marks = marks_view c.args.marks.now in
    let around = ap (map body_view) c.new-bodies.ensures.items in
    record {
      compared = λ n.
          ap (λ o. or_else o (first_by (compared_in n) (placed (map body_view c.new-bodies.result.items) marks)))
          (c.new.ensures n)
          ∙ ap (λ bs. first_by (compared_in n) (placed bs marks)) around;
      cancels = λ n.
          ap (λ o. or_else o (first_by (cancel_by known n) (placed (map body_view c.new-bodies.result.items) marks)))
          (c.new-2.ensures n)
          ∙ ap (λ bs. first_by (cancel_by known n) (placed bs marks)) around;
      groups = λ n.
          ap (λ o. or_else o (first_by (group_by known n) (placed (map body_view c.new-bodies.result.items) marks)))
          (c.new-3.ensures n)
          ∙ ap (λ bs. first_by (group_by known n) (placed bs marks)) around;
      pointers = λ n.
          ap (λ o. or_else o (first_by (pointed_by known n) (placed (map body_view c.new-bodies.result.items) marks)))
          (c.new-4.ensures n)
          ∙ ap (λ bs. first_by (pointed_by known n) (placed bs marks)) around;
    }

pub loop-mark-preserved : goal.loop-mark-preserved
loop-mark-preserved c =
    let known = known_view c.args.known in
    record {
      compared = λ n.
          next_mark (compared_in n) (λ bs. refl) c.args.marks.now c.loop-mark.mark-index c.mark-item.result
          c.loop-mark-test.true c.mark-item.is c.loop-mark.bodies.items c.enter.new.bodies.items c.deref.result.now
          c.in_ok-enter.ensures c.deref.ensures.value _ _ _ (c.in_ok-add_mark.ensures.compared n)
          (c.loop-mark.invariant.compared n);
      cancels = λ n.
          next_mark (cancel_by known n) (λ bs. refl) c.args.marks.now c.loop-mark.mark-index c.mark-item.result
          c.loop-mark-test.true c.mark-item.is c.loop-mark.bodies.items c.enter.new.bodies.items c.deref.result.now
          c.in_ok-enter.ensures c.deref.ensures.value _ _ _ (c.in_ok-add_mark.ensures.cancels n)
          (c.loop-mark.invariant.cancels n);
      groups = λ n.
          next_mark (group_by known n) (λ bs. refl) c.args.marks.now c.loop-mark.mark-index c.mark-item.result
          c.loop-mark-test.true c.mark-item.is c.loop-mark.bodies.items c.enter.new.bodies.items c.deref.result.now
          c.in_ok-enter.ensures c.deref.ensures.value _ _ _ (c.in_ok-add_mark.ensures.groups n)
          (c.loop-mark.invariant.groups n);
      pointers = λ n.
          next_mark (pointed_by known n) (λ bs. refl) c.args.marks.now c.loop-mark.mark-index c.mark-item.result
          c.loop-mark-test.true c.mark-item.is c.loop-mark.bodies.items c.enter.new.bodies.items c.deref.result.now
          c.in_ok-enter.ensures c.deref.ensures.value _ _ _ (c.in_ok-add_mark.ensures.pointers n)
          (c.loop-mark.invariant.pointers n);
    }

pub returns : goal.returns
returns c =
    let known = known_view c.args.known in
    let bodies = map body_view c.loop-mark.bodies.items in
    record {
      compared = λ n.
          last_mark (compared_in n) (λ bs. refl) c.args.marks.now c.loop-mark.mark-index c.loop-mark-test.false bodies
          _ _ (c.loop-mark.invariant.compared n);
      cancels = λ n.
          last_mark (cancel_by known n) (λ bs. refl) c.args.marks.now c.loop-mark.mark-index c.loop-mark-test.false bodies
          _ _ (c.loop-mark.invariant.cancels n);
      groups = λ n.
          last_mark (group_by known n) (λ bs. refl) c.args.marks.now c.loop-mark.mark-index c.loop-mark-test.false bodies
          _ _ (c.loop-mark.invariant.groups n);
      pointers = λ n.
          last_mark (pointed_by known n) (λ bs. refl) c.args.marks.now c.loop-mark.mark-index c.loop-mark-test.false bodies
          _ _ (c.loop-mark.invariant.pointers n);
    }
