use Rattle.std.proofs.Common.{◌≡◌, ◌==◌, ◌&&◌, Bool, true, false, if◌then◌else◌, List, map, refl, sym, ap, ◌∙◌, subst}
use Rattle.std.specs.List.{list_any}
use Rattle.tracked_rows.specs.EventViews.{callee_view, event_view, sent_view}
use Rattle.tracked_rows.specs.declared.event.Event.{Event}
use Rattle.tracked_rows.specs.declared.event.Sent.{Sent}
use Rattle.meaning.specs.Classes.{safe, change_cancel}
use Rattle.bodies.specs.declared.cancels.CancelClass.{CancelClass}
use Rattle.bodies.specs.ClassViews.{cancel_class_view}
use Rattle.bodies.proofs.cancels.change_cancel.Goals as goal

view_of_either : (b : Bool) (to from : CancelClass)
    → cancel_class_view (if b then to else from) ≡ (if b then cancel_class_view to else cancel_class_view from)
view_of_either true to from = refl
view_of_either false to from = refl

pub returns-in-GoPass : goal.returns-in-GoPass
returns-in-GoPass g c =
    let promises = g.P.Promises.promises c.args.promises.now in
    let calls = λ (xs : List Sent). list_any (λ x. (x.number == c.args.variable) && promises.calls
    (callee_view c.in-GoPass.callee) x.position) (map sent_view xs) in
    let before = cancel_class_view c.args.class in
    subst (λ (e : Event). cancel_class_view c.changed_if-in-GoPass.result
    ≡ change_cancel promises c.args.variable (event_view e) before)
    (sym c.in-GoPass.is)
    (ap cancel_class_view c.changed_if-in-GoPass.ensures
    ∙ view_of_either c.is_called_there.result _ c.args.class
    ∙ ap (λ b. if b then safe else before) (c.is_called_there.ensures ∙ ap calls c.deref.ensures.value))
