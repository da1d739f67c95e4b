use Rattle.std.proofs.Common.{◌≡◌, [], IfOk, map, option_map, subst, sym, ap, ◌∙◌}
use Rattle.meaning.specs.Tracked.{placed}
use Rattle.mentions.specs.MarkViews.{body_view, marks_view}
use Rattle.objects.specs.ObjectViews.{kind_there, unbound_at}
use Rattle.tracked.specs.LocalViews.{local_view, object_kind_view, unbound_local}
use Rattle.tracked_rows.specs.RowViews.{known_view}
use Rattle.objects.proofs.ObjectKinds.{kind-there}
use Rattle.objects.proofs.looked.object_in.Goals.{in-Some, in-None}
use Rattle.objects.proofs.looked.object_in.Goals as goal

pub returns : goal.returns
returns c = λ keeps.
    let known = known_view c.args.seen.now.known in
    let marks = placed [] (marks_view c.args.seen.now.marks.items) in
    let bodies = map body_view c.args.bodies.now in
    let found : option_map local_view c.match-number.unbound ≡ unbound_at (unbound_local known marks) c.args.number =
    elim c.match-number.branch [
      | in-Some w ↦ ap (option_map local_view) w.unbound-is ∙ w.unbound-unbound.ensures keeps
          ∙ ap (unbound_at (unbound_local known marks)) (sym w.in-Some.is)
      | in-None w ↦ ap (option_map local_view) w.unbound-is ∙ ap (unbound_at (unbound_local known marks)) (sym w.in-None.is)
    ] in
    subst (λ k. IfOk c.kind_there.result (λ kind. option_map object_kind_view kind ≡ k))
    (ap (kind_there bodies) found ∙ kind-there known marks bodies c.args.number) c.kind_there.ensures
