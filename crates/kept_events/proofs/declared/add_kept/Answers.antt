use Rattle.std.proofs.Common.{[], if◌then◌else◌, map, sym, ap, ◌∙◌}
use Rattle.mentions.specs.MarkViews.{body_view}
use Rattle.tracked.specs.LocalViews.{seen_view}
use Rattle.meaning.specs.Kept.{keep_event, object_kind_of}
use Rattle.kept.specs.KeptViews.{keep_view}
use Rattle.kept_forms.proofs.AddedParts.{ok_same, adds_none_of}
use Rattle.kept_events.proofs.declared.add_kept.Goals as goal

pub returns-then-not-belongs : goal.returns-then-not-belongs
returns-then-not-belongs c =
    let keep = keep_view c.args.keep.now in
    let event = keep_event (object_kind_of (seen_view c.args.here.around.seen.now)
    (map body_view c.args.here.around.bodies.now) keep.object) keep in
    adds_none_of _ _
    (ap (λ b. if b then event else []) (sym c.if-not-belongs.true ∙ c.belongs.ensures ∙ c.requires.knows.belongs keep))

pub returns : goal.returns
returns c =
    let keep = keep_view c.args.keep.now in
    let event = keep_event (object_kind_of (seen_view c.args.here.around.seen.now)
    (map body_view c.args.here.around.bodies.now) keep.object) keep in
    ok_same c.add_event.result _ _ _ _
    (c.keep_event.ensures ∙ ap (λ kind. keep_event kind keep) (c.in_ok-kind.ensures c.requires.sees.some_keep)
    ∙ ap (λ b. if b then event else []) (sym c.if-not-belongs.false ∙ c.belongs.ensures ∙ c.requires.knows.belongs keep))
    c.add_event.ensures
