use Rattle.std.proofs.Common.{ℕ, List, Option, option_map, map, flat_map, sym, ap, ◌∙◌, Bor}
use Rattle.mentions.specs.MarkViews.{body_view, call_view, mention_view}
use Rattle.tracked.specs.LocalViews.{seen_view}
use Rattle.meaning.specs.Kept.{field_call, field_calls, kept_there}
use Rattle.kept_forms.proofs.AddedParts.{ok_same}
use Rattle.kept_events.proofs.called.add_called.Goals as goal

pub returns-in-Some : goal.returns-in-Some
returns-in-Some c =
    let seen = seen_view c.args.here.around.seen.now in
    let bodies = map body_view c.args.here.around.bodies.now in
    ok_same c.add_field_calls.result _ _ _ _
    (ap (flat_map (field_call seen c.in-Some.field.now (call_view c.args.call)))
    (c.kept_there-keeps.ensures ∙ ap (kept_there seen bodies) c.variable_of.ensures)
    ∙ ap (λ (o : Option (Bor (List ℕ))). field_calls seen bodies (mention_view c.args.mention) (option_map (λ (n : Bor (List ℕ)). n.now) o)
    (call_view c.args.call)) (sym c.in-Some.is))
    c.add_field_calls.ensures
