use Rattle.std.proofs.Common.{◌≡◌, Option, map, sym, ap, ◌∙◌}
use Rattle.std.specs.Prelude.{ℕ, ◌==◌}
use Rattle.facts.proofs.FactParts.{on_ok}
use Rattle.meaning.specs.BodyEvents.{is_around}
use Rattle.meaning.specs.Tracked.{is_variable, variable_of}
use Rattle.mentions.specs.MarkViews.{body_view, mention_view}
use Rattle.tracked.specs.LocalViews.{seen_view}
use Rattle.events.proofs.Bounds.{not_bound, no_variable, bound_there}
use Rattle.events.proofs.bound.add_mention.Goals as goal

pub returns-then-not-may_set : goal.returns-then-not-may_set
returns-then-not-may_set c = λ body number.
    let m = mention_view c.args.mention in
    not_bound _ (is_around body (map body_view c.args.bodies.now))
    (is_variable (variable_of (seen_view c.args.seen.now).known m) number) _
    (sym c.may_set.ensures ∙ c.if-not-may_set.true)

pub returns-in-Some : goal.returns-in-Some
returns-in-Some c =
    let m = mention_view c.args.mention in
    on_ok c.add_around.result
    (λ added body number.
    bound_there _ _ (is_around body (map body_view c.args.bodies.now))
    (is_variable (variable_of (seen_view c.args.seen.now).known m) number) (c.in-Some.number == number) _
    (sym c.may_set.ensures ∙ c.if-not-may_set.false)
    (ap (λ (o : Option ℕ). is_variable o number) (sym c.in-Some.is ∙ c.variable_of.ensures))
    (added body number))
    c.add_around.ensures

pub returns-in-None : goal.returns-in-None
returns-in-None c = λ body number.
    let m = mention_view c.args.mention in
    no_variable _ (is_around body (map body_view c.args.bodies.now))
    (is_variable (variable_of (seen_view c.args.seen.now).known m) number) _
    (ap (λ (o : Option ℕ). is_variable o number) (sym c.variable_of.ensures ∙ c.in-None.is))
