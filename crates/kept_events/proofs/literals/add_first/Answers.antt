use Rattle.std.proofs.Common.{List, ◌++◌, map, sym, ap, ◌∙◌, append_assoc}
use Rattle.facts.proofs.FactParts.{on_ok}
use Rattle.mentions.specs.MarkViews.{body_view}
use Rattle.tracked.specs.LocalViews.{seen_view}
use Rattle.tracked_rows.specs.EventViews.{event_view}
use Rattle.meaning.specs.Uses.{Event}
use Rattle.meaning.specs.Kept.{give_all}
use Rattle.kept.specs.KeptViews.{keep_view}
use Rattle.kept_events.specs.KeptEventViews.{is_among, gives_first, gives_left}
use Rattle.kept_events.proofs.FirstGiven.{given_before, gives_nothing, given_first, none_viewed}
use Rattle.kept_events.proofs.literals.add_first.Goals as goal

pub returns-then-is_empty : goal.returns-then-is_empty
returns-then-is_empty c = λ rest.
    let seen = seen_view c.args.here.around.seen.now in
    let bodies = map body_view c.args.here.around.bodies.now in
    ap (λ l. map event_view c.args.events.now.items ++ l)
    (gives_nothing seen bodies c.args.given.now.items c.args.mention.now.number rest
    (ap give_all (sym c.kept_there-keeps.ensures ∙ none_viewed keep_view c.kept_there-keeps.result.now c.if-is_empty.ensures)))

pub returns-then-is_among : goal.returns-then-is_among
returns-then-is_among c = λ rest.
    let seen = seen_view c.args.here.around.seen.now in
    let bodies = map body_view c.args.here.around.bodies.now in
    ap (λ l. map event_view c.args.events.now.items ++ l)
    (given_before seen bodies c.args.given.now.items c.args.mention.now.number rest
    (ap (λ ns. is_among ns c.args.mention.now.number) (sym c.deref.ensures.value) ∙ sym c.is_among.ensures ∙ c.if-is_among.true))

pub returns : goal.returns
returns c =
    let seen = seen_view c.args.here.around.seen.now in
    let bodies = map body_view c.args.here.around.bodies.now in
    on_ok c.give_all.result
    (λ added rest.
    let before : List Event = map event_view c.args.events.now.items in
    ap (λ l. l ++ gives_left seen bodies c.push.new.self.items rest) (added ∙ ap (λ l. before ++ give_all l) c.kept_there-keeps.ensures)
    ∙ (append_assoc before (gives_first seen bodies c.args.mention.now.number) (gives_left seen bodies c.push.new.self.items rest)
    ∙ ap (λ l. before ++ l)
    (ap (λ ns. gives_first seen bodies c.args.mention.now.number ++ gives_left seen bodies ns rest) c.in_ok-push.ensures.items
    ∙ given_first seen bodies c.args.given.now.items c.args.mention.now.number rest
    (ap (λ ns. is_among ns c.args.mention.now.number) (sym c.deref.ensures.value) ∙ sym c.is_among.ensures ∙ c.if-is_among.false))))
    c.give_all.ensures
