-- Events of marks: those that stand by themselves, and then calls behind a row with an error.
use Rattle.std.proofs.Common.{◌≡◌, ℕ, ◌+◌, ◌<◌, ◌≤◌, Bool, true, false, List, [], ◌∷◌, ◌++◌, length, get_or, drop, map, refl, sym, ap, ◌∙◌, append_assoc}
use Rattle.std.proofs.lemmas.List.{append-nil, at_drop_all}
use Rattle.tree.proofs.Depths.{drop_item}
use Rattle.meaning.specs.Mentions.{BodyPlace, Mark, mentions, of_fields, runs_literal, returns, opens, closes}
use Rattle.meaning.specs.Uses.{Seen, Event, call}
use Rattle.meaning.specs.BodyEvents.{literal_events, mark_events}
use Rattle.uses.specs.OutcomeViews.{plain_events, error_calls, sent_part}
use Rattle.tracked_rows.specs.declared.event.Event.{Event as KeptEvent}
use Rattle.tracked_rows.specs.EventViews.{event_view}
use Rattle.events.specs.ToldViews.{if_there}
use Rattle.kept_events.specs.KeptEventViews.{kept_part}
use Rattle.events.proofs.Grown.{grows, grown}

pub events_split : (s : Seen) (bs : List BodyPlace) (m : Mark)
    → plain_events s bs m ++ (error_calls s m ++ (kept_part s bs m ++ sent_part s bs m)) ≡ mark_events s bs m
events_split s bs (mentions m) = refl
events_split s bs (of_fields site m) = append-nil (kept_part s bs (of_fields site m))
events_split s bs (runs_literal moment site at) = append-nil (literal_events s.known.edition moment at)
events_split s bs (returns at es) = refl
events_split s bs (opens b) = refl
events_split s bs closes = refl

both_there : (b : Bool) (xs ys : List Event) → if_there b xs ++ if_there b ys ≡ if_there b (xs ++ ys)
both_there true xs ys = refl
both_there false xs ys = refl

-- some events, and then others
pub then_more : (b : Bool) (before between after xs ys : List Event) → between ≡ before ++ if_there b xs
    → after ≡ between ++ if_there b ys → after ≡ before ++ if_there b (xs ++ ys)
then_more b before between after xs ys first others =
    others ∙ ap (λ l. l ++ if_there b ys) first ∙ append_assoc before (if_there b xs) (if_there b ys)
    ∙ ap (λ l. before ++ l) (both_there b xs ys)

-- others, then others, then others
pub three_there : (b : Bool) (before one two after xs ys zs : List Event) → one ≡ before ++ if_there b xs
    → two ≡ one ++ if_there b ys → after ≡ two ++ if_there b zs → after ≡ before ++ if_there b (xs ++ (ys ++ zs))
three_there b before one two after xs ys zs first second third =
    then_more b before one after xs (ys ++ zs) first (then_more b one two after ys zs second third)

-- and others
pub four_there : (b : Bool) (before one two three after ws xs ys zs : List Event) → one ≡ before ++ if_there b ws
    → two ≡ one ++ if_there b xs → three ≡ two ++ if_there b ys → after ≡ three ++ if_there b zs
    → after ≡ before ++ if_there b (ws ++ (xs ++ (ys ++ zs)))
four_there b before one two three after ws xs ys zs first second third fourth =
    then_more b before one after ws (xs ++ (ys ++ zs)) first (three_there b one two three after xs ys zs second third fourth)

-- one event more, in a loop
pub one_more : (b : Bool) (before after : List Event) (e : Event) (rest whole : List Event)
    → after ≡ before ++ if_there b (e ∷ []) → before ++ if_there b (e ∷ rest) ≡ whole → after ++ if_there b rest ≡ whole
one_more b before after e rest whole added so_far =
    grows before after (if_there b (e ∷ [])) (if_there b (e ∷ rest)) (if_there b rest) whole added
    (sym (both_there b (e ∷ []) rest)) so_far

-- the same of a call of the variable at the place that the loop has come to
pub one_call : (b : Bool) (variables : List ℕ) (i v : ℕ) → i < length variables → v ≡ get_or variables i v
    → (before after whole : List Event) → after ≡ before ++ if_there b (call v ∷ [])
    → before ++ if_there b (map call (drop i variables)) ≡ whole
    → after ++ if_there b (map call (drop (i + 1) variables)) ≡ whole
one_call b variables i v within is before after whole added so_far =
    one_more b before after (call v) (map call (drop (i + 1) variables)) whole added
    (ap (λ (vs : List ℕ). before ++ if_there b (map call vs)) (sym (drop_item variables i v within is)) ∙ so_far)

none_there : (b : Bool) → if_there {A = Event} b [] ≡ []
none_there true = refl
none_there false = refl

pub none_left : (b : Bool) (variables : List ℕ) (i : ℕ) → length variables ≤ i → (added whole : List Event)
    → added ++ if_there b (map call (drop i variables)) ≡ whole → added ≡ whole
none_left b variables i past added whole so_far =
    grown added (if_there b (map call (drop i variables))) whole
    (at_drop_all (λ (vs : List ℕ). if_there b (map call vs)) variables i past ∙ none_there b) so_far

-- no event is left, in a loop
pub none_of_left : (b : Bool) (left : List KeptEvent) → left ≡ [] → (added whole : List Event)
    → added ++ if_there b (map event_view left) ≡ whole → added ≡ whole
none_of_left b left none added whole so_far =
    grown added (if_there b (map event_view left)) whole
    (ap (λ (es : List KeptEvent). if_there b (map event_view es)) none ∙ none_there b) so_far

-- the first of those that are left
pub next_of_left : (b : Bool) (before left : List KeptEvent) (e : KeptEvent) → before ≡ e ∷ left
    → (added next whole : List Event) → next ≡ added ++ if_there b (event_view e ∷ [])
    → added ++ if_there b (map event_view before) ≡ whole → next ++ if_there b (map event_view left) ≡ whole
next_of_left b before left e steps added next whole adds so_far =
    one_more b added next (event_view e) (map event_view left) whole adds
    (ap (λ (es : List KeptEvent). added ++ if_there b (map event_view es)) (sym steps) ∙ so_far)
