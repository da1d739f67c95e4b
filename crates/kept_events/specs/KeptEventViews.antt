-- What the program adds of events, handed variables and names, and what it knows of a file in which fields keep.
use Rattle.std.specs.Prelude.{ℕ, ◌≡◌, ◌==◌, Bool, true, false, not, ◌&&◌, if◌then◌else◌, List, [], ◌∷◌, ◌++◌, Option, Some, None, is_some, map, flat_map}
use Rattle.std.specs.Borrow.{Bor}
use Rattle.std.specs.List.{list_any, filter}
use Rattle.std.specs.Str.{bytes_eq}
use Rattle.tree.specs.Syntax.{Expression, missing_expression}
use Rattle.kept.specs.declared.of_file.Kept.{Kept}
use Rattle.kept.specs.KeptViews.{KnowsKept, SeesKeeping}
use Rattle.kept_events.specs.declared.file.FileKept.{FileKept}
use Rattle.kept_events.specs.declared.here.Here.{Here}
use Rattle.tracked.specs.declared.seen.Seen.{Seen as KeptSeen}
use Rattle.tracked.specs.LocalViews.{seen_view, Sees}
use Rattle.tracked_rows.specs.declared.event.Event.{Event as KeptEvent}
use Rattle.tracked_rows.specs.declared.event.Handed.{Handed as KeptHanded}
use Rattle.tracked_rows.specs.EventViews.{event_view, handed_view}
use Rattle.meaning.specs.Mentions.{Call, BodyPlace, FieldLeft, Assigned, FieldMark, writes_field, Mark, mentions, of_fields, returns}
use Rattle.meaning.specs.Tracked.{Known, some_keep, ObjectLeft, row_obtains}
use Rattle.meaning.specs.Uses.{Seen, found, row_binds, Event, return_event, Handed}
use Rattle.meaning.specs.BodyEvents.{handed_on}
use Rattle.meaning.specs.Kept.{Gift, named_gift, element_gift, gifts, Keep, belongs, object_kind_of, has_arguments_of, keep_event, kept_there, give_all, obtained_event, object_events, field_events}
use Rattle.meaning.specs.KeepingFields.{is_obtained_in, gift_elements, carried_field, carried_fields}

-- What is known of a file

-- it is known what is kept, or no field keeps
abbrev pub MayKeep : KeptSeen → Option Kept → Type 0
MayKeep seen None = some_keep (seen_view seen).known.fields ≡ false
MayKeep seen (Some kept) = (some_keep (seen_view seen).known.fields ≡ true) × KnowsKept (seen_view seen) kept

pub record KnowsFile (file : FileKept) : Type 0 where
  pub sees : Sees file.seen.now
  pub keeps : MayKeep file.seen.now file.kept.now

-- some field keeps, and it is known what is kept
pub record KnowsHere (here : Here) : Type 0 where
  pub sees : SeesKeeping here.around.seen.now
  pub knows : KnowsKept (seen_view here.around.seen.now) here.kept.now

-- What is added

abbrev pub AddsEvents : List KeptEvent → List KeptEvent → List Event → Type 0
AddsEvents before after es = map event_view after ≡ map event_view before ++ es

abbrev pub AddsHanded : List KeptHanded → List KeptHanded → List Handed → Type 0
AddsHanded before after hs = map handed_view after ≡ map handed_view before ++ hs

abbrev pub AddsNames : List (Bor (List ℕ)) → List (Bor (List ℕ)) → List (List ℕ) → Type 0
AddsNames before after ns = map (λ (n : Bor (List ℕ)). n.now) after ≡ map (λ (n : Bor (List ℕ)). n.now) before ++ ns

-- Events

-- the call of a field of that name is one of what is kept
abbrev pub is_call_of : Seen → List ℕ → Call → Keep → Bool
is_call_of seen m c k = bytes_eq k.field m && has_arguments_of seen (found seen (Some k.variable)) c

-- what it does that this is kept, if it belongs together
abbrev pub kept_event : Seen → List BodyPlace → Keep → List Event
kept_event seen bodies k = if belongs seen k then keep_event (object_kind_of seen bodies k.object) k else []

abbrev pub kept_events : Seen → List BodyPlace → List Keep → List Event
kept_events seen bodies [] = []
kept_events seen bodies (k ∷ ks) = kept_event seen bodies k ++ kept_events seen bodies ks

-- what a row does that obtains into a field, if it binds what it obtains
abbrev pub obtained_all : Seen → FieldLeft → Assigned → List Keep → List Event
obtained_all seen l a ks =
    if row_obtains seen.known a.row a.left_side && row_binds seen a.row
    then map (obtained_event seen l a) ks else []

-- what a row does that keeps these in a field
abbrev pub written_all : Seen → List BodyPlace → FieldLeft → Assigned → Option ObjectLeft → List Keep → List Event
written_all seen bodies l a None ks = kept_events seen bodies ks
written_all seen bodies l a (Some o) ks = obtained_all seen l a ks

-- the events of a mark that are about objects
abbrev pub object_part : Seen → List BodyPlace → Mark → List Event
object_part seen bodies (mentions m) = object_events seen bodies m
object_part seen bodies (of_fields site m) = field_events seen bodies (of_fields site m) m
object_part seen bodies mark = []

-- the event of a return
abbrev pub return_part : Seen → List BodyPlace → Mark → List Event
return_part seen bodies (returns at es) = return_event (handed_on seen bodies 0 es) ∷ []
return_part seen bodies mark = []

-- the events of a mark that are about objects, or of a return
abbrev pub kept_part : Seen → List BodyPlace → Mark → List Event
kept_part seen bodies mark = return_part seen bodies mark ++ object_part seen bodies mark

-- What literals give

abbrev pub is_among : List ℕ → ℕ → Bool
is_among ns n = list_any (λ m. m == n) ns

-- what is kept in the local of that number is given
abbrev pub gives_first : Seen → List BodyPlace → ℕ → List Event
gives_first seen bodies x = give_all (kept_there seen bodies (Some x))

-- what these locals give that were not given yet
abbrev pub gives_left : Seen → List BodyPlace → List ℕ → List ℕ → List Event
gives_left seen bodies given ns =
    flat_map (gives_first seen bodies) (filter (λ n. not (is_among given n)) ns)

-- a local is given where it comes first: what was added, with what the rest gives, is what it and the rest give
abbrev pub AddsFirst
    : Seen → List BodyPlace → ℕ → List ℕ → List ℕ → List KeptEvent → List KeptEvent → Type 0
AddsFirst seen bodies x given given_after before after = (rest : List ℕ)
    → map event_view after ++ gives_left seen bodies given_after rest
    ≡ map event_view before ++ gives_left seen bodies given (x ∷ filter (λ n. not (n == x)) rest)

-- Returns

abbrev pub handed_keeps : ℕ → List Keep → List Handed
handed_keeps k ks = map (λ q. record { number = q.variable; position = k; object = Some q.object }) ks

-- Names of fields

abbrev pub is_told : Seen → Keep → Bool
is_told seen k = belongs seen k && is_obtained_in seen k.variable

abbrev pub kept_name : Seen → Keep → List (List ℕ)
kept_name seen k = if is_told seen k then k.field ∷ [] else []

abbrev pub kept_names : Seen → List Keep → List (List ℕ)
kept_names seen [] = []
kept_names seen (k ∷ ks) = kept_name seen k ++ kept_names seen ks

-- the fields in which these gifts carry what was obtained
abbrev pub gift_name : Seen → List BodyPlace → Gift → List (List ℕ)
gift_name seen bodies (named_gift n) = []
gift_name seen bodies (element_gift e) = carried_field seen bodies e

abbrev pub gift_names : Seen → List BodyPlace → List Gift → List (List ℕ)
gift_names seen bodies [] = []
gift_names seen bodies (g ∷ gs) = gift_name seen bodies g ++ gift_names seen bodies gs

-- those in which these expressions do
abbrev pub value_names : Seen → List BodyPlace → List Expression → List (List ℕ)
value_names seen bodies [] = []
value_names seen bodies (e ∷ es) =
    carried_fields seen bodies (gift_elements (gifts missing_expression e)) ++ value_names seen bodies es

-- the field, if a maker or giver gives into it
abbrev pub left_name : Known → FieldLeft → List (List ℕ)
left_name known l = if is_some (known.object_lefts l.field.span.start) then l.field.text ∷ [] else []

abbrev pub assigned_names : Known → FieldMark → List (List ℕ)
assigned_names known (writes_field l (Some a)) = left_name known l
assigned_names known m = []
