-- Parts of what a mark does, by what is kept of locals and of what belongs together.
use Rattle.std.proofs.Common.{◌≡◌, ℕ, ◌+◌, Bool, true, false, not, ◌&&◌, if◌then◌else◌, List, [], ◌∷◌, ◌++◌, map, flat_map, Option, Some, None, option_map, refl, sym, ap, ◌∙◌, subst, append_assoc, Bor}
use Rattle.std.specs.List.{filter}
use Rattle.std.proofs.lemmas.List.{append-nil}
use Rattle.meaning.specs.Mentions.{BodyPlace, Call, FieldLeft, Assigned, of_fields, writes_field}
use Rattle.meaning.specs.Tracked.{Local, ObjectLeft, row_obtains}
use Rattle.meaning.specs.Uses.{Seen, Event, row_binds, body_gives, cancel_type_of, has_its_arguments}
use Rattle.meaning.specs.Kept.{Gift, named_gift, element_gift, gifts, Keep, has_arguments_of, belongs, object_kind_of, keep_event, keeps_there, obtained_event, written_events, field_events, handed_in_fields}
use Rattle.meaning.specs.BodyEvents.{handed_item, handed_on}
use Rattle.meaning.specs.KeepingFields.{carried_field, carried_fields, gift_elements, item_elements, given_elements, obtained_fields}
use Rattle.tree.specs.declared.expression.Expr.{Expr}
use Rattle.tree.specs.Syntax.{Expression, Expressions, expression_and, missing_expression}
use Rattle.mentions.specs.declared.mark.Mark.{Mark as KeptMark}
use Rattle.mentions.specs.declared.mark.Mark.TheVariants.{Mentions, OfFields, RunsLiteral, Returns, Opens, Closes}
use Rattle.mentions.specs.declared.mark.Mention.{Mention as KeptMention}
use Rattle.mentions.specs.declared.mark.FieldMark.{FieldMark as KeptField}
use Rattle.mentions.specs.declared.mark.FieldMark.TheVariants.{CallsField, WritesField, HandsOver, HandsLiteral, Renews, ImportsAll}
use Rattle.mentions.specs.declared.mark.Taker.{Taker as KeptTaker}
use Rattle.mentions.specs.MarkViews.{field_mark_view, mark_view}
use Rattle.tracked.specs.LocalViews.{SeenLocal, entry_of}
use Rattle.kept.specs.KeptViews.{is_there, stored_keeps_by}
use Rattle.tracked_rows.specs.declared.event.Event.{Event as KeptEvent}
use Rattle.kept_events.specs.KeptEventViews.{AddsEvents, kept_event, kept_events, gift_names, value_names, obtained_all, written_all, kept_names, is_told, object_part, assigned_names}

-- Arguments of a call

abbrev has_by_entry : Seen → Call → Option SeenLocal → Bool
has_by_entry s c None = false
has_by_entry s c (Some e) = has_its_arguments (cancel_type_of s e.local) c

pub has_found : (s : Seen) (c : Call) (o : Option Local) (e : SeenLocal) → Some e ≡ option_map (entry_of s) o
    → (has : Bool) → has ≡ has_its_arguments (cancel_type_of s e.local) c → has ≡ has_arguments_of s o c
has_found s c None e is has same = cc
has_found s c (Some l) e is has same = same ∙ ap (has_by_entry s c) is

pub has_none : (s : Seen) (c : Call) (o : Option Local) → None ≡ option_map (entry_of s) o → false ≡ has_arguments_of s o c
has_none s c None is = refl
has_none s c (Some l) is = cc

-- What belongs together

flat-append : {X Y : Type 0} (f : X → List Y) (xs ys : List X) → flat_map f (xs ++ ys) ≡ flat_map f xs ++ flat_map f ys
flat-append f [] ys = refl
flat-append f (x ∷ xs) ys = ap (λ l. f x ++ l) (flat-append f xs ys) ∙ sym (append_assoc (f x) (flat_map f xs) (flat_map f ys))

module _ (s : Seen) (bs : List BodyPlace) where
  abbrev event_of : Keep → List Event
  event_of k = keep_event (object_kind_of s bs k.object) k

  pub all_kept : (ks : List Keep) → kept_events s bs ks ≡ flat_map event_of (filter (belongs s) ks)
  all_kept [] = refl
  all_kept (k ∷ ks) = by (belongs s k) (all_kept ks)
    where
      by : (b : Bool) → kept_events s bs ks ≡ flat_map event_of (filter (belongs s) ks)
          → (if b then event_of k else []) ++ kept_events s bs ks
          ≡ flat_map event_of (if b then k ∷ filter (belongs s) ks else filter (belongs s) ks)
      by true rest = ap (λ l. event_of k ++ l) rest
      by false rest = rest

  -- an assignment to a field
  module _ (l : FieldLeft) (a : Assigned) where
    either_none : (b : Bool) → [] ≡ (if b then map (obtained_event s l a) [] else [])
    either_none true = refl
    either_none false = refl

    pub none_written : (o : Option ObjectLeft) → [] ≡ written_all s bs l a o []
    none_written None = refl
    none_written (Some o) = either_none (row_obtains s.known a.row a.left_side && row_binds s a.row)

    written_by_left : (site : ℕ) (o : Option ObjectLeft)
        → written_all s bs l a o (keeps_there s bs (of_fields site (writes_field l (Some a))))
        ≡ written_events s bs (of_fields site (writes_field l (Some a))) l a o
    written_by_left site None = all_kept (keeps_there s bs (of_fields site (writes_field l (Some a))))
    written_by_left site (Some o) = refl

    pub all_written : (site : ℕ) (ks : List Keep) → ks ≡ filter (is_there s bs) (stored_keeps_by s bs l (Some a))
        → written_all s bs l a (s.known.object_lefts l.field.span.start) ks
        ≡ written_events s bs (of_fields site (writes_field l (Some a))) l a (s.known.object_lefts l.field.span.start)
    all_written site ks same =
        ap (written_all s bs l a (s.known.object_lefts l.field.span.start)) same
        ∙ written_by_left site (s.known.object_lefts l.field.span.start)

    pub kept_written : (k : Keep) (o : Option ObjectLeft) → o ≡ s.known.object_lefts l.field.span.start → o ≡ None
        → kept_event s bs k ≡ written_all s bs l a (s.known.object_lefts l.field.span.start) (k ∷ [])
    kept_written k o lefts none =
        sym (append-nil (kept_event s bs k)) ∙ ap (λ x. written_all s bs l a x (k ∷ [])) (sym none ∙ lefts)

    pub obtained_written : (ks : List Keep) (o : Option ObjectLeft) (x : ObjectLeft)
        → o ≡ s.known.object_lefts l.field.span.start → o ≡ Some x
        → obtained_all s l a ks ≡ written_all s bs l a (s.known.object_lefts l.field.span.start) ks
    obtained_written ks o x lefts some = ap (λ y. written_all s bs l a y ks) (sym some ∙ lefts)

-- Names

pub all_names : (s : Seen) (ks : List Keep) → kept_names s ks ≡ map (λ k. k.field) (filter (is_told s) ks)
all_names s [] = refl
all_names s (k ∷ ks) = by (is_told s k) (all_names s ks)
  where
    by : (b : Bool) → kept_names s ks ≡ map (λ q. q.field) (filter (is_told s) ks)
        → (if b then k.field ∷ [] else []) ++ kept_names s ks
        ≡ map (λ q. q.field) (if b then k ∷ filter (is_told s) ks else filter (is_told s) ks)
    by true rest = ap (λ l. k.field ∷ l) rest
    by false rest = rest

-- A mark of fields

pub fields_added : (s : Seen) (bs : List BodyPlace) (m : KeptMark) (site : ℕ) (f : Bor KeptField) → m ≡ OfFields site f
    → (before after : List KeptEvent)
    → ((at : ℕ) → AddsEvents before after (field_events s bs (of_fields at (field_mark_view f.now)) (field_mark_view f.now)))
    → AddsEvents before after (object_part s bs (mark_view m))
fields_added s bs m site f is before after adds =
    subst (λ (n : KeptMark). AddsEvents before after (object_part s bs (mark_view n))) (sym is) (adds site)

-- Other marks

pub no_object : (s : Seen) (bs : List BodyPlace) (m : KeptMark) → ((n : KeptMention) → m ≡ Mentions n → ⊥)
    → ((site : ℕ) (f : Bor KeptField) → m ≡ OfFields site f → ⊥) → [] ≡ object_part s bs (mark_view m)
no_object s bs (Mentions n) mention field = absurd (mention n refl)
no_object s bs (OfFields site f) mention field = absurd (field site f refl)
no_object s bs (RunsLiteral moment site at) mention field = refl
no_object s bs (Returns at es) mention field = refl
no_object s bs (Opens b) mention field = refl
no_object s bs Closes mention field = refl

pub no_obtained : (s : Seen) (m : KeptMark) → ((site : ℕ) (f : Bor KeptField) → m ≡ OfFields site f → ⊥)
    → [] ≡ obtained_fields s (mark_view m)
no_obtained s (OfFields site f) field = absurd (field site f refl)
no_obtained s (Mentions n) field = refl
no_obtained s (RunsLiteral moment site at) field = refl
no_obtained s (Returns at es) field = refl
no_obtained s (Opens b) field = refl
no_obtained s Closes field = refl

pub no_given : (s : Seen) (m : KeptMark) → ((site : ℕ) (f : Bor KeptField) → m ≡ OfFields site f → ⊥)
    → ((at : ℕ) (es : Bor (List Expr)) → m ≡ Returns at es → ⊥) → [] ≡ given_elements s (mark_view m)
no_given s (OfFields site f) field returned = absurd (field site f refl)
no_given s (Returns at es) field returned = absurd (returned at es refl)
no_given s (Mentions n) field returned = refl
no_given s (RunsLiteral moment site at) field returned = refl
no_given s (Opens b) field returned = refl
no_given s Closes field returned = refl

pub no_field_given : (s : Seen) (site : ℕ) (m : KeptField)
    → ((taker : KeptTaker) (e : Bor Expr) → m ≡ HandsOver taker e → ⊥) → [] ≡ given_elements s (of_fields site (field_mark_view m))
no_field_given s site (HandsOver taker e) not = absurd (not taker e refl)
no_field_given s site (CallsField f) not = refl
no_field_given s site (WritesField l a) not = refl
no_field_given s site (HandsLiteral taker at) not = refl
no_field_given s site (Renews number) not = refl
no_field_given s site ImportsAll not = refl

-- Elements that carry what was obtained

pub all_carried : (s : Seen) (bs : List BodyPlace) (gs : List Gift)
    → gift_names s bs gs ≡ carried_fields s bs (gift_elements gs)
all_carried s bs [] = refl
all_carried s bs (named_gift n ∷ gs) = all_carried s bs gs
all_carried s bs (element_gift e ∷ gs) = ap (λ l. carried_field s bs e ++ l) (all_carried s bs gs)

pub all_values : (s : Seen) (bs : List BodyPlace) (es : List Expression)
    → value_names s bs es ≡ carried_fields s bs (item_elements es)
all_values s bs [] = refl
all_values s bs (e ∷ es) =
    ap (λ l. carried_fields s bs (gift_elements (gifts missing_expression e)) ++ l) (all_values s bs es)
    ∙ sym (flat-append (carried_field s bs) (gift_elements (gifts missing_expression e)) (item_elements es))

-- Items of a return

pub handed_first : (s : Seen) (bs : List BodyPlace) (k : ℕ) (e : Expression) (es : Expressions)
    → handed_on s bs k (expression_and e es)
    ≡ (handed_item s (body_gives s.known bs) k e ++ handed_in_fields s bs k e) ++ handed_on s bs (k + 1) es
handed_first s bs k e es =
    sym (append_assoc (handed_item s (body_gives s.known bs) k e) (handed_in_fields s bs k e) (handed_on s bs (k + 1) es))

pub field_names : (s : Seen) (site : ℕ) (m : KeptField)
    → assigned_names s.known (field_mark_view m) ≡ obtained_fields s (of_fields site (field_mark_view m))
field_names s site (WritesField l (Some a)) = refl
field_names s site (WritesField l None) = refl
field_names s site (CallsField f) = refl
field_names s site (HandsOver taker e) = refl
field_names s site (HandsLiteral taker at) = refl
field_names s site (Renews number) = refl
field_names s site ImportsAll = refl
