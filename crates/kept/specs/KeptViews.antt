-- What the program keeps of fields that keep, and what it stands for.
use Rattle.std.specs.Prelude.{ℕ, ◌≡◌, ◌==◌, Bool, true, false, not, ◌&&◌, if◌then◌else◌, List, [], ◌∷◌, ◌++◌, Option, Some, None, is_some, map, flat_map}
use Rattle.std.specs.List.{list_any, list_all, filter}
use Rattle.std.specs.Str.{bytes_eq}
use Rattle.lists.specs.declared.Lists.{Lists}
use Rattle.lists.specs.ListViews.{items_at}
use Rattle.tree.specs.Syntax.{Expression, no_expression, expression_and, missing_expression}
use Rattle.kept.specs.declared.row.Keep.{Keep as KeptKeep}
use Rattle.kept.specs.declared.gathered.Write.{Write as KeptWrite}
use Rattle.kept.specs.declared.gathered.Gathered.{Gathered}
use Rattle.kept.specs.declared.sides.Sides.{Sides}
use Rattle.kept.specs.declared.of_file.Kept.{Kept}
use Rattle.tracked.specs.declared.seen.Seen.{Seen as KeptSeen}
use Rattle.tracked.specs.LocalViews.{SeenLocal, tracked_kind_of_entry, seen_view, Sees}
use Rattle.meaning.specs.Mentions.{RowForm, assigns, Row, BodyPlace, FieldLeft, Assigned, FieldMark, writes_field, hands_over, imports_all, Mark, of_fields}
use Rattle.meaning.specs.Tracked.{Known, some_keep, Placed}
use Rattle.meaning.specs.Objects.{local_named, unaddressed}
use Rattle.meaning.specs.Uses.{Seen, found, is_cancel, is_own}
use Rattle.meaning.specs.Kept.{Element, Gift, named_gift, element_gift, gifts, takes_it, gift_places, places_given, Keep, is_block_role, own_cancel, kept_in, carried, kept_element, stored_name, stored_keeps, object_kind_of, keeps_there, keeps_in, is_same_place, agrees, belongs, kept_of, is_of_body}

-- Forms

-- `.. = ..`, with one left side
abbrev pub assigns_one : RowForm → Bool
assigns_one (assigns (expression_and l no_expression)) = true
assigns_one form = false

-- the mark is of an import that brings names of its package
abbrev pub brings_names : FieldMark → Bool
brings_names imports_all = true
brings_names m = false

-- What is kept

abbrev pub keep_view : KeptKeep → Keep
keep_view k = record { variable = k.variable; object = k.object; field = k.field.now }

abbrev pub listed_keep : Option KeptKeep → List Keep
listed_keep None = []
listed_keep (Some k) = keep_view k ∷ []

abbrev pub AddsKeeps : List KeptKeep → List KeptKeep → List Keep → Type 0
AddsKeeps before after ks = map keep_view after ≡ map keep_view before ++ ks

-- the number of a local with what the marks of its file do to it, if the innermost body may keep what it holds
abbrev pub owned_entry : List BodyPlace → SeenLocal → Option ℕ
owned_entry bodies e =
    if is_cancel (tracked_kind_of_entry e) && (is_own e.local bodies && is_block_role e.local.role)
    then Some e.local.number else None

-- what `x.f = c` keeps, whatever f is, of that c
abbrev pub put_in : Seen → FieldLeft → Option ℕ → List Keep
put_in seen l variable =
    kept_in variable (unaddressed seen.known seen.marks (local_named seen.known l.object)) l.field.text

abbrev pub put_there : Seen → List BodyPlace → FieldLeft → Row → List Keep
put_there seen bodies l row = put_in seen l (own_cancel seen bodies (stored_name row.form row.values))

abbrev pub stored_keeps_by : Seen → List BodyPlace → FieldLeft → Option Assigned → List Keep
stored_keeps_by seen bodies l None = []
stored_keeps_by seen bodies l (Some a) =
    stored_keeps seen bodies l a.row (seen.known.object_lefts l.field.span.start)

abbrev pub field_keeps : Seen → List BodyPlace → FieldMark → List Keep
field_keeps seen bodies (writes_field l by) = stored_keeps_by seen bodies l by
field_keeps seen bodies m = []

-- it is kept in an object of the body
abbrev pub is_there : Seen → List BodyPlace → Keep → Bool
is_there seen bodies k = is_some (object_kind_of seen bodies k.object)

-- of what is kept that which is kept in objects of the body is added
abbrev pub AddsThere : Seen → List BodyPlace → List KeptKeep → List KeptKeep → List Keep → Type 0
AddsThere seen bodies before after ks = AddsKeeps before after (filter (is_there seen bodies) ks)

-- it puts something into a field that keeps
abbrev pub is_carried : Seen → List BodyPlace → Element → Bool
is_carried seen bodies e = is_some (carried seen bodies e)

-- of what elements of a literal keep that which is kept in objects of the body
abbrev pub element_keeps : Seen → List BodyPlace → Option ℕ → List Element → List Keep
element_keeps seen bodies x [] = []
element_keeps seen bodies x (e ∷ es) =
    filter (is_there seen bodies) (kept_element seen bodies x e) ++ element_keeps seen bodies x es

-- Writes

-- a field of the object of that number gets a value, and keeps this
pub record Write : Type 0 where
  pub object : ℕ
  pub field : List ℕ
  pub keeps : List Keep

abbrev pub write_view : KeptWrite → Write
write_view w = record { object = w.object; field = w.field.now; keeps = listed_keep w.keep }

abbrev pub written_in : Option ℕ → List ℕ → List Keep → List Write
written_in None f ks = []
written_in (Some x) f ks = record { object = x; field = f; keeps = ks } ∷ []

abbrev pub written_by : Known → FieldLeft → List Keep → List Write
written_by known l ks = written_in (local_named known l.object) l.field.text ks

abbrev pub writes_there : Seen → List BodyPlace → Mark → List Write
writes_there seen bodies (of_fields site (writes_field l by)) =
    written_by seen.known l (filter (is_there seen bodies) (stored_keeps_by seen bodies l by))
writes_there seen bodies mark = []

abbrev pub writes_among : Seen → List Placed → List Write
writes_among seen ps = flat_map (λ p. writes_there seen p.bodies p.mark) ps

abbrev pub writes_in : Seen → List Write
writes_in seen = writes_among seen seen.marks

abbrev pub keeps_among : Seen → List Placed → List Keep
keeps_among seen ps = flat_map (λ p. keeps_there seen p.bodies p.mark) ps

abbrev pub AddsWrites : List KeptWrite → List KeptWrite → List Write → Type 0
AddsWrites before after ws = map write_view after ≡ map write_view before ++ ws

pub record GathersMark (seen : Seen) (bodies : List BodyPlace) (mark : Mark) (before after : Gathered) : Type 0 where
  pub keeps : AddsKeeps before.keeps.items after.keeps.items (keeps_there seen bodies mark)
  pub writes : AddsWrites before.writes.items after.writes.items (writes_there seen bodies mark)

pub record Gathers (seen : Seen) (gathered : Gathered) : Type 0 where
  pub keeps : map keep_view gathered.keeps.items ≡ keeps_in seen
  pub writes : map write_view gathered.writes.items ≡ writes_in seen

-- the file was looked at, and some field keeps
pub record SeesKeeping (seen : KeptSeen) : Type 0 where
  pub sees : Sees seen
  pub some_keep : some_keep (seen_view seen).known.fields ≡ true

-- What belongs together

-- the write puts something else into that field of that object
abbrev pub is_spoiled_by : Keep → Write → Bool
is_spoiled_by k w =
    ((w.object == k.object) && bytes_eq w.field k.field) && not (list_any (is_same_place k) w.keeps)

abbrev pub keeps_at : Lists KeptKeep → ℕ → List Keep
keeps_at lists n = map keep_view (items_at lists n)

abbrev pub writes_at : Lists KeptWrite → ℕ → List Write
writes_at lists n = map write_view (items_at lists n)

-- the lists have these by the numbers of their variables and objects
pub record HasSides (ks : List Keep) (ws : List Write) (sides : Sides) : Type 0 where
  pub by_variable : (n : ℕ) → keeps_at sides.by_variable n ≡ filter (λ k. k.variable == n) ks
  pub by_object : (n : ℕ) → keeps_at sides.by_object n ≡ filter (λ k. k.object == n) ks
  pub writes : (n : ℕ) → writes_at sides.writes n ≡ filter (λ w. w.object == n) ws

abbrev pub belongs_in : Sides → Keep → Bool
belongs_in sides k =
    list_all (agrees k) (keeps_at sides.by_variable k.variable)
    && (list_all (agrees k) (keeps_at sides.by_object k.object)
    && not (list_any (is_spoiled_by k) (writes_at sides.writes k.object)))

abbrev pub is_declared_in : Seen → List BodyPlace → ℕ → Bool
is_declared_in seen bodies number = is_of_body bodies (found seen (Some number))

-- What is given where its address is taken

-- a name that stands there
abbrev pub is_name_at : ℕ → Gift → Bool
is_name_at at (named_gift n) = n.at == at
is_name_at at (element_gift e) = false

abbrev pub gives_at : ℕ → Expression → Bool
gives_at at e = list_any (is_name_at at) (gifts missing_expression e)

abbrev pub field_places : Known → FieldMark → List ℕ
field_places known (hands_over taker e) =
    if takes_it known taker then gift_places (gifts missing_expression e) else []
field_places known m = []

-- a mark in these bodies, the innermost of which declares x, gives it where its address is taken
abbrev pub gives_there : Seen → ℕ → ℕ → List BodyPlace → Mark → Bool
gives_there seen x at bodies mark =
    is_declared_in seen bodies x && list_any (λ n. n == at) (places_given seen.known mark)

-- A file

-- it knows what belongs together in the file
pub record KnowsKept (seen : Seen) (kept : Kept) : Type 0 where
  pub rows : map keep_view kept.rows.items ≡ kept_of seen
  pub together : (x : ℕ) → keeps_at kept.together x ≡ filter (λ k. k.object == x) (kept_of seen)
  pub belongs : (k : Keep) → belongs_in kept.sides k ≡ belongs seen k
