-- Files of which no mark may put a cancel function into a field. What they say of fields is said by their marks alone:
-- a field gets a cancel function by a call of a maker or a giver, or of a local that a row obtains from one, or
-- declares with the type of one.
-- (This tool's rules.)
use Rattle.std.specs.Prelude.{ℕ, ◌==◌, ◌||◌, Bool, false, if◌then◌else◌, List, [], ◌∷◌, Option, Some, None, is_some, flat_map, codes}
use Rattle.std.specs.List.{list_any}
use Rattle.tree.specs.Syntax.{Expression, missing_expression}
use Rattle.meaning.specs.FunctionFacts.{listed, means_universe}
use Rattle.meaning.specs.Mentions.{as_bare, Named, Row, Role, Mention, BodyPlace, FieldLeft, Assigned, FieldMark, calls_field, writes_field, hands_over, Mark, mentions, of_fields, returns, opens}
use Rattle.meaning.specs.Tracked.{Known, variable_of, only_call, call_giving, role_typed, is_obtained_by, placed}
use Rattle.meaning.specs.Objects.{local_named}
use Rattle.meaning.specs.Kept.{Element, Gift, named_gift, element_gift, gifts, role_fields, some_bare}
use Rattle.meaning.specs.KeepingFields.{value_at}
use Rattle.keeping.specs.Notes.{one_note, called_note, key_notes, method_notes}
use Rattle.noted_fields.specs.NotedFields.{Note, is_spoiled, is_filled}

-- Calls of makers and givers

abbrev pub row_gives : Known → Row → Bool
row_gives known row = is_some (call_giving known (only_call row row.values))

abbrev pub assigned_gives : Known → Option Assigned → Bool
assigned_gives known None = false
assigned_gives known (Some a) = row_gives known a.row

abbrev pub field_gives : Known → FieldMark → Bool
field_gives known (writes_field l by) = assigned_gives known by
field_gives known m = false

abbrev pub mark_gives : Known → Mark → Bool
mark_gives known (of_fields site m) = field_gives known m
mark_gives known mark = false

-- Locals that may be cancel variables

abbrev pub may_be_cancel : Known → Mention → Bool
may_be_cancel known m = is_obtained_by known m m.role || is_some (role_typed known m.role)

abbrev pub number_list : Option ℕ → List ℕ
number_list None = []
number_list (Some n) = n ∷ []

abbrev pub mentioned_cancels : Known → Mention → List ℕ
mentioned_cancels known m = if may_be_cancel known m then number_list (variable_of known m) else []

abbrev pub cancels_there : Known → Mark → List ℕ
cancels_there known (mentions m) = mentioned_cancels known m
cancels_there known mark = []

abbrev pub cancels : Known → List Mark → List ℕ
cancels known marks = flat_map (cancels_there known) marks

abbrev pub has_number : List ℕ → Option ℕ → Bool
has_number numbers None = false
has_number numbers (Some number) = list_any (λ n. n == number) numbers

-- Where fields get values

-- the bare name means one of these locals
abbrev pub may_be_put : Known → List ℕ → Option Named → Bool
may_be_put known numbers n = has_number numbers (local_named known n)

abbrev pub element_may_put : Known → List ℕ → Element → Bool
element_may_put known numbers e = may_be_put known numbers (Some e.value)

abbrev pub gift_may_put : Known → List ℕ → Gift → Bool
gift_may_put known numbers (named_gift n) = false
gift_may_put known numbers (element_gift e) = element_may_put known numbers e

abbrev pub given_may_put : Known → List ℕ → Expression → Bool
given_may_put known numbers e = list_any (gift_may_put known numbers) (gifts missing_expression e)

abbrev pub assigned_may_put : Known → List ℕ → Option Assigned → Bool
assigned_may_put known numbers None = false
assigned_may_put known numbers (Some a) = may_be_put known numbers (some_bare (value_at a.row a.left_side))

abbrev pub field_may_put : Known → List ℕ → FieldMark → Bool
field_may_put known numbers (writes_field l by) = assigned_may_put known numbers by
field_may_put known numbers (hands_over taker e) = given_may_put known numbers e
field_may_put known numbers m = false

abbrev pub role_may_put : Known → List ℕ → Role → Bool
role_may_put known numbers role = list_any (element_may_put known numbers) (role_fields role)

abbrev pub mark_may_put : Known → List ℕ → Mark → Bool
mark_may_put known numbers (mentions m) = role_may_put known numbers m.role
mark_may_put known numbers (of_fields site m) = field_may_put known numbers m
mark_may_put known numbers (returns at es) = list_any (given_may_put known numbers) (listed es)
mark_may_put known numbers mark = false

abbrev pub may_put : Known → List Mark → Bool
may_put known marks = list_any (mark_gives known) marks || list_any (mark_may_put known (cancels known marks)) marks

-- What such files say

abbrev pub is_nil_value : Known → Option Expression → Bool
is_nil_value known None = false
is_nil_value known (Some e) = means_universe known.means (codes "nil") (as_bare e)

abbrev pub is_set_to_nil : Known → Option Assigned → Bool
is_set_to_nil known None = false
is_set_to_nil known (Some a) = is_nil_value known (value_at a.row a.left_side)

abbrev pub plain_written_note : Known → FieldLeft → Option Assigned → Option Note
plain_written_note known l by = if is_set_to_nil known by then None else Some (is_spoiled l.field.text)

abbrev pub plain_field_notes : Known → List BodyPlace → FieldMark → List Note
plain_field_notes known bodies (calls_field f) = one_note (called_note bodies f)
plain_field_notes known bodies (writes_field l by) =
    is_filled l.field.text ∷ one_note (plain_written_note known l by)
plain_field_notes known bodies m = []

abbrev pub plain_notes : Known → List BodyPlace → Mark → List Note
plain_notes known bodies (mentions m) = key_notes m
plain_notes known bodies (of_fields site m) = plain_field_notes known bodies m
plain_notes known bodies (opens b) = method_notes b
plain_notes known bodies mark = []

-- of marks, in their order
abbrev pub plain_notes_in : Known → List Mark → List Note
plain_notes_in known marks = flat_map (λ p. plain_notes known p.bodies p.mark) (placed [] marks)
