-- What the marks of a file say of fields: whether a body calls one of a name, puts a cancel function into one, or gives
-- one something else; and which names are those of methods.
-- (This tool's rules.)
use Rattle.std.specs.Prelude.{ℕ, Bool, false, if◌then◌else◌, List, [], ◌∷◌, ◌++◌, map, Option, Some, None, is_some, flat_map}
use Rattle.std.specs.Str.{bytes_eq}
use Rattle.tree.specs.Syntax.{Expression, missing_expression}
use Rattle.meaning.specs.FunctionFacts.{listed}
use Rattle.meaning.specs.Mentions.{BodyPlace, FieldLeft, Assigned, FieldMark, calls_field, writes_field, hands_over, hands_literal, renews, imports_all, Mention, Mark, mentions, of_fields, runs_literal, returns, opens, closes}
use Rattle.meaning.specs.Uses.{Seen, is_outside}
use Rattle.meaning.specs.Kept.{Element, Gift, named_gift, element_gift, gifts, is_key, field_value, role_fields}
use Rattle.meaning.specs.KeepingFields.{holds_after, may_keep}
use Rattle.meaning_reports.specs.MethodNames.{method_named}
use Rattle.noted_fields.specs.NotedFields.{Note, is_called, is_put, is_spoiled, is_filled, is_method}

abbrev pub one_note : Option Note → List Note
one_note None = []
one_note (Some note) = note ∷ []

abbrev pub element_notes : Seen → List BodyPlace → Element → List Note
element_notes seen bodies e = if is_some (field_value seen bodies e) then is_put e.field ∷ [] else []

abbrev pub gift_notes : Seen → List BodyPlace → Gift → List Note
gift_notes seen bodies (named_gift n) = []
gift_notes seen bodies (element_gift e) = element_notes seen bodies e

-- of what stands where something is given
abbrev pub given_notes : Seen → List BodyPlace → Expression → List Note
given_notes seen bodies e = flat_map (gift_notes seen bodies) (gifts missing_expression e)

-- the field gets a value
abbrev pub written_note : Seen → List BodyPlace → FieldLeft → Option Assigned → Option Note
written_note seen bodies l by =
    if holds_after seen bodies by then Some (is_put l.field.text)
    else if may_keep seen bodies by then None
    else Some (is_spoiled l.field.text)

abbrev pub called_note : List BodyPlace → List ℕ → Option Note
called_note bodies f = if is_outside bodies then None else Some (is_called f)

abbrev pub field_notes : Seen → List BodyPlace → FieldMark → List Note
field_notes seen bodies (calls_field f) = one_note (called_note bodies f)
field_notes seen bodies (writes_field l by) = is_filled l.field.text ∷ one_note (written_note seen bodies l by)
field_notes seen bodies (hands_over taker e) = given_notes seen bodies e
field_notes seen bodies (hands_literal taker at) = []
field_notes seen bodies (renews number) = []
field_notes seen bodies imports_all = []

-- a key of an element
abbrev pub key_notes : Mention → List Note
key_notes m = if is_key m.role then is_filled m.named.name ∷ [] else []

-- of a method's body
abbrev pub method_notes : BodyPlace → List Note
method_notes b = map is_method (method_named b.name b.receiver)

abbrev pub notes_there : Seen → List BodyPlace → Mark → List Note
notes_there seen bodies (mentions m) = key_notes m ++ flat_map (element_notes seen bodies) (role_fields m.role)
notes_there seen bodies (of_fields site m) = field_notes seen bodies m
notes_there seen bodies (runs_literal moment site at) = []
notes_there seen bodies (returns at es) = flat_map (given_notes seen bodies) (listed es)
notes_there seen bodies (opens b) = method_notes b
notes_there seen bodies closes = []

-- of a file, in the order of its marks
abbrev pub notes_in : Seen → List Note
notes_in seen = flat_map (λ p. notes_there seen p.bodies p.mark) seen.marks

abbrev pub puts_it : List ℕ → Note → Bool
puts_it f (is_called g) = false
puts_it f (is_put g) = bytes_eq g f
puts_it f (is_spoiled g) = false
puts_it f (is_filled g) = false
puts_it f (is_method g) = false
