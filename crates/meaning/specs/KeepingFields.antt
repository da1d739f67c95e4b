-- Which fields of a package keep cancel functions. A field f keeps if a body of the package calls `e.f`, and each
-- assignment to `e.f`, in all its files, is of a cancel variable that the body declares itself, and no parameter, or of
-- `nil`, or is by a row of a maker or giver. Elements of composite literals are no assignments. A field into which
-- nothing but `nil` is put doesn't keep. Which variables are tracked goes here by rows as if each field kept.
-- (This tool's rules.)
use Rattle.std.specs.Prelude.{ℕ, ◌==◌, Bool, false, not, ◌&&◌, ◌||◌, if◌then◌else◌, List, [], ◌∷◌, ◌++◌, Option, Some, None, is_some, map, flat_map, slice_get, codes, length}
use Rattle.std.specs.List.{list_any, filter}
use Rattle.std.specs.Str.{bytes_eq}
use Rattle.tree.specs.Syntax.{Expression, missing_expression}
use Rattle.meaning.specs.FunctionFacts.{listed, means_universe}
use Rattle.meaning.specs.Mentions.{as_bare, Row, BodyPlace, Assigned, calls_field, writes_field, hands_over, Mark, mentions, of_fields, returns}
use Rattle.meaning.specs.Tracked.{Fields, these_fields, lefts_of, may_bind, only_call, call_giving}
use Rattle.meaning.specs.Uses.{Seen, is_outside, first_obtaining}
use Rattle.meaning.specs.Kept.{Element, Gift, named_gift, element_gift, gifts, takes_it, role_fields, own_cancel, field_value, some_bare, carried, keeps_there, belongs, is_key}

-- Fields that keep

abbrev pub called_there : List BodyPlace → Mark → List (List ℕ)
called_there bodies (of_fields site (calls_field f)) = if is_outside bodies then [] else f ∷ []
called_there bodies mark = []

abbrev pub called_fields : Seen → List (List ℕ)
called_fields seen = flat_map (λ p. called_there p.bodies p.mark) seen.marks

-- what the row gives its left side k, by a pair
abbrev pub value_at : Row → ℕ → Option Expression
value_at row k =
    if length (listed row.values) == length (lefts_of row.form) then slice_get (listed row.values) k else None

abbrev pub is_own_or_nil : Seen → List BodyPlace → Option Expression → Bool
is_own_or_nil seen bodies None = false
is_own_or_nil seen bodies (Some e) =
    means_universe seen.known.means (codes "nil") (as_bare e) || is_some (own_cancel seen bodies (as_bare e))

abbrev pub is_by_giver : Seen → Row → Bool
is_by_giver seen row =
    may_bind row.standing row.form && is_some (call_giving seen.known (only_call row row.values))

abbrev pub may_keep : Seen → List BodyPlace → Option Assigned → Bool
may_keep seen bodies None = false
may_keep seen bodies (Some a) = is_by_giver seen a.row || is_own_or_nil seen bodies (value_at a.row a.left_side)

-- the field gets something else
abbrev pub spoils : Seen → List ℕ → List BodyPlace → Mark → Bool
spoils seen f bodies (of_fields site (writes_field l by)) = bytes_eq l.field.text f && not (may_keep seen bodies by)
spoils seen f bodies mark = false

abbrev pub gift_elements : List Gift → List Element
gift_elements [] = []
gift_elements (named_gift n ∷ gs) = gift_elements gs
gift_elements (element_gift e ∷ gs) = e ∷ gift_elements gs

abbrev pub item_elements : List Expression → List Element
item_elements es = flat_map (λ e. gift_elements (gifts missing_expression e)) es

-- elements of literals that may keep, or go to others
abbrev pub elements_there : Mark → List Element
elements_there (mentions m) = role_fields m.role
elements_there (of_fields site (hands_over taker e)) = gift_elements (gifts missing_expression e)
elements_there (returns at es) = item_elements (listed es)
elements_there mark = []

abbrev pub is_put_by : Seen → List ℕ → List BodyPlace → Element → Bool
is_put_by seen f bodies e = bytes_eq e.field f && is_some (field_value seen bodies e)

-- behind the assignment it holds a cancel function
abbrev pub holds_after : Seen → List BodyPlace → Option Assigned → Bool
holds_after seen bodies None = false
holds_after seen bodies (Some a) =
    is_by_giver seen a.row || is_some (own_cancel seen bodies (some_bare (value_at a.row a.left_side)))

abbrev pub puts : Seen → List ℕ → List BodyPlace → Mark → Bool
puts seen f bodies (of_fields site (writes_field l by)) = bytes_eq l.field.text f && holds_after seen bodies by
puts seen f bodies mark = list_any (is_put_by seen f bodies) (elements_there mark)

abbrev pub in_some_file : (Seen → List BodyPlace → Mark → Bool) → List Seen → Bool
in_some_file is_so files = list_any (λ seen. list_any (λ p. is_so seen p.bodies p.mark) seen.marks) files

abbrev pub does_keep : List Seen → List ℕ → Bool
does_keep files f = in_some_file (λ seen. puts seen f) files && not (in_some_file (λ seen. spoils seen f) files)

-- of a package, by its files as they are seen where each field is taken for one
abbrev pub keeping_fields : List Seen → List (List ℕ)
keeping_fields files = filter (does_keep files) (flat_map called_fields files)

-- names that may be fields', as they are assigned to, or are keys of elements
abbrev pub filled_there : Mark → List (List ℕ)
filled_there (mentions m) = if is_key m.role then m.named.name ∷ [] else []
filled_there (of_fields site (writes_field l by)) = l.field.text ∷ []
filled_there mark = []

abbrev pub filled_in : Seen → List (List ℕ)
filled_in seen = flat_map (λ p. filled_there p.mark) seen.marks

-- where no field keeps, nothing else is asked
abbrev pub keeping_beside : List Seen → List (List ℕ) → Fields
keeping_beside files [] = these_fields [] []
keeping_beside files (f ∷ fs) = these_fields (f ∷ fs) (flat_map filled_in files)

abbrev pub fields_in_files : List Seen → Fields
fields_in_files files = keeping_beside files (keeping_fields files)

-- Fields in which something is kept: a verdict tells of them

abbrev pub is_obtained_in : Seen → ℕ → Bool
is_obtained_in seen v = is_some (first_obtaining seen v seen.marks)

-- the field, if the variable obtains
abbrev pub field_of_obtained : Seen → List ℕ → Option ℕ → List (List ℕ)
field_of_obtained seen f None = []
field_of_obtained seen f (Some v) = if is_obtained_in seen v then f ∷ [] else []

abbrev pub carried_field : Seen → List BodyPlace → Element → List (List ℕ)
carried_field seen bodies e = field_of_obtained seen e.field (carried seen bodies e)

abbrev pub kept_variables : Seen → List BodyPlace → Mark → List (List ℕ)
kept_variables seen bodies mark =
    map (λ k. k.field) (filter (λ k. belongs seen k && is_obtained_in seen k.variable) (keeps_there seen bodies mark))

abbrev pub carried_fields : Seen → List BodyPlace → List Element → List (List ℕ)
carried_fields seen bodies es = flat_map (carried_field seen bodies) es

abbrev pub obtained_fields : Seen → Mark → List (List ℕ)
obtained_fields seen (of_fields site (writes_field l (Some a))) =
    if is_some (seen.known.object_lefts l.field.span.start) then l.field.text ∷ [] else []
obtained_fields seen mark = []

abbrev pub given_elements : Seen → Mark → List Element
given_elements seen (of_fields site (hands_over taker e)) =
    if takes_it seen.known taker then gift_elements (gifts missing_expression e) else []
given_elements seen (returns at es) = item_elements (listed es)
given_elements seen mark = []

abbrev pub fields_kept_there : Seen → List BodyPlace → Mark → List (List ℕ)
fields_kept_there seen bodies mark =
    kept_variables seen bodies mark
    ++ (obtained_fields seen mark ++ carried_fields seen bodies (given_elements seen mark))

-- of a file: where a body keeps what it obtained, obtains into a field, or gives it to others in a literal
abbrev pub fields_kept : Seen → List (List ℕ)
fields_kept seen = flat_map (λ p. fields_kept_there seen p.bodies p.mark) seen.marks
