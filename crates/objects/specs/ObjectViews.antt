-- What the program knows of objects on the way to rows that obtain into fields.
use Rattle.std.specs.Prelude.{ℕ, ◌==◌, not, ◌&&◌, if◌then◌else◌, List, [], ◌∷◌, Option, Some, None, is_some}
use Rattle.objects.specs.declared.rows.Candidate.{Candidate as KeptCandidate}
use Rattle.tracked.specs.declared.object_rows.ObjectRow.{ObjectRow as KeptRow}
use Rattle.tree.specs.Syntax.{Identifier}
use Rattle.tree.specs.View.{identifier_syntax}
use Rattle.facts.specs.FactViews.{type_view}
use Rattle.tracked.specs.LocalViews.{object_row_view}
use Rattle.meaning.specs.FunctionFacts.{CancelType}
use Rattle.meaning.specs.Mentions.{BodyPlace, FieldLeft, Assigned, FieldMark, writes_field, Mark, of_fields}
use Rattle.meaning.specs.Tracked.{Known, has_field, ObjectLeft, row_giving, Placed, Local}
use Rattle.meaning.specs.Objects.{unaddressed, points_in, ObjectKind, kind_by_role, local_named, ObjectRow, object_row, type_at}

abbrev pub with_lefts : Known → (ℕ → Option ObjectLeft) → Known
with_lefts known lefts = record known { object_lefts = lefts }

-- Objects

-- what a local, if it is bound in its declaration alone, is to the body
abbrev pub kind_of_unbound : BodyPlace → Option Local → Option ObjectKind
kind_of_unbound b None = None
kind_of_unbound b (Some l) = if l.body == b.at then kind_by_role l.role (points_in b l.number) else None

-- the same of the innermost of these bodies
abbrev pub kind_there : List BodyPlace → Option Local → Option ObjectKind
kind_there [] l = None
kind_there (b ∷ bs) l = kind_of_unbound b l

abbrev pub unbound_at : (ℕ → Option Local) → Option ℕ → Option Local
unbound_at unbound None = None
unbound_at unbound (Some number) = unbound number

-- Rows

-- a left side `x.f` at a position that is given, where f keeps, and x is a local
pub record Candidate : Type 0 where
  pub object : ℕ
  pub field : Identifier
  pub type : CancelType

abbrev pub candidate_view : KeptCandidate → Candidate
candidate_view c = record { object = c.object; field = identifier_syntax c.field.now; type = type_view c.cancel_type }

abbrev pub candidate_of : Identifier → Option ℕ → Option CancelType → Option Candidate
candidate_of f None t = None
candidate_of f (Some x) None = None
candidate_of f (Some x) (Some t) = Some record { object = x; field = f; type = t }

abbrev pub written_candidate : Known → FieldLeft → Assigned → Option Candidate
written_candidate known l a =
    if not l.has_brackets && has_field known.fields l.field.text
    then candidate_of l.field (local_named known l.object) (type_at a.left_side (row_giving known a.row))
    else None

abbrev pub field_candidate : Known → FieldMark → Option Candidate
field_candidate known (writes_field l (Some a)) = written_candidate known l a
field_candidate known m = None

abbrev pub candidate : Known → Mark → Option Candidate
candidate known (of_fields site m) = field_candidate known m
candidate known mark = None

abbrev pub listed_row : Option KeptRow → List ObjectRow
listed_row None = []
listed_row (Some r) = object_row_view r ∷ []

-- the row of a candidate in these bodies, by what the locals are that are bound in their declarations alone
abbrev pub row_by : (ℕ → Option Local) → List BodyPlace → Option Candidate → List ObjectRow
row_by unbound bodies None = []
row_by unbound bodies (Some c) =
    object_row bodies c.field (Some c.object) (kind_there bodies (unbound c.object)) (Some c.type)

-- unless the object may get another value by its address
abbrev pub unaddressed_candidate : Known → List Placed → Option Candidate → Option Candidate
unaddressed_candidate known marks None = None
unaddressed_candidate known marks (Some c) =
    if is_some (unaddressed known marks (Some c.object)) then Some c else None

abbrev pub rows_by : Known → List Placed → (ℕ → Option Local) → List BodyPlace → Mark → List ObjectRow
rows_by known marks unbound bodies mark =
    row_by unbound bodies (unaddressed_candidate known marks (candidate known mark))
