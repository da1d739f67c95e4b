-- What the program keeps of locals, and what it stands for.
use Rattle.std.specs.Prelude.{ℕ, ◌≡◌, not, ◌&&◌, ◌||◌, Bool, true, false, if◌then◌else◌, List, [], ◌∷◌, ◌++◌, Option, Some, None, is_none, is_some, option_map, map, nat_eq, nat_lt}
use Rattle.std.specs.List.{list_any, filter}
use Rattle.indexmap.specs.IndexMap.{get}
use Rattle.tracked.specs.declared.local.LocalRole.{LocalRole as KeptRole}
use Rattle.tracked.specs.declared.local.LocalRole.TheVariants.{Parameter, Receiver, Variadic, Result, InBlock}
use Rattle.tracked.specs.declared.local.Local.{Local as KeptLocal}
use Rattle.tracked.specs.declared.local.SeenLocal.{SeenLocal as KeptSeenLocal}
use Rattle.tracked.specs.declared.table.Entries.{Entries}
use Rattle.tracked.specs.declared.table.Locals.{Locals}
use Rattle.tracked.specs.declared.object_rows.ObjectKind.{ObjectKind as KeptKind}
use Rattle.tracked.specs.declared.object_rows.ObjectKind.TheVariants.{New, Outer}
use Rattle.tracked.specs.declared.object_rows.ObjectRow.{ObjectRow as KeptRow}
use Rattle.tracked.specs.declared.unbound.BoundAgain.{BoundAgain}
use Rattle.tracked.specs.declared.unbound.Objects.{Objects}
use Rattle.tracked.specs.declared.obtainings.Obtaining.{Obtaining as KeptObtaining}
use Rattle.tracked.specs.declared.obtainings.Obtainings.{Obtainings}
use Rattle.tracked.specs.declared.seen.Seen.{Seen as KeptSeen}
use Rattle.facts.specs.FactViews.{type_view, tracked_type_view}
use Rattle.mentions.specs.MarkViews.{marks_view}
use Rattle.tracked_rows.specs.RowViews.{known_view}
use Rattle.tree.specs.View.{identifier_syntax}
use Rattle.meaning.specs.OuterBlocks.{or_else}
use Rattle.meaning.specs.Mentions.{BodyPlace, Mention, Mark, mentions, of_fields, runs_literal, returns, opens, closes}
use Rattle.meaning.specs.FunctionFacts.{VariableKind, cancel, group, kind_of_type}
use Rattle.meaning.specs.Tracked.{Known, some_keep, variable_of, declared_by, outer, Placed, placed, LocalRole, parameter, receiver, variadic, result, in_block, Local, locals_of, find_local, is_variable, obtains_in, makes_in}
use Rattle.meaning.specs.Objects.{is_binding, is_bound_again, ObjectKind, new_object, outer_object, ObjectRow, object_rows, is_same_field, object_left, field_locals}
use Rattle.meaning.specs.Uses.{Seen, may_be_tracked, is_own, is_in_literal, Obtaining, first_of_some, obtained_there, first_obtaining}
use Rattle.meaning.specs.BodyEvents.{distinct}

-- Bodies

-- the bodies around a mark, by those around the mark before it
abbrev pub bodies_at : List BodyPlace → Mark → List BodyPlace
bodies_at bs (mentions m) = bs
bodies_at bs (of_fields site m) = bs
bodies_at bs (runs_literal moment site at) = bs
bodies_at bs (returns at es) = bs
bodies_at bs (opens b) = b ∷ bs
bodies_at bs closes = outer bs

-- Locals

abbrev pub local_role_view : KeptRole → LocalRole
local_role_view (Parameter k) = parameter k
local_role_view Receiver = receiver
local_role_view Variadic = variadic
local_role_view Result = result
local_role_view InBlock = in_block

abbrev pub local_view : KeptLocal → Local
local_view l = record {
  number = l.number;
  name = l.name.now;
  at = l.at;
  role = local_role_view l.role;
  typed = option_map tracked_type_view l.typed;
  body = l.body;
}

-- a local, and what the marks of the file do to it
pub record SeenLocal : Type 0 where
  pub local : Local
  pub is_obtained : Bool
  pub is_made : Bool
  pub is_in_literal : Bool

abbrev pub entry_view : KeptSeenLocal → SeenLocal
entry_view e = record {
  local = local_view e.local;
  is_obtained = e.is_obtained;
  is_made = e.is_made;
  is_in_literal = e.is_in_literal;
}

-- no mark has been seen of it
abbrev pub fresh : Local → SeenLocal
fresh l = record { local = l; is_obtained = false; is_made = false; is_in_literal = false }

-- Tables of locals

abbrev pub entry_in : Entries → ℕ → Option SeenLocal
entry_in entries n = option_map entry_view (get nat_eq entries.by_number n)

abbrev pub numbers_of : List Local → List ℕ
numbers_of = map (λ l. l.number)

-- the numbers that have no entry, each once
abbrev pub new_numbers : Entries → List ℕ → List ℕ
new_numbers entries ns = filter (λ n. not (is_some (entry_in entries n))) (distinct ns)

pub record HasNoLocals (locals : Locals) : Type 0 where
  pub entries : (n : ℕ) → entry_in locals.entries n ≡ None
  pub numbers : locals.numbers.items ≡ []

-- of those with one number the first counts
pub record AddsLocals (before after : Locals) (ls : List Local) : Type 0 where
  pub entries : (n : ℕ)
      → entry_in after.entries n ≡ or_else (entry_in before.entries n) (option_map fresh (find_local ls n))
  pub numbers : after.numbers.items ≡ before.numbers.items ++ new_numbers before.entries (numbers_of ls)

-- the locals are these, and no mark has been seen of them
pub record HasLocals (locals : Locals) (ls : List Local) : Type 0 where
  pub entries : (n : ℕ) → entry_in locals.entries n ≡ option_map fresh (find_local ls n)
  pub numbers : locals.numbers.items ≡ distinct (numbers_of ls)

abbrev pub update_entry : ℕ → SeenLocal → Option SeenLocal → ℕ → Option SeenLocal
update_entry number e known n = if nat_eq number n then Some e else known

-- What marks do to the local of a number

-- a mention of it in a literal, seen from the body that declares the local
abbrev pub is_inside : Known → ℕ → Local → List BodyPlace → Mention → Bool
is_inside known n l bodies m = is_variable (variable_of known m) n && not (is_own l bodies)

abbrev pub noted_mention : Known → ℕ → List BodyPlace → Mention → SeenLocal → SeenLocal
noted_mention known n bodies m e = record {
  local = e.local;
  is_obtained = e.is_obtained || obtains_in known n (mentions m);
  is_made = e.is_made || makes_in known n (mentions m);
  is_in_literal = e.is_in_literal || is_inside known n e.local bodies m;
}

abbrev pub noted : Known → ℕ → List BodyPlace → Mark → SeenLocal → SeenLocal
noted known n bodies (mentions m) e = noted_mention known n bodies m e
noted known n bodies (of_fields site m) e = e
noted known n bodies (runs_literal moment site at) e = e
noted known n bodies (returns at es) e = e
noted known n bodies (opens b) e = e
noted known n bodies closes e = e

abbrev pub noted_all : Known → ℕ → List Placed → SeenLocal → SeenLocal
noted_all known n [] e = e
noted_all known n (p ∷ ps) e = noted_all known n ps (noted known n p.bodies p.mark e)

abbrev pub NotesMark : Known → List BodyPlace → Mark → Entries → Entries → Type 0
NotesMark known bodies mark before after =
    (n : ℕ) → entry_in after n ≡ option_map (noted known n bodies mark) (entry_in before n)

-- Rows that obtain into fields

abbrev pub object_kind_view : KeptKind → ObjectKind
object_kind_view New = new_object
object_kind_view Outer = outer_object

abbrev pub object_row_view : KeptRow → ObjectRow
object_row_view r = record {
  object = r.object;
  kind = object_kind_view r.kind;
  field = identifier_syntax r.field.now;
  type = type_view r.cancel_type;
  body = r.body;
}

abbrev pub lesser_place : ObjectRow → ObjectRow → ℕ → ℕ
lesser_place r q place = if is_same_field r q && nat_lt q.field.span.start place then q.field.span.start else place

-- What may be an object

-- the local that a mention binds elsewhere than in its declaration
abbrev pub bound_by : Known → Mention → Option ℕ
bound_by known m = if is_binding m.role && is_none (declared_by known m) then variable_of known m else None

abbrev pub bound_in : BoundAgain → ℕ → Option Bool
bound_in bound n = get nat_eq bound.by_number n

abbrev pub update_bound : ℕ → Option Bool → ℕ → Option Bool
update_bound number known n = if nat_eq number n then Some true else known

abbrev pub unbound_in : Objects → ℕ → Option Local
unbound_in objects n =
    if is_some (bound_in objects.bound n) then None else option_map (λ e. e.local) (entry_in objects.locals.entries n)

abbrev pub unbound_local : Known → List Placed → ℕ → Option Local
unbound_local known marks n = if is_bound_again known marks n then None else find_local (locals_of known marks) n

abbrev pub HasObjects : Objects → Known → List Placed → Type 0
HasObjects objects known marks = (n : ℕ) → unbound_in objects n ≡ unbound_local known marks n

-- none are kept where no field keeps
abbrev pub MayHaveObjects : Option Objects → Known → List Placed → Type 0
MayHaveObjects None known marks = some_keep known.fields ≡ false
MayHaveObjects (Some objects) known marks = HasObjects objects known marks

-- A file

-- as it is seen by what is known of it, which says for what left sides `x.f` stand
abbrev pub seen_by : Known → List Placed → Seen
seen_by known marks = record {
  known = known;
  marks = marks;
  locals = locals_of known marks ++ field_locals (object_rows known marks) (object_rows known marks);
}

-- it says so
abbrev pub HasLefts : Known → List Placed → Type 0
HasLefts known marks =
    (at : ℕ) → known.object_lefts at ≡ object_left (object_rows known marks) (object_rows known marks) at

abbrev pub seen_view : KeptSeen → Seen
seen_view seen = seen_by (known_view seen.known) (placed [] (marks_view seen.marks.items))

-- what the marks of the file do to a local
abbrev pub entry_of : Seen → Local → SeenLocal
entry_of seen l = record {
  local = l;
  is_obtained = list_any (λ p. obtains_in seen.known l.number p.mark) seen.marks;
  is_made = list_any (λ p. makes_in seen.known l.number p.mark) seen.marks;
  is_in_literal = is_in_literal seen l;
}

-- these are the locals of the marks, and those of rows that obtain into fields, each with what the marks do to it
pub record TellsLocals (locals : Locals) (known : Known) (marks : List Placed) (rows : List ObjectRow) : Type 0 where
  pub entries : (n : ℕ) → entry_in locals.entries n
      ≡ option_map (λ l. noted_all known n marks (fresh l))
      (find_local (locals_of known marks ++ field_locals rows rows) n)
  pub numbers : locals.numbers.items ≡ distinct (numbers_of (locals_of known marks ++ field_locals rows rows))

-- the table has the locals of the file, each with what its marks do to it, and the number of each once
pub record SeesLocals (seen : KeptSeen) : Type 0 where
  pub entries : (n : ℕ)
      → entry_in seen.locals.entries n ≡ option_map (entry_of (seen_view seen)) (find_local (seen_view seen).locals n)
  pub numbers : seen.locals.numbers.items ≡ distinct (numbers_of (seen_view seen).locals)

-- Types

abbrev pub obtaining_view : KeptObtaining → Obtaining
obtaining_view o = record { at = o.at; type = type_view o.cancel_type }

abbrev pub obtaining_in : Obtainings → ℕ → Option Obtaining
obtaining_in obtainings n = option_map obtaining_view (get nat_eq obtainings.by_number n)

abbrev pub obtaining_at : ℕ → Obtaining → ℕ → Option Obtaining
obtaining_at number o n = if nat_eq number n then Some o else None

abbrev pub update_obtaining : ℕ → Obtaining → Option Obtaining → ℕ → Option Obtaining
update_obtaining number o known n = if nat_eq number n then Some o else known

-- what a mark adds to those that are known
abbrev pub NotesObtaining : Seen → Mark → Obtainings → Obtainings → Type 0
NotesObtaining seen mark before after =
    (n : ℕ) → obtaining_in after n ≡ first_of_some (obtaining_in before n) (obtained_there seen n mark)

-- the first of each local, by place
abbrev pub HasFirsts : Obtainings → Seen → Type 0
HasFirsts obtainings seen = (n : ℕ) → obtaining_in obtainings n ≡ first_obtaining seen n seen.marks

-- besides, the first binding of each local that obtains it is kept, and what may be an object; and what is known says
-- for what left sides `x.f` stand
pub record Sees (seen : KeptSeen) : Type 0 where
  pub locals : SeesLocals seen
  pub obtainings : HasFirsts seen.obtainings (seen_view seen)
  pub objects : MayHaveObjects seen.objects (seen_view seen).known (seen_view seen).marks
  pub lefts : HasLefts (seen_view seen).known (seen_view seen).marks

-- Kinds

abbrev pub kind_by_flags : Bool → Bool → Option VariableKind
kind_by_flags is_obtained is_made = if is_obtained then Some cancel else if is_made then Some group else None

abbrev pub kind_of_entry : SeenLocal → Option VariableKind
kind_of_entry e = or_else (option_map kind_of_type e.local.typed) (kind_by_flags e.is_obtained e.is_made)

abbrev pub tracked_kind_of_entry : SeenLocal → Option VariableKind
tracked_kind_of_entry e = if may_be_tracked e.local.role then kind_of_entry e else None
