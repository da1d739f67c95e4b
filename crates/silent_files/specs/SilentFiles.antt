-- Files in which nothing is to be found. In such a file no use means a maker, a type of cancel functions or something
-- of `errgroup`, no function that a use could mean gives a cancel function, and no name is `recover`. Then no local is
-- tracked, no use is a fault, no body has a variable, and none hands anything to a function or keeps it in a field.
-- Functions that only take cancel functions or groups don't matter: who has none can pass none. And where no variable
-- is, a condition finds out nothing of one.
-- (This tool's rules.)
use Rattle.std.specs.Prelude.{ℕ, ◌≡◌, ◌||◌, Bool, false, List, [], Option, Some, None, codes}
use Rattle.std.specs.List.{list_any}
use Rattle.std.specs.Str.{bytes_eq}
use Rattle.meaning.specs.OuterBlocks.{is_first_path}
use Rattle.meaning.specs.Declarations.{import_name}
use Rattle.tree.specs.Syntax.{OptionalExpression, missing_expression, present_expression, Signature, signature_of}
use Rattle.meaning.specs.Mentions.{Named, as_named, RowForm, defines, assigns, declares, Row, Call, Role, left, FieldMark, writes_field, Mark, mentions, of_fields, runs_literal, returns, opens, closes}
use Rattle.meaning.specs.FunctionFacts.{context_path, errgroup_path, is_of, Item, items_of}
use Rattle.meaning.specs.Tracked.{Known, facts_of, facts_giving, is_maker, only_call, receiver_items}
use Rattle.meaning.specs.Uses.{Callee, Seen}
use Rattle.meaning.specs.BodyEvents.{variables_of, outer_faults_of, faults_of}
use Rattle.meaning.specs.KeepingFields.{fields_kept}
use Rattle.meaning_reports.specs.UsedImports.{HandsThere}

-- no use means `context` or `errgroup`, and no function that is named gives a cancel function
pub record GivesNothing (known : Known) : Type 0 where
  pub no_maker : (at : ℕ) (path : List ℕ) → known.means at ≡ Some (import_name path) → is_first_path path ≡ false
  pub no_giver : (n : Named) → facts_giving (facts_of known n) ≡ None

-- the same where `context` is imported: no use means `errgroup`, and no function that is named gives
pub record GivesByContext (known : Known) : Type 0 where
  pub no_group : (at : ℕ) (path : List ℕ) → known.means at ≡ Some (import_name path)
      → bytes_eq path errgroup_path ≡ false
  pub no_giver : (n : Named) → facts_giving (facts_of known n) ≡ None

-- a maker, or a type of cancel functions
abbrev pub tells : Known → Named → Bool
tells known n =
    is_maker known n
    || (is_of known.means context_path (codes "CancelFunc") n
    || is_of known.means context_path (codes "CancelCauseFunc") n)

abbrev pub named_tells : Known → Option Named → Bool
named_tells known None = false
named_tells known (Some n) = tells known n

abbrev pub call_tells : Known → Option Call → Bool
call_tells known None = false
call_tells known (Some c) = tells known c.callee

abbrev pub type_tells : Known → OptionalExpression → Bool
type_tells known missing_expression = false
type_tells known (present_expression t) = named_tells known (as_named t)

abbrev pub items_tell : Known → List Item → Bool
items_tell known = list_any (λ i. type_tells known i.type)

abbrev pub signature_tells : Known → Signature → Bool
signature_tells known (signature_of ps rs brackets) = items_tell known (items_of ps) || items_tell known (items_of rs)

abbrev pub form_tells : Known → RowForm → Bool
form_tells known (defines ns) = false
form_tells known (assigns ls) = false
form_tells known (declares keyword ns t) = type_tells known t

-- the call that is its only value, or its type
abbrev pub row_tells : Known → Row → Bool
row_tells known row = call_tells known (only_call row row.values) || form_tells known row.form

abbrev pub role_tells : Known → Role → Bool
role_tells known (left k row) = row_tells known row
role_tells known role = false

abbrev pub field_tells : Known → FieldMark → Bool
field_tells known (writes_field l (Some a)) = row_tells known a.row
field_tells known m = false

-- a mark names a maker or a type of cancel functions
abbrev pub mark_tells : Known → Mark → Bool
mark_tells known (mentions m) = tells known m.named || role_tells known m.role
mark_tells known (of_fields site m) = field_tells known m
mark_tells known (runs_literal moment site at) = false
mark_tells known (returns at es) = false
mark_tells known (opens b) = items_tell known (receiver_items b.receiver) || signature_tells known b.signature
mark_tells known closes = false

abbrev pub names_recover : Mark → Bool
names_recover (mentions m) = bytes_eq m.named.name (codes "recover")
names_recover (of_fields site m) = false
names_recover (runs_literal moment site at) = false
names_recover (returns at es) = false
names_recover (opens b) = false
names_recover closes = false

-- nothing is to be found in the file that was seen so
pub record IsSilent (seen : Seen) : Type 0 where
  pub no_variable : (body : ℕ) → variables_of seen body ≡ []
  pub outside : outer_faults_of seen seen.marks ≡ []
  pub inside : (body : ℕ) → faults_of seen body seen.marks ≡ []
  pub hands_nothing : (f : Callee) → HandsThere seen f → ⊥
  pub keeps_nothing : fields_kept seen ≡ []
