-- A file of which no mark may put a cancel function into a field says by its marks alone what it says.
use Rattle.std.proofs.Common.{◌≡◌, ℕ, Bool, true, false, List, [], ◌∷◌, ◌++◌, Option, Some, None, is_some, Result, OnOk, refl, sym, ap, ◌∙◌, subst}
use Rattle.std.specs.Prelude.{not, ◌&&◌, ◌||◌, if◌then◌else◌, flat_map, codes}
use Rattle.std.specs.List.{list_any}
use Rattle.std.proofs.lemmas.Bool.{false≢true}
use Rattle.std.proofs.lemmas.List.{append-nil}
use Rattle.tree.specs.Syntax.{Identifier, SourceFile, Expression, expression_node, name_expression, missing_expression}
use Rattle.mentions.specs.declared.mark.Mark.{Mark as KeptMark}
use Rattle.mentions.specs.MarkViews.{marks_view}
use Rattle.meaning.specs.FunctionFacts.{listed, means_universe}
use Rattle.meaning.specs.Mentions.{as_bare, BodyPlace, Row, FieldLeft, Assigned, calls_field, writes_field, hands_over, hands_literal, renews, imports_all, Mark, mentions, of_fields, runs_literal, returns, opens, closes, marks_by, file_marks}
use Rattle.meaning.specs.Tracked.{Known, has_field, may_bind, fits, only_call, call_giving, row_giving, Placed, placed}
use Rattle.meaning.specs.Objects.{unaddressed, ObjectKind, object_in, local_named, type_at, ObjectRow, object_row, object_rows_there, object_rows}
use Rattle.meaning.specs.Uses.{Seen, seen_with}
use Rattle.meaning.specs.BodyEvents.{seen_file}
use Rattle.meaning.specs.Kept.{Element, Gift, named_gift, element_gift, gifts, role_fields, own_cancel, is_field_meant, some_bare}
use Rattle.meaning.specs.KeepingFields.{value_at, is_own_or_nil, is_by_giver, may_keep, holds_after}
use Rattle.silent_files.proofs.SilentFiles.{neither_first, neither_second, not_both, none_placed}
use Rattle.tracked_rows.specs.declared.known.Known.{Known as KeptKnown}
use Rattle.tracked_rows.specs.RowViews.{known_view}
use Rattle.keeping.specs.Keeping.{each_known}
use Rattle.keeping.specs.Notes.{one_note, element_notes, gift_notes, given_notes, written_note, key_notes, notes_there, notes_in}
use Rattle.noted_fields.specs.NotedFields.{Note, is_put, is_spoiled, is_filled}
use Rattle.keeping.specs.PlainFiles.{row_gives, assigned_gives, mark_gives, cancels, has_number, may_be_put, element_may_put, gift_may_put, given_may_put, assigned_may_put, mark_may_put, may_put, is_nil_value, plain_written_note, plain_notes, plain_notes_in}
use Rattle.keeping.proofs.KeptFields.{never, or_nothing}
use Rattle.keeping.proofs.OwnCancels.{no_some, never_put}

-- what is added of each element is nothing where no test holds
none_each : {X Y : Type 0} (t : X → Bool) (g : X → List Y) → ((x : X) → t x ≡ false → g x ≡ []) → (xs : List X)
    → list_any t xs ≡ false → flat_map g xs ≡ []
none_each t g so [] h = refl
none_each t g so (x ∷ xs) h =
    λ i. so x (neither_first (t x) _ h) i ++ none_each t g so xs (neither_second (t x) _ h) i

-- No row obtains into a field

no_row : (bodies : List BodyPlace) (f : Identifier) (x : Option ℕ) (kind : Option ObjectKind)
    → object_row bodies f x kind None ≡ []
no_row [] f x kind = refl
no_row (b ∷ bs) f None kind = refl
no_row (b ∷ bs) f (Some x) None = refl
no_row (b ∷ bs) f (Some x) (Some kind) = refl

module _ (known : Known) (all : List Placed) where
  gives_none : (row : Row) → row_gives known row ≡ false → row_giving known row ≡ None
  gives_none row h = by (may_bind row.standing row.form)
    where
      by : (b : Bool) → (if b then fits row (call_giving known (only_call row row.values)) else None) ≡ None
      by true = ap (fits row) (no_some (call_giving known (only_call row row.values)) h)
      by false = refl

  left_none : (bodies : List BodyPlace) (l : FieldLeft) (a : Assigned) → row_gives known a.row ≡ false
      → object_row bodies l.field (local_named known l.object)
      (object_in known all bodies (unaddressed known all (local_named known l.object)))
      (type_at a.left_side (row_giving known a.row)) ≡ []
  left_none bodies l a h =
      let x : Option ℕ = local_named known l.object in
      let kind : Option ObjectKind = object_in known all bodies (unaddressed known all x) in
      ap (λ g. object_row bodies l.field x kind (type_at a.left_side g)) (gives_none a.row h)
      ∙ no_row bodies l.field x kind

  if_none : (b : Bool) (rows : List ObjectRow) → rows ≡ [] → (if b then rows else []) ≡ []
  if_none true rows h = h
  if_none false rows h = refl

  no_row_there : (bodies : List BodyPlace) (mark : Mark) → mark_gives known mark ≡ false
      → object_rows_there known all bodies mark ≡ []
  no_row_there bodies (of_fields site (writes_field l (Some a))) h =
      if_none (not l.has_brackets && has_field known.fields l.field.text) _ (left_none bodies l a h)
  no_row_there bodies (of_fields site (writes_field l None)) h = refl
  no_row_there bodies (of_fields site (calls_field f)) h = refl
  no_row_there bodies (of_fields site (hands_over taker e)) h = refl
  no_row_there bodies (of_fields site (hands_literal taker at)) h = refl
  no_row_there bodies (of_fields site (renews number)) h = refl
  no_row_there bodies (of_fields site imports_all) h = refl
  no_row_there bodies (mentions m) h = refl
  no_row_there bodies (runs_literal moment site at) h = refl
  no_row_there bodies (returns at es) h = refl
  no_row_there bodies (opens b) h = refl
  no_row_there bodies closes h = refl

  no_rows : (ps : List Placed) → list_any (λ (p : Placed). mark_gives known p.mark) ps ≡ false
      → flat_map (λ (p : Placed). object_rows_there known all p.bodies p.mark) ps ≡ []
  no_rows ps h =
      none_each (λ (p : Placed). mark_gives known p.mark) (λ (p : Placed). object_rows_there known all p.bodies p.mark)
      (λ p. no_row_there p.bodies p.mark) ps h

-- What each mark says

module _ (known : Known) (marks : List Mark)
    (same : (seen_with known (placed [] marks) []).known ≡ known) (bodies : List BodyPlace) where
  abbrev seen : Seen
  seen = seen_with known (placed [] marks) []

  abbrev numbers : List ℕ
  numbers = cancels known marks

  element_none : (e : Element) → element_may_put known numbers e ≡ false → element_notes seen bodies e ≡ []
  element_none e h =
      ap (λ b. if b then is_put e.field ∷ [] else []) (by (is_field_meant seen e.field (seen.known.means e.at)))
    where
      by : (b : Bool) → is_some (if b then own_cancel seen bodies (Some e.value) else None) ≡ false
      by true = ap is_some (never_put known marks bodies (Some e.value) same h)
      by false = refl

  gift_none : (g : Gift) → gift_may_put known numbers g ≡ false → gift_notes seen bodies g ≡ []
  gift_none (named_gift n) h = refl
  gift_none (element_gift e) h = element_none e h

  given_none : (e : Expression) → given_may_put known numbers e ≡ false → given_notes seen bodies e ≡ []
  given_none e h = none_each (gift_may_put known numbers) (gift_notes seen bodies) gift_none (gifts missing_expression e) h

  own_or_nil : (v : Option Expression) → may_be_put known numbers (some_bare v) ≡ false
      → is_own_or_nil seen bodies v ≡ is_nil_value known v
  own_or_nil None h = refl
  own_or_nil (Some e) h =
      ap (λ o. means_universe seen.known.means (codes "nil") (as_bare e) || is_some o)
      (never_put known marks bodies (as_bare e) same h)
      ∙ or_nothing (means_universe seen.known.means (codes "nil") (as_bare e))
      ∙ ap (λ (k : Known). means_universe k.means (codes "nil") (as_bare e)) same

  no_giver : (row : Row) → row_gives known row ≡ false → is_by_giver seen row ≡ false
  no_giver row h =
      ap (λ (k : Known). may_bind row.standing row.form && is_some (call_giving k (only_call row row.values))) same
      ∙ not_both (may_bind row.standing row.form) _ h

  written_so : (l : FieldLeft) (by : Option Assigned) → assigned_gives known by ≡ false
      → assigned_may_put known numbers by ≡ false
      → written_note seen bodies l by ≡ plain_written_note known l by
  written_so l None g h = refl
  written_so l (Some a) g h =
      let value : Option Expression = value_at a.row a.left_side in
      let held : holds_after seen bodies (Some a) ≡ false =
      λ i. no_giver a.row g i || is_some (never_put known marks bodies (some_bare value) same h i) in
      let kept : may_keep seen bodies (Some a) ≡ is_nil_value known value =
      λ i. no_giver a.row g i || own_or_nil value h i in
      λ i. if held i then Some (is_put l.field.text) else if kept i then None else Some (is_spoiled l.field.text)

  mark_so : (mark : Mark) → mark_gives known mark ≡ false → mark_may_put known numbers mark ≡ false
      → notes_there seen bodies mark ≡ plain_notes known bodies mark
  mark_so (mentions m) g h =
      ap (λ ns. key_notes m ++ ns)
      (none_each (element_may_put known numbers) (element_notes seen bodies) element_none (role_fields m.role) h)
      ∙ append-nil (key_notes m)
  mark_so (of_fields site (calls_field f)) g h = refl
  mark_so (of_fields site (writes_field l by)) g h =
      ap (λ n. is_filled l.field.text ∷ one_note n) (written_so l by g h)
  mark_so (of_fields site (hands_over taker e)) g h = given_none e h
  mark_so (of_fields site (hands_literal taker at)) g h = refl
  mark_so (of_fields site (renews number)) g h = refl
  mark_so (of_fields site imports_all) g h = refl
  mark_so (runs_literal moment site at) g h = refl
  mark_so (returns at es) g h =
      none_each (given_may_put known numbers) (given_notes seen bodies) given_none (listed es) h
  mark_so (opens b) g h = refl
  mark_so closes g h = refl

module _ (known : Known) (marks : List Mark) (same : (seen_with known (placed [] marks) []).known ≡ known) where
  all_so : (ps : List Placed) → list_any (λ (p : Placed). mark_gives known p.mark) ps ≡ false
      → list_any (λ (p : Placed). mark_may_put known (cancels known marks) p.mark) ps ≡ false
      → flat_map (λ p. notes_there (seen_with known (placed [] marks) []) p.bodies p.mark) ps
      ≡ flat_map (λ p. plain_notes known p.bodies p.mark) ps
  all_so [] g h = refl
  all_so (p ∷ ps) g h = λ i.
      mark_so known marks same p.bodies p.mark (neither_first (mark_gives known p.mark) _ g)
      (neither_first (mark_may_put known (cancels known marks) p.mark) _ h) i
      ++ all_so ps (neither_second (mark_gives known p.mark) _ g)
      (neither_second (mark_may_put known (cancels known marks) p.mark) _ h) i

  marks_so : may_put known marks ≡ false
      → notes_in (seen_with known (placed [] marks) (object_rows known (placed [] marks))) ≡ plain_notes_in known marks
  marks_so h =
      let gives = none_placed (mark_gives known) [] marks (neither_first (list_any (mark_gives known) marks) _ h) in
      ap (λ (rows : List ObjectRow). notes_in (seen_with known (placed [] marks) rows))
      (no_rows known (placed [] marks) (placed [] marks) gives)
      ∙ all_so (placed [] marks) gives
      (none_placed (mark_may_put known (cancels known marks)) [] marks
      (neither_second (list_any (mark_gives known) marks) _ h))

-- Files

module _ (known : KeptKnown) (n : ℕ) (tree : SourceFile) where
  abbrev each : Known
  each = each_known known n

  file_so : may_put each (marks_by each.edition true (file_marks tree)) ≡ false
      → notes_in (seen_file each tree) ≡ plain_notes_in each (marks_by each.edition true (file_marks tree))
  file_so h = marks_so each (marks_by each.edition true (file_marks tree)) refl h

  pub file_said : {T E : Type 0} (r : Result T E) (a b : List Note) (here : KeptKnown) (marks : List KeptMark)
      → known_view here ≡ each
      → marks_view marks ≡ marks_by (known_view here).edition true (file_marks tree)
      → may_put (known_view here) (marks_view marks) ≡ false
      → OnOk r (b ≡ a ++ plain_notes_in (known_view here) (marks_view marks))
      → OnOk r (b ≡ a ++ notes_in (seen_file each tree))
  file_said r a b here marks is are none said =
      let told : marks_view marks ≡ marks_by each.edition true (file_marks tree) =
      are ∙ ap (λ (k : Known). marks_by k.edition true (file_marks tree)) is in
      subst (λ (ns : List Note). OnOk r (b ≡ a ++ ns))
      ((λ i. plain_notes_in (is i) (told i)) ∙ sym (file_so (sym (λ i. may_put (is i) (told i)) ∙ none))) said

-- Where no local may be a cancel variable, none is put

module _ (known : Known) where
  element_never : (e : Element) → element_may_put known [] e ≡ false
  element_never e = by (local_named known (Some e.value))
    where
      by : (o : Option ℕ) → has_number [] o ≡ false
      by None = refl
      by (Some v) = refl

  gift_never : (g : Gift) → gift_may_put known [] g ≡ false
  gift_never (named_gift n) = refl
  gift_never (element_gift e) = element_never e

  pub bare_never : (ns : List ℕ) (e : Expression) → true ≡ is_some (as_bare e)
      → false ≡ given_may_put known ns e
  unfolding gifts
  bare_never _ (expression_node (name_expression text) span) h = refl
  bare_never _ _ h = absurd (false≢true (sym h))

  given_never : (e : Expression) → given_may_put known [] e ≡ false
  given_never e = never (gift_may_put known []) gift_never (gifts missing_expression e)

  assigned_never : (by : Option Assigned) → assigned_may_put known [] by ≡ false
  assigned_never None = refl
  assigned_never (Some a) = of (local_named known (some_bare (value_at a.row a.left_side)))
    where
      of : (o : Option ℕ) → has_number [] o ≡ false
      of None = refl
      of (Some v) = refl

  mark_never : (mark : Mark) → mark_may_put known [] mark ≡ false
  mark_never (mentions m) = never (element_may_put known []) element_never (role_fields m.role)
  mark_never (of_fields site (calls_field f)) = refl
  mark_never (of_fields site (writes_field l by)) = assigned_never by
  mark_never (of_fields site (hands_over taker e)) = given_never e
  mark_never (of_fields site (hands_literal taker at)) = refl
  mark_never (of_fields site (renews number)) = refl
  mark_never (of_fields site imports_all) = refl
  mark_never (runs_literal moment site at) = refl
  mark_never (returns at es) = never (given_may_put known []) given_never (listed es)
  mark_never (opens b) = refl
  mark_never closes = refl

  pub none_never : (marks : List Mark) (gives : Bool) → false ≡ gives → cancels known marks ≡ []
      → false ≡ (gives || list_any (mark_may_put known (cancels known marks)) marks)
  none_never marks gives is_not none =
      sym (never (mark_may_put known []) mark_never marks)
      ∙ ap (λ (ns : List ℕ). list_any (mark_may_put known ns) marks) (sym none)
      ∙ ap (λ b. b || list_any (mark_may_put known (cancels known marks)) marks) is_not
