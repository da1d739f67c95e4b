-- Rows that obtain into fields, found by a loop over the marks.
use Rattle.std.proofs.Common.{◌≡◌, ℕ, ◌+◌, ◌<◌, ◌≤◌, Bool, true, false, ◌&&◌, ◌||◌, not, if◌then◌else◌, List, [], ◌∷◌, ◌++◌, length, get_or, drop, map, Option, Some, None, is_some, flat_map, refl, sym, ap, ◌∙◌, append_assoc}
use Rattle.std.specs.List.{list_any}
use Rattle.std.proofs.lemmas.List.{at_drop_all, append-nil}
use Rattle.tree.proofs.Depths.{drop_item}
use Rattle.tree.specs.Syntax.{Identifier}
use Rattle.mentions.specs.declared.mark.BodyPlace.{BodyPlace as KeptBody}
use Rattle.mentions.specs.declared.mark.Mark.{Mark as KeptMark}
use Rattle.mentions.specs.MarkViews.{body_view, mark_view, marks_view}
use Rattle.meaning.specs.FunctionFacts.{CancelType}
use Rattle.meaning.specs.Mentions.{BodyPlace, calls_field, writes_field, hands_over, hands_literal, renews, imports_all, Mark, mentions, of_fields, runs_literal, returns, opens, closes}
use Rattle.meaning.specs.Tracked.{Known, has_field, row_giving, Placed, placed, Local}
use Rattle.meaning.specs.Objects.{points_to, is_value_in, unaddressed, ObjectKind, ObjectRow, local_named, type_at, object_in, object_row, object_rows_there, object_rows}
use Rattle.tracked.specs.declared.object_rows.ObjectRow.{ObjectRow as KeptRow}
use Rattle.tracked.specs.LocalViews.{bodies_at, object_row_view, unbound_local}
use Rattle.objects.specs.ObjectViews.{candidate_of, row_by, unaddressed_candidate, rows_by}
use Rattle.objects.proofs.ObjectKinds.{kind-there}

-- a row without one of its parts is none
no_object : (bodies : List BodyPlace) (f : Identifier) (k : Option ObjectKind) (t : Option CancelType)
    → [] ≡ object_row bodies f None k t
no_object [] f k t = refl
no_object (b ∷ bs) f k t = refl

no_type : (bodies : List BodyPlace) (f : Identifier) (x : ℕ) (k : Option ObjectKind) → [] ≡ object_row bodies f (Some x) k None
no_type [] f x k = refl
no_type (b ∷ bs) f x None = refl
no_type (b ∷ bs) f x (Some k) = refl

-- a local that isn't sought is no object
no_local : (known : Known) (marks : List Placed) (bodies : List BodyPlace) (f : Identifier) (x : ℕ) (t : CancelType)
    → [] ≡ object_row bodies f (Some x) (object_in known marks bodies None) (Some t)
no_local known marks [] f x t = refl
no_local known marks (b ∷ bs) f x t = refl

module _ (known : Known) (marks : List Placed) where
  of_candidate : (bodies : List BodyPlace) (f : Identifier) (x : Option ℕ) (t : Option CancelType)
      → row_by (unbound_local known marks) bodies (unaddressed_candidate known marks (candidate_of f x t))
      ≡ object_row bodies f x (object_in known marks bodies (unaddressed known marks x)) t
  of_candidate bodies f None t = no_object bodies f (object_in known marks bodies None) t
  of_candidate bodies f (Some x) None = no_type bodies f x (object_in known marks bodies (unaddressed known marks (Some x)))
  of_candidate bodies f (Some x) (Some t) =
      by (is_value_in known marks x || not (list_any (λ p. points_to known x p.mark) marks))
    where
      by : (test : Bool)
          → row_by (unbound_local known marks) bodies
          (if is_some (if test then Some x else None) then Some record { object = x; field = f; type = t } else None)
          ≡ object_row bodies f (Some x) (object_in known marks bodies (if test then Some x else None)) (Some t)
      by true = ap (λ k. object_row bodies f (Some x) k (Some t)) (kind-there known marks bodies (Some x))
      by false = no_local known marks bodies f x t

  one_mark : (bodies : List BodyPlace) (m : Mark)
      → rows_by known marks (unbound_local known marks) bodies m ≡ object_rows_there known marks bodies m
  one_mark bodies (of_fields site (writes_field l (Some a))) = by (not l.has_brackets && has_field known.fields l.field.text)
    where
      by : (test : Bool)
          → row_by (unbound_local known marks) bodies
          (unaddressed_candidate known marks
          (if test then candidate_of l.field (local_named known l.object) (type_at a.left_side (row_giving known a.row)) else None))
          ≡ (if test
          then object_row bodies l.field (local_named known l.object)
          (object_in known marks bodies (unaddressed known marks (local_named known l.object)))
          (type_at a.left_side (row_giving known a.row))
          else [])
      by true =
          of_candidate bodies l.field (local_named known l.object) (type_at a.left_side (row_giving known a.row))
      by false = refl
  one_mark bodies (of_fields site (writes_field l None)) = refl
  one_mark bodies (of_fields site (calls_field f)) = refl
  one_mark bodies (of_fields site (hands_over taker e)) = refl
  one_mark bodies (of_fields site (hands_literal taker at)) = refl
  one_mark bodies (of_fields site (renews number)) = refl
  one_mark bodies (of_fields site imports_all) = refl
  one_mark bodies (mentions m) = refl
  one_mark bodies (runs_literal moment site at) = refl
  one_mark bodies (returns at es) = refl
  one_mark bodies (opens b) = refl
  one_mark bodies closes = refl

-- by what is kept of the locals that are bound in their declarations alone
abbrev pub rows_placed : Known → List Placed → (ℕ → Option Local) → List Placed → List ObjectRow
rows_placed known all unbound ps = flat_map (λ (p : Placed). rows_by known all unbound p.bodies p.mark) ps

pub all_rows : (known : Known) (marks : List Placed) (unbound : ℕ → Option Local)
    → ((n : ℕ) → unbound n ≡ unbound_local known marks n) → rows_placed known marks unbound marks ≡ object_rows known marks
all_rows known marks unbound same =
    ap (λ (u : ℕ → Option Local). rows_placed known marks u marks) (λ i n. same n i)
    ∙ (λ i. flat_map (λ (p : Placed). one_mark known marks p.bodies p.mark i) marks)

module _ (known : Known) (all : List Placed) (unbound : ℕ → Option Local) where
  rows-mark : (bs : List BodyPlace) (m : Mark) (ms : List Mark)
      → rows_placed known all unbound (placed bs (m ∷ ms))
      ≡ rows_by known all unbound (bodies_at bs m) m ++ rows_placed known all unbound (placed (bodies_at bs m) ms)
  unfolding placed
  rows-mark bs (mentions m) ms = refl
  rows-mark bs (of_fields site m) ms = refl
  rows-mark bs (runs_literal moment site at) ms = refl
  rows-mark bs (returns at es) ms = refl
  rows-mark bs (opens b) ms = refl
  rows-mark bs closes ms = refl

  -- one mark more: what was added, with what the rest adds, is the whole
  pub next_row : (marks : List KeptMark) (i : ℕ) (m : KeptMark) → i < length marks → m ≡ get_or marks i m
      → (before after slice : List KeptBody) → map body_view after ≡ bodies_at (map body_view before) (mark_view m)
      → slice ≡ after → (old new : List KeptRow) (listed whole : List ObjectRow)
      → listed ≡ rows_by known all unbound (map body_view slice) (mark_view m)
      → map object_row_view new ≡ map object_row_view old ++ listed
      → map object_row_view old ++ rows_placed known all unbound (placed (map body_view before) (marks_view (drop i marks))) ≡ whole
      → map object_row_view new ++ rows_placed known all unbound (placed (map body_view after) (marks_view (drop (i + 1) marks)))
      ≡ whole
  next_row marks i m within is before after slice around same old new listed whole found adds so_far =
      let rest : List Mark = marks_view (drop (i + 1) marks) in
      let others : List BodyPlace → List ObjectRow = λ bs. rows_placed known all unbound (placed bs rest) in
      let one : List BodyPlace → List ObjectRow = λ bs. rows_by known all unbound bs (mark_view m) in
      ap (λ (rs : List ObjectRow). rs ++ others (map body_view after)) adds
      ∙ append_assoc (map object_row_view old) listed (others (map body_view after))
      ∙ ap (λ (rs : List ObjectRow). map object_row_view old ++ rs)
      (ap (λ (rs : List ObjectRow). rs ++ others (map body_view after))
      (found ∙ ap (λ (bs : List KeptBody). one (map body_view bs)) same)
      ∙ ap (λ (bs : List BodyPlace). one bs ++ others bs) around
      ∙ sym (rows-mark (map body_view before) (mark_view m) rest)
      ∙ sym
      (ap (λ (ms : List KeptMark). rows_placed known all unbound (placed (map body_view before) (marks_view ms)))
      (drop_item marks i m within is)))
      ∙ so_far

  -- after the last one
  pub no_more : (marks : List KeptMark) (i : ℕ) → length marks ≤ i → (bs : List BodyPlace) (old whole : List ObjectRow)
      → old ++ rows_placed known all unbound (placed bs (marks_view (drop i marks))) ≡ whole → old ≡ whole
  unfolding placed
  no_more marks i past bs old whole so_far =
      sym
      (at_drop_all (λ (ms : List KeptMark). old ++ rows_placed known all unbound (placed bs (marks_view ms))) marks i past
      ∙ append-nil old)
      ∙ so_far
