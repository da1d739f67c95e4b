-- Each write of a field is marked, and each mark of one in which something is kept puts the same thing there.
use Rattle.std.proofs.Common.{◌≡◌, ℕ, ◌+◌, Bool, true, false, inl, inr, List, [], ◌++◌, Option, Some, None, Contains, refl, sym, ap, ◌∙◌, subst}
use Rattle.std.specs.Prelude.{◌==◌, ◌&&◌, not, if◌then◌else◌}
use Rattle.std.specs.List.{list_all, list_any}
use Rattle.std.specs.Str.{bytes_eq}
use Rattle.std.proofs.lemmas.Bool.{and_parts, eq-eqb, true≢false, false≢true, false_from_ne_true}
use Rattle.std.proofs.lemmas.List.Elements.{Contains-append_left, Contains-append_right, Contains-append_cases}
use Rattle.tree.specs.Syntax.{StatementForm, Expression, Expressions, no_expression, expression_and, empty_statement, declaration_statement, labeled_statement, expression_statement, send_statement, increment_statement, decrement_statement, assignment, operator_assignment, define_statement, go_statement, defer_statement, return_statement, break_statement, continue_statement, goto_statement, fallthrough_statement, block_statement, if_statement, for_statement, range_assignment, range_definition, switch_statement, type_switch_statement, select_statement}
use Rattle.meaning.specs.Mentions.{as_bare, left, assigns, Row, FieldLeft, Assigned, writes_field, Mark, of_fields, part_of, field_left, written, field_written, named_or, exposed_or, row_of, value_spot, is_one, rights_given, expression_marks, expressions_marks, lefts_marks, ranged_marks, statement_form_marks, statements_marks, Standing}
use Rattle.meaning.specs.Tracked.{Placed, is_variable}
use Rattle.meaning.specs.Objects.{local_named}
use Rattle.meaning.specs.Kept.{Keep, keeps_there, keeps_in, is_same_place, agrees, writes_otherwise}
use Rattle.meaning.proofs.Membership.{contains_here, contains_nil, contains_cases}
use Rattle.meaning_reports.proofs.ImportsOf.{gives}
use Rattle.meaning_runs.specs.FieldWrites.{one_field, fields_on_left, fields_written_by, FieldWritesAreMarked, FieldWritesAreKept, KeptRowsAreApart}
use Rattle.meaning_runs.proofs.Captured.{any_there, any_true}
use Rattle.meaning_runs.proofs.KeptEvents.{all_hold, row_among, row_belongs}
use Rattle.meaning_runs.proofs.Places.{eqb_is}

-- Marks

record IsWritten (ms : List Mark) (at : ℕ) (l : FieldLeft) : Type 0 where
  by : Option Assigned
  is_among : Contains ms (of_fields at (writes_field l by))

in_left : {xs : List Mark} (ys : List Mark) {at : ℕ} {l : FieldLeft} → IsWritten xs at l → IsWritten (xs ++ ys) at l
in_left {xs} ys {at} {l} h = record {
  by = h.by;
  is_among = Contains-append_left xs ys (of_fields at (writes_field l h.by)) h.is_among;
}

in_right : (xs : List Mark) {ys : List Mark} {at : ℕ} {l : FieldLeft} → IsWritten ys at l → IsWritten (xs ++ ys) at l
in_right xs {ys} {at} {l} h = record {
  by = h.by;
  is_among = Contains-append_right xs ys (of_fields at (writes_field l h.by)) h.is_among;
}

written_so : (at : ℕ) (by : Option Assigned) (e : Expression) (l : FieldLeft) → Contains (one_field (field_left e)) l
    → IsWritten (field_written at by e) at l
written_so at by e l h = of_left (field_left e) h
  where
    of_left : (o : Option FieldLeft) → Contains (one_field o) l → IsWritten (written at by o) at l
    of_left None k = absurd (contains_nil l k)
    of_left (Some x) k = elim (contains_cases x l [] k) [
      | inl same ↦ subst (λ y. IsWritten (written at by (Some x)) at y) same record {
        by = by;
        is_among = contains_here (of_fields at (writes_field x by)) [];
      }
      | inr none ↦ absurd (contains_nil l none)
    ]

lefts : (row : Row) (at k : ℕ) (es : Expressions) (l : FieldLeft) → Contains (fields_on_left es) l
    → IsWritten (lefts_marks row at k es) at l
unfolding lefts_marks
lefts row at k no_expression l h = absurd (contains_nil l h)
lefts row at k (expression_and e es) l h =
    in_right (named_or (as_bare e) at (left k row) (exposed_or at e (expression_marks (part_of at) e)))
    (elim (Contains-append_cases (one_field (field_left e)) (fields_on_left es) l h) [
      | inl first ↦ in_left (lefts_marks row at (k + 1) es) (written_so at (Some record { left_side = k; row = row }) e l first)
      | inr rest ↦ in_right (field_written at (Some record { left_side = k; row = row }) e) (lefts row at (k + 1) es l rest)
    ])

ranged : (at : ℕ) (es : Expressions) (l : FieldLeft) → Contains (fields_on_left es) l → IsWritten (ranged_marks at es) at l
unfolding ranged_marks
ranged at no_expression l h = absurd (contains_nil l h)
ranged at (expression_and e es) l h =
    in_right (exposed_or at e (expression_marks (part_of at) e))
    (elim (Contains-append_cases (one_field (field_left e)) (fields_on_left es) l h) [
      | inl first ↦ in_left (ranged_marks at es) (written_so at None e l first)
      | inr rest ↦ in_right (field_written at None e) (ranged at es l rest)
    ])

of_statement : (standing : Standing) (at : ℕ) (form : StatementForm) (l : FieldLeft)
    → Contains (fields_written_by form) l
    → IsWritten (statement_form_marks standing at form) at l
unfolding statement_form_marks
of_statement standing at empty_statement l h = absurd (contains_nil l h)
of_statement standing at (declaration_statement d) l h = absurd (contains_nil l h)
of_statement standing at (labeled_statement name s) l h = absurd (contains_nil l h)
of_statement standing at (expression_statement e) l h = absurd (contains_nil l h)
of_statement standing at (send_statement c v) l h = absurd (contains_nil l h)
of_statement standing at (increment_statement e) l h =
    in_right (exposed_or at e (expression_marks (part_of at) e)) (written_so at None e l h)
of_statement standing at (decrement_statement e) l h =
    in_right (exposed_or at e (expression_marks (part_of at) e)) (written_so at None e l h)
of_statement standing at (assignment ls rs) l h =
    let row = row_of standing at (assigns ls) rs in
    in_right (expressions_marks (value_spot row at) rs)
    (in_right (rights_given at (is_one rs) ls rs) (lefts row at 0 ls l h))
of_statement standing at (operator_assignment op e r) l h =
    in_right (exposed_or at e (expression_marks (part_of at) e))
    (in_right (expression_marks (part_of at) r) (written_so at None e l h))
of_statement standing at (define_statement ns rs) l h = absurd (contains_nil l h)
of_statement standing at (go_statement e) l h = absurd (contains_nil l h)
of_statement standing at (defer_statement e) l h = absurd (contains_nil l h)
of_statement standing at (return_statement es) l h = absurd (contains_nil l h)
of_statement standing at (break_statement name) l h = absurd (contains_nil l h)
of_statement standing at (continue_statement name) l h = absurd (contains_nil l h)
of_statement standing at (goto_statement name) l h = absurd (contains_nil l h)
of_statement standing at fallthrough_statement l h = absurd (contains_nil l h)
of_statement standing at (block_statement ss braces) l h = absurd (contains_nil l h)
of_statement standing at (if_statement init has_semicolon c ss braces other) l h = absurd (contains_nil l h)
of_statement standing at (for_statement init c post has_semicolons ss braces) l h =
    absurd (contains_nil l h)
of_statement standing at (range_assignment ls e ss braces) l h =
    in_left (expression_marks (part_of at) e ++ statements_marks ss) (ranged at ls l h)
of_statement standing at (range_definition ns e ss braces) l h = absurd (contains_nil l h)
of_statement standing at (switch_statement init has_semicolon tag cs) l h = absurd (contains_nil l h)
of_statement standing at (type_switch_statement init has_semicolon guard e cs) l h =
    absurd (contains_nil l h)
of_statement standing at (select_statement cs) l h = absurd (contains_nil l h)

pub field_writes_are_marked : FieldWritesAreMarked
field_writes_are_marked standing at form l h = let r = of_statement standing at form l h in (r.by, r.is_among)

-- What is kept there

not_so : (b : Bool) → not b ≡ true → b ≡ false
not_so true e = absurd (false≢true e)
not_so false e = refl

neither : (c d : Bool) → c ≡ true → (c && not d) ≡ false → d ≡ true
neither true true h e = refl
neither true false h e = absurd (true≢false e)
neither false d h e = absurd (false≢true h)

same_variable : (k q : Keep) → is_same_place k q ≡ true → agrees k q ≡ true → k.variable ≡ q.variable
same_variable k q same e = of_test (k.variable == q.variable) refl e
  where
    of_test : (b : Bool) → (k.variable == q.variable) ≡ b
        → (if b then is_same_place k q else not (is_same_place k q)) ≡ true
        → k.variable ≡ q.variable
    of_test true is t = eqb_is k.variable q.variable is
    of_test false is t = absurd (true≢false (sym same ∙ not_so (is_same_place k q) t))

pub field_writes_are_kept : FieldWritesAreKept
field_writes_are_kept seen k bodies site l by h among object field =
    let mark : Mark = of_fields site (writes_field l by) in
    let others : Placed → Bool = λ p. writes_otherwise seen k p.bodies p.mark in
    let parts = and_parts (list_all (agrees k) (keeps_in seen)) (not (list_any others seen.marks)) (row_belongs seen k h) in
    let none : writes_otherwise seen k bodies mark ≡ false =
    false_from_ne_true (writes_otherwise seen k bodies mark) (λ t. true≢false
    (sym (any_true others seen.marks record { mark = mark; bodies = bodies } among t)
    ∙ not_so (list_any others seen.marks) parts.1)) in
    let its_object : is_variable (local_named seen.known l.object) k.object ≡ true =
    ap (λ o. is_variable o k.object) object ∙ eq-eqb k.object k.object refl in
    let its_field : (is_variable (local_named seen.known l.object) k.object && bytes_eq l.field.text k.field) ≡ true =
    ap (λ b. b && bytes_eq l.field.text k.field) its_object ∙ field in
    let w = any_there (is_same_place k) (keeps_there seen bodies mark)
    (neither (is_variable (local_named seen.known l.object) k.object && bytes_eq l.field.text k.field)
    (list_any (is_same_place k) (keeps_there seen bodies mark)) its_field none) in
    let in_file = gives (λ (p : Placed). keeps_there seen p.bodies p.mark) seen.marks record { mark = mark; bodies = bodies } w.0
    among w.1 in
    (w.0, w.1, sym (same_variable k w.0 w.2 (all_hold (agrees k) (keeps_in seen) w.0 parts.0 in_file)))

pub kept_rows_are_apart : KeptRowsAreApart
kept_rows_are_apart seen k q h g =
    let parts = and_parts (list_all (agrees k) (keeps_in seen))
    (not (list_any (λ (p : Placed). writes_otherwise seen k p.bodies p.mark) seen.marks)) (row_belongs seen k h) in
    let e : agrees k q ≡ true = all_hold (agrees k) (keeps_in seen) q parts.0 (row_among seen q g) in (
      λ same.
          sym (ap (λ b. if b then is_same_place k q else not (is_same_place k q)) (eq-eqb k.variable q.variable same)) ∙ e,
      λ same. same_variable k q same e,
    )
