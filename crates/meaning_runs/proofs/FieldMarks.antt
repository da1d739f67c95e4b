-- The marks of fields that a part of a tree has, and of what it gives: each has the site of that part, and is of fields.
use Rattle.std.proofs.Common.{ℕ, Bool, true, false, List, [], ◌∷◌, ◌++◌, Option, Some, None, ◌≡◌, refl}
use Rattle.std.specs.Prelude.{if◌then◌else◌, is_some, codes}
use Rattle.std.specs.Str.{bytes_eq}
use Rattle.tree.specs.declared.span.Span.{Span}
use Rattle.tree.specs.Syntax.{Identifier, Expression, expression_node, selector_expression, call_expression, Expressions, no_expression, expression_and, statement_node, send_statement, define_statement, OptionalStatement, present_statement}
use Rattle.meaning.specs.Mentions.{Named, as_bare, bare_within, Standing, ordinary, first_of_for, communication, CallPlace, deferred, under_go, FieldLeft, Assigned, Taker, no_taker, called_function, appending, method, some_taker, FieldMark, calls_field, writes_field, hands_over, hands_literal, renews, imports_all, Mark, of_fields, field_left, written, field_written, field_called, given_to, literal_given_to, receiver_given, all_given_to, appended, right_given, rights_given, sent, renewed, communication_given, guard_renewed}

pub data FieldsOnly (P : FieldMark → Type 0) (site : ℕ) : List Mark → Type 0 where
  no_more : FieldsOnly P site []
  and_one : {ms : List Mark} (m : FieldMark) → P m → FieldsOnly P site ms → FieldsOnly P site (of_fields site m ∷ ms)

pub fields_both : {P : FieldMark → Type 0} {site : ℕ} (xs : List Mark) {ys : List Mark} → FieldsOnly P site xs
    → FieldsOnly P site ys
    → FieldsOnly P site (xs ++ ys)
fields_both xs no_more k = k
fields_both xs (and_one {ms = ms} m p h) k = and_one m p (fields_both ms h k)

-- no field gets a value
abbrev pub IsNoWrite : FieldMark → Type 0
IsNoWrite (calls_field f) = Unit {0}
IsNoWrite (writes_field l by) = ⊥
IsNoWrite (hands_over taker e) = Unit {0}
IsNoWrite (hands_literal taker at) = Unit {0}
IsNoWrite (renews number) = Unit {0}
IsNoWrite imports_all = Unit {0}

abbrev pub Any : FieldMark → Type 0
Any m = Unit {0}

pub any : (m : FieldMark) → IsNoWrite m → Any m
any m h = tt

pub any_write : (l : FieldLeft) (by : Option Assigned) → Any (writes_field l by)
any_write l by = tt

module _ (P : FieldMark → Type 0) (others : (m : FieldMark) → IsNoWrite m → P m) where
  only : (site : ℕ) (m : FieldMark) → P m → FieldsOnly P site (of_fields site m ∷ [])
  only site m p = and_one m p no_more

  pub called_only : (site : ℕ) (e : Expression) → FieldsOnly P site (field_called site e)
  called_only site (expression_node (selector_expression e f) span) =
      only site (calls_field f.text) (others (calls_field f.text) tt)
  called_only site e = no_more

  pub given_only : (site : ℕ) (taker : Taker) (e : Expression) → FieldsOnly P site (given_to site taker e)
  given_only site no_taker e = no_more
  given_only site (called_function n) e =
      only site (hands_over (called_function n) e) (others (hands_over (called_function n) e) tt)
  given_only site (appending n) e = only site (hands_over (appending n) e) (others (hands_over (appending n) e) tt)
  given_only site (method m) e = only site (hands_over (method m) e) (others (hands_over (method m) e) tt)
  given_only site some_taker e = only site (hands_over some_taker e) (others (hands_over some_taker e) tt)

  pub literal_only : (site : ℕ) (taker : Taker) (at : ℕ) → FieldsOnly P site (literal_given_to site taker at)
  literal_only site no_taker at = no_more
  literal_only site (called_function n) at =
      only site (hands_literal (called_function n) at) (others (hands_literal (called_function n) at) tt)
  literal_only site (appending n) at =
      only site (hands_literal (appending n) at) (others (hands_literal (appending n) at) tt)
  literal_only site (method m) at = only site (hands_literal (method m) at) (others (hands_literal (method m) at) tt)
  literal_only site some_taker at = only site (hands_literal some_taker at) (others (hands_literal some_taker at) tt)

  pub receiver_only : (place : CallPlace) (site : ℕ) (e : Expression) → FieldsOnly P site (receiver_given place site e)
  receiver_only deferred site (expression_node (selector_expression e m) span) = given_only site (method m.text) e
  receiver_only under_go site (expression_node (selector_expression e m) span) = given_only site (method m.text) e
  receiver_only place site e = no_more

  pub all_given_only : (site : ℕ) (taker : Taker) (es : Expressions) → FieldsOnly P site (all_given_to site taker es)
  all_given_only site taker no_expression = no_more
  all_given_only site taker (expression_and e es) =
      fields_both (given_to site taker e) (given_only site taker e) (all_given_only site taker es)

  pub picked_only : (site : ℕ) (b : Bool) {xs ys : List Mark} → FieldsOnly P site xs → FieldsOnly P site ys
      → FieldsOnly P site (if b then xs else ys)
  picked_only site true h k = h
  picked_only site false h k = k

  pub appended_only : (site : ℕ) (n : Option Named) (es : Expressions) → FieldsOnly P site (appended site n es)
  appended_only site None es = no_more
  appended_only site (Some n) es =
      picked_only site (bytes_eq n.name (codes "append")) (all_given_only site (appending n) es) no_more

  pub right_only : (site : ℕ) (is_only : Bool) (e : Expression) → FieldsOnly P site (right_given site is_only e)
  right_only site is_only (expression_node (call_expression f es ellipsis) span) =
      picked_only site is_only no_more (appended_only site (as_bare f) es)
  right_only site is_only e = given_only site some_taker e

  pub rights_only : (site : ℕ) (is_only : Bool) (ls rs : Expressions)
      → FieldsOnly P site (rights_given site is_only ls rs)
  rights_only site is_only (expression_and l ls) (expression_and r rs) =
      fields_both (if is_some (bare_within l) then [] else right_given site is_only r)
      (picked_only site (is_some (bare_within l)) no_more (right_only site is_only r))
      (rights_only site is_only ls rs)
  rights_only site is_only ls rs = no_more

  pub sent_only : (standing : Standing) (at : ℕ) (v : Expression) → FieldsOnly P at (sent standing at v)
  sent_only communication at v = no_more
  sent_only ordinary at v = given_only at some_taker v
  sent_only first_of_for at v = given_only at some_taker v

  pub renewed_only : (site : ℕ) (ns : List Identifier) → FieldsOnly P site (renewed site ns)
  renewed_only site [] = no_more
  renewed_only site (n ∷ ns) = and_one (renews n.span.start) (others (renews n.span.start) tt) (renewed_only site ns)

  pub communication_only : (clause : ℕ) (c : OptionalStatement) → FieldsOnly P clause (communication_given clause c)
  communication_only clause (present_statement (statement_node (send_statement c v) span)) = given_only clause some_taker v
  communication_only clause (present_statement (statement_node (define_statement ns rs) span)) = renewed_only clause ns
  communication_only clause c = no_more

  pub guard_only : (n : Option Identifier) (clause : Span) → FieldsOnly P clause.start (guard_renewed n clause)
  guard_only None clause = no_more
  guard_only (Some n) clause = only clause.start (renews clause.start) (others (renews clause.start) tt)

  pub written_only : (site : ℕ) (by : Option Assigned) (e : Expression)
      → ((l : FieldLeft) → field_left e ≡ Some l → P (writes_field l by))
      → FieldsOnly P site (field_written site by e)
  written_only site by e h = of_left (field_left e) refl
    where
      of_left : (o : Option FieldLeft) → field_left e ≡ o → FieldsOnly P site (written site by o)
      of_left None q = no_more
      of_left (Some l) q = only site (writes_field l by) (h l q)
