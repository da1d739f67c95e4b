-- An index that was read behind a name has this name before its brackets.
use Rattle.std.proofs.Common.{◌≡◌, Bool, true, false, true≢false, Option, Some, None, refl, sym, ap, ◌∙◌, ◌⊎◌, inl, inr}
use Rattle.std.specs.declared.alloc.Global.{Global}
use Rattle.std.specs.declared.boxed.Box.{Box}
use Rattle.std.specs.Prelude.{◌&&◌, if◌then◌else◌, option_and_then}
use Rattle.std.proofs.lemmas.Option.{none-some, option_and_then_some}
use Rattle.lexer.specs.declared.token.TokenKind.TheVariants.{Identifier as identifier_kind, Colon, Comma, RightBracket}
use Rattle.tree.specs.declared.expression.Expr.{Expr}
use Rattle.tree.specs.declared.expression.ExprKind.{ExprKind, Index, Index', FuncLit'}
use Rattle.tree.specs.declared.expression.Literal.{Literal'}
use Rattle.tree.specs.declared.span.Span.{Span}
use Rattle.tree.specs.Syntax.{Identifier, Expression, expression_node, ExpressionForm, index_expression, OptionalExpression, missing_expression, present_expression}
use Rattle.tree.specs.View.{expression_form, expression_syntax}
use Rattle.tree.proofs.Views.{expression_form-Index}
use Rattle.meaning.specs.Cursor.{Cursor, GoText}
use Rattle.tree_reader.specs.Reader.{Readers, is_second, indexed, indexed_form, name_at, read_any, read_expression_unless, read_more_arguments, read_index, read_slice, read_instance}
use Rattle.tree_reader.specs.Reading.{Read, stands, behind, steps, take, span_between, word_between, read_identifier}
use Rattle.parser_base.proofs.Faults.{fails_too}
use Rattle.parser_base.specs.declared.fault.Stop.{Stop}
use Rattle.parser_base.specs.Gives.{Stops}
use Rattle.tree_reader.proofs.Steps.{two_ways}

abbrev is_index_form : ExpressionForm → Bool
is_index_form (index_expression e i) = true
is_index_form form = false

abbrev is_index_node : Expression → Bool
is_index_node (expression_node form span) = is_index_form form

-- what was read is an index
abbrev is_index : Option (Expression × Cursor) → Bool
is_index None = false
is_index (Some x) = is_index_node x.0

abbrev operand_form : ExpressionForm → Expression → Expression
operand_form (index_expression e i) other = e
operand_form form other = other

abbrev operand_node : Expression → Expression → Expression
operand_node (expression_node form span) other = operand_form form other

-- what stands before the brackets of an index that was read
abbrev operand_read : Option (Expression × Cursor) → Expression → Expression
operand_read None other = other
operand_read (Some x) other = operand_node x.0 other

optional_ways : {B : Type 0} (absent : Cursor → B) (present : Expression → Cursor → B) (o : OptionalExpression) → (at : Cursor) (z : B) → (elim o as (λ x. Cursor → B) [ missing_expression ↦ absent | present_expression e ↦ present e ]) at ≡ z → ((o ≡ missing_expression) × (absent at ≡ z)) ⊎ ((e : Expression) × (o ≡ present_expression e) × (present e at ≡ z))
optional_ways absent present missing_expression at z e = inl (refl, e)
optional_ways absent present (present_expression v) at z e = inr (v, refl, e)

module _ (text : GoText) (r : Readers) (from : Cursor) (e f i : Expression) (span : Span) (end : Cursor) where
  abbrev index_read : Option (Expression × Cursor)
  index_read = Some (expression_node (index_expression f i) span, end)

  -- the other bounds of a slice, as they are read
  abbrev high_read : Cursor → Read OptionalExpression
  high_read at =
      if stands Colon at then Some (missing_expression, at) else read_expression_unless text r RightBracket false at

  abbrev most_read : Cursor → Read OptionalExpression
  most_read at =
      if stands Colon at
      then option_and_then (λ (bound : Expression × Cursor). Some (present_expression bound.0, bound.1))
      (read_any text r (behind at))
      else Some (missing_expression, at)

  -- a slice and an instance are no index
  no_slice : (low : OptionalExpression) (at : Cursor) → read_slice text r from e low at ≡ index_read → f ≡ e
  unfolding read_slice
  no_slice low at read =
      option_and_then_some _ (high_read (behind at)) _ read λ high high-read high-then.
      option_and_then_some _ (most_read high.1) _ high-then λ most most-read most-then.
      option_and_then_some _ (take RightBracket most.1) _ most-then λ last last-read last-then.
      absurd (true≢false (sym (ap is_index last-then)))

  no_instance : (first : Expression) (at : Cursor) → read_instance text r from e first at ≡ index_read → f ≡ e
  unfolding read_instance
  no_instance first at read =
      option_and_then_some _ (read_more_arguments text r (steps at) at) _ read λ more more-read more-then.
      option_and_then_some _ (take RightBracket more.1) _ more-then λ last last-read last-then.
      absurd (true≢false (sym (ap is_index last-then)))

  pub keeps_index : (at : Cursor) → read_index text r from e at ≡ index_read → f ≡ e
  unfolding read_index
  keeps_index at read =
      option_and_then_some _ (read_expression_unless text r Colon false (behind at)) _ read λ low low-read low-then.
      elim (two_ways (stands Colon low.1) _ _ index_read low-then) [
        | inl c ↦ no_slice low.0 low.1 c.1
        | inr c ↦ elim (optional_ways _ _ low.0 low.1 index_read c.1) [
          | inl d ↦ absurd (none-some _ d.1)
          | inr d ↦ elim (two_ways (is_second text.edition && stands Comma low.1) _ _ index_read d.2) [
            | inl k ↦ no_instance d.0 low.1 k.1
            | inr k ↦ option_and_then_some _ (take RightBracket low.1) _ k.1 λ last last-read last-then.
                sym (ap (λ o. operand_read o e) last-then)
          ]
        ]
      ]

pub no_index : (k : ExprKind) (span : Span) → ((e i : Box Expr Global) → k ≡ Index e i → ⊥) → indexed (expression_node (expression_form k) span) ≡ None
unfolding expression_form
no_index (Index' p e e_span q i i_span) span not =
    absurd (not record { ptr = p.ptr; alloc = p.alloc; value = record { kind = e; span = e_span } } record { ptr = q.ptr; alloc = q.alloc; value = record { kind = i; span = i_span } } refl)
no_index (FuncLit' p (Literal' ps_shape ps rs_shape rs brackets body)) span not = refl
no_index _ span not = refl

-- the name that stands at a place
module _ (text : GoText) (r : Readers) (place : Cursor) (stood : stands identifier_kind place ≡ true) where
  abbrev name_there : Identifier
  name_there = record { text = word_between text place (behind place); span = span_between place (behind place) }

  name_reads : read_identifier text place ≡ Some (name_there, behind place)
  unfolding read_identifier take
  name_reads = rw stood refl

  -- it is there, so nothing but memory keeps it from being read
  pub name_fails : (s : Stop) (o : Option (Identifier × Expression)) → Stops s (read_identifier text place) → Stops s o
  name_fails s o h = fails_too s (read_identifier text place) o h (λ none. absurd (none-some _ (sym none ∙ name_reads)))

  pub index_splits : (k : ExprKind) (span : Span) (e i : Box Expr Global) (end : Cursor) → k ≡ Index e i → read_index text r place (name_at text r place) (behind place) ≡ Some (expression_node (expression_form k) span, end) → (n : Identifier) (next : Cursor) → read_identifier text place ≡ Some (n, next) → indexed (expression_node (expression_form k) span) ≡ Some (n, expression_syntax i.value)
  index_splits k span e i end is read n next named =
      let form = ap expression_form is ∙ expression_form-Index e i in
      let kept = keeps_index text r place (name_at text r place) (expression_syntax e.value) (expression_syntax i.value) span end (behind place) (read ∙ ap (λ f. Some (expression_node f span, end)) form) in
      let same : (name_there, behind place) ≡ (n, next) = same_pair _ _ (sym name_reads ∙ named) in
      ap (λ f. indexed (expression_node f span)) form
      ∙ (ap (λ (x : Expression). indexed_form (index_expression x (expression_syntax i.value))) kept
      ∙ ap (λ (x : Identifier × Cursor). Some (x.0, expression_syntax i.value)) same)
    where
      same_pair : (a b : Identifier × Cursor) → ◌≡◌ {A = Option (Identifier × Cursor)} (Some a) (Some b) → a ≡ b
      same_pair a b e = cc
