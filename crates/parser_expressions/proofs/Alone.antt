-- A name or a literal that stands alone is read as an operand and nothing behind it.
use Rattle.std.proofs.Common.{◌≡◌, ℕ, suc, ◌-◌, ◌<◌, arith, Bool, true, false, List, [], ◌∷◌, length, Option, Some, None, refl, sym, ap, ◌∙◌}
use Rattle.std.specs.Prelude.{◌&&◌, if◌then◌else◌, nat_le, option_and_then}
use Rattle.lexer.specs.Spelling.{same_kind}
use Rattle.lexer.specs.declared.token.Token.{Token}
use Rattle.lexer.specs.declared.token.TokenKind.{TokenKind}
use Rattle.lexer.specs.declared.token.TokenKind.TheVariants.{Identifier, Number as number_token, Rune as rune_token, InterpretedString as interpreted_string_token, RawString as raw_string_token, FuncKeyword, Star, LeftParenthesis, RightParenthesis, LeftBracket, RightBracket, LeftBrace, RightBrace, Comma, Semicolon, Dot, Colon, Assign, Define}
use Rattle.tree.specs.declared.operator.BasicLitKind.{BasicLitKind}
use Rattle.tree.specs.Syntax.{Expression, ExpressionForm, name_expression, basic_literal}
use Rattle.meaning.specs.Cursor.{Cursor, GoText, is_next, first_is}
use Rattle.meaning.specs.WellFormed.{primary_level, unary_level}
use Rattle.tree_reader.specs.Reader.{Readers, of_first, of_next, binary_operator, unary_operator, literal_kind, is_guard, takes_braces, read_operand, read_primary, read_unary, read_operators, read_suffixes, read_expression_of}
use Rattle.tree_reader.specs.Reading.{Read, stands, behind, steps, spanned, word_between}
use Rattle.parser_base.specs.Parts.{goes_on, next_operator, at_least}
use Rattle.parser_expressions.specs.Alone.{ends_primary, ends_expression, is_lone_primary, is_lone_expression, lone_primary_literal, lone_literal}
use Rattle.parser_expressions.proofs.Suffixes.{goes_by, suffixes-end}
use Rattle.parser_expressions.proofs.Operators.{operators-end}

pub both : (a b : Bool) → (a && b) ≡ true → (a ≡ true) × (b ≡ true)
both true true h = (refl, refl)
both true false h = absurd cc
both false b h = absurd cc

-- what no primary expression goes on with
stays_at : (guard header named : Bool) (k : TokenKind) → ends_primary header k ≡ true → goes_by (same_kind k Dot) guard (same_kind k LeftBracket) (same_kind k LeftParenthesis) (same_kind k LeftBrace) header named ≡ false
unfolding same_kind
stays_at guard header named Dot h = absurd cc
stays_at guard header named LeftBracket h = absurd cc
stays_at guard header named LeftParenthesis h = absurd cc
stays_at guard true named LeftBrace h = refl
stays_at guard false named LeftBrace h = absurd cc
stays_at guard header named _ h = refl

ends_both : (header : Bool) (k : TokenKind) → ends_expression header k ≡ true → (ends_primary header k ≡ true) × (binary_operator k ≡ None)
ends_both header RightParenthesis h = (refl, refl)
ends_both header RightBracket h = (refl, refl)
ends_both header RightBrace h = (refl, refl)
ends_both header Comma h = (refl, refl)
ends_both header Semicolon h = (refl, refl)
ends_both header Colon h = (refl, refl)
ends_both header Assign h = (refl, refl)
ends_both header Define h = (refl, refl)
ends_both header LeftBrace h = (h, refl)
ends_both header _ h = absurd cc

stays_before : (guard header named : Bool) (left : List Token) → first_is (ends_primary header) left ≡ true → goes_by (first_is (λ k. same_kind k Dot) left) guard (first_is (λ k. same_kind k LeftBracket) left) (first_is (λ k. same_kind k LeftParenthesis) left) (first_is (λ k. same_kind k LeftBrace) left) header named ≡ false
stays_before guard header named [] h = absurd cc
stays_before guard header named (t ∷ rest) h = stays_at guard header named t.kind h

stays : (text : GoText) (header : Bool) (e : Expression) (place : Cursor) → is_next (ends_primary header) place ≡ true → goes_on text.edition header e place ≡ false
unfolding stands
stays text header e place h =
    stays_before (is_guard place) header (takes_braces text.edition e) place.left h

primary_before : (header : Bool) (left : List Token) → first_is (ends_expression header) left ≡ true → (first_is (ends_primary header) left ≡ true) × (of_first binary_operator left ≡ None)
primary_before header [] h = absurd cc
primary_before header (t ∷ rest) h = ends_both header t.kind h

-- no operator stands before a name
no_star : (k : TokenKind) → same_kind k Identifier ≡ true → (same_kind k Star ≡ false) × (unary_operator k ≡ None)
unfolding same_kind
no_star Identifier h = (refl, refl)
no_star _ h = absurd cc

no_star_before : (left : List Token) → first_is (λ k. same_kind k Identifier) left ≡ true → (first_is (λ k. same_kind k Star) left ≡ false) × (of_first unary_operator left ≡ None)
no_star_before [] h = absurd cc
no_star_before (t ∷ rest) h = no_star t.kind h

no_operator_before : (place : Cursor) → stands Identifier place ≡ true → (stands Star place ≡ false) × (of_next unary_operator place ≡ None)
unfolding stands
no_operator_before place h = no_star_before place.left h

-- nor before a literal, which is no other operand
literal_first : (k : TokenKind) (kind : BasicLitKind) → Some kind ≡ literal_kind k → ((same_kind k Identifier ≡ false) × (same_kind k LeftParenthesis ≡ false) × (same_kind k FuncKeyword ≡ false)) × (same_kind k Star ≡ false) × (unary_operator k ≡ None)
unfolding same_kind
literal_first number_token kind h = ((refl, refl, refl), refl, refl)
literal_first rune_token kind h = ((refl, refl, refl), refl, refl)
literal_first interpreted_string_token kind h = ((refl, refl, refl), refl, refl)
literal_first raw_string_token kind h = ((refl, refl, refl), refl, refl)
literal_first _ kind h = absurd cc

literal_before : (left : List Token) (kind : BasicLitKind) → Some kind ≡ of_first literal_kind left → ((first_is (λ k. same_kind k Identifier) left ≡ false) × (first_is (λ k. same_kind k LeftParenthesis) left ≡ false) × (first_is (λ k. same_kind k FuncKeyword) left ≡ false)) × (first_is (λ k. same_kind k Star) left ≡ false) × (of_first unary_operator left ≡ None)
literal_before [] kind h = absurd cc
literal_before (t ∷ rest) kind h = literal_first t.kind kind h

literal_stands : (place : Cursor) (kind : BasicLitKind) → Some kind ≡ of_next literal_kind place → ((stands Identifier place ≡ false) × (stands LeftParenthesis place ≡ false) × (stands FuncKeyword place ≡ false)) × (stands Star place ≡ false) × (of_next unary_operator place ≡ None)
unfolding stands
literal_stands place kind h = literal_before place.left kind h

where_ends : (ends : Bool) (found : Option BasicLitKind) (kind : BasicLitKind) → Some kind ≡ (if ends then found else None) → (ends ≡ true) × (Some kind ≡ found)
where_ends true found kind h = (refl, h)
where_ends false found kind h = absurd cc

by_level : {A : Type 0} (primary unary : Bool) (x y z to : A) → x ≡ to → y ≡ to → z ≡ to → (if primary then x else if unary then y else z) ≡ to
by_level true unary x y z to p q r = p
by_level false true x y z to p q r = q
by_level false false x y z to p q r = r

module _ (text : GoText) (r : Readers) (below : ℕ) (header : Bool) (place : Cursor) where
  all_steps : steps (behind place) - 0 ≡ steps (behind place)
  all_steps = omega arith

  -- an operand of one token
  module _ (form : ExpressionForm) where
    abbrev lone : Expression × Cursor
    lone = spanned place form (behind place)

    no_suffix : is_next (ends_primary header) (behind place) ≡ true → read_suffixes text r below header place (steps (behind place)) lone.0 (behind place) ≡ Some lone
    no_suffix h =
        suffixes-end text r below header place (steps (behind place)) 0 lone.0 (behind place) (read_suffixes text r below header place (steps (behind place)) lone.0 (behind place)) (ap (λ (n : ℕ). read_suffixes text r below header place n lone.0 (behind place)) all_steps) (omega arith) false (sym (stays text header lone.0 (behind place) h)) refl

    no_operator : (least : ℕ) → of_next binary_operator (behind place) ≡ None → read_operators text r below header least place (steps (behind place)) lone.0 (behind place) ≡ Some lone
    no_operator least h =
        operators-end text r below header least place (steps (behind place)) 0 lone.0 (behind place) (read_operators text r below header least place (steps (behind place)) lone.0 (behind place)) (ap (λ (n : ℕ). read_operators text r below header least place n lone.0 (behind place)) all_steps) (omega arith) (sym (ap (at_least least) h))

    module _ (operand : read_operand text r below place ≡ Some lone) where
      primary_lone : is_next (ends_primary header) (behind place) ≡ true → read_primary text r below header place ≡ Some lone
      unfolding read_primary
      primary_lone h = rw operand (no_suffix h)

      module _ (star : stands Star place ≡ false) (unary : of_next unary_operator place ≡ None) where
        unary_lone : is_next (ends_primary header) (behind place) ≡ true → read_unary text r below header place ≡ Some lone
        unfolding read_unary
        unary_lone h = rw (star, unary) (primary_lone h)

        operators_lone : (least : ℕ) → is_next (ends_primary header) (behind place) ≡ true → of_next binary_operator (behind place) ≡ None → option_and_then (λ (e : Expression × Cursor). read_operators text r below header least place (steps e.1) e.0 e.1) (read_unary text r below header place) ≡ Some lone
        operators_lone least h none = rw (unary_lone h) (no_operator least none)

        expression_lone : (least : ℕ) → is_next (ends_expression header) (behind place) ≡ true → read_expression_of text r below header least place ≡ Some lone
        unfolding read_expression_of
        expression_lone least h =
            let p = primary_before header (behind place).left h in
            by_level (nat_le primary_level least) (nat_le unary_level least) (read_primary text r below header place) (read_unary text r below header place) (option_and_then (λ (e : Expression × Cursor). read_operators text r below header least place (steps e.1) e.0 e.1) (read_unary text r below header place)) (Some lone) (primary_lone p.0) (unary_lone p.0) (operators_lone least p.0 p.1)

  abbrev name_form : ExpressionForm
  name_form = name_expression (word_between text place (behind place))

  operand_name : stands Identifier place ≡ true → read_operand text r below place ≡ Some (spanned place name_form (behind place))
  unfolding read_operand
  operand_name h = rw h refl

  pub primary-alone : is_lone_primary header place ≡ true → Some (spanned place name_form (behind place)) ≡ read_primary text r below header place
  primary-alone h =
      let p = both (stands Identifier place) (is_next (ends_primary header) (behind place)) h in
      sym (primary_lone name_form (operand_name p.0) p.1)

  pub expression-alone : (least : ℕ) → is_lone_expression header place ≡ true → Some (spanned place name_form (behind place)) ≡ read_expression_of text r below header least place
  expression-alone least h =
      let p = both (stands Identifier place) (is_next (ends_expression header) (behind place)) h in
      let q = no_operator_before place p.0 in
      sym (expression_lone name_form (operand_name p.0) q.0 q.1 least p.1)

  operand_literal : (kind : BasicLitKind) → Some kind ≡ of_next literal_kind place → read_operand text r below place ≡ Some (spanned place (basic_literal kind) (behind place))
  unfolding read_operand
  operand_literal kind h =
      let p = literal_stands place kind h in
      rw (p.0.0, p.0.1, p.0.2, sym h) refl

  pub primary-literal : (kind : BasicLitKind) → Some kind ≡ lone_primary_literal header place → Some (spanned place (basic_literal kind) (behind place)) ≡ read_primary text r below header place
  primary-literal kind h =
      let p = where_ends (is_next (ends_primary header) (behind place)) (of_next literal_kind place) kind h in
      sym (primary_lone (basic_literal kind) (operand_literal kind p.1) p.0)

  pub expression-literal : (least : ℕ) (kind : BasicLitKind) → Some kind ≡ lone_literal header place → Some (spanned place (basic_literal kind) (behind place)) ≡ read_expression_of text r below header least place
  expression-literal least kind h =
      let p = where_ends (is_next (ends_expression header) (behind place)) (of_next literal_kind place) kind h in
      let q = literal_stands place kind p.1 in
      sym (expression_lone (basic_literal kind) (operand_literal kind p.1) q.1 q.2 least p.0)
