-- A type parameter that was read as the length of an array: its constraint is spelled behind its name, and reading type
-- parameters gives just that.
use Rattle.std.proofs.Common.{◌≡◌, ℕ, ◌≤◌, Bool, true, false, true≢false, ◌&&◌, ◌||◌, List, Option, Some, None, refl, sym, ap, ◌∙◌, subst, inl, inr, arith}
use Rattle.std.specs.Prelude.{not, option_map}
use Rattle.std.proofs.lemmas.Bool.{and_parts}
use Rattle.std.proofs.lemmas.Option.{none-some, same_Some}
use Rattle.lexer.specs.declared.token.TokenKind.TheVariants.{Identifier as identifier_kind, LeftParenthesis, RightParenthesis, LeftBracket, RightBracket, Comma}
use Rattle.tree.specs.declared.operator.BinaryOperator.TheVariants.{Or, Multiply}
use Rattle.tree.specs.declared.operator.UnaryOperator.TheVariants.{Tilde}
use Rattle.tree.specs.declared.span.Span.{Span}
use Rattle.tree.specs.Syntax.{Identifier, Expression, expression_node, name_expression, parenthesized, call_expression, star_expression, unary_expression, binary_expression, no_expression, expression_and, Parameters, no_parameter, named_and}
use Rattle.tree.specs.Depth.{expression_depth, below_expression, expressions_depth, parameters_depth}
use Rattle.meaning.specs.Cursor.{GoText, Cursor, TakesToken, optional, token, identifier, start_at}
use Rattle.meaning.specs.WellFormed.{level, is_type, is_term, is_constraint, end_constrained}
use Rattle.meaning.specs.TypeParameters.{begins_parameters, has_separator, has_type, splits, split_has_type, is_parameter, joins, is_one_parameter}
use Rattle.meaning.specs.Grammar.{as_expression, as_constraint, in_brackets, SpellsExpression, SpellsForm, SpellsExpressions, SpellsMore, SpellsTypeParameters}
use Rattle.tree_reader.specs.Reading.{◌>>=◌, stands, behind, take, span_between, word_between, read_identifier}
use Rattle.tree_reader.specs.Reader.{readers, read_any, read_plain_type, read_generic_type}
use Rattle.tree_reader.proofs.Steps.{stands-sound, read_identifier-sound}
use Rattle.tree_reader.proofs.Taken.{step, only_true, and_true, or_right, behind_gives, stands_gives}
use Rattle.tree_reader.proofs.SoundInstances.{expression_is_constraint}
use Rattle.tree_reader.proofs.CompleteInstances.{read_type_parameters-complete}
use Rattle.tree_reader.proofs.Sound.{readers-sound}
use Rattle.tree_reader.proofs.Complete.{are_complete}
use Rattle.parser_base.specs.declared.fault.Stop.{Stop}
use Rattle.parser_base.specs.Gives.{Stops}
use Rattle.parser_base.proofs.Faults.{fails_too}
use Rattle.parser_statements.specs.SplitConstraint.{constraint_of, has_comma}
use Rattle.parser_statements.proofs.Nesting.{comma_separates, expression_kept}

-- Where something is read, what stops is memory, and so it is of all that is read.
pub never_fails : {A B : Type 0} (stop : Stop) (read : Option A) (x : A) (whole : Option B)
    → read ≡ Some x
    → Stops stop read
    → Stops stop whole
never_fails stop read x whole found h = fails_too stop read whole h (λ none. absurd (none-some x (sym none ∙ found)))

pub not_true : (b : Bool) → not b ≡ true → b ≡ false
not_true true h = absurd (true≢false (sym h))
not_true false h = refl

-- a constraint begins behind a name, and ends where the expression does
abbrev span_behind : Cursor → Span → Span
span_behind name span = record { start = start_at (behind name); end = span.end }

module _ (text : GoText) where
  -- a term that stands as an expression is a type
  term_is_type : (e : Expression) (from to : Cursor)
      → is_term e ≡ true
      → SpellsExpression text as_expression e from to
      → is_type e ≡ true
  unfolding SpellsExpression SpellsForm is_type
  term_is_type (expression_node (unary_expression Tilde e) span) from to h s =
      let p : as_expression ≡ as_constraint = s.0.0 in cc
  term_is_type (expression_node (name_expression name) span) from to h s = h
  term_is_type (expression_node _ span) from to h s = h

  -- an argument in parentheses without a comma behind it
  argument_alone : (y : Expression) (name paren from middle close : Cursor)
      → behind name ≡ paren
      → TakesToken LeftParenthesis paren from
      → SpellsExpression text as_expression y from middle
      → optional (token Comma) middle close
      → has_comma name ≡ false
      → middle ≡ close
  argument_alone y name paren from middle close here left s (inl p) none = p
  argument_alone y name paren from middle close here left s (inr comma) none =
      let stand : stands LeftParenthesis (behind name) ≡ true = ap (stands LeftParenthesis) here ∙ stands_gives left in
      let inside : behind (behind name) ≡ from = ap behind here ∙ behind_gives left in
      let has : has_separator 0 (behind (behind name)).left ≡ true =
      ap (λ (c : Cursor). has_separator 0 c.left) inside
      ∙ ((expression_kept text 0 as_expression y tt).keeps from middle s ∙ comma_separates middle close comma) in
      absurd (true≢false (sym (and_true stand has) ∙ none))

  -- the constraint that an expression has behind the name with which it begins
  pub record IsSplit (e : Expression) (from to : Cursor) : Type 0 where
    pub constraint : Expression
    pub found : constraint_of (start_at (behind from)) e ≡ Some constraint
    pub named : stands identifier_kind from ≡ true
    pub spelled : SpellsExpression text as_constraint constraint (behind from) to
    pub tight : 4 ≤ level constraint
    pub shallow : expression_depth constraint ≤ expression_depth e
    pub joined : is_constraint constraint ≡ true → joins constraint ≡ true
    pub typed : has_type constraint ≡ split_has_type e

  split_or : (l r : Expression) (span : Span) (from to : Cursor)
      → SpellsExpression text as_expression (expression_node (binary_expression Or l r) span) from to
      → ((between : Cursor) → SpellsExpression text as_expression l from between → IsSplit l from between)
      → IsSplit (expression_node (binary_expression Or l r) span) from to
  unfolding SpellsExpression SpellsForm constraint_of joins has_type split_has_type is_constraint expression_depth below_expression
  split_or l r span from to s before =
      let rule = s.0.1.1 in
      let tighter = s.0.1.0.1 in
      let left = before rule.0 rule.1 in
      let high = left.tight in
      let low = left.shallow in
      let right = expression_is_constraint text r rule.2.0 to rule.2.2 in
      record {
        constraint = expression_node (binary_expression Or left.constraint r) (span_behind from span);
        found = step _ left.found refl;
        named = left.named;
        spelled = ((tt, ((high, tighter), (rule.0, left.spelled, (rule.2.0, rule.2.1, right)))), refl, s.2);
        tight = omega arith;
        shallow = omega (arith, low);
        joined = λ h. and_true (left.joined (and_parts (is_constraint left.constraint) (is_term r) h).0)
            (term_is_type r rule.2.0 to (and_parts (is_constraint left.constraint) (is_term r) h).1 rule.2.2);
        typed = ap (λ b. b || has_type r) left.typed;
      }

  split_star : (name : List ℕ) (at : Span) (y : Expression) (span : Span) (from to : Cursor)
      → let e = expression_node (binary_expression Multiply (expression_node (name_expression name) at) y) span in
      SpellsExpression text as_expression e from to
      → IsSplit e from to
  unfolding SpellsExpression SpellsForm constraint_of joins has_type split_has_type expression_depth below_expression
  split_star name at y span from to s =
      let rule = s.0.1.1 in
      let tighter = s.0.1.0.1 in
      let word = rule.1.0.1.0 in
      let here : behind from ≡ rule.0 = behind_gives word ∙ rule.1.0.2 in
      let form : SpellsForm text as_constraint (star_expression y) (behind from) to =
      subst (λ (c : Cursor). SpellsForm text as_constraint (star_expression y) c to) (sym here)
      (omega (arith, tighter), rule.2) in
      record {
        constraint = expression_node (star_expression y) (span_behind from span);
        found = refl;
        named = stands_gives word;
        spelled = (form, refl, s.2);
        tight = omega arith;
        shallow = omega arith;
        joined = λ h. refl;
        typed = refl;
      }

  split_call : (name : List ℕ) (at : Span) (y : Expression) (span : Span) (from to : Cursor)
      → let callee = expression_node (name_expression name) at in
      let e = expression_node (call_expression callee (expression_and y no_expression) false) span in
      SpellsExpression text as_expression e from to
      → has_comma from ≡ false
      → IsSplit e from to
  unfolding SpellsExpression SpellsForm SpellsExpressions SpellsMore constraint_of joins has_type split_has_type expression_depth below_expression expressions_depth
  split_call name at y span from to s none =
      let rule = s.0.1.1 in
      let word = rule.1.0.1.0 in
      let here : behind from ≡ rule.0 = behind_gives word ∙ rule.1.0.2 in
      let inner : Cursor = rule.2.0 in
      let close : Cursor = rule.2.2.0 in
      let list = rule.2.2.1 in
      let end : Cursor = list.1.0 in
      let more : optional (token Comma) end close =
      subst (λ (c : Cursor). optional (token Comma) c close) (sym (list.1.2 ∙ list.2.1)) list.2.2 in
      let same : end ≡ close = argument_alone y from rule.0 inner end close here rule.2.1 list.1.1 more none in
      let argument : SpellsExpression text as_expression y inner close =
      subst (λ (c : Cursor). SpellsExpression text as_expression y inner c) same list.1.1 in
      let form : SpellsForm text as_constraint (parenthesized y) (behind from) to =
      subst (λ (c : Cursor). SpellsForm text as_constraint (parenthesized y) c to) (sym here)
      (inner, rule.2.1, (close, argument, rule.2.2.2)) in
      record {
        constraint = expression_node (parenthesized y) (span_behind from span);
        found = refl;
        named = stands_gives word;
        spelled = (form, refl, s.2);
        tight = omega arith;
        shallow = omega arith;
        joined = λ h. refl;
        typed = refl;
      }

  split : (e : Expression) (from to : Cursor)
      → splits e ≡ true
      → SpellsExpression text as_expression e from to
      → has_comma from ≡ false
      → IsSplit e from to
  unfolding splits
  split (expression_node (binary_expression Or l r) span) from to h s none =
      split_or l r span from to s (λ between before. split l from between h before none)
  split (expression_node (binary_expression Multiply (expression_node (name_expression name) at) y) span) from to h s none =
      split_star name at y span from to s
  split (expression_node (binary_expression Multiply (expression_node _ at) y) span) from to h s none =
      absurd (true≢false (sym h))
  split (expression_node (call_expression (expression_node (name_expression name) at) (expression_and y no_expression) false) span) from to h s none =
      split_call name at y span from to s none
  split (expression_node (call_expression (expression_node _ at) (expression_and y no_expression) false) span) from to h s none =
      absurd (true≢false (sym h))
  split (expression_node _ span) from to h s none = absurd (true≢false (sym h))

-- an expression that was read behind a bracket, and is a type parameter
module _ (text : GoText) (below : ℕ) (inner rest : Cursor) (e : Expression) (read : read_any text (readers text below) inner ≡ Some (e, rest)) (is : is_parameter e ≡ true) (none : has_comma inner ≡ false) where
  pub length-split : IsSplit text e inner rest
  length-split =
      split text e inner rest (and_parts (splits e) (split_has_type e) is).0
      ((readers-sound text below).expression false 1 inner rest e read).0 none

  -- its name can be read again
  abbrev name : Identifier
  name = record { text = word_between text inner (behind inner); span = span_between inner (behind inner) }

  pub name-read : read_identifier text inner ≡ Some (name, behind inner)
  unfolding read_identifier take
  name-read = step _ (only_true length-split.named refl) refl

  pub name-made : (c : Expression) → option_map (λ (n : Identifier × Cursor). named_and n.0 false c no_parameter) (read_identifier text inner) ≡ Some (named_and name false c no_parameter)
  name-made c = ap (option_map (λ (n : Identifier × Cursor). named_and n.0 false c no_parameter)) name-read

  module _ (place : Cursor) (here : inner ≡ behind place) (c : Expression) (found : constraint_of (start_at (behind inner)) e ≡ Some c) (fits : is_constraint c ≡ true) where
    abbrev only : Parameters
    only = named_and name false c no_parameter

    same_constraint : length-split.constraint ≡ c
    same_constraint = same_Some length-split.constraint c (sym length-split.found ∙ found)

    one_parameter : is_one_parameter only ≡ true
    one_parameter =
        and_true (sym (ap joins same_constraint) ∙ length-split.joined (ap is_constraint same_constraint ∙ fits))
        (sym (ap has_type same_constraint) ∙ (length-split.typed ∙ (and_parts (splits e) (split_has_type e) is).1))

    parameter_spelled : SpellsTypeParameters text true only inner rest
    unfolding SpellsTypeParameters
    parameter_spelled =
        let named = read_identifier-sound text inner (name, behind inner) name-read in
        let spelled : SpellsExpression text as_constraint c (behind inner) rest =
        subst (λ (t : Expression). SpellsExpression text as_constraint t (behind inner) rest) same_constraint
        length-split.spelled in
        (refl, (fits, (inner, refl, (behind inner, named, (rest, spelled, inl refl)))))

    parameter_shallow : parameters_depth only ≤ below
    unfolding parameters_depth
    parameter_shallow =
        let deep = ((readers-sound text below).expression false 1 inner rest e read).3 in
        let low = subst (λ (t : Expression). expression_depth t ≤ expression_depth e) same_constraint
        length-split.shallow in
        omega (arith, low, deep)

    constrained : end_constrained only ≡ true
    constrained = refl

    only_one : (ps : Parameters)
        → option_map (λ (n : Identifier × Cursor). named_and n.0 false c no_parameter) (read_identifier text inner) ≡ Some ps
        → only ≡ ps
    only_one ps made =
        same_Some _ ps
        (sym (ap (option_map (λ (n : Identifier × Cursor). named_and n.0 false c no_parameter)) name-read) ∙ made)

    -- so type parameters are read in brackets around it
    pub split-generic : (from : Cursor) (declared : Identifier) (ps : Parameters)
        → stands LeftBracket place ≡ true
        → stands RightBracket rest ≡ true
        → option_map (λ (n : Identifier × Cursor). named_and n.0 false c no_parameter) (read_identifier text inner) ≡ Some ps
        → read_plain_type text (readers text below) from declared ps (behind rest)
        ≡ read_generic_type text (readers text below) from declared place
    unfolding read_generic_type
    split-generic from declared ps left right made =
        let open_bracket : TakesToken LeftBracket place inner =
        subst (TakesToken LeftBracket place) (sym here) (stands-sound LeftBracket place left) in
        let brackets : in_brackets (SpellsTypeParameters text true only) place (behind rest) =
        (inner, open_bracket, (rest, parameter_spelled, stands-sound RightBracket rest right)) in
        let params = read_type_parameters-complete text (readers text below) below (are_complete text below) only
        place (behind rest) constrained brackets parameter_shallow in
        ap (λ (p : Parameters). read_plain_type text (readers text below) from declared p (behind rest)) (sym (only_one ps made))
        ∙ sym (step _ params (only_true (or_right (begins_parameters place.left) one_parameter) refl))
