-- Terms of a constraint, which may be so deep.
use Rattle.std.proofs.Common.{◌≡◌, ℕ, zero, suc, ◌-◌, ◌+◌, ◌<◌, ◌≤◌, arith, Bool, true, false, Some, None, refl, sym, ap, ◌∙◌}
use Rattle.std.specs.Prelude.{nat_le, option_and_then, if◌then◌else◌}
use Rattle.std.proofs.lemmas.Bool.{lt-leb, leb-false}
use Rattle.lexer.specs.declared.token.TokenKind.TheVariants.{Pipe}
use Rattle.tree.specs.declared.operator.BinaryOperator.TheVariants.{Or}
use Rattle.tree.specs.Depth.{expression_depth, below_expression}
use Rattle.tree.specs.Syntax.{Expression, expression_node, binary_expression}
use Rattle.meaning.specs.Cursor.{Cursor, GoText}
use Rattle.meaning.specs.WellFormed.{is_constraint}
use Rattle.tree_reader.specs.Reader.{Readers, within, read_term, read_terms, read_constraint}
use Rattle.tree_reader.specs.Reading.{Read, only_where, stands, behind, spanned, steps}
use Rattle.parser_base.proofs.Faults.{fails_too}
use Rattle.parser_base.specs.declared.fault.Stop.{Stop}
use Rattle.parser_base.specs.Gives.{Stops}

module _ (text : GoText) (r : Readers) (from : Cursor) where
  -- those terms and all that follow, no deeper than parts may be
  abbrev pub shallow_terms : ℕ → Expression → Cursor → Read Expression
  shallow_terms n e place =
      option_and_then (λ (c : Expression × Cursor). within text r c) (read_terms text r from n e place)

  -- a term and those before it
  abbrev pub joined : Expression → Expression × Cursor → Expression × Cursor
  joined e t = spanned from (binary_expression Or e t.0) t.1

  deeper : (e f : Expression) (span : _) (most : ℕ) → nat_le (expression_depth e) most ≡ false → nat_le (expression_depth (expression_node (binary_expression Or e f) span)) most ≡ false
  unfolding expression_depth below_expression
  deeper e f span most deep = lt-leb _ _ (omega (arith, leb-false _ _ deep))

  -- what is too deep stays so
  pub terms-too-deep : (n : ℕ) (e : Expression) (place : Cursor) → nat_le (expression_depth e) r.most ≡ false → shallow_terms n e place ≡ None
  unfolding read_terms
  terms-too-deep zero e place deep = refl
  terms-too-deep (suc n) e place deep = by_pipe (stands Pipe place) (read_term text r (behind place)) (λ t. terms-too-deep n (joined e t).0 t.1 (deeper e t.0 _ r.most deep))
    where
      by_pipe : (pipe : Bool) (term : Read Expression) → ((t : Expression × Cursor) → shallow_terms n (joined e t).0 t.1 ≡ None) → option_and_then (λ (c : Expression × Cursor). within text r c) (if pipe then option_and_then (λ (t : Expression × Cursor). read_terms text r from n (joined e t).0 t.1) term else Some (e, place)) ≡ None
      by_pipe true None rest = refl
      by_pipe true (Some t) rest = rest t
      by_pipe false term rest = rw deep refl

  -- in a round, after those terms, of so many rounds
  module _ (count i : ℕ) (e : Expression) (rest : Cursor) (total : Read Expression) (so_far : shallow_terms (count - i) e rest ≡ total) where
    pub terms-run-out : count ≤ i → total ≡ None
    unfolding read_terms
    terms-run-out le =
        let k : count - i ≡ 0 = omega (arith, le) in
        sym so_far ∙ ap (λ (n : ℕ). shallow_terms n e rest) k

    pub terms-deep : nat_le (expression_depth e) r.most ≡ false → total ≡ None
    terms-deep deep = sym so_far ∙ terms-too-deep (count - i) e rest deep

    module _ (lt : i < count) where
      this_round : total ≡ shallow_terms (suc (count - (i + 1))) e rest
      this_round =
          let k : count - i ≡ suc (count - (i + 1)) = omega (arith, lt) in
          sym so_far ∙ ap (λ (n : ℕ). shallow_terms n e rest) k

      pub terms-end : nat_le (expression_depth e) r.most ≡ true → stands Pipe rest ≡ false → total ≡ Some (e, rest)
      unfolding read_terms
      terms-end fits pipe = this_round ∙ rw (pipe, fits) refl

      module _ (pipe : stands Pipe rest ≡ true) where
        abbrev next_terms : Read Expression
        next_terms = option_and_then (λ (t : Expression × Cursor). Some (joined e t)) (read_term text r (behind rest))

        pub terms-fail : (s : Stop) → Stops s next_terms → Stops s total
        unfolding read_terms
        terms-fail s h = fails_too s next_terms total h (λ none. this_round ∙ rw pipe (by_term (read_term text r (behind rest)) none))
          where
            by_term : (term : Read Expression) → option_and_then (λ (t : Expression × Cursor). Some (joined e t)) term ≡ None → option_and_then (λ (c : Expression × Cursor). within text r c) (option_and_then (λ (t : Expression × Cursor). read_terms text r from (count - (i + 1)) (joined e t).0 t.1) term) ≡ None
            by_term None none = refl
            by_term (Some t) none = absurd cc

        pub terms-more : (x : Expression) (end : Cursor) → next_terms ≡ Some (x, end) → shallow_terms (count - (i + 1)) x end ≡ total
        unfolding read_terms
        terms-more x end read = sym (this_round ∙ rw pipe (by_term (read_term text r (behind rest)) read))
          where
            by_term : (term : Read Expression) → option_and_then (λ (t : Expression × Cursor). Some (joined e t)) term ≡ Some (x, end) → option_and_then (λ (c : Expression × Cursor). within text r c) (option_and_then (λ (t : Expression × Cursor). read_terms text r from (count - (i + 1)) (joined e t).0 t.1) term) ≡ shallow_terms (count - (i + 1)) x end
            by_term None some = absurd cc
            by_term (Some t) some =
                let same : joined e t ≡ (x, end) = cc in
                ap (λ (y : Expression × Cursor). shallow_terms (count - (i + 1)) y.0 y.1) same

-- it is asked whether terms make a constraint, before or after it is asked how deep they are

asked : (x y : Expression × Cursor) (fits : Bool) → only_where fits (Some x) ≡ Some y → only_where (is_constraint x.0) (only_where fits (Some x)) ≡ only_where (is_constraint y.0) (Some y)
asked x y true e =
    let same : x ≡ y = cc in
    ap (λ (z : Expression × Cursor). only_where (is_constraint z.0) (Some z)) same
asked x y false e = absurd cc

asked_none : (b : Bool) (o : Read Expression) → o ≡ None → only_where b o ≡ None
asked_none true o none = none
asked_none false o none = refl

module _ (text : GoText) (r : Readers) where
  asked_of : (o : Read Expression) (y : Expression × Cursor) → option_and_then (λ (c : Expression × Cursor). within text r c) o ≡ Some y → option_and_then (λ (c : Expression × Cursor). only_where (is_constraint c.0) (within text r c)) o ≡ only_where (is_constraint y.0) (Some y)
  asked_of None y e = absurd cc
  asked_of (Some x) y e = asked x y (nat_le (expression_depth x.0) r.most) e

  none_of : (o : Read Expression) → option_and_then (λ (c : Expression × Cursor). within text r c) o ≡ None → option_and_then (λ (c : Expression × Cursor). only_where (is_constraint c.0) (within text r c)) o ≡ None
  none_of None e = refl
  none_of (Some x) e = asked_none (is_constraint x.0) (within text r x) e

  module _ (place : Cursor) (t : Expression) (rest : Cursor) (term : read_term text r place ≡ Some (t, rest)) where
    pub constraint-read : (c : Expression) (end : Cursor) → shallow_terms text r place (steps rest) t rest ≡ Some (c, end) → is_constraint c ≡ true → read_constraint text r place ≡ Some (c, end)
    unfolding read_constraint
    constraint-read c end read is = rw term (asked_of (read_terms text r place (steps rest) t rest) (c, end) read ∙ rw is refl)

    pub no-constraint : (c : Expression) (end : Cursor) → shallow_terms text r place (steps rest) t rest ≡ Some (c, end) → is_constraint c ≡ false → read_constraint text r place ≡ None
    unfolding read_constraint
    no-constraint c end read is = rw term (asked_of (read_terms text r place (steps rest) t rest) (c, end) read ∙ rw is refl)

    pub constraint-fails : (s : Stop) → Stops s (shallow_terms text r place (steps rest) t rest) → Stops s (read_constraint text r place)
    unfolding read_constraint
    constraint-fails s h =
        fails_too s (shallow_terms text r place (steps rest) t rest) (read_constraint text r place) h (λ none. rw term (none_of (read_terms text r place (steps rest) t rest) none))
