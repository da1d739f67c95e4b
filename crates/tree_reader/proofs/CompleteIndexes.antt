-- The reader gives what is spelled in brackets behind an expression: an index, the bounds of a slice, or the arguments of
-- an instance.
use Rattle.std.proofs.Common.{◌≡◌, ℕ, zero, suc, ◌≤◌, ◌<◌, Bool, true, false, true≢false, List, length, Some, refl, sym, ap, ◌∙◌, ◌⊎◌, inl, inr, arith}
use Rattle.std.specs.Prelude.{if◌then◌else◌, ◌&&◌}
use Rattle.lexer.specs.Spelling.{same_kind}
use Rattle.lexer.specs.declared.token.TokenKind.TheVariants.{LeftBracket, RightBracket, Colon, Comma}
use Rattle.tree.specs.declared.edition.Edition.{Edition}
use Rattle.tree.specs.declared.edition.Edition.TheVariants.{First, Second}
use Rattle.tree.specs.declared.span.Span.{Span}
use Rattle.tree.specs.Syntax.{Expression, expression_node, index_expression, instance_expression, slice_expression, Expressions, no_expression, expression_and, OptionalExpression, missing_expression, present_expression}
use Rattle.tree.specs.Depth.{expression_depth, expressions_depth, optional_depth}
use Rattle.meaning.specs.Cursor.{GoText, Cursor, TakesToken, Rule, ◌⨾◌, optional, token, is_next, start_at}
use Rattle.meaning.specs.Grammar.{as_expression, IsSecond, after_instance, third_bound, in_brackets, SpellsExpression, SpellsExpressions, SpellsMore, SpellsOptional}
use Rattle.tree_reader.specs.Reading.{Read, ◌>>=◌, stands, behind, steps}
use Rattle.tree_reader.specs.Reader.{is_second, Readers, read_any, read_expression_unless, read_more_arguments, read_instance, read_slice, read_index}
use Rattle.tree_reader.specs.Claims.{AreComplete}
use Rattle.tree_reader.proofs.Taken.{step, when_true, when_false, and_true, and_not, take_gives, stands_gives, stands_other, behind_gives, next_gives, stands_not, node_is}
use Rattle.tree_reader.proofs.Lengths.{token_shorter, expression_shorter}
use Rattle.tree_reader.proofs.Begins.{begins_expression, expression_begins}
use Rattle.tree_reader.proofs.CompleteLists.{ends_expression, ended, optional_follows, moved, more_follows, read_expression_unless-complete, read_any-complete}

pub second_true : (edition : Edition) → IsSecond edition → is_second edition ≡ true
second_true First h = absurd h
second_true Second h = refl

-- a comma that must stand there may
after_optional : (i : Expression) (es : Expressions) (from to : Cursor)
    → after_instance (expression_and i es) from to
    → optional (token Comma) from to
after_optional i no_expression from to h = inr h
after_optional i (expression_and e es) from to h = h

module _ (text : GoText) where
  -- behind the first argument of an instance stands a comma
  comma_behind : (i : Expression) (es : Expressions) (from to : Cursor)
      → (SpellsMore text as_expression es ⨾ after_instance (expression_and i es)) from to
      → (place : Cursor) × TakesToken Comma from place
  unfolding SpellsMore
  comma_behind i no_expression from to h = (to, moved Comma from h.0 to h.1 h.2)
  comma_behind i (expression_and e es) from to h = (h.1.0, h.1.1)

module _ (text : GoText) (r : Readers) (below : ℕ) (complete : AreComplete text below r) where
  pub read_index-complete : (e i : Expression) (span : Span) (from place to : Cursor)
      → in_brackets (SpellsExpression text as_expression i) place to
      → expression_depth i ≤ below
      → span.start ≡ start_at from
      → span.end ≡ to.end
      → read_index text r from e place ≡ Some (expression_node (index_expression e i) span, to)
  unfolding read_index SpellsOptional optional_depth same_kind
  read_index-complete e i span from place to s d p q =
      step _ (ap (read_expression_unless text r Colon false) (behind_gives s.1)
      ∙ read_expression_unless-complete text r below complete Colon false
      (present_expression i) s.0 s.2.0 s.2.1 refl (λ impossible. cc) tt d
      (ended false 1 s.2.0 (next_gives s.2.2 ends_expression)))
      (when_false _ (stands_other s.2.2 Colon refl)
      (when_false _ (and_not (is_second text.edition) (stands_other s.2.2 Comma refl))
      (step _ (take_gives s.2.2) (ap Some (node_is (index_expression e i) span from to p q)))))

  abbrev bound_at : Cursor → Read OptionalExpression
  bound_at at =
      if stands Colon at then Some (missing_expression, at) else read_expression_unless text r RightBracket false at

  bound-complete : (e : OptionalExpression) (from to : Cursor)
      → SpellsOptional text as_expression e from to
      → optional_depth e ≤ below
      → (stands Colon to ≡ true) ⊎ ((stands Colon to ≡ false) × (stands RightBracket to ≡ true))
      → is_next ends_expression to ≡ true
      → bound_at from ≡ Some (e, to)
  unfolding SpellsOptional optional_depth
  bound-complete missing_expression from to p d (inl c) h =
      when_true _ (ap (stands Colon) p ∙ c) (λ i. Some (missing_expression, p i))
  bound-complete missing_expression from to p d (inr c) h =
      when_false _ (ap (stands Colon) p ∙ c.0)
      (read_expression_unless-complete text r below complete RightBracket false missing_expression from to p refl
      (λ missing. c.1) tt (omega arith) (ended false 1 to h))
  bound-complete (present_expression e) from to s d c h =
      when_false _ (stands_not begins_expression Colon from refl (expression_begins text e from to s))
      (read_expression_unless-complete text r below complete RightBracket false
      (present_expression e) from to s refl (λ impossible. cc) tt d (ended false 1 to h))

  abbrev most_at : Cursor → Read OptionalExpression
  most_at at =
      if stands Colon at then (do
        bound ← read_any text r (behind at)
        Some (present_expression bound.0, bound.1)
      ) else Some (missing_expression, at)

  most-complete : (e : OptionalExpression) (from close to : Cursor)
      → third_bound e (SpellsOptional text as_expression e) from close
      → TakesToken RightBracket close to
      → optional_depth e ≤ below
      → most_at from ≡ Some (e, close)
  unfolding SpellsOptional optional_depth same_kind
  most-complete missing_expression from close to p t d =
      when_false _ (ap (stands Colon) p ∙ stands_other t Colon refl) (λ i. Some (missing_expression, p i))
  most-complete (present_expression e) from close to s t d =
      when_true _ (stands_gives s.1)
      (step _ (ap (read_any text r) (behind_gives s.1) ∙ read_any-complete text r below complete e s.0 close s.2 d
      (next_gives t ends_expression)) refl)

  most_follows : (e : OptionalExpression) (from close to : Cursor)
      → third_bound e (SpellsOptional text as_expression e) from close
      → TakesToken RightBracket close to
      → ((stands Colon from ≡ true) ⊎ ((stands Colon from ≡ false) × (stands RightBracket from ≡ true)))
      × (is_next ends_expression from ≡ true)
  unfolding same_kind
  most_follows missing_expression from close to p t = (
    inr (
      ap (stands Colon) p ∙ stands_other t Colon refl,
      ap (stands RightBracket) p
          ∙ stands_gives t,
    ),
    ap (is_next ends_expression) p ∙ next_gives t ends_expression,
  )
  most_follows (present_expression e) from close to s t = (inl (stands_gives s.1), next_gives s.1 ends_expression)

  abbrev SpellsSlice : OptionalExpression → OptionalExpression → OptionalExpression → Rule
  SpellsSlice low high most =
      in_brackets (SpellsOptional text as_expression low ⨾ token Colon ⨾ SpellsOptional text as_expression high
      ⨾ third_bound most (SpellsOptional text as_expression most))

  pub read_slice-complete : (e : Expression) (low high most : OptionalExpression) (span : Span) (from place to : Cursor)
      → SpellsSlice low high most place to
      → optional_depth low ≤ below
      → optional_depth high ≤ below
      → optional_depth most ≤ below
      → span.start ≡ start_at from
      → span.end ≡ to.end
      → read_index text r from e place ≡ Some (expression_node (slice_expression e low high most) span, to)
  unfolding read_index read_slice same_kind
  read_slice-complete e low high most span from place to s d k l p q =
      let bounds = s.2.1 in
      let colon = bounds.2.1 in
      let close = s.2.2 in
      let last = bounds.2.2 in
      let follows = most_follows most last.0 s.2.0 to last.2 close in
      step _ (ap (read_expression_unless text r Colon false) (behind_gives s.1)
      ∙ read_expression_unless-complete text r below complete Colon false low s.0 bounds.0 bounds.1 refl
      (λ missing. stands_gives colon) tt d (ended false 1 bounds.0 (next_gives colon ends_expression)))
      (when_true _ (stands_gives colon)
      (step _ (ap bound_at (behind_gives colon)
      ∙ bound-complete high bounds.2.0 last.0 last.1 k follows.0 follows.1)
      (step _ (most-complete most last.0 s.2.0 to last.2 close l)
      (step _ (take_gives close) (ap Some (node_is (slice_expression e low high most) span from to p q))))))

  abbrev MoreArguments : Expressions → Rule
  MoreArguments es = SpellsMore text as_expression es ⨾ optional (token Comma)

  more_arguments-complete : (n : ℕ) (es : Expressions) (from close to : Cursor)
      → MoreArguments es from close
      → TakesToken RightBracket close to
      → expressions_depth es ≤ below
      → length from.left < n
      → read_more_arguments text r n from ≡ Some (es, close)
  unfolding read_more_arguments SpellsMore expressions_depth same_kind
  more_arguments-complete zero es from close to s t d short = absurd (omega arith)
  more_arguments-complete (suc n) no_expression from close to (mid, p, inl q) t d short =
      when_false _ (ap (stands Comma) (p ∙ q) ∙ stands_other t Comma refl) (ap (λ at. Some (no_expression, at)) (p ∙ q))
  more_arguments-complete (suc n) no_expression from close to (mid, p, inr c) t d short =
      let comma : TakesToken Comma from close = moved Comma from mid close p c in
      when_true _ (stands_gives comma)
      (when_true _ (ap (stands RightBracket) (behind_gives comma) ∙ stands_gives t)
      (ap (λ at. Some (no_expression, at)) (behind_gives comma)))
  more_arguments-complete (suc n) (expression_and e es) from close to s t d short =
      let comma = s.1.1 in
      let first = s.1.2.1 in
      let place : Cursor = s.1.2.0 in
      let follows : is_next ends_expression place ≡ true =
      more_follows text ends_expression as_expression es place s.0 refl s.1.2.2
      (optional_follows ends_expression Comma s.0 close refl s.2 (next_gives t ends_expression)) in
      let begins : is_next begins_expression s.1.0 ≡ true = expression_begins text e s.1.0 place first in
      let fewer : length place.left < n =
      omega (arith, token_shorter Comma from s.1.0 comma, expression_shorter text as_expression e s.1.0 place first) in
      let rest : MoreArguments es place close = (s.0, s.1.2.2, s.2) in
      when_true _ (stands_gives comma)
      (when_false _ (ap (stands RightBracket) (behind_gives comma) ∙ stands_not begins_expression RightBracket s.1.0 refl begins)
      (step _ (ap (read_any text r) (behind_gives comma)
      ∙ read_any-complete text r below complete e s.1.0 place first (omega arith) follows)
      (step _ (more_arguments-complete n es place close to rest t (omega arith) fewer) refl)))

  pub read_instance-complete : (e : Expression) (es : Expressions) (span : Span) (from place to : Cursor)
      → IsSecond text.edition
      → in_brackets (SpellsExpressions text as_expression es ⨾ after_instance es) place to
      → expressions_depth es ≤ below
      → span.start ≡ start_at from
      → span.end ≡ to.end
      → read_index text r from e place ≡ Some (expression_node (instance_expression e es) span, to)
  unfolding read_index read_instance SpellsExpressions SpellsOptional expressions_depth optional_depth same_kind
  read_instance-complete e no_expression span from place to second s d p q = absurd s.2.1.1
  read_instance-complete e (expression_and i es) span from place to second s d p q =
      let inner : Cursor = s.0 in
      let close = s.2.2 in
      let list = s.2.1 in
      let at : Cursor = list.1.0 in
      let comma = comma_behind text i es at s.2.0 (list.0, list.1.2, list.2) in
      let rest : MoreArguments es at s.2.0 = (list.0, list.1.2, after_optional i es list.0 s.2.0 list.2) in
      step _ (ap (read_expression_unless text r Colon false) (behind_gives s.1)
      ∙ read_expression_unless-complete text r below complete Colon false
      (present_expression i) inner at list.1.1 refl (λ impossible. cc) tt (omega arith)
      (ended false 1 at (next_gives comma.1 ends_expression)))
      (when_false _ (stands_other comma.1 Colon refl)
      (when_true _ (and_true (second_true text.edition second) (stands_gives comma.1))
      (step _ (more_arguments-complete (steps at) es at s.2.0 to rest close (omega arith) (omega arith))
      (step _ (take_gives close) (ap Some (node_is (instance_expression e (expression_and i es)) span from to p q))))))
