-- What the steps of the reader give at tokens that stand as the grammar says.
use Rattle.std.proofs.Common.{◌≡◌, ℕ, zero, suc, ◌<◌, arith, Bool, true, false, true≢false, List, [], ◌∷◌, length, Option, Some, None, refl, sym, ap, ◌∙◌, inl, inr}
use Rattle.std.specs.Prelude.{if◌then◌else◌, not, ◌&&◌, ◌||◌}
use denote.Enum.Bare.{same_true, true_same}
use Rattle.lexer.specs.Spelling.{same_kind}
use Rattle.lexer.specs.contracts.token.TokenKind.{the_type}
use Rattle.lexer.specs.declared.token.Token.{Token}
use Rattle.lexer.specs.declared.token.TokenKind.{TokenKind}
use Rattle.lexer.specs.declared.token.TokenKind.TheVariants.{Identifier as identifier_kind, Comma, Semicolon}
use Rattle.tree.specs.declared.span.Span.{Span}
use Rattle.tree.specs.Syntax.{Identifier, expression_node, ExpressionForm}
use Rattle.meaning.specs.Cursor.{GoText, Cursor, identifier, optional_identifier, more_identifiers, identifiers, TakesToken, TakesSemicolon, Semicolons, no_semicolon, semicolon_and, first_is, is_next, is_closing, semicolon, start_at}
use Rattle.tree_reader.specs.Reading.{◌>>=◌, only_where, stands, behind_first, behind, take, past, take_semicolon, behind_semicolon, skip_from, skip_semicolons, span_between, spanned, steps, read_identifier, read_optional_identifier, read_more_identifiers, read_identifiers}
use Rattle.tree_reader.specs.Reader.{of_first, of_next}

-- a step that succeeds, and what comes after it
pub step : {A B : Type 0} {o : Option A} {x : A} (f : A → Option B) {r : Option B}
    → o ≡ Some x
    → f x ≡ r
    → (o >>= f) ≡ r
step f e h = ap (λ o. o >>= f) e ∙ h

pub when_true : {A : Type 0} {b : Bool} {x r : A} (y : A) → b ≡ true → x ≡ r → (if b then x else y) ≡ r
when_true {x = x} y e h = ap (λ b. if b then x else y) e ∙ h

pub when_false : {A : Type 0} {b : Bool} {y r : A} (x : A) → b ≡ false → y ≡ r → (if b then x else y) ≡ r
when_false {y = y} x e h = ap (λ b. if b then x else y) e ∙ h

pub only_true : {A : Type 0} {b : Bool} {o r : Option A} → b ≡ true → o ≡ r → only_where b o ≡ r
only_true {o = o} e h = ap (λ b. only_where b o) e ∙ h

pub and_true : {a b : Bool} → a ≡ true → b ≡ true → (a && b) ≡ true
and_true {b = b} e h = ap (λ a. a && b) e ∙ h

pub and_false : {a : Bool} (b : Bool) → a ≡ false → (a && b) ≡ false
and_false b e = ap (λ a. a && b) e

pub and_not : (a : Bool) {b : Bool} → b ≡ false → (a && b) ≡ false
and_not true e = e
and_not false e = refl

pub or_left : {a : Bool} (b : Bool) → a ≡ true → (a || b) ≡ true
or_left b e = ap (λ a. a || b) e

pub or_right : (a : Bool) {b : Bool} → b ≡ true → (a || b) ≡ true
or_right true e = refl
or_right false e = e

pub or_false : {a b : Bool} → a ≡ false → b ≡ false → (a || b) ≡ false
or_false {b = b} e h = ap (λ a. a || b) e ∙ h

-- Where one test holds of all that another does, and where it holds of none of them.
pub implied : {a b : Bool} → (not a || b) ≡ true → a ≡ true → b ≡ true
implied {a} {b} e h = sym (ap (λ a. not a || b) h) ∙ e

module _ {kind : TokenKind} {from to : Cursor} (t : TakesToken kind from to) where
  pub behind_gives : behind from ≡ to
  behind_gives = ap (behind_first from.end) t.taken

  pub next_gives : (test : TokenKind → Bool) → is_next test from ≡ test kind
  next_gives test = ap (first_is test) t.taken

  pub of_next_gives : {A : Type 0} (f : TokenKind → Option A) → of_next f from ≡ f kind
  of_next_gives f = ap (of_first f) t.taken

  pub stands_gives : stands kind from ≡ true
  unfolding stands same_kind
  stands_gives = next_gives (λ k. same_kind k kind) ∙ true_same the_type kind kind refl

  pub stands_other : (other : TokenKind) → same_kind kind other ≡ false → stands other from ≡ false
  unfolding stands
  stands_other other e = next_gives (λ k. same_kind k other) ∙ e

  pub take_gives : take kind from ≡ Some to
  unfolding take
  take_gives = only_true stands_gives (ap Some behind_gives)

  pub past_gives : past kind from ≡ to
  unfolding past
  past_gives = when_true _ stands_gives behind_gives

pub past_other : (kind : TokenKind) {place : Cursor} → stands kind place ≡ false → past kind place ≡ place
unfolding past
past_other kind e = when_false _ e refl

differs : (test : TokenKind → Bool) (other kind : TokenKind)
    → test other ≡ false
    → test kind ≡ true
    → (b : Bool)
    → same_kind kind other ≡ b
    → b ≡ false
unfolding same_kind
differs test other kind e h true p =
    let same : test kind ≡ test other = ap test (same_true the_type tt kind other p) in cc
differs test other kind e h false p = refl

first_differs : (test : TokenKind → Bool) (other : TokenKind) (tokens : List Token)
    → test other ≡ false
    → first_is test tokens ≡ true
    → first_is (λ k. same_kind k other) tokens ≡ false
first_differs test other [] e h = refl
first_differs test other (t ∷ rest) e h = differs test other t.kind e h _ refl

-- A test that holds of the next token tells which it is not.
pub stands_not : (test : TokenKind → Bool) (other : TokenKind) (place : Cursor)
    → test other ≡ false
    → is_next test place ≡ true
    → stands other place ≡ false
unfolding stands
stands_not test other place e h = first_differs test other place.left e h

clashes : (test : TokenKind → Bool) (other kind : TokenKind)
    → test other ≡ true
    → test kind ≡ false
    → (b : Bool)
    → same_kind kind other ≡ b
    → b ≡ false
unfolding same_kind
clashes test other kind e h true p =
    let same : test kind ≡ test other = ap test (same_true the_type tt kind other p) in cc
clashes test other kind e h false p = refl

first_clashes : (test : TokenKind → Bool) (other : TokenKind) (tokens : List Token)
    → test other ≡ true
    → first_is test tokens ≡ false
    → first_is (λ k. same_kind k other) tokens ≡ false
first_clashes test other [] e h = refl
first_clashes test other (t ∷ rest) e h = clashes test other t.kind e h _ refl

-- A test that does not hold of the next token tells which it is not.
pub stands_none : (test : TokenKind → Bool) (other : TokenKind) (place : Cursor)
    → test other ≡ true
    → is_next test place ≡ false
    → stands other place ≡ false
unfolding stands
stands_none test other place e h = first_clashes test other place.left e h

first_implied : (first second : TokenKind → Bool) (tokens : List Token)
    → ((k : TokenKind) → (not (first k) || second k) ≡ true)
    → first_is first tokens ≡ true
    → first_is second tokens ≡ true
first_implied first second [] all h = absurd (true≢false (sym h))
first_implied first second (t ∷ rest) all h = implied (all t.kind) h

pub next_implied : (first second : TokenKind → Bool) (place : Cursor)
    → ((k : TokenKind) → (not (first k) || second k) ≡ true)
    → is_next first place ≡ true
    → is_next second place ≡ true
next_implied first second place all h = first_implied first second place.left all h

not_false : {b : Bool} → not b ≡ true → b ≡ false
not_false {b = true} e = absurd (true≢false (sym e))
not_false {b = false} e = refl

first_excluded : (first second : TokenKind → Bool) (tokens : List Token)
    → ((k : TokenKind) → (not (first k) || not (second k)) ≡ true)
    → first_is first tokens ≡ true
    → first_is second tokens ≡ false
first_excluded first second [] all h = refl
first_excluded first second (t ∷ rest) all h =
    not_false (implied (all t.kind) h)

pub next_excluded : (first second : TokenKind → Bool) (place : Cursor)
    → ((k : TokenKind) → (not (first k) || not (second k)) ≡ true)
    → is_next first place ≡ true
    → is_next second place ≡ false
next_excluded first second place all h = first_excluded first second place.left all h

first_none : {A : Type 0} (test : TokenKind → Bool) (f : TokenKind → Option A) (tokens : List Token)
    → ((k : TokenKind) → test k ≡ true → f k ≡ None)
    → first_is test tokens ≡ true
    → of_first f tokens ≡ None
first_none test f [] all h = refl
first_none test f (t ∷ rest) all h = all t.kind h

pub of_next_none : {A : Type 0} (test : TokenKind → Bool) (f : TokenKind → Option A) (place : Cursor)
    → ((k : TokenKind) → test k ≡ true → f k ≡ None)
    → is_next test place ≡ true
    → of_next f place ≡ None
of_next_none test f place all h = first_none test f place.left all h

-- Semicolons.
module _ {from to : Cursor} (t : TakesSemicolon from to) where
  pub semicolon_stands : stands Semicolon from ≡ true
  unfolding stands same_kind
  semicolon_stands = ap (first_is (λ k. same_kind k Semicolon)) t.taken

  pub next_semicolon : (test : TokenKind → Bool) → is_next test from ≡ test Semicolon
  next_semicolon test = ap (first_is test) t.taken

  pub behind_semicolon_gives : behind_semicolon from ≡ to
  behind_semicolon_gives = λ i. record { left = (behind_first from.end (t.taken i)).left; end = sym t.stays i }

  skip_first : skip_semicolons from ≡ skip_semicolons to
  unfolding skip_from same_kind
  skip_first = ap (skip_from from.end) t.taken ∙ ap (λ end. skip_from end to.left) (sym t.stays)

pub take_semicolon_gives : {from to : Cursor} → semicolon from to → take_semicolon from ≡ Some to
unfolding take_semicolon
take_semicolon_gives (inl t) = when_true _ (semicolon_stands t) (ap Some (behind_semicolon_gives t))
take_semicolon_gives (inr h) =
    when_false _ (stands_not is_closing Semicolon _ refl h.1) (only_true h.1 (ap Some h.0))

-- A test of what ends a statement holds before a semicolon that may be missing.
pub before_semicolon : (test : TokenKind → Bool) (from to : Cursor)
    → test Semicolon ≡ true
    → ((k : TokenKind) → (not (is_closing k) || test k) ≡ true)
    → semicolon from to
    → is_next test from ≡ true
before_semicolon test from to e all (inl t) = next_semicolon t test ∙ e
before_semicolon test from to e all (inr h) = next_implied is_closing test from all h.1

stays_from : (end : ℕ) (tokens : List Token)
    → first_is (λ k. same_kind k Semicolon) tokens ≡ false
    → skip_from end tokens ≡ record { left = tokens; end = end }
unfolding skip_from
stays_from end [] e = refl
stays_from end (t ∷ rest) e = when_false _ e refl

pub skip_stays : (place : Cursor) → stands Semicolon place ≡ false → skip_semicolons place ≡ place
unfolding stands
skip_stays place e = stays_from place.end place.left e

pub skip_gives : {from to : Cursor} → Semicolons from to → stands Semicolon to ≡ false → skip_semicolons from ≡ to
skip_gives no_semicolon e = skip_stays _ e
skip_gives (semicolon_and t more) e = skip_first t ∙ skip_gives more e

-- A span is its two ends, and a node its form and its span.
pub span_is : (span : Span) (from to : Cursor)
    → span.start ≡ start_at from
    → span.end ≡ to.end
    → span_between from to ≡ span
span_is span from to p q = λ i. record { start = sym p i; end = sym q i }

pub node_is : (form : ExpressionForm) (span : Span) (from to : Cursor)
    → span.start ≡ start_at from
    → span.end ≡ to.end
    → spanned from form to ≡ (expression_node form span, to)
node_is form span from to p q = λ i. (expression_node form (span_is span from to p q i), to)

module _ (text : GoText) where
  pub read_identifier-complete : (n : Identifier) (from to : Cursor)
      → identifier text n from to
      → read_identifier text from ≡ Some (n, to)
  unfolding read_identifier
  read_identifier-complete n from to s =
      step _ (take_gives s.0.0) (λ i. Some (record { text = sym s.0.1 i; span = span_is n.span from to s.1 s.2 i }, to))

  pub read_optional_identifier-complete : (n : Option Identifier) (from to : Cursor)
      → optional_identifier text n from to
      → stands identifier_kind to ≡ false
      → read_optional_identifier text from ≡ Some (n, to)
  unfolding read_optional_identifier
  read_optional_identifier-complete None from to p e =
      when_false _ (ap (stands identifier_kind) p ∙ e) (λ i. Some (None, p i))
  read_optional_identifier-complete (Some n) from to s e =
      when_true _ (stands_gives s.0.0) (step _ (read_identifier-complete n from to s) refl)

  pub read_more_identifiers-complete : (m : ℕ) (ns : List Identifier) (from to : Cursor)
      → more_identifiers text ns from to
      → stands Comma to ≡ false
      → length from.left < m
      → read_more_identifiers text m from ≡ Some (ns, to)
  unfolding read_more_identifiers
  read_more_identifiers-complete zero ns from to s e short = absurd (omega arith)
  read_more_identifiers-complete (suc m) [] from to p e short =
      when_false _ (ap (stands Comma) p ∙ e) (λ i. Some ([], p i))
  read_more_identifiers-complete (suc m) (n ∷ ns) from to s e short =
      let fewer : length s.2.0.left < m = omega (arith, ap length s.1.taken, ap length s.2.1.0.0.taken) in
      when_true _ (stands_gives s.1)
      (step _ (ap (read_identifier text) (behind_gives s.1) ∙ read_identifier-complete n s.0 s.2.0 s.2.1)
      (step _ (read_more_identifiers-complete m ns s.2.0 to s.2.2 e fewer) refl))

  pub read_identifiers-complete : (ns : List Identifier) (from to : Cursor)
      → identifiers text ns from to
      → stands Comma to ≡ false
      → read_identifiers text from ≡ Some (ns, to)
  unfolding read_identifiers
  read_identifiers-complete [] from to s e = absurd s
  read_identifiers-complete (n ∷ ns) from to s e =
      step _ (read_identifier-complete n from s.0 s.1)
      (step _ (read_more_identifiers-complete (steps s.0) ns s.0 to s.2 e (omega arith)) refl)
