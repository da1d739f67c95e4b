-- A token that is a word has its bytes in the text; and tests of tokens against what they say of words.
use Rattle.std.proofs.Common.{min, Bor, inl, inr, ◌≡◌, ℕ, ◌-◌, ◌<◌, ◌≤◌, Bool, true, false, List, [], ◌∷◌, length, get_or, take, drop, Option, Some, None, Contains, refl, sym, ap, ◌∙◌, subst, arith}
use Rattle.std.specs.Prelude.{◌&&◌, ◌||◌, slice_range, is_some}
use Rattle.std.specs.List.{list_any}
use Rattle.std.specs.Str.{bytes_eq}
use Rattle.std.proofs.lemmas.Bool.{and_parts}
use Rattle.std.proofs.lemmas.Slice.Eq.{bytes_eq-Decides}
use Rattle.lexer.specs.declared.token.Token.{Token}
use Rattle.lexer.specs.declared.token.TokenKind.{TokenKind}
use Rattle.lexer.specs.declared.token.TokenKind.TheVariants.{Identifier as identifier_kind}
use Rattle.lexer.specs.Tokens.{IsTokens}
use Rattle.lexer.specs.Faults.{IsFault}
use Rattle.lexer.specs.declared.fault.LexFault.{LexFault}
use Rattle.lexer.proofs.Whole.{one_token_list}
use Rattle.lexer.proofs.Outcomes.{one_outcome}
use Rattle.std.proofs.lemmas.List.{length-take, length-drop, get_or-take, get_or-drop, take_all}
use Rattle.std.proofs.Math.Nat.{min-le_left, min-le_right}
use Rattle.memchr.specs.Find.{OccursAt, FindsNeedle}
use Rattle.meaning.proofs.Membership.{contains_nil, contains_here, contains_there, contains_cases}
use Rattle.silent_files.specs.NamedWords.{LacksEach}
use Rattle.silent_files.specs.WordsSought.{bytes_of, NamesOne, NoneOccurs, is_identifier, is_one_of}

-- Occurrences

module _ (text : List ℕ) where
  -- what is found nowhere doesn't occur
  found_nowhere : (word : List ℕ) (r : Option ℕ) → FindsNeedle text word 0 r → is_some r ≡ false
      → (at : ℕ) → OccursAt text word at → ⊥
  found_nowhere word None h e at occurs = let fits = occurs.fits in h at (omega arith) (omega (arith, fits)) occurs
  found_nowhere word (Some k) h e at occurs = let bad : true ≡ false = e in cc

  none_more : (w : List ℕ) (ws : List (List ℕ)) → ((at : ℕ) → OccursAt text w at → ⊥) → NoneOccurs ws text
      → NoneOccurs (w ∷ ws) text
  none_more w ws h k word at among occurs = elim (contains_cases w word ws among) [
    | inl same ↦ h at (subst (λ (x : List ℕ). OccursAt text x at) (sym same) occurs)
    | inr later ↦ k word at later occurs
  ]

  pub all_sought : (words : List (Bor (List ℕ))) → length words < 1 → NoneOccurs (bytes_of words) text
  all_sought [] none word at among occurs = contains_nil word among
  all_sought (w ∷ ws) none word at among occurs = omega (arith, none)

  pub next_sought : (words : List (Bor (List ℕ))) (d : Bor (List ℕ)) (bytes : List ℕ) (r : Option ℕ) → 1 ≤ length words
      → bytes ≡ (get_or words 0 d).now
      → FindsNeedle text bytes 0 r
      → is_some r ≡ false
      → NoneOccurs (bytes_of (take (length words - 1) (drop 1 words))) text
      → NoneOccurs (bytes_of words) text
  next_sought [] d bytes r some same found none h = absurd (omega (arith, some))
  next_sought (w ∷ ws) d bytes r some same found none h =
      let size : length (w ∷ ws) - 1 ≡ length ws = omega arith in
      let left : take (length (w ∷ ws) - 1) ws ≡ ws = ap (λ (n : ℕ). take n ws) size ∙ take_all (length ws) ws (omega arith) in
      none_more w.now (bytes_of ws)
      (found_nowhere w.now r (subst (λ (x : List ℕ). FindsNeedle text x 0 r) same found) none)
      (subst (λ (l : List (Bor (List ℕ))). NoneOccurs (bytes_of l) text) left h)

-- A token's bytes

spelled_there : (text : List ℕ) (start size : ℕ) → 0 < length (take size (drop start text))
    → OccursAt text (take size (drop start text)) start
spelled_there text start size some =
    let taken : length (take size (drop start text)) ≡ min size (length (drop start text)) = length-take size (drop start text) in
    let left : length (drop start text) ≡ length text - start = length-drop start text in
    let within : length (take size (drop start text)) ≤ size = subst (λ (n : ℕ). n ≤ size) (sym taken) (min-le_left size _) in
    let far : length (take size (drop start text)) ≤ length (drop start text) = subst (λ (n : ℕ). n ≤ length (drop start text)) (sym taken) (min-le_right size _) in
    record {
      fits = omega (arith, some, left, far);
      reads = λ j low. sym (get_or-take size (drop start text) j 0 (omega (arith, low, within)) ∙ get_or-drop start text j 0);
    }

-- so it occurs; where it has no bytes, at the start of the text
spelled_occurs : (text word : List ℕ) (start end : ℕ) → slice_range text start end ≡ word
    → (at : ℕ) × OccursAt text word at
spelled_occurs text [] start end same = (0, record { fits = omega arith; reads = λ j low. absurd (omega (arith, low)) })
spelled_occurs text (b ∷ word) start end same =
    let some : 0 < length (slice_range text start end) = subst (λ (l : List ℕ). 0 < length l) (sym same) (omega arith) in
    (start, subst (λ (l : List ℕ). OccursAt text l start) same (spelled_there text start (end - start) some))

pub none_is_word : (words : List (List ℕ)) (text : List ℕ) → NoneOccurs words text → LacksEach words text
none_is_word words text none word among tokens t cut there kind =
    by (bytes_eq (slice_range text t.start t.end) word) refl
  where
    by : (b : Bool) → bytes_eq (slice_range text t.start t.end) word ≡ b → b ≡ false
    by false e = refl
    by true e =
        let o = spelled_occurs text word t.start t.end ((bytes_eq-Decides _ _).0 e) in
        absurd (none word o.0 among o.1)

-- Tests of tokens

is_kind : (kind : TokenKind) → is_identifier kind ≡ true → kind ≡ identifier_kind
is_kind identifier_kind e = refl
is_kind _ e = let bad : false ≡ true = e in cc

module _ {A : Type 0} (f : A → Bool) where
  fails_each : (xs : List A) → list_any f xs ≡ false → (x : A) → Contains xs x → f x ≡ false
  fails_each [] e x among = absurd (contains_nil x among)
  fails_each (y ∷ ys) e x among = elim (contains_cases y x ys among) [
    | inl same ↦ subst (λ (z : A). f z ≡ false) same (first (f y) (list_any f ys) e)
    | inr later ↦ fails_each ys (second (f y) (list_any f ys) e) x later
  ]
    where
      first : (a b : Bool) → (a || b) ≡ false → a ≡ false
      first false b e = refl
      first true b e = let bad : true ≡ false = e in cc

      second : (a b : Bool) → (a || b) ≡ false → b ≡ false
      second false b e = e
      second true b e = let bad : true ≡ false = e in cc

  passes_one : (xs : List A) → list_any f xs ≡ true → (x : A) × Contains xs x × (f x ≡ true)
  passes_one [] e = let bad : false ≡ true = e in cc
  passes_one (y ∷ ys) e = by (f y) refl e (passes_one ys)
    where
      by : (b : Bool) → f y ≡ b → (b || list_any f ys) ≡ true
          → (list_any f ys ≡ true → (x : A) × Contains ys x × (f x ≡ true))
          → (x : A) × Contains (y ∷ ys) x × (f x ≡ true)
      by true passes e rest = (y, contains_here y ys, passes)
      by false fails e rest = let one = rest e in (one.0, contains_there y one.0 ys one.1, one.2)

-- the tests of what was read, if that is the text and its tokens
pub told_of : (words : List (List ℕ)) {read text : List ℕ} {held tokens : List Token} {result b : Bool}
    → result ≡ list_any (is_one_of read words) held
    → read ≡ text
    → held ≡ tokens
    → result ≡ b
    → list_any (is_one_of text words) tokens ≡ b
told_of words told p q is = sym (told ∙ (λ i. list_any (is_one_of (p i) words) (q i))) ∙ is

module _ (words : List (List ℕ)) (text : List ℕ) (tokens : List Token) (cut : IsTokens text tokens) where
  pub no_token_is : list_any (is_one_of text words) tokens ≡ false → LacksEach words text
  no_token_is none word among others t other there kind =
      let here : Contains tokens t = subst (λ (l : List Token). Contains l t) (one_token_list text others tokens other cut) there in
      let fails = fails_each (is_one_of text words) tokens none t here in
      fails_each (bytes_eq (slice_range text t.start t.end)) words (by t.kind kind fails) word among
    where
      by : (k : TokenKind) → k ≡ identifier_kind
          → (is_identifier k && list_any (bytes_eq (slice_range text t.start t.end)) words) ≡ false
          → list_any (bytes_eq (slice_range text t.start t.end)) words ≡ false
      by k is e = subst (λ (j : TokenKind). (is_identifier j && list_any (bytes_eq (slice_range text t.start t.end)) words) ≡ false) is e

  pub a_token_is : list_any (is_one_of text words) tokens ≡ true → NamesOne words text
  a_token_is some =
      let t = passes_one (is_one_of text words) tokens some in
      let parts = and_parts (is_identifier t.0.kind) _ t.2 in
      let w = passes_one (bytes_eq (slice_range text t.0.start t.0.end)) words parts.1 in
      record {
        word = w.0;
        among = w.1;
        tokens = tokens;
        cut = cut;
        at = t.0.start;
        is_word = record {
          token = t.0;
          among = t.1;
          kind = is_kind t.0.kind parts.0;
          starts = refl;
          spelled = sym ((bytes_eq-Decides _ _).0 w.2);
        };
      }

-- a text with a fault has no tokens
pub no_tokens : (words : List (List ℕ)) (text : List ℕ) (f : LexFault) → IsFault text f → LacksEach words text
no_tokens words text f fault word among tokens t cut there kind = absurd (one_outcome text tokens f cut fault)
