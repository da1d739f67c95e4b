-- The longest piece at the start of a text that begins with a quote, a white space or an operator.
use Rattle.std.proofs.Common.{◌≡◌, ◌==◌, ℕ, zero, suc, ◌+◌, ◌<◌, ◌≤◌, Bool, true, false, not, cond, ◌&&◌, ◌||◌, List, [], ◌∷◌, length, get_or, take, drop, Option, Some, None, refl, sym, ap, ◌∙◌, subst, arith, inl, inr, ⊎_elim}
use Rattle.std.specs.Prelude.{◌⊎◌, IfSome, IfNone, IsTrue, IsFalse}
use Rattle.std.specs.Char.{is_ascii_digit}
use Rattle.std.proofs.lemmas.Bool.{false≢true, both_ways, and_parts, and_from, or_right, or_cases, or_from, cond-true, cond-false, cases_lt, cases_Bool, eqb-true, eq-eqb, lt-leb, leb-true, or_parts}
use Rattle.std.proofs.lemmas.List.{get_or_past, at_drop_more, at_drop_all}
use Rattle.lexer.specs.declared.token.TokenKind.{TokenKind}
use Rattle.lexer.specs.declared.token.TokenKind.TheVariants.{Identifier, Number, InterpretedString, RawString, Rune}
use Rattle.lexer.specs.declared.pieces.PieceKind.{PieceKind}
use Rattle.lexer.specs.declared.pieces.PieceKind.TheVariants.{WhiteSpace, Newline, TokenOf}
use Rattle.lexer.specs.declared.pieces.Piece.{Piece}
use Rattle.lexer.specs.Letters.{is_ascii_letter}
use Rattle.lexer.specs.Spelling.{spelling}
use Rattle.lexer.specs.Dispatch.{token_piece, operator_of, is_quote, quote_kind, closing}
use Rattle.lexer.specs.Pieces.{is_white_space, IsQuoted, starts_number, closes, breaks, escapes, is_empty, IsToken, Reads}
use Rattle.lexer.specs.Cut.{CanBegin, IsLongest, is_comment, opens_comment}
use Rattle.lexer.proofs.Spelled.{is_spelled, is_operator, Spaces, Quotes, Operators, group_of, spelling_nonzero, prefix, fits, operator_longest, IsSpelledAt, operator_spelled}
use Rattle.lexer.proofs.PieceKinds.{space_group, nonempty}
use Rattle.lexer.proofs.Groups.{byte_in, taken, grouped_at, piece_quoted, piece_space, IsOperatorAt, IsCommentAt, piece_operator}
use Rattle.lexer.proofs.Longest.{no_slash}

some_same : (a b : ℕ) → Some a ≡ Some b → a ≡ b
some_same a b e = cc

-- the end that is found closes the literal
record IsClosed (quote : ℕ) (escaped : Bool) (n m : ℕ) (bytes : List ℕ) : Type 0 where
  count : ℕ
  size : m ≡ n + count
  in_range : count ≤ length bytes
  closed : closes quote escaped (take count bytes) ≡ true

closed_step : (quote : ℕ) (escaped next : Bool) (n m b : ℕ) (bs : List ℕ) → ((l : List ℕ) → closes quote escaped (b ∷ l) ≡ closes quote next l) → IsClosed quote next (n + 1) m bs → IsClosed quote escaped n m (b ∷ bs)
closed_step quote escaped next n m b bs same r =
    record {
      count = suc r.count;
      size = omega (arith, r.size);
      in_range = omega (arith, r.in_range);
      closed = same (take r.count bs) ∙ r.closed;
    }

closing_closes : (quote : ℕ) (escaped : Bool) (n : ℕ) (bytes : List ℕ) (m : ℕ) → closing quote escaped n bytes ≡ Some m → IsClosed quote escaped n m bytes
unfolding closing closes
closing_closes quote escaped n [] m h = absurd cc
closing_closes quote true n (b ∷ bs) m h =
    ⊎_elim
    (λ t. let e = sym (cond-true (breaks quote b) None (closing quote false (n + 1) bs) t) ∙ h in absurd cc)
    (λ f.
    let e = sym (cond-false (breaks quote b) None (closing quote false (n + 1) bs) f) ∙ h in
    closed_step quote true false n m b bs (λ l. cond-false (breaks quote b) false (closes quote false l) f) (closing_closes quote false (n + 1) bs m e))
    (cases_Bool (breaks quote b))
closing_closes quote false n (b ∷ bs) m h =
    let more = closing quote (escapes quote b) (n + 1) bs in
    ⊎_elim
    (λ t. let e = sym (cond-true (breaks quote b) None (cond (b == quote) (Some (n + 1)) more) t) ∙ h in absurd cc)
    (λ f.
    let e = sym (cond-false (breaks quote b) None (cond (b == quote) (Some (n + 1)) more) f) ∙ h in
    ⊎_elim
    (λ t2.
    let e2 = sym (cond-true (b == quote) (Some (n + 1)) more t2) ∙ e in
    record {
      count = 1;
      size = sym (some_same (n + 1) m e2);
      in_range = omega arith;
      closed = cond-false (breaks quote b) false _ f ∙ cond-true (b == quote) true _ t2;
    })
    (λ f2.
    let e2 = sym (cond-false (b == quote) (Some (n + 1)) more f2) ∙ e in
    closed_step quote false (escapes quote b) n m b bs (λ l. cond-false (breaks quote b) false (cond (b == quote) (is_empty l) (closes quote (escapes quote b) l)) f ∙ cond-false (b == quote) (is_empty l) (closes quote (escapes quote b) l) f2) (closing_closes quote (escapes quote b) (n + 1) bs m e2))
    (cases_Bool (b == quote)))
    (cases_Bool (breaks quote b))

-- and a literal's end is found
unless : (t : Bool) (x : Option ℕ) (y : Bool) (m : ℕ) → (y ≡ true → x ≡ Some m) → cond t false y ≡ true → cond t None x ≡ Some m
unless true x y m f h = absurd (false≢true h)
unless false x y m f h = f h

either_end : (t : Bool) (x1 x2 : Option ℕ) (y1 y2 : Bool) (m : ℕ) → (y1 ≡ true → x1 ≡ Some m) → (y2 ≡ true → x2 ≡ Some m) → cond t y1 y2 ≡ true → cond t x1 x2 ≡ Some m
either_end true x1 x2 y1 y2 m f g h = f h
either_end false x1 x2 y1 y2 m f g h = g h

empty_take : (k : ℕ) (bs : List ℕ) → k ≤ length bs → is_empty (take k bs) ≡ true → k ≡ 0
empty_take zero bs l h = refl
empty_take (suc k) [] l h = absurd (omega arith)
empty_take (suc k) (b ∷ bs) l h = absurd (false≢true h)

closes_closing : (quote : ℕ) (escaped : Bool) (n : ℕ) (bytes : List ℕ) (k : ℕ) → k ≤ length bytes → closes quote escaped (take k bytes) ≡ true → closing quote escaped n bytes ≡ Some (n + k)
unfolding closing closes
closes_closing quote escaped n bytes zero l h = absurd (false≢true h)
closes_closing quote escaped n [] (suc k) l h = absurd (false≢true h)
closes_closing quote escaped n (b ∷ bs) (suc k) l h =
    let sum : (n + 1) + k ≡ n + suc k = omega arith in
    let fits : k ≤ length bs = omega arith in
    unless (breaks quote b) _ _ _ (either_end escaped _ _ _ _ _ (λ t. closes_closing quote false (n + 1) bs k fits t ∙ ap (λ x. Some x) sum) (either_end (b == quote) _ _ _ _ _ (λ t. ap (λ x. Some x) (ap (λ x. n + suc x) (sym (empty_take k bs fits t)) ∙ refl)) (λ t. closes_closing quote (escapes quote b) (n + 1) bs k fits t ∙ ap (λ x. Some x) sum))) h

-- one byte of the search for the end
pub closing_more : (quote : ℕ) (escaped : Bool) (n : ℕ) (text : List ℕ) → n < length text → closing quote escaped n (drop n text) ≡ cond (breaks quote (get_or text n 0)) None (cond escaped (closing quote false (n + 1) (drop (n + 1) text)) (cond (get_or text n 0 == quote) (Some (n + 1)) (closing quote (escapes quote (get_or text n 0)) (n + 1) (drop (n + 1) text))))
unfolding closing
closing_more quote escaped n text l = at_drop_more (closing quote escaped n) text n 0 l

pub closing_end : (quote : ℕ) (escaped : Bool) (n : ℕ) (text : List ℕ) → length text ≤ n → closing quote escaped n (drop n text) ≡ None
unfolding closing
closing_end quote escaped n text l = at_drop_all (closing quote escaped n) text n l

-- literals in quotes
quote_is : (b : ℕ) → is_quote b ≡ true → ((b ≡ 34) ⊎ (b ≡ 39)) ⊎ (b ≡ 96)
quote_is b h =
    ⊎_elim (λ x. inl (⊎_elim (λ y. inl (eqb-true _ _ y)) (λ y. inr (eqb-true _ _ y)) (or_cases _ _ x))) (λ x. inr (eqb-true _ _ x)) (or_cases _ _ h)

at_quote : (P : ℕ → Type 0) (b : ℕ) → is_quote b ≡ true → P 34 → P 39 → P 96 → P b
at_quote P b h x y z =
    ⊎_elim (λ c. ⊎_elim (λ e. subst P (sym e) x) (λ e. subst P (sym e) y) c) (λ e. subst P (sym e) z) (quote_is b h)

pub quote_group : (b : ℕ) → is_quote b ≡ true → group_of b ≡ Quotes
unfolding group_of
quote_group b h = at_quote (λ n. group_of n ≡ Quotes) b h refl refl refl

quote_reads : (b : ℕ) (bytes : List ℕ) → is_quote b ≡ true → IsQuoted b bytes → Reads (TokenOf (quote_kind b)) bytes
unfolding Reads IsToken
quote_reads b bytes h = at_quote (λ n. IsQuoted n bytes → Reads (TokenOf (quote_kind n)) bytes) b h (λ q. q) (λ q. q) (λ q. q)

pub positive_size : (q : Piece) (text : List ℕ) → CanBegin q text → 0 < q.size
positive_size q text h =
    ⊎_elim (λ l. l) (λ (z : q.size ≤ 0). let e : q.size ≡ 0 = omega arith in absurd (nonempty q.kind (subst (λ n. Reads q.kind (take n text)) e h.reads))) (cases_lt 0 q.size)

inner_closing : (b : ℕ) (inner : List ℕ) (k : ℕ) → k ≤ length inner → IsQuoted b (b ∷ take k inner) → closing b false 1 inner ≡ Some (1 + k)
inner_closing b inner k l h =
    let e : b ∷ take k inner ≡ b ∷ h.inner = h.opens in
    let same : h.inner ≡ take k inner = cc in
    closes_closing b false 1 inner k l (ap (closes b false) (sym same) ∙ h.closed)

module _ (b : ℕ) (inner : List ℕ) (quote : is_quote b ≡ true) where
  closing_size : (s : PieceKind) (n : ℕ) → n ≤ suc (length inner) → 0 < n → IsQuoted b (take n (b ∷ inner)) → closing b false 1 inner ≡ Some n
  closing_size s zero l p h = absurd (omega arith)
  closing_size s (suc k) l p h = inner_closing b inner k (omega arith) h ∙ ap (λ x. Some x) (omega arith)

  unfolding_dot : 46 ≡ b → group_of b ≡ Operators
  unfolding group_of
  unfolding_dot e = ap group_of (sym e)

  quote_sized : (q : Piece) → CanBegin q (b ∷ inner) → closing b false 1 inner ≡ Some q.size
  quote_sized q h =
      let positive = positive_size q (b ∷ inner) h in
      let first = byte_in q.size (b ∷ inner) 0 positive in
      ⊎_elim
      (λ g.
      let quoted = piece_quoted q.kind (take q.size (b ∷ inner)) (sym g ∙ quote_group b quote) h.reads in
      closing_size q.kind q.size h.within positive (subst (λ n. IsQuoted n (take q.size (b ∷ inner))) first quoted))
      (λ (d : (q.kind ≡ TokenOf Number) × (b ≡ 46) × (is_ascii_digit (get_or inner 0 0) ≡ true)).
      let e = sym (quote_group b quote) ∙ unfolding_dot (sym d.1) in absurd cc)
      (grouped_at q (b ∷ inner) positive h)

  quote_begins : (n : ℕ) → closing b false 1 inner ≡ Some n → CanBegin (token_piece (quote_kind b) n) (b ∷ inner)
  quote_begins n h =
      let r = closing_closes b false 1 inner n h in
      let size : n ≡ suc r.count = omega (arith, r.size) in
      record {
        within = omega (arith, r.in_range);
        reads = quote_reads b (take n (b ∷ inner)) quote (record { inner = take r.count inner; opens = ap (λ k. take k (b ∷ inner)) size; closed = r.closed });
        only_comment = λ opens. absurd (no_slash (b ∷ inner) Quotes (quote_group b quote) (λ e. cc) opens);
      }

  quoted_longest : (n : ℕ) → closing b false 1 inner ≡ Some n → IsLongest (token_piece (quote_kind b) n) (b ∷ inner)
  quoted_longest n h =
      record {
        begins = quote_begins n h;
        longest = λ q c. let e = some_same n q.size (sym h ∙ quote_sized q c) in omega arith;
      }

pub quoted_piece : (text : List ℕ) (n : ℕ) → 0 < length text → is_quote (get_or text 0 0) ≡ true → closing (get_or text 0 0) false 1 (drop 1 text) ≡ Some n → IsLongest (token_piece (quote_kind (get_or text 0 0)) n) text
quoted_piece [] n size quote h = absurd (omega arith)
quoted_piece (b ∷ inner) n size quote h = quoted_longest b inner quote n h

pub no_quoted : (text : List ℕ) → 0 < length text → is_quote (get_or text 0 0) ≡ true → closing (get_or text 0 0) false 1 (drop 1 text) ≡ None → (q : Piece) → CanBegin q text → ⊥
no_quoted [] size quote h q c = absurd (omega arith)
no_quoted (b ∷ inner) size quote h q c = let e = sym h ∙ quote_sized b inner quote q c in cc

-- white space
abbrev one_byte : PieceKind → Piece
one_byte s = record { kind = s; size = 1 }

one_byte_longest : (s : PieceKind) (b : ℕ) (rest : List ℕ) → group_of b ≡ Spaces → Reads s (b ∷ []) → IsLongest (one_byte s) (b ∷ rest)
unfolding group_of
one_byte_longest s b rest group reads =
    record {
      begins = record {
        within = omega arith;
        reads = reads;
        only_comment = λ opens. absurd (no_slash (b ∷ rest) Spaces group (λ e. cc) opens);
      };
      longest = λ q h.
          let positive = positive_size q (b ∷ rest) h in
          ⊎_elim
          (λ g. omega (arith, taken q.size (b ∷ rest) h.within, piece_space q.kind (take q.size (b ∷ rest)) (sym g ∙ group) h.reads))
          (λ (d : (q.kind ≡ TokenOf Number) × (b ≡ 46) × (is_ascii_digit (get_or rest 0 0) ≡ true)).
          let e : Spaces ≡ Operators = sym group ∙ ap group_of d.1 in absurd cc)
          (grouped_at q (b ∷ rest) positive h);
    }

pub space_piece : (text : List ℕ) → 0 < length text → is_white_space (get_or text 0 0) ≡ true → IsLongest (one_byte WhiteSpace) text
unfolding Reads
space_piece [] size h = absurd (omega arith)
space_piece (b ∷ rest) size h = one_byte_longest WhiteSpace b rest (space_group b h) (b, refl, h)

pub newline_piece : (text : List ℕ) → 0 < length text → get_or text 0 0 ≡ 10 → IsLongest (one_byte Newline) text
unfolding Reads group_of
newline_piece [] size h = absurd (omega arith)
newline_piece (b ∷ rest) size h =
    one_byte_longest Newline b rest (ap group_of h) (ap (λ n. n ∷ []) h)

-- operators
pub record IsOperatorText (text : List ℕ) : Type 0 where
  pub small : get_or text 0 0 < 128
  pub no_letter : is_ascii_letter (get_or text 0 0) ≡ false
  pub no_number : starts_number (get_or text 0 0) (get_or text 1 0) ≡ false
  pub no_space : is_white_space (get_or text 0 0) ≡ false
  pub no_newline : (get_or text 0 0 == 10) ≡ false
  pub no_quote : is_quote (get_or text 0 0) ≡ false
  pub no_comment : opens_comment text ≡ false

reads_operator : (k : TokenKind) (bytes : List ℕ) → is_spelled k ≡ true → bytes ≡ spelling k → Reads (TokenOf k) bytes
unfolding Reads IsToken is_spelled
reads_operator Identifier bytes h e = absurd (false≢true h)
reads_operator Number bytes h e = absurd (false≢true h)
reads_operator InterpretedString bytes h e = absurd (false≢true h)
reads_operator RawString bytes h e = absurd (false≢true h)
reads_operator Rune bytes h e = absurd (false≢true h)
reads_operator k bytes h e = e

pub opens_in : (n : ℕ) (text : List ℕ) → n ≤ length text → opens_comment (take n text) ≡ true → opens_comment text ≡ true
opens_in n text within h =
    ⊎_elim
    (λ (long : 1 < n).
    ap (λ x. x == 47 && (get_or text 1 0 == 47 || get_or text 1 0 == 42)) (sym (byte_in n text 0 (omega arith)))
    ∙ (ap (λ x. get_or (take n text) 0 0 == 47 && (x == 47 || x == 42)) (sym (byte_in n text 1 long)) ∙ h))
    (λ (short : n ≤ 1).
    let past : get_or (take n text) 1 0 ≡ 0 = get_or_past (take n text) 1 0 (omega (arith, taken n text within)) in
    absurd (false≢true (ap (λ x. x == 47 || x == 42) (sym past) ∙ (and_parts _ _ h).1)))
    (cases_lt 1 n)

module _ (text : List ℕ) (o : IsOperatorText text) where
  rest_group : group_of (get_or text 0 0) ≡ Operators
  unfolding group_of
  rest_group =
      let no_digit : is_ascii_digit (get_or text 0 0) ≡ false = (or_parts _ _ o.no_number).0 in
      cond-false _ _ _ (or_from _ _ (lt-leb _ _ o.small) o.no_letter)
      ∙ (cond-false _ _ _ no_digit ∙ (cond-false _ _ _ (or_from _ _ o.no_space o.no_newline) ∙ cond-false _ _ _ o.no_quote))

  abbrev found : Option Piece
  found = operator_of (get_or text 0 0) (get_or text 1 0) (get_or text 2 0)

  operator_fits : (q : Piece) → CanBegin q text → IsOperatorAt q.kind (take q.size text) → fits found q.size ≡ true
  operator_fits q h at =
      let size : q.size ≡ length (spelling at.kind) = sym (taken q.size text h.within) ∙ ap length at.same in
      let byte = λ (i : ℕ) (l : i < q.size). ap (λ t. get_or t i 0) (sym at.same) ∙ byte_in q.size text i l in
      let positive = positive_size q text h in
      let operator : is_operator at.kind ≡ true = and_from _ _ at.spelled (ap not at.no_keyword) in
      subst (λ n. fits found n ≡ true) (sym size)
      (operator_longest at.kind (get_or text 0 0) (get_or text 1 0) (get_or text 2 0) operator (byte 0 positive) (λ l. byte 1 (omega arith)) (λ l. byte 2 (omega arith)))

  begins_operator : (q : Piece) → CanBegin q text → IsCommentAt q.kind (take q.size text) ⊎ IsOperatorAt q.kind (take q.size text)
  begins_operator q h =
      ⊎_elim
      (λ g. piece_operator q.kind (take q.size text) (sym g ∙ rest_group) h.reads)
      (λ (d : (q.kind ≡ TokenOf Number) × (get_or text 0 0 ≡ 46) × (is_ascii_digit (get_or text 1 0) ≡ true)).
      absurd (both_ways _ o.no_number (or_right _ _ (and_from _ _ (eq-eqb _ _ d.1) d.2))))
      (grouped_at q text (positive_size q text h) h)

  pub no_operator : found ≡ None → (q : Piece) → CanBegin q text → is_comment q.kind ≡ true
  no_operator none q h =
      ⊎_elim (λ c. c.0) (λ at. absurd (false≢true (ap (λ x. fits x q.size) (sym none) ∙ operator_fits q h at))) (begins_operator q h)

  spelled_begins : (p : Piece) → IsSpelledAt p text → CanBegin p text
  spelled_begins p s =
      let start = prefix (spelling s.kind) text (spelling_nonzero s.kind) s.bytes in
      subst (λ x. CanBegin x text) (sym s.piece)
      (record {
        within = start.1;
        reads = reads_operator s.kind (take (length (spelling s.kind)) text) (and_parts _ _ s.operator).0 start.0;
        only_comment = λ opens. absurd (both_ways _ o.no_comment opens);
      })

  spelled_plain : (p : Piece) → IsSpelledAt p text → is_comment p.kind ≡ false
  spelled_plain p s = ap (λ x. is_comment x.kind) s.piece

  pub operator_piece : (p : Piece) → found ≡ Some p → IsLongest p text × IsFalse (is_comment p.kind)
  operator_piece p e =
      let s : IsSpelledAt p text = subst (λ x. IfSome x (λ y. IsSpelledAt y text)) e (operator_spelled text) in (
        record {
          begins = spelled_begins p s;
          longest = λ q h.
              ⊎_elim
              (λ c. absurd (both_ways _ o.no_comment (opens_in q.size text h.within c.1)))
              (λ at. leb-true _ _ (ap (λ x. fits x q.size) (sym e) ∙ operator_fits q h at))
              (begins_operator q h);
        },
        spelled_plain p s,
      )

  pub operator_some : (r : Option Piece) → r ≡ found → IfSome r (λ p. IsLongest p text × IsFalse (is_comment p.kind))
  operator_some None e = tt
  operator_some (Some p) e = operator_piece p (sym e)

  pub operator_none : (r : Option Piece) → r ≡ found → IfNone r ((q : Piece) → CanBegin q text → IsTrue (is_comment q.kind))
  operator_none None e = no_operator (sym e)
  operator_none (Some p) e = tt
