-- The longest piece where a comment opens.
use Rattle.std.proofs.Common.{◌≡◌, ◌==◌, ℕ, zero, suc, ◌+◌, ◌-◌, ◌<◌, ◌≤◌, Bool, true, false, cond, ◌&&◌, List, [], ◌∷◌, length, get_or, take, drop, Some, None, refl, sym, ap, ◌∙◌, subst, arith, inl, inr, ⊎_elim, length-take-le, get_or-take, get_or-drop, add-zero}
use Rattle.std.specs.Prelude.{◌⊎◌}
use Rattle.std.proofs.lemmas.Bool.{false≢true, both_ways, and_parts, and_right, or_left, or_right, or_from, or_cases, cond-true, cond-false, cases_Bool, eqb-true, eq-eqb, ne_eqb}
use Rattle.std.proofs.lemmas.List.{drop_more, at_drop_all}
use Rattle.lexer.specs.declared.pieces.PieceKind.{PieceKind}
use Rattle.lexer.specs.declared.pieces.PieceKind.TheVariants.{WhiteSpace, Newline, LineComment, GeneralComment, GeneralCommentWithNewline, TokenOf}
use Rattle.lexer.specs.declared.pieces.Piece.{Piece}
use Rattle.lexer.specs.Dispatch.{comment_end}
use Rattle.lexer.specs.Pieces.{IsLineComment, IsGeneralComment, closes_comment, is_empty, has_newline, Reads}
use Rattle.lexer.specs.Cut.{CanBegin, IsLongest, is_comment, opens_comment}
use Rattle.lexer.proofs.Groups.{byte_in, taken}
use Rattle.lexer.proofs.Longest.{at_most}

-- one byte of the search for the end
end_rest : (n b : ℕ) (rest : List ℕ) → comment_end n (b ∷ rest) ≡ cond (b == 42 && get_or rest 0 0 == 47) (Some (n + 2)) (comment_end (n + 1) rest)
unfolding comment_end
end_rest n b [] = sym (cond-false (b == 42 && 0 == 47) (Some (n + 2)) None (and_right _ _ refl))
end_rest n b (c ∷ bs) = refl

pub comment_end_more : (n : ℕ) (text : List ℕ) → n < length text → comment_end n (drop n text) ≡ cond (get_or text n 0 == 42 && get_or text (n + 1) 0 == 47) (Some (n + 2)) (comment_end (n + 1) (drop (n + 1) text))
comment_end_more n text l =
    let next : get_or (drop (n + 1) text) 0 0 ≡ get_or text (n + 1) 0 = get_or-drop (n + 1) text 0 0 ∙ ap (λ i. get_or text i 0) (add-zero (n + 1)) in
    ap (comment_end n) (drop_more text n 0 l)
    ∙ (end_rest n (get_or text n 0) (drop (n + 1) text) ∙ ap (λ x. cond (get_or text n 0 == 42 && x == 47) (Some (n + 2)) (comment_end (n + 1) (drop (n + 1) text))) next)

pub comment_end_none : (n : ℕ) (text : List ℕ) → length text ≤ n → comment_end n (drop n text) ≡ None
unfolding comment_end
comment_end_none n text l = at_drop_all (comment_end n) text n l

-- the end that is found closes the comment
some_same : (a b : ℕ) → Some a ≡ Some b → a ≡ b
some_same a b e = cc

record IsEnded (n m : ℕ) (bytes : List ℕ) : Type 0 where
  count : ℕ
  size : m ≡ n + count
  in_range : count ≤ length bytes
  closed : closes_comment (take count bytes) ≡ true

ended_at : (n m b c : ℕ) (bs : List ℕ) → (b == 42 && c == 47) ≡ false → (k : ℕ) → m ≡ (n + 1) + k → k ≤ length (c ∷ bs) → closes_comment (take k (c ∷ bs)) ≡ true → IsEnded n m (b ∷ c ∷ bs)
unfolding closes_comment
ended_at n m b c bs other zero size in_range closed = absurd (false≢true closed)
ended_at n m b c bs other (suc k) size in_range closed =
    record {
      count = suc (suc k);
      size = omega arith;
      in_range = omega arith;
      closed = cond-false (b == 42 && c == 47) (is_empty (take k bs)) (closes_comment (c ∷ take k bs)) other ∙ closed;
    }

ended_step : (n m b c : ℕ) (bs : List ℕ) → (b == 42 && c == 47) ≡ false → IsEnded (n + 1) m (c ∷ bs) → IsEnded n m (b ∷ c ∷ bs)
unfolding closes_comment
ended_step n m b c bs other r = ended_at n m b c bs other r.count r.size r.in_range r.closed

end_closes : (n : ℕ) (bytes : List ℕ) (m : ℕ) → comment_end n bytes ≡ Some m → IsEnded n m bytes
unfolding comment_end closes_comment
end_closes n [] m h = absurd cc
end_closes n (b ∷ []) m h = absurd cc
end_closes n (b ∷ c ∷ bs) m h =
    let more = comment_end (n + 1) (c ∷ bs) in
    ⊎_elim
    (λ t.
    let e = sym (cond-true (b == 42 && c == 47) (Some (n + 2)) more t) ∙ h in
    record {
      count = 2;
      size = some_same m (n + 2) (sym e);
      in_range = omega arith;
      closed = cond-true (b == 42 && c == 47) true _ t;
    })
    (λ f. ended_step n m b c bs f (end_closes (n + 1) (c ∷ bs) m (sym (cond-false (b == 42 && c == 47) (Some (n + 2)) more f) ∙ h)))
    (cases_Bool (b == 42 && c == 47))

-- and a comment's end is found
empty_after : (k : ℕ) (bs : List ℕ) → k ≤ length bs → is_empty (take k bs) ≡ true → k ≡ 0
empty_after zero bs l h = refl
empty_after (suc k) [] l h = absurd (omega arith)
empty_after (suc k) (b ∷ bs) l h = absurd (false≢true h)

closes_end : (n : ℕ) (bytes : List ℕ) (k : ℕ) → k ≤ length bytes → closes_comment (take k bytes) ≡ true → comment_end n bytes ≡ Some (n + k)
unfolding comment_end closes_comment
closes_end n bytes zero l h = absurd (false≢true h)
closes_end n [] (suc k) l h = absurd (false≢true h)
closes_end n (b ∷ []) (suc zero) l h = absurd (false≢true h)
closes_end n (b ∷ []) (suc (suc k)) l h = absurd (omega arith)
closes_end n (b ∷ c ∷ bs) (suc zero) l h = absurd (false≢true h)
closes_end n (b ∷ c ∷ bs) (suc (suc k)) l h =
    let fits : k ≤ length bs = omega arith in
    let sum : (n + 1) + suc k ≡ n + suc (suc k) = omega arith in
    ⊎_elim
    (λ t.
    let empty = empty_after k bs fits (sym (cond-true (b == 42 && c == 47) (is_empty (take k bs)) (closes_comment (c ∷ take k bs)) t) ∙ h) in
    let size : n + 2 ≡ n + suc (suc k) = omega arith in
    cond-true (b == 42 && c == 47) (Some (n + 2)) (comment_end (n + 1) (c ∷ bs)) t ∙ ap (λ x. Some x) size)
    (λ f.
    cond-false (b == 42 && c == 47) (Some (n + 2)) (comment_end (n + 1) (c ∷ bs)) f
    ∙ (closes_end (n + 1) (c ∷ bs) (suc k) (omega arith) (sym (cond-false (b == 42 && c == 47) (is_empty (take k bs)) (closes_comment (c ∷ take k bs)) f) ∙ h) ∙ ap (λ x. Some x) sum))
    (cases_Bool (b == 42 && c == 47))

-- a newline among the bytes
any_no : (bytes : List ℕ) → ((i : ℕ) → i < length bytes → get_or bytes i 0 ≡ 10 → ⊥) → has_newline bytes ≡ false
any_no [] h = refl
any_no (b ∷ bs) h = or_from _ _ (ne_eqb _ _ (h 0 (omega arith))) (any_no bs (λ i l. h (suc i) (omega arith)))

any_yes : (bytes : List ℕ) (i : ℕ) → i < length bytes → get_or bytes i 0 ≡ 10 → has_newline bytes ≡ true
any_yes [] i l e = absurd (omega arith)
any_yes (b ∷ bs) zero l e = or_left _ _ (eq-eqb _ _ e)
any_yes (b ∷ bs) (suc i) l e = or_right _ _ (any_yes bs i (omega arith) e)

-- a comment of either kind
pub comment_reads : (s : PieceKind) (bytes : List ℕ) → is_comment s ≡ true → Reads s bytes → IsLineComment bytes ⊎ IsGeneralComment bytes
unfolding Reads
comment_reads WhiteSpace bytes c h = absurd (false≢true c)
comment_reads Newline bytes c h = absurd (false≢true c)
comment_reads LineComment bytes c h = inl h
comment_reads GeneralComment bytes c h = inr h.0
comment_reads GeneralCommentWithNewline bytes c h = inr h.0
comment_reads (TokenOf k) bytes c h = absurd (false≢true c)

line_second : (bytes : List ℕ) → IsLineComment bytes → (get_or bytes 1 0 ≡ 47) × (2 ≤ length bytes)
line_second bytes h = (ap (λ t. get_or t 1 0) h.opens, omega (arith, ap length h.opens))

general_second : (bytes : List ℕ) → IsGeneralComment bytes → (get_or bytes 1 0 ≡ 42) × (2 ≤ length bytes)
general_second bytes h = (ap (λ t. get_or t 1 0) h.opens, omega (arith, ap length h.opens))

-- where the second byte is a slash, only a line comment begins, and where it is a star, only a general comment
module _ (text : List ℕ) (opens : opens_comment text ≡ true) (q : Piece) (h : CanBegin q text) where
  comment_at : IsLineComment (take q.size text) ⊎ IsGeneralComment (take q.size text)
  comment_at = comment_reads q.kind (take q.size text) (h.only_comment opens) h.reads

  second_in : 2 ≤ length (take q.size text) → get_or (take q.size text) 1 0 ≡ get_or text 1 0
  second_in l = let size = taken q.size text h.within in byte_in q.size text 1 (omega arith)

  pub only_line : get_or text 1 0 ≡ 47 → IsLineComment (take q.size text)
  only_line e =
      ⊎_elim
      (λ l. l)
      (λ b.
      let s = general_second (take q.size text) b in
      let both : 42 ≡ 47 = sym s.0 ∙ (second_in s.1 ∙ e) in absurd (omega arith))
      comment_at

  pub only_general : get_or text 1 0 ≡ 42 → IsGeneralComment (take q.size text)
  only_general e =
      ⊎_elim
      (λ l.
      let s = line_second (take q.size text) l in
      let both : 47 ≡ 42 = sym s.0 ∙ (second_in s.1 ∙ e) in absurd (omega arith))
      (λ b. b)
      comment_at

-- a line comment
line_bytes : (text : List ℕ) (n : ℕ) → get_or text 0 0 ≡ 47 → get_or text 1 0 ≡ 47 → 2 ≤ n → n ≤ length text → ((i : ℕ) → 2 ≤ i → i < n → get_or text i 0 ≡ 10 → ⊥) → IsLineComment (take n text)
line_bytes [] n a b l m h = absurd (omega arith)
line_bytes (x ∷ []) n a b l m h = absurd (omega arith)
line_bytes (x ∷ y ∷ rest) zero a b l m h = absurd (omega arith)
line_bytes (x ∷ y ∷ rest) (suc zero) a b l m h = absurd (omega arith)
line_bytes (x ∷ y ∷ rest) (suc (suc k)) a b l m h =
    let size = length-take-le k rest (omega arith) in
    record {
      inner = take k rest;
      opens = ap (λ v. v ∷ y ∷ take k rest) a ∙ ap (λ v. 47 ∷ v ∷ take k rest) b;
      one_line = any_no (take k rest) (λ i j e. h (suc (suc i)) (omega arith) (omega arith) (sym (get_or-take k rest i 0 (omega arith)) ∙ e));
    }

longer_line : (text : List ℕ) (n m : ℕ) → 2 ≤ n → n < m → m ≤ length text → get_or text n 0 ≡ 10 → IsLineComment (take m text) → ⊥
longer_line text n m low longer within e h =
    let size = taken m text within in
    let inner : length h.inner + 2 ≡ m = omega (arith, ap length h.opens) in
    let back : suc (suc (n - 2)) ≡ n = omega arith in
    let there : get_or (47 ∷ 47 ∷ h.inner) n 0 ≡ 10 = ap (λ t. get_or t n 0) (sym h.opens) ∙ (byte_in m text n longer ∙ e) in
    let here : get_or h.inner (n - 2) 0 ≡ 10 = subst (λ k. get_or (47 ∷ 47 ∷ h.inner) k 0 ≡ 10) (sym back) there in
    both_ways _ h.one_line (any_yes h.inner (n - 2) (omega arith) here)

reads_line : (bytes : List ℕ) → IsLineComment bytes → Reads LineComment bytes
unfolding Reads
reads_line bytes h = h

abbrev piece : PieceKind → ℕ → Piece
piece s n = record { kind = s; size = n }

pub line_longest : (text : List ℕ) (n : ℕ) → opens_comment text ≡ true → get_or text 1 0 ≡ 47 → 2 ≤ n → n ≤ length text → ((i : ℕ) → 2 ≤ i → i < n → get_or text i 0 ≡ 10 → ⊥) → (n < length text → get_or text n 0 ≡ 10) → IsLongest (piece LineComment n) text
line_longest text n opens second low within one_line stops =
    record {
      begins = record {
        within = within;
        reads = reads_line (take n text) (line_bytes text n (eqb-true _ _ (and_parts _ _ opens).0) second low within one_line);
        only_comment = λ _. refl;
      };
      longest = λ q h. at_most n q.size (λ longer. longer_line text n q.size low longer h.within (stops (let inside = h.within in omega arith)) (only_line text opens q h second));
    }

-- a general comment
general_sized : (rest : List ℕ) (x y m : ℕ) → m ≤ length (x ∷ y ∷ rest) → IsGeneralComment (take m (x ∷ y ∷ rest)) → comment_end 2 rest ≡ Some m
general_sized rest x y zero l h = absurd (omega (arith, ap length h.opens))
general_sized rest x y (suc zero) l h = absurd (omega (arith, ap length h.opens))
general_sized rest x y (suc (suc k)) l h =
    let e : x ∷ y ∷ take k rest ≡ 47 ∷ 42 ∷ h.inner = h.opens in
    let same : h.inner ≡ take k rest = cc in
    closes_end 2 rest k (omega arith) (ap closes_comment (sym same) ∙ h.closed) ∙ ap (λ v. Some v) (omega arith)

general_at : (rest : List ℕ) (x y n : ℕ) → x ≡ 47 → y ≡ 42 → IsEnded 2 n rest → (n ≤ length (x ∷ y ∷ rest)) × IsGeneralComment (take n (x ∷ y ∷ rest))
general_at rest x y n a b r =
    let size : suc (suc r.count) ≡ n = omega (arith, r.size) in (
      omega (arith, r.size, r.in_range),
      subst (λ m. IsGeneralComment (take m (x ∷ y ∷ rest))) size (record {
        inner = take r.count rest;
        opens = ap (λ v. v ∷ y ∷ take r.count rest) a ∙ ap (λ v. 47 ∷ v ∷ take r.count rest) b;
        closed = r.closed;
      }),
    )

general_bytes : (rest : List ℕ) (x y n : ℕ) → x ≡ 47 → y ≡ 42 → comment_end 2 rest ≡ Some n → (n ≤ length (x ∷ y ∷ rest)) × IsGeneralComment (take n (x ∷ y ∷ rest))
general_bytes rest x y n a b e = general_at rest x y n a b (end_closes 2 rest n e)

reads_general : (long : Bool) (bytes : List ℕ) → has_newline bytes ≡ long → IsGeneralComment bytes → Reads (cond long GeneralCommentWithNewline GeneralComment) bytes
unfolding Reads
reads_general true bytes e h = (h, e)
reads_general false bytes e h = (h, e)

general_comment : (long : Bool) → is_comment (cond long GeneralCommentWithNewline GeneralComment) ≡ true
general_comment true = refl
general_comment false = refl

pub general_longest : (text : List ℕ) (n : ℕ) (long : Bool) → 2 ≤ length text → opens_comment text ≡ true → get_or text 1 0 ≡ 42 → comment_end 2 (drop 2 text) ≡ Some n → has_newline (take n text) ≡ long → IsLongest (piece (cond long GeneralCommentWithNewline GeneralComment) n) text
general_longest [] n long size opens second e newline = absurd (omega arith)
general_longest (x ∷ []) n long size opens second e newline = absurd (omega arith)
general_longest (x ∷ y ∷ rest) n long size opens second e newline =
    let b = general_bytes rest x y n (eqb-true _ _ (and_parts _ _ opens).0) second e in
    record {
      begins = record {
        within = b.0;
        reads = reads_general long (take n (x ∷ y ∷ rest)) newline b.1;
        only_comment = λ _. general_comment long;
      };
      longest = λ q h. let same = some_same n q.size (sym e ∙ general_sized rest x y q.size h.within (only_general (x ∷ y ∷ rest) opens q h second)) in omega arith;
    }

pub no_general : (text : List ℕ) → 2 ≤ length text → opens_comment text ≡ true → get_or text 1 0 ≡ 42 → comment_end 2 (drop 2 text) ≡ None → (q : Piece) → CanBegin q text → ⊥
no_general [] size opens second e q h = absurd (omega arith)
no_general (x ∷ []) size opens second e q h = absurd (omega arith)
no_general (x ∷ y ∷ rest) size opens second e q h =
    let both = sym e ∙ general_sized rest x y q.size h.within (only_general (x ∷ y ∷ rest) opens q h second) in cc

-- the second byte of a comment that is none of one line
pub second_star : (text : List ℕ) → opens_comment text ≡ true → (get_or text 1 0 ≡ 47 → ⊥) → get_or text 1 0 ≡ 42
second_star text opens ne =
    ⊎_elim (λ e. absurd (ne (eqb-true _ _ e))) (λ e. eqb-true _ _ e) (or_cases _ _ (and_parts _ _ opens).1)
