-- A text has one cut, and what a step adds to it.
use Rattle.std.proofs.Common.{◌≡◌, ℕ, zero, suc, List, [], ◌∷◌, ◌++◌, take, drop, refl, sym, ap, ◌∙◌, subst, arith}
use Rattle.std.proofs.lemmas.List.{append-nil}
use Rattle.lexer.specs.declared.pieces.Piece.{Piece}
use Rattle.lexer.specs.Pieces.{Reads}
use Rattle.lexer.specs.Cut.{CanBegin, IsLongest, Cut}
use Rattle.lexer.proofs.PieceKinds.{one_kind, nonempty}

-- one piece is the longest
pub one_longest : (p q : Piece) (text : List ℕ) → IsLongest p text → IsLongest q text → p ≡ q
one_longest p q text a b =
    let e : p.size ≡ q.size = omega (arith, a.longest q b.begins, b.longest p a.begins) in
    let s : p.kind ≡ q.kind = one_kind p.kind q.kind (take p.size text) a.begins.reads (subst (λ n. Reads q.kind (take n text)) (sym e) b.begins.reads) in
    λ i. record { kind = s i; size = e i }

take_none : (n : ℕ) → take {A = ℕ} n [] ≡ []
take_none zero = refl
take_none (suc n) = refl

-- nothing can begin where the text has ended
pub nothing_at_end : (p : Piece) → CanBegin p [] → ⊥
nothing_at_end p h = nonempty p.kind (subst (Reads p.kind) (take_none p.size) h.reads)

-- a whole cut goes on from each cut of the text's beginning
pub cut_split : (text : List ℕ) (ps : List Piece) (rest : List ℕ) (qs : List Piece) → Cut text ps rest → Cut text qs [] → (rs : List Piece) × (qs ≡ ps ++ rs) × Cut rest rs []
unfolding Cut
cut_split text [] rest qs c d = (qs, refl, subst (λ t. Cut t qs []) c d)
cut_split text (p ∷ ps) rest [] c d =
    absurd (nothing_at_end p (subst (λ t. CanBegin p t) d c.0.begins))
cut_split text (p ∷ ps) rest (q ∷ qs) c d =
    let e : p ≡ q = one_longest p q text c.0 d.0 in
    let r = cut_split (drop p.size text) ps rest qs c.1 (subst (λ x. Cut (drop x.size text) qs []) (sym e) d.1) in
    (r.0, ap (λ x. x ∷ qs) (sym e) ∙ ap (λ l. p ∷ l) r.1, r.2)

cut_end : (rs : List Piece) → Cut [] rs [] → rs ≡ []
unfolding Cut
cut_end [] c = refl
cut_end (p ∷ ps) c = absurd (nothing_at_end p c.0.begins)

pub one_cut : (text : List ℕ) (ps qs : List Piece) → Cut text ps [] → Cut text qs [] → qs ≡ ps
one_cut text ps qs c d =
    let r = cut_split text ps [] qs c d in
    r.1 ∙ (ap (λ l. ps ++ l) (cut_end r.0 r.2) ∙ append-nil ps)

-- one piece more
pub cut_more : (text : List ℕ) (ps : List Piece) (rest : List ℕ) (p : Piece) → Cut text ps rest → IsLongest p rest → Cut text (ps ++ p ∷ []) (drop p.size rest)
unfolding Cut
cut_more text [] rest p c h = (subst (IsLongest p) (sym c) h, ap (drop p.size) c)
cut_more text (q ∷ ps) rest p c h = (c.0, cut_more (drop q.size text) ps rest p c.1 h)
