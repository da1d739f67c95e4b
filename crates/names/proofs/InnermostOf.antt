-- The innermost declaration among the run of a name: what has begun at the offset, and what the links skip.
use Rattle.std.proofs.Common.{◌≡◌, ℕ, ◌+◌, ◌<◌, ◌≤◌, ◌⊎◌, inl, inr, Bool, true, false, Option, Some, None, List, [], ◌∷◌, ◌++◌, length, length-append, refl, sym, ap, subst, ◌∙◌, arith, zero, suc}
use Rattle.std.specs.Prelude.{slice_get, ◌&&◌, nat_le, nat_lt}
use Rattle.std.specs.Str.{bytes_eq}
use Rattle.std.proofs.lemmas.Bool.{cond-true, cond-false, cases_Bool, and_parts, false_from_ne_true, leb-true, ltb-true, le-leb, and_from, cases_lt, lt-ltb}
use Rattle.std.proofs.lemmas.Slice.Eq.{bytes_eq-Decides}
use Rattle.meaning.specs.Scopes.{LocalName}
use Rattle.meaning.specs.Declarations.{innermost, inner_of, covers}
use Rattle.names.specs.declared.order.Run.{Run}
use Rattle.names.specs.Ordered.{IsLink, AreLinks, IsRun}
use Rattle.names.specs.Before.{AllBegun, IsNumberBefore}

-- the local has the name and covers the offset
abbrev pub hits : List ℕ → ℕ → LocalName → Bool
hits name at l = bytes_eq l.name name && covers l at

abbrev pub NoneHits : List LocalName → List ℕ → ℕ → ℕ → Type 0
NoneHits ls name at start = (i : ℕ) (l : LocalName) → start ≤ i → slice_get ls i ≡ Some l → hits name at l ≡ false

pub innermost-none : (name : List ℕ) (at : ℕ) (ls : List LocalName) → NoneHits ls name at 0 → innermost name at ls ≡ None
unfolding innermost
innermost-none name at [] h = refl
innermost-none name at (l ∷ ls) h =
    cond-false _ _ _ (h 0 l (omega arith) refl) ∙ innermost-none name at ls (λ i x w e. h (suc i) x (omega arith) e)

pub innermost-some :
    (name : List ℕ) (at : ℕ) (ls : List LocalName) (k : ℕ) (l : LocalName) → slice_get ls k ≡ Some l → hits name at l ≡ true
    → NoneHits ls name at (suc k)
    → ((i : ℕ) (x : LocalName) → i < k → slice_get ls i ≡ Some x → hits name at x ≡ true → x.block.start ≤ l.block.start)
    → innermost name at ls ≡ Some l
unfolding innermost
innermost-some name at [] k l is hit later earlier = cc
innermost-some name at (x ∷ ls) zero l is hit later earlier =
    let same : x ≡ l = cc in
    cond-true _ _ _ (ap (hits name at) same ∙ hit)
    ∙ ap (λ (o : Option LocalName). Some (inner_of x o))
    (innermost-none name at ls (λ i y w e. later (suc i) y (omega arith) e))
    ∙ ap Some same
innermost-some name at (x ∷ ls) (suc k) l is hit later earlier =
    let rest : innermost name at ls ≡ Some l = innermost-some name at ls k l is hit
    (λ i y w e. later (suc i) y (omega arith) e) (λ i y w e h. earlier (suc i) y (omega arith) e h) in
    elim (cases_Bool (hits name at x)) [
      | inl t ↦ cond-true _ _ _ t ∙ ap (λ (o : Option LocalName). Some (inner_of x o)) rest
          ∙ ap Some (cond-true _ _ _ (le-leb _ _ (earlier 0 x (omega arith) refl t)))
      | inr f ↦ cond-false _ _ _ f ∙ rest
    ]

-- What is left of the locals, while the last of them are passed

pub record Left (ls : List LocalName) (name : List ℕ) (run : Run) (at end : ℕ) : Type 0 where
  pub within : end ≤ run.end
  pub begun : AllBegun ls run.start end at
  pub missed : NoneHits ls name at end

has_name : (name : List ℕ) (at : ℕ) (l : LocalName) → hits name at l ≡ true → l.name ≡ name
has_name name at l h = (bytes_eq-Decides l.name name).0 (and_parts _ _ h).0

has_begun : (name : List ℕ) (at : ℕ) (l : LocalName) → hits name at l ≡ true → l.block.start ≤ at
has_begun name at l h = leb-true _ _ (and_parts _ _ (and_parts _ _ h).1).0

in_scope : (name : List ℕ) (at : ℕ) (l : LocalName) → hits name at l ≡ true → (l.from ≤ at) × (at < l.block.end)
in_scope name at l h =
    let covered : covers l at ≡ true = (and_parts (bytes_eq l.name name) (covers l at) h).1 in
    let scope = and_parts (nat_le l.block.start at) (nat_le l.from at && nat_lt at l.block.end) covered in
    let both = and_parts (nat_le l.from at) (nat_lt at l.block.end) scope.1 in
    (leb-true l.from at both.0, ltb-true at l.block.end both.1)

pub left-all :
    (ls : List LocalName) (name : List ℕ) (run : Run) (at number : ℕ) → IsRun ls name run → IsNumberBefore ls run at number
    → Left ls name run at number
left-all ls name run at number is h = record {
  within = h.within;
  begun = h.begun;
  missed = λ i l w e. false_from_ne_true _ (λ hit.
      let place = is.all i l e (has_name name at l hit) in
      let later = h.later i l w place.1 e in
      let begun = has_begun name at l hit in omega arith);
}

-- no local in a part at the end hits
fewer :
    (ls : List LocalName) (name : List ℕ) (run : Run) (at end fewer : ℕ) → Left ls name run at end → fewer ≤ end
    → ((i : ℕ) (l : LocalName) → fewer ≤ i → i < end → slice_get ls i ≡ Some l → hits name at l ≡ true → ⊥)
    → Left ls name run at fewer
fewer ls name run at end less left le none = record {
  within = let h = left.within in omega arith;
  begun = λ i l w below e. left.begun i l w (omega arith) e;
  missed = λ i l w e. elim (cases_lt i end) [
    | inl below ↦ false_from_ne_true _ (none i l w below e)
    | inr above ↦ left.missed i l above e
  ];
}

one_of : (ls : List LocalName) (i k : ℕ) (l m : LocalName) → slice_get ls i ≡ Some l → slice_get ls k ≡ Some m → i ≡ k → l ≡ m
one_of ls i k l m here there one =
    let at_k : slice_get ls k ≡ Some l = subst (λ (n : ℕ). slice_get ls n ≡ Some l) one here in cc

-- the scope of the last one has not begun
pub left-last :
    (ls : List LocalName) (name : List ℕ) (run : Run) (at end last : ℕ) (m : LocalName) → Left ls name run at end
    → end ≡ last + 1 → slice_get ls last ≡ Some m → at < m.from → Left ls name run at last
left-last ls name run at end last m left e there later = fewer ls name run at end last left (omega arith)
    (λ i l w below here hit.
    let same : l ≡ m = one_of ls i last l m here there (omega arith) in
    let from = subst (λ (x : LocalName). x.from ≤ at) same (in_scope name at l hit).0 in omega arith)

-- the block of the last one has ended, and with it those from its link on
pub left-link :
    (ls : List LocalName) (name : List ℕ) (run : Run) (at end last link : ℕ) (m : LocalName) → Left ls name run at end
    → end ≡ last + 1 → slice_get ls last ≡ Some m → m.block.end ≤ at → IsLink ls last link → Left ls name run at link
left-link ls name run at end last link m left e there ended is_link =
    let back = is_link.back in
    fewer ls name run at end link left (omega arith)
    (λ i l w below here hit.
    let open_yet = (in_scope name at l hit).1 in
    elim (cases_lt i last) [
      | inl before ↦ let closed = is_link.ended i l m w before here there in omega arith
      | inr above ↦
          let same : l ≡ m = one_of ls i last l m here there (omega arith) in
          let at_end = subst (λ (x : LocalName). at < x.block.end) same open_yet in omega arith
    ])

-- the last one hits
pub left-hit :
    (ls : List LocalName) (name : List ℕ) (run : Run) (at end last : ℕ) (m : LocalName) → IsRun ls name run
    → Left ls name run at end → end ≡ last + 1 → run.start ≤ last → slice_get ls last ≡ Some m → m.from ≤ at
    → at < m.block.end → innermost name at ls ≡ Some m
left-hit ls name run at end last m is left e some there from open_yet =
    innermost-some name at ls last m there hit (λ i l w here. left.missed i l (omega arith) here) earlier
  where
    upto : end ≤ run.end
    upto = left.within

    begun : m.block.start ≤ at
    begun = left.begun last m some (omega arith) there

    hit : hits name at m ≡ true
    hit = and_from _ _ ((bytes_eq-Decides m.name name).1 (is.named last m some (omega (arith, upto)) there))
        (and_from _ _ (le-leb _ _ begun) (and_from _ _ (le-leb _ _ from) (lt-ltb _ _ open_yet)))

    earlier : (i : ℕ) (x : LocalName) → i < last → slice_get ls i ≡ Some x → hits name at x ≡ true
        → x.block.start ≤ m.block.start
    earlier i x below here h =
        is.by_start i last x m (is.all i x here (has_name name at x h)).0 below (omega (arith, upto)) here there

-- none of the run is left
pub left-none :
    (ls : List LocalName) (name : List ℕ) (run : Run) (at end : ℕ) → IsRun ls name run → Left ls name run at end
    → end ≤ run.start → innermost name at ls ≡ None
left-none ls name run at end is left none =
    innermost-none name at ls (fewer ls name run at end 0 left (omega arith) outside).missed
  where
    outside : (i : ℕ) (l : LocalName) → 0 ≤ i → i < end → slice_get ls i ≡ Some l → hits name at l ≡ true → ⊥
    outside i l w below here hit = let place = is.all i l here (has_name name at l hit) in omega (arith, place.0)

-- the name has no local
pub none-named :
    (ls : List LocalName) (name : List ℕ) (run : Run) (at : ℕ) → IsRun ls name run → run.end ≤ run.start
    → innermost name at ls ≡ None
none-named ls name run at is empty =
    innermost-none name at ls (λ i l w here. false_from_ne_true _ (λ hit.
    let place = is.all i l here (has_name name at l hit) in omega (arith, place.0, place.1)))

-- Links

pub link-itself : (ls : List LocalName) (index : ℕ) → IsLink ls index index
link-itself ls index = record { back = omega arith; ended = λ i l m w below here there. absurd (omega arith) }

pub link-on :
    (ls : List LocalName) (index end last link : ℕ) (p m : LocalName) → IsLink ls index end → end ≡ last + 1
    → slice_get ls last ≡ Some p → slice_get ls index ≡ Some m → p.block.end ≤ m.block.end → IsLink ls last link
    → IsLink ls index link
link-on ls index end last link p m so_far e before own ends next = record {
  back = let there = so_far.back in let back = next.back in omega arith;
  ended = λ i l n w below here there.
      let same : n ≡ m = one_of ls index index n m there own refl in
      let ended : l.block.end ≤ m.block.end = elim (cases_lt i end) [
        | inr above ↦ so_far.ended i l m above below here own
        | inl under ↦ elim (cases_lt i last) [
          | inl inside ↦ let closed = next.ended i l p w inside here before in omega arith
          | inr above ↦
              let one : l ≡ p = one_of ls i last l p here before (omega arith) in
              subst (λ (x : LocalName). x.block.end ≤ m.block.end) (sym one) ends
        ]
      ] in
      subst (λ (x : LocalName). l.block.end ≤ x.block.end) (sym same) ended;
}

-- links of the first of the locals
pub record Linked (ls : List LocalName) (links : List ℕ) (number : ℕ) : Type 0 where
  pub as_many : length links ≡ number
  pub each : (index link : ℕ) → slice_get links index ≡ Some link → IsLink ls index link

pub linked-none : (ls : List LocalName) → Linked ls [] 0
linked-none ls = record { as_many = refl; each = λ index link e. cc }

get_last : (xs : List ℕ) (x : ℕ) (i y : ℕ) → slice_get (xs ++ x ∷ []) i ≡ Some y
    → (slice_get xs i ≡ Some y) ⊎ ((i ≡ length xs) × (x ≡ y))
get_last [] x zero y e = inr (refl, cc)
get_last [] x (suc i) y e = cc
get_last (z ∷ xs) x zero y e = inl e
get_last (z ∷ xs) x (suc i) y e = elim (get_last xs x i y e) [
  | inl before ↦ inl before
  | inr p ↦ inr (ap suc p.0, p.1)
]

pub linked-push :
    (ls : List LocalName) (links : List ℕ) (number link : ℕ) → Linked ls links number → IsLink ls number link
    → Linked ls (links ++ link ∷ []) (number + 1)
linked-push ls links number link linked is_link = record {
  as_many = let n = linked.as_many in omega (arith, length-append links (link ∷ []));
  each = λ index other e. elim (get_last links link index other e) [
    | inl before ↦ linked.each index other before
    | inr p ↦ subst (λ (i : ℕ). IsLink ls i other) (sym (p.0 ∙ linked.as_many))
        (subst (λ (x : ℕ). IsLink ls number x) p.1 is_link)
  ];
}

pub all-linked : (ls : List LocalName) (links : List ℕ) (number : ℕ) → length ls ≡ number → Linked ls links number → AreLinks ls links
all-linked ls links number n linked = record { as_many = linked.as_many ∙ sym n; each = linked.each }
