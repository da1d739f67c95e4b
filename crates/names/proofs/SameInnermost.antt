-- The innermost local of a name at an offset doesn't depend on the order of the locals, if each is told by its name and
-- its block; and so are those that count.
use Rattle.std.proofs.Common.{◌≡◌, ℕ, ◌≤◌, Bool, true, false, ◌⊎◌, inl, inr, Option, Some, None, List, [], ◌∷◌, ◌&&◌, Contains, refl, sym, ap, ◌∙◌, subst, arith}
use Rattle.std.specs.Prelude.{◌==◌, nat_le, if◌then◌else◌}
use Rattle.std.specs.Str.{bytes_eq}
use Rattle.std.specs.List.Sorted.{IsPermutation}
use Rattle.std.proofs.lemmas.Bool.{and_parts, and_from, eq-eqb, leb-true, leb-false}
use Rattle.std.proofs.lemmas.Slice.Eq.{bytes_eq-Decides}
use Rattle.std.proofs.lemmas.List.Sorted.{Contains-permutation, IsPermutation-sym, IsPermutation-map}
use Rattle.scopes.specs.declared.naming.LocalName.{LocalName as KeptLocal}
use Rattle.meaning.specs.Scopes.{LocalName}
use Rattle.meaning.specs.Declarations.{same_name_and_block, without, first_locals, covers, inner_of, innermost, local_meant}
use Rattle.meaning.proofs.Membership.{contains_nil, contains_here, contains_there, contains_cases}
use Rattle.names.specs.Ordered.{locals_view}
use Rattle.scopes.specs.Views.{local_view}

-- the local has the name, and covers the offset
abbrev pub suits : List ℕ → ℕ → LocalName → Bool
suits name at l = bytes_eq l.name name && covers l at

-- the answer is the local of those that suit whose block begins last, or that none suits
abbrev pub IsInnermost : List ℕ → ℕ → List LocalName → Option LocalName → Type 0
IsInnermost name at ls None = (m : LocalName) → Contains ls m → suits name at m ≡ false
IsInnermost name at ls (Some l) =
    Contains ls l
    × (suits name at l ≡ true)
    × ((m : LocalName) → Contains ls m → suits name at m ≡ true → m.block.start ≤ l.block.start)

-- one more local at the front
with_one :
    (name : List ℕ) (at : ℕ) (x : LocalName) (ls : List LocalName) (b : Bool) (r : Option LocalName) → suits name at x ≡ b
    → IsInnermost name at ls r → IsInnermost name at (x ∷ ls) (if b then Some (inner_of x r) else r)
with_one name at x ls false None e h =
    λ m g. elim (contains_cases x m ls g) [ inl p ↦ ap (suits name at) (sym p) ∙ e | inr k ↦ h m k ]
with_one name at x ls false (Some l) e h = (
  contains_there x l ls h.0,
  h.1,
  λ m g s.
      elim (contains_cases x m ls g) [
        | inl p ↦ let bad : true ≡ false = sym s ∙ ap (suits name at) (sym p) ∙ e in absurd (cc)
        | inr k ↦ h.2 m k s
      ],
)
with_one name at x ls true None e h = (
  contains_here x ls,
  e,
  λ m g s.
      elim (contains_cases x m ls g) [
        | inl p ↦ let same = ap (λ (l : LocalName). l.block.start) p in omega (arith, same)
        | inr k ↦ let bad : true ≡ false = sym s ∙ h m k in absurd (cc)
      ],
)
with_one name at x ls true (Some l) e h = chosen (nat_le x.block.start l.block.start) refl
  where
    chosen :
        (b : Bool) → nat_le x.block.start l.block.start ≡ b
        → IsInnermost name at (x ∷ ls) (Some (if b then l else x))
    chosen true o = (
      contains_there x l ls h.0,
      h.1,
      λ m g s.
          elim (contains_cases x m ls g) [
            | inl p ↦
                let same = ap (λ (k : LocalName). k.block.start) p in
                let below = leb-true x.block.start l.block.start o in
                omega (arith, same, below)
            | inr k ↦ h.2 m k s
          ],
    )
    chosen false o = (
      contains_here x ls,
      e,
      λ m g s.
          elim (contains_cases x m ls g) [
            | inl p ↦ let same = ap (λ (k : LocalName). k.block.start) p in omega (arith, same)
            | inr k ↦
                let below = leb-false x.block.start l.block.start o in
                let most = h.2 m k s in
                omega (arith, below, most)
          ],
    )

pub innermost_is : (name : List ℕ) (at : ℕ) (ls : List LocalName) → IsInnermost name at ls (innermost name at ls)
unfolding innermost
innermost_is name at [] = λ m g. absurd (contains_nil m g)
innermost_is name at (x ∷ ls) =
    with_one name at x ls (suits name at x) (innermost name at ls) refl (innermost_is name at ls)

-- the name and the block's start tell the local
abbrev pub AreApart : List LocalName → Type 0
AreApart ls =
    (l m : LocalName) → Contains ls l → Contains ls m → l.name ≡ m.name → l.block.start ≡ m.block.start → l ≡ m

-- the same locals, in any order
abbrev pub HaveSame : List LocalName → List LocalName → Type 0
HaveSame ls ms = (l : LocalName) → Contains ls l → Contains ms l

suits_name : (name : List ℕ) (at : ℕ) (l : LocalName) → suits name at l ≡ true → l.name ≡ name
suits_name name at l s = (bytes_eq-Decides l.name name).0 (and_parts (bytes_eq l.name name) (covers l at) s).0

same_answer :
    (name : List ℕ) (at : ℕ) (ls ms : List LocalName) (r q : Option LocalName) → AreApart ls → HaveSame ls ms → HaveSame ms ls
    → IsInnermost name at ls r → IsInnermost name at ms q → q ≡ r
same_answer name at ls ms None None apart there back h g = refl
same_answer name at ls ms None (Some m) apart there back h g =
    let bad : false ≡ true = sym (h m (back m g.0)) ∙ g.1 in cc
same_answer name at ls ms (Some l) None apart there back h g =
    let bad : false ≡ true = sym (g l (there l h.0)) ∙ h.1 in cc
same_answer name at ls ms (Some l) (Some m) apart there back h g =
    let below : m.block.start ≤ l.block.start = h.2 m (back m g.0) g.1 in
    let above : l.block.start ≤ m.block.start = g.2 l (there l h.0) h.1 in
    ap Some
    (apart m l (back m g.0) h.0 (suits_name name at m g.1 ∙ sym (suits_name name at l h.1))
    (omega (arith, below, above)))

pub same_innermost :
    (name : List ℕ) (at : ℕ) (ls ms : List LocalName) → AreApart ls → IsPermutation ls ms
    → innermost name at ms ≡ innermost name at ls
same_innermost name at ls ms apart p =
    same_answer name at ls ms (innermost name at ls) (innermost name at ms) apart
    (λ l g. Contains-permutation ls ms l p g) (λ l g. Contains-permutation ms ls l (IsPermutation-sym ls ms p) g)
    (innermost_is name at ls) (innermost_is name at ms)

-- what is left of the locals without those of one name and block
kept :
    (x m : LocalName) (b : Bool) (ls : List LocalName) (l : LocalName) → same_name_and_block x m ≡ b
    → (Contains (without x ls) l → Contains ls l × (same_name_and_block x l ≡ false))
    → Contains (if b then without x ls else m ∷ without x ls) l → Contains (m ∷ ls) l × (same_name_and_block x l ≡ false)
kept x m true ls l e h g = let w = h g in (contains_there m l ls w.0, w.1)
kept x m false ls l e h g =
    elim (contains_cases m l (without x ls) g) [
      | inl p ↦ (subst (λ (k : LocalName). Contains (m ∷ ls) k) p (contains_here m ls), ap (same_name_and_block x) (sym p) ∙ e)
      | inr k ↦ let w = h k in (contains_there m l ls w.0, w.1)
    ]

pub contains_without :
    (x : LocalName) (ls : List LocalName) (l : LocalName) → Contains (without x ls) l
    → Contains ls l × (same_name_and_block x l ≡ false)
contains_without x [] l g = absurd (contains_nil l g)
contains_without x (m ∷ ls) l g = kept x m (same_name_and_block x m) ls l refl (contains_without x ls l) g

same_name_and_block_of :
    (l m : LocalName) → l.name ≡ m.name → l.block.start ≡ m.block.start → same_name_and_block l m ≡ true
same_name_and_block_of l m e f =
    and_from (bytes_eq l.name m.name) (l.block.start == m.block.start) ((bytes_eq-Decides l.name m.name).1 e)
    (eq-eqb l.block.start m.block.start f)

apart_with_one : (x : LocalName) (rest : List LocalName) → AreApart rest → AreApart (x ∷ without x rest)
apart_with_one x rest before l m g h e f =
    by_cases (contains_cases x l (without x rest) g) (contains_cases x m (without x rest) h)
  where
    by_cases : (x ≡ l) ⊎ Contains (without x rest) l → (x ≡ m) ⊎ Contains (without x rest) m → l ≡ m
    by_cases (inl p) (inl q) = sym p ∙ q
    by_cases (inl p) (inr k) =
        let alike : same_name_and_block l m ≡ true = same_name_and_block_of l m e f in
        let apart : same_name_and_block x m ≡ false = (contains_without x rest m k).1 in
        let bad : true ≡ false = sym alike ∙ ap (λ (d : LocalName). same_name_and_block d m) (sym p) ∙ apart in
        cc
    by_cases (inr k) (inl q) =
        let alike : same_name_and_block m l ≡ true = same_name_and_block_of m l (sym e) (sym f) in
        let apart : same_name_and_block x l ≡ false = (contains_without x rest l k).1 in
        let bad : true ≡ false = sym alike ∙ ap (λ (d : LocalName). same_name_and_block d l) (sym q) ∙ apart in
        cc
    by_cases (inr j) (inr k) =
        before l m (contains_without x rest l j).0 (contains_without x rest m k).0 e f

pub first_locals_are_apart : (ls : List LocalName) → AreApart (first_locals ls)
unfolding first_locals
first_locals_are_apart [] = λ l m g h e f. absurd (contains_nil l g)
first_locals_are_apart (x ∷ ls) = apart_with_one x (first_locals ls) (first_locals_are_apart ls)

-- what the crate's order of the locals gives
pub innermost_of_ordered :
    (name : List ℕ) (at : ℕ) (kept : List KeptLocal) (ordered : List KeptLocal) (all : List LocalName)
    → locals_view kept ≡ first_locals all → IsPermutation kept ordered
    → innermost name at (locals_view ordered) ≡ local_meant all name at
innermost_of_ordered name at kept ordered all e p =
    same_innermost name at (first_locals all) (locals_view ordered) (first_locals_are_apart all)
    (subst (λ (ls : List LocalName). IsPermutation ls (locals_view ordered)) e (IsPermutation-map local_view kept ordered p))
