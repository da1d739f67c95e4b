-- Variables by their places among those of their kind, and the state that a row makes.
use Rattle.std.proofs.Common.{◌≡◌, ℕ, zero, suc, ◌+◌, ◌<◌, true, false, List, [], ◌∷◌, ◌++◌, length, Some, refl, sym, ap, ◌∙◌, subst, arith, inl, inr}
use Rattle.std.specs.Prelude.{slice_get, slice_index_or}
use Rattle.std.proofs.lemmas.Bool.{and_parts, cases_eq, ltb-true}
use Rattle.std.proofs.lemmas.Option.{none-some, same_Some, slice_get_within}
use Rattle.tree.specs.declared.edition.Edition.TheVariants.{Second}
use Rattle.meaning.specs.BodyEvents.{Variable}
use Rattle.meaning.specs.FunctionFacts.{VariableKind, cancel, group}
use Rattle.bodies.specs.MaskTests.{has_known_bits}
use Rattle.bodies.specs.States.{has_bit, has_place, first_bit, mask_bits, Sets}
use Rattle.checker.specs.Loaded.{number_if, numbers_of, next_if, place_of, is_taken, IsLoaded, IsApart, AreLoaded}
use Rattle.checker.specs.CertificateTests.{mask_in, loads}
use Rattle.checker.proofs.TestedLists.{each_at}

-- Places

first_number : (kind its : VariableKind) (n : ℕ) (rest : List ℕ) → its ≡ kind
    → slice_get (number_if kind its n ++ rest) 0 ≡ Some n
first_number cancel cancel n rest e = refl
first_number group group n rest e = refl
first_number cancel group n rest e = cc
first_number group cancel n rest e = cc

later_number : (kind its : VariableKind) (n : ℕ) (rest : List ℕ) (k : ℕ)
    → slice_get (number_if kind its n ++ rest) (next_if kind its k) ≡ slice_get rest k
later_number cancel cancel n rest k = refl
later_number cancel group n rest k = refl
later_number group cancel n rest k = refl
later_number group group n rest k = refl

-- a variable's number stands at its place among those of its kind
pub at_place : (kind : VariableKind) (vs : List Variable) (i : ℕ) (v : Variable)
    → slice_get vs i ≡ Some v
    → v.kind ≡ kind
    → slice_get (numbers_of kind vs) (place_of kind vs i) ≡ Some v.number
at_place kind [] i v e is = absurd (none-some v e)
at_place kind (w ∷ vs) zero v e is =
    subst (λ (u : Variable). slice_get (numbers_of kind (w ∷ vs)) 0 ≡ Some u.number) (same_Some w v e)
    (first_number kind w.kind w.number (numbers_of kind vs)
    (ap (λ (u : Variable). u.kind) (same_Some w v e) ∙ is))
at_place kind (w ∷ vs) (suc i) v e is =
    later_number kind w.kind w.number (numbers_of kind vs) (place_of kind vs i) ∙ at_place kind vs i v e is

pub place_below : (kind : VariableKind) (vs : List Variable) (i : ℕ) (v : Variable)
    → slice_get vs i ≡ Some v
    → v.kind ≡ kind
    → place_of kind vs i < length (numbers_of kind vs)
place_below kind vs i v e is =
    slice_get_within (numbers_of kind vs) (place_of kind vs i) v.number (at_place kind vs i v e is)

-- the variable of that place among those of the kind
pub record IsAt (kind : VariableKind) (vs : List Variable) (k : ℕ) : Type 0 where
  pub place : ℕ
  pub variable : Variable
  pub is_there : slice_get vs place ≡ Some variable
  pub is_kind : variable.kind ≡ kind
  pub is_place : place_of kind vs place ≡ k

first_or_later : (kind its : VariableKind) (n : ℕ) (rest : List ℕ) (k : ℕ) (P : ℕ → Type 0)
    → k < length (number_if kind its n ++ rest)
    → (its ≡ kind → P 0)
    → ((j : ℕ) → j < length rest → P (next_if kind its j))
    → P k
first_or_later cancel cancel n rest zero P l first later = first refl
first_or_later cancel cancel n rest (suc k) P l first later = later k (omega (arith, l))
first_or_later cancel group n rest k P l first later = later k l
first_or_later group cancel n rest k P l first later = later k l
first_or_later group group n rest zero P l first later = first refl
first_or_later group group n rest (suc k) P l first later = later k (omega (arith, l))

pub from_place : (kind : VariableKind) (vs : List Variable) (k : ℕ) → k < length (numbers_of kind vs) → IsAt kind vs k
from_place kind [] k l = absurd (omega (arith, l))
from_place kind (w ∷ vs) k l =
    first_or_later kind w.kind w.number (numbers_of kind vs) k (IsAt kind (w ∷ vs)) l
    (λ is. record { place = 0; variable = w; is_there = refl; is_kind = is; is_place = refl })
    (λ j l.
    let it = from_place kind vs j l in
    record {
      place = suc it.place;
      variable = it.variable;
      is_there = it.is_there;
      is_kind = it.is_kind;
      is_place = ap (next_if kind w.kind) it.is_place;
    })

pub place_first : (kind : VariableKind) (vs : List Variable) → place_of kind vs 0 ≡ 0
place_first kind [] = refl
place_first kind (v ∷ vs) = refl

pub next_place : (kind : VariableKind) (vs : List Variable) (i : ℕ) (v : Variable)
    → slice_get vs i ≡ Some v
    → place_of kind vs (suc i) ≡ next_if kind v.kind (place_of kind vs i)
next_place kind [] i v e = absurd (none-some v e)
next_place kind (w ∷ vs) zero v e =
    ap (next_if kind w.kind) (place_first kind vs) ∙ ap (λ (u : Variable). next_if kind u.kind 0) (same_Some w v e)
next_place kind (w ∷ vs) (suc i) v e =
    ap (next_if kind w.kind) (next_place kind vs i v e) ∙ in_turn kind w.kind v.kind (place_of kind vs i)
  where
    in_turn : (kind a b : VariableKind) (n : ℕ) → next_if kind a (next_if kind b n) ≡ next_if kind b (next_if kind a n)
    in_turn cancel cancel cancel n = refl
    in_turn cancel cancel group n = refl
    in_turn cancel group cancel n = refl
    in_turn cancel group group n = refl
    in_turn group cancel cancel n = refl
    in_turn group cancel group n = refl
    in_turn group group cancel n = refl
    in_turn group group group n = refl

positive : (kind its : VariableKind) (n : ℕ) → its ≡ kind → 0 < next_if kind its n
positive cancel cancel n e = omega arith
positive group group n e = omega arith
positive cancel group n e = cc
positive group cancel n e = cc

grows : (kind its : VariableKind) (n m : ℕ) → n < m → next_if kind its n < next_if kind its m
grows cancel cancel n m l = omega (arith, l)
grows cancel group n m l = l
grows group cancel n m l = l
grows group group n m l = omega (arith, l)

-- a variable that stands before has a lower place
pub lower_place : (kind : VariableKind) (vs : List Variable) (i j : ℕ) (v : Variable)
    → i < j
    → slice_get vs i ≡ Some v
    → v.kind ≡ kind
    → place_of kind vs i < place_of kind vs j
lower_place kind [] i j v l e is = absurd (none-some v e)
lower_place kind (w ∷ vs) i zero v l e is = absurd (omega (arith, l))
lower_place kind (w ∷ vs) zero (suc j) v l e is =
    positive kind w.kind (place_of kind vs j) (ap (λ (u : Variable). u.kind) (same_Some w v e) ∙ is)
lower_place kind (w ∷ vs) (suc i) (suc j) v l e is =
    grows kind w.kind (place_of kind vs i) (place_of kind vs j) (lower_place kind vs i j v (omega (arith, l)) e is)

-- Masks at different places

within_cancels : (k : ℕ) → has_place cancel k ≡ true → k < 48
within_cancels k e = ltb-true k 48 e

within_groups : (k : ℕ) → has_place group k ≡ true → k < 12
within_groups k e = ltb-true k 12 e

pub apart : (kind other : VariableKind) (k l bit : ℕ)
    → has_place kind k ≡ true
    → has_place other l ≡ true
    → (kind ≡ other → k < l)
    → bit < mask_bits kind
    → IsApart (first_bit other l) (mask_bits other) (first_bit kind k + bit)
apart cancel cancel k l bit a b lower small from =
    let less = lower refl in absurd (omega (arith, less, small, from))
apart group group k l bit a b lower small from =
    let less = lower refl in absurd (omega (arith, less, small, from))
apart cancel group k l bit a b lower small from =
    let fits = within_cancels k a in absurd (omega (arith, fits, small, from))
apart group cancel k l bit a b lower small from =
    let fits = within_cancels l b in omega (arith, fits)

-- One mask more

module _ (vs : List Variable) (masks : List ℕ) where
  abbrev pub place_at : ℕ → Variable → ℕ
  place_at i v = place_of v.kind vs i

  pub none_loaded : (words : List ℕ) → ((bit : ℕ) → has_bit words bit ≡ false) → AreLoaded vs masks 0 words
  none_loaded words none = record {
    each = λ i v l there. absurd (omega (arith, l));
    others = λ bit apart. none bit;
  }

  module _ (count : ℕ) (v : Variable) (words words_after : List ℕ) (there : slice_get vs count ≡ Some v)
      (so_far : AreLoaded vs masks count words)
      (taken : is_taken v.kind (place_of v.kind vs count) (slice_index_or masks count 0) ≡ true)
      (sets : Sets (first_bit v.kind (place_of v.kind vs count)) (mask_bits v.kind) (slice_index_or masks count 0) words
      words_after) where
    has_one : has_place v.kind (place_of v.kind vs count) ≡ true
    has_one =
        (and_parts (has_place v.kind (place_of v.kind vs count))
        (has_known_bits Second v.kind (slice_index_or masks count 0)) taken).0

    stays : (i : ℕ) (u : Variable) → i < count → slice_get vs i ≡ Some u
        → IsLoaded u.kind (place_of u.kind vs i) (slice_index_or masks i 0) words_after
    stays i u l is =
        let was = so_far.each i u l is in
        record {
          is_taken = was.is_taken;
          bits = λ bit small.
              sets.others (first_bit u.kind (place_of u.kind vs i) + bit)
              (apart u.kind v.kind (place_of u.kind vs i) (place_of v.kind vs count) bit
              (and_parts (has_place u.kind (place_of u.kind vs i)) (has_known_bits Second u.kind (slice_index_or masks i 0))
              was.is_taken).0 has_one
              (λ same. subst (λ k. place_of u.kind vs i < place_of k vs count) same
              (lower_place u.kind vs i count u l is refl)) small)
              ∙ was.bits bit small;
        }

    new : IsLoaded v.kind (place_of v.kind vs count) (slice_index_or masks count 0) words_after
    new = record { is_taken = taken; bits = sets.here }

    pub next_loaded : AreLoaded vs masks (count + 1) words_after
    next_loaded = record {
      each = λ i u l is. elim (cases_eq i count) [
        | inl same ↦
            subst (λ j. IsLoaded u.kind (place_of u.kind vs j) (slice_index_or masks j 0) words_after) (sym same)
            (subst (λ (w : Variable). IsLoaded w.kind (place_of w.kind vs count) (slice_index_or masks count 0) words_after)
            (same_Some v u (sym there ∙ ap (slice_get vs) (sym same) ∙ is)) new)
        | inr other ↦ stays i u (omega (arith, l, other)) is
      ];
      others = λ bit apart.
          sets.others bit (apart count v (omega arith) there)
          ∙ so_far.others bit (λ i u l is. apart i u (omega (arith, l)) is);
    }

  pub all_load : (words : List ℕ) → AreLoaded vs masks (length vs) words
      → ((i : ℕ) (v : Variable) → slice_get vs i ≡ Some v → i < length vs)
      → loads vs masks ≡ true
  all_load words loaded within =
      each_at (λ i (v : Variable). is_taken v.kind (place_of v.kind vs i) (mask_in masks i)) vs
      (λ i v there. (loaded.each i v (within i v there) there).is_taken)
