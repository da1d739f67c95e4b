-- Members with one more put among them, and without it.
use Rattle.std.proofs.Common.{◌≡◌, List, ℕ, Some, None, is_eq, refl, sym, ap, subst, ◌∙◌}
use Rattle.std.proofs.lemmas.Cmp.{nat_list_cmp_total, tied_itself}
use Rattle.std.proofs.lemmas.Map.Text.{is_eq-slice_cmp}
use Rattle.std.proofs.lemmas.Slice.Eq.{bytes_eq-Decides}
use Rattle.std.specs.Cmp.Lexicographic.{slice_cmp}
use Rattle.std.specs.declared.cmp.Ordering.{Ordering}
use Rattle.std.specs.declared.cmp.Ordering.TheVariants.{Less, Equal, Greater}
use Rattle.std.specs.Ordering.{nat_cmp, match_ordering, ordering_reverse}
use Rattle.serde_json.specs.Data.{Data, Members, no_members, member, put}
use Rattle.serde_json.specs.Find.{get_member}
use Rattle.serde_json.proofs.Views.{get_member-put}
use Rattle.json_reading.proofs.ObjectKeys.{none_some}

pub some_same : {A : Type 0} (a b : A) → Some a ≡ Some b → a ≡ b
some_same a b e = cc

same_of_tied : (k q : List ℕ) → slice_cmp nat_cmp k q ≡ Equal → k ≡ q
same_of_tied k q tied = (bytes_eq-Decides k q).0 (sym (is_eq-slice_cmp k q) ∙ ap is_eq tied)

greater : (k q : List ℕ) → slice_cmp nat_cmp q k ≡ Less → slice_cmp nat_cmp k q ≡ Greater
greater k q less = nat_list_cmp_total.antisymm k q ∙ ap ordering_reverse less

less_back : (k q : List ℕ) → slice_cmp nat_cmp q k ≡ Greater → slice_cmp nat_cmp k q ≡ Less
less_back k q more = nat_list_cmp_total.antisymm k q ∙ ap ordering_reverse more

-- Putting twice

module _ (k : List ℕ) (v w : Data) where
  again : (q : List ℕ) (x : Data) (ms : Members) (o : Ordering) → slice_cmp nat_cmp k q ≡ o
      → put k v (put k w ms) ≡ put k v ms
      → put k v (put k w (member q x ms)) ≡ put k v (member q x ms)
  again q x ms Less e rest = rw (e, tied_itself nat_list_cmp_total k) refl
  again q x ms Equal e rest = rw (e, e) refl
  again q x ms Greater e rest = rw (e, e) (ap (member q x) rest)

  -- the later one counts
  pub put_again : (ms : Members) → put k v (put k w ms) ≡ put k v ms
  put_again no_members = rw (tied_itself nat_list_cmp_total k) refl
  put_again (member q x ms) = again q x ms (slice_cmp nat_cmp k q) refl (put_again ms)

module _ (a b : List ℕ) (v w : Data) (less : slice_cmp nat_cmp a b ≡ Less) where
  step : (q : List ℕ) (x : Data) (ms : Members) (o p : Ordering) → slice_cmp nat_cmp a q ≡ o → slice_cmp nat_cmp b q ≡ p
      → put a v (put b w ms) ≡ put b w (put a v ms)
      → put a v (put b w (member q x ms)) ≡ put b w (put a v (member q x ms))
  step q x ms o Less e f rest =
      rw (f, less, nat_list_cmp_total.trans a b q less f, greater b a less, f) refl
  step q x ms o Equal e f rest =
      rw (f, subst (λ z. slice_cmp nat_cmp a z ≡ Less) (same_of_tied b q f) less, greater b a less, f) refl
  step q x ms Less Greater e f rest = rw (f, e, greater b a less, f) refl
  step q x ms Equal Greater e f rest = rw (f, e, f) refl
  step q x ms Greater Greater e f rest = rw (f, e, f) (ap (member q x) rest)

  apart : (ms : Members) → put a v (put b w ms) ≡ put b w (put a v ms)
  apart no_members = rw (less, greater b a less) refl
  apart (member q x ms) = step q x ms (slice_cmp nat_cmp a q) (slice_cmp nat_cmp b q) refl refl (apart ms)

either : (a b : List ℕ) (v w : Data) (ms : Members) (o : Ordering) → slice_cmp nat_cmp a b ≡ o → (a ≡ b → ⊥)
    → put a v (put b w ms) ≡ put b w (put a v ms)
either a b v w ms Less e other = apart a b v w e ms
either a b v w ms Equal e other = absurd (other (same_of_tied a b e))
either a b v w ms Greater e other = sym (apart b a w v (less_back b a e) ms)

-- members under different keys are put in either order
pub put_either : (a b : List ℕ) (v w : Data) (ms : Members) → (a ≡ b → ⊥)
    → put a v (put b w ms) ≡ put b w (put a v ms)
put_either a b v w ms other = either a b v w ms (slice_cmp nat_cmp a b) refl other

-- Without the one that was put

abbrev without : List ℕ → Members → Members
without k no_members = no_members
without k (member q x ms) =
    match_ordering (slice_cmp nat_cmp k q) (member q x (without k ms)) ms (member q x (without k ms))

-- a key that is not there is not the first one, and not behind it
rest_none : (k q : List ℕ) (x : Data) (ms : Members) (o : Ordering) → slice_cmp nat_cmp k q ≡ o
    → get_member k (member q x ms) ≡ None
    → (o ≡ Equal → ⊥) × (get_member k ms ≡ None)
rest_none k q x ms Less e none =
    ((λ same. cc), sym (ap (λ p. match_ordering p (get_member k ms) (Some x) (get_member k ms)) e) ∙ none)
rest_none k q x ms Equal e none =
    absurd (none_some (get_member k (member q x ms)) x none
    (ap (λ p. match_ordering p (get_member k ms) (Some x) (get_member k ms)) e))
rest_none k q x ms Greater e none =
    ((λ same. cc), sym (ap (λ p. match_ordering p (get_member k ms) (Some x) (get_member k ms)) e) ∙ none)

module _ (k : List ℕ) (v : Data) where
  without_step : (q : List ℕ) (x : Data) (ms : Members) (o : Ordering) → slice_cmp nat_cmp k q ≡ o
      → (o ≡ Equal → ⊥)
      → without k (put k v ms) ≡ ms
      → without k (put k v (member q x ms)) ≡ member q x ms
  without_step q x ms Less e other rest = rw (e, tied_itself nat_list_cmp_total k) refl
  without_step q x ms Equal e other rest = absurd (other refl)
  without_step q x ms Greater e other rest = rw (e, e) (ap (member q x) rest)

  without_put : (ms : Members) → get_member k ms ≡ None → without k (put k v ms) ≡ ms
  without_put no_members none = rw (tied_itself nat_list_cmp_total k) refl
  without_put (member q x ms) none =
      let rest = rest_none k q x ms (slice_cmp nat_cmp k q) refl none in
      without_step q x ms (slice_cmp nat_cmp k q) refl rest.0 (without_put ms rest.1)

-- the others are those that there were
pub one_rest : (k : List ℕ) (v w : Data) (ms ns : Members) → get_member k ms ≡ None → get_member k ns ≡ None
    → put k v ms ≡ put k w ns
    → ms ≡ ns
one_rest k v w ms ns none none_too same =
    sym (without_put k v ms none) ∙ ap (without k) same ∙ without_put k w ns none_too

pub one_put : (k : List ℕ) (v w : Data) (ms ns : Members) → put k v ms ≡ put k w ns → v ≡ w
one_put k v w ms ns same =
    some_same v w (sym (get_member-put k v ms) ∙ ap (get_member k) same ∙ get_member-put k w ns)
