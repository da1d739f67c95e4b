-- Pairs that are added one after the other.
use Rattle.std.proofs.Common.{◌≡◌, ℕ, ◌+◌, ◌*◌, ◌<◌, inl, inr, true, false, List, [], ◌∷◌, ◌++◌, length, get_or, Option, Some, None, Contains, refl, sym, ap, ◌∙◌, subst, arith}
use Rattle.std.proofs.Math.ListN.{set}
use Rattle.std.proofs.lemmas.List.{length-append, length-set}
use Rattle.std.specs.Prelude.{slice_get}
use Rattle.flow.specs.Walks.{Graph}
use Rattle.meaning.proofs.Membership.{contains_here, contains_there, contains_cases, contains_nil}
use Rattle.searches.proofs.AddedSteps.{are_after, bounded_after, found_after}
use Rattle.searches.proofs.GrownLists.{get_before, get_last}
use Rattle.searches.proofs.SeenPairs.{set_cases, one_less, one_pair}
use Rattle.searches.specs.Searched.{Pair, pair_of, IsPair, IsNotBehind, IsFoundBy, AreSteps}
use Rattle.searches.specs.Searching.{place_of, count_unseen, HasRoom, MayFollow, Stands, Grows, Adds}
use Rattle.searches.specs.declared.carry.TheConstants.{CLASSES}
use Rattle.searches.specs.declared.search.Progress.{Progress}
use Rattle.searches.specs.declared.search.Step.{Step}

grows_none : (s : Progress) → HasRoom s → Grows s s
grows_none s room = record {
  same_followed = refl;
  same_nodes = refl;
  has_room = room;
  same_steps = λ i t e. e;
  same_room = refl;
}

grows_then : (a b c : Progress) → Grows a b → Grows b c → Grows a c
grows_then a b c first second = record {
  same_followed = second.same_followed ∙ first.same_followed;
  same_nodes = second.same_nodes ∙ first.same_nodes;
  has_room = second.has_room;
  same_steps = λ i t e. second.same_steps i t (first.same_steps i t e);
  same_room = second.same_room ∙ first.same_room;
}

found_later : (a b : Progress) → Grows a b → (p : Pair) (last : Option ℕ)
    → IsFoundBy a.steps.items p last
    → IsFoundBy b.steps.items p last
found_later a b grows p last f = record {
  number = f.number;
  there = f.there;
  is_there = grows.same_steps f.number f.there f.is_there;
  is_pair = f.is_pair;
  is_not_behind = f.is_not_behind;
}

abbrev pair_at : ℕ → ℕ → Pair
pair_at class n = record { node = n; class = class }

pub place_within : (class n : ℕ) (s : Progress)
    → HasRoom s
    → class < 16
    → n < s.nodes
    → place_of (pair_at class n) < length s.seen.items
place_within class n s room low there = omega (arith, room, low, there)

module _ {E : Type 0} (class : ℕ) (last : Option ℕ) where
  may_later : (g : Graph E) (step : E → ℕ → ℕ) (entry : ℕ) (a b : Progress) (m : Option ℕ) (p : Pair)
      → Grows a b
      → MayFollow g step entry a.steps.items m p
      → MayFollow g step entry b.steps.items m p
  may_later g step entry a b None p grows may = may
  may_later g step entry a b (Some j) p grows may = (may.0, grows.same_steps j may.0 may.1, may.2)

  abbrev May : (g : Graph E) (step : E → ℕ → ℕ) (entry : ℕ) → List ℕ → Progress → Type 0
  May g step entry ms s = (m : ℕ) → Contains ms m → MayFollow g step entry s.steps.items last (pair_at class m)

  pub adds_none : (s : Progress) → HasRoom s → Adds E [] class last s s
  adds_none s room = record {
    grows = grows_none s room;
    stands = λ g step entry h may. h;
    are_found = λ g step entry n h may there is. absurd (contains_nil n there);
  }

  pub adds_then : (n : ℕ) (ns : List ℕ) (a b c : Progress)
      → Adds E (n ∷ []) class last a b
      → Adds E ns class last b c
      → Adds E (n ∷ ns) class last a c
  adds_then n ns a b c first second = record {
    grows = grows_then a b c first.grows second.grows;
    stands = λ g step entry h may.
        second.stands g step entry (between g step entry h may) (rest_may g step entry may);
    are_found = λ g step entry m h may there is.
        elim (contains_cases n m ns there) [
          | inl same ↦
              found_later b c second.grows (pair_at class m) last
              (first.are_found g step entry m h (one_may g step entry may)
              (subst (λ k. Contains (n ∷ []) k) same (contains_here n [])) is)
          | inr rest ↦
              second.are_found g step entry m (between g step entry h may) (rest_may g step entry may) rest is
        ];
  }
    where
      one_may : (g : Graph E) (step : E → ℕ → ℕ) (entry : ℕ) → May g step entry (n ∷ ns) a → May g step entry (n ∷ []) a
      one_may g step entry may m there =
          elim (contains_cases n m [] there) [
            | inl same ↦ may m (subst (λ k. Contains (n ∷ ns) k) same (contains_here n ns))
            | inr none ↦ absurd (contains_nil m none)
          ]

      rest_may : (g : Graph E) (step : E → ℕ → ℕ) (entry : ℕ) → May g step entry (n ∷ ns) a → May g step entry ns b
      rest_may g step entry may m there =
          may_later g step entry a b last (pair_at class m) first.grows (may m (contains_there n m ns there))

      between : (g : Graph E) (step : E → ℕ → ℕ) (entry : ℕ)
          → Stands g step entry last a
          → May g step entry (n ∷ ns) a
          → Stands g step entry last b
      between g step entry h may = first.stands g step entry h (one_may g step entry may)

  -- a pair that is none of the graph, or was seen, adds nothing
  pub adds_no_pair : (n : ℕ) (s : Progress)
      → HasRoom s
      → ((g : Graph E) → s.nodes ≡ length g.nodes → IsPair g (pair_at class n) → ⊥)
      → Adds E (n ∷ []) class last s s
  adds_no_pair n s room none = record {
    grows = grows_none s room;
    stands = λ g step entry h may. h;
    are_found = λ g step entry m h may there is.
        elim (contains_cases n m [] there) [
          | inl same ↦ absurd (none g h.same_nodes (subst (λ k. IsPair g (pair_at class k)) (sym same) is))
          | inr bad ↦ absurd (contains_nil m bad)
        ];
  }

  pub adds_seen : (n : ℕ) (s : Progress)
      → HasRoom s
      → get_or s.seen.items (place_of (pair_at class n)) false ≡ true
      → Adds E (n ∷ []) class last s s
  adds_seen n s room was = record {
    grows = grows_none s room;
    stands = λ g step entry h may. h;
    are_found = λ g step entry m h may there is.
        elim (contains_cases n m [] there) [
          | inl same ↦
              let f = h.sees (pair_at class m) is (subst (λ k. get_or s.seen.items (place_of (pair_at class k)) false ≡ true) same was) in
              record {
                number = f.number;
                there = f.there;
                is_there = f.is_there;
                is_pair = f.is_pair;
                is_not_behind = h.is_bounded f.number f.there f.is_there;
              }
          | inr bad ↦ absurd (contains_nil m bad)
        ];
  }

  -- a pair that was not seen is added
  pub adds_pushed : (n : ℕ) (s t : Progress) (new : Step)
      → HasRoom s
      → pair_of new ≡ pair_at class n
      → new.before ≡ last
      → t.steps.items ≡ s.steps.items ++ new ∷ []
      → t.seen.items ≡ set s.seen.items (place_of (pair_at class n)) true
      → (t.followed ≡ s.followed) × (t.nodes ≡ s.nodes)
      → place_of (pair_at class n) < length s.seen.items
      → get_or s.seen.items (place_of (pair_at class n)) false ≡ false
      → (class < 16) × (n < s.nodes)
      → Adds E (n ∷ []) class last s t
  adds_pushed n s t new room is_new is_last pushed seen same low unseen is = record {
    grows = grows;
    stands = λ g step entry h may. stands g step entry h may;
    are_found = λ g step entry m h may there is_m.
        elim (contains_cases n m [] there) [
          | inl one ↦
              subst (λ k. IsFoundBy t.steps.items (pair_at class k) last) one
              (subst (λ ss. IsFoundBy ss (pair_at class n) last) (sym pushed)
              (found_after g step entry s.steps.items (pair_at class n) last new is_new is_last h.are_steps h.is_bounded
              (may n (contains_here n [])) (is_pair g h.same_nodes)))
          | inr bad ↦ absurd (contains_nil m bad)
        ];
  }
    where
      longer : length t.steps.items ≡ length s.steps.items + 1
      longer = ap length pushed ∙ length-append s.steps.items (new ∷ [])

      grows : Grows s t
      grows =
          let less = one_less s.seen.items (place_of (pair_at class n)) low unseen in
          let more = longer in
          record {
            same_followed = same.0;
            same_nodes = same.1;
            has_room = ap length seen ∙ length-set s.seen.items (place_of (pair_at class n)) true ∙ room
                ∙ ap (λ k. k * CLASSES) (sym same.1);
            same_steps = λ i u e. subst (λ ss. slice_get ss i ≡ Some u) (sym pushed) (get_before s.steps.items new i u e);
            same_room = ap (λ bs. count_unseen bs + length t.steps.items) seen ∙ omega (arith, less, more);
          }

      is_pair : (g : Graph E) → s.nodes ≡ length g.nodes → IsPair g (pair_at class n)
      is_pair g nodes = record { is_node = subst (λ k. n < k) nodes is.1; is_class = is.0 }

      stands : (g : Graph E) (step : E → ℕ → ℕ) (entry : ℕ)
          → Stands g step entry last s
          → ((m : ℕ) → Contains (n ∷ []) m → MayFollow g step entry s.steps.items last (pair_at class m))
          → Stands g step entry last t
      stands g step entry h may = record {
        are_steps = subst (AreSteps g step entry) (sym pushed)
            (are_after g step entry s.steps.items (pair_at class n) last new is_new is_last h.are_steps h.is_bounded
            (may n (contains_here n [])) (is_pair g h.same_nodes));
        is_bounded = subst (λ ss. (i : ℕ) (u : Step) → slice_get ss i ≡ Some u → IsNotBehind u.before last) (sym pushed)
            (bounded_after g step entry s.steps.items (pair_at class n) last new is_new is_last h.are_steps h.is_bounded
            (may n (contains_here n [])) (is_pair g h.same_nodes));
        same_nodes = same.1 ∙ h.same_nodes;
        sees = λ q is_q e.
            elim (set_cases s.seen.items (place_of (pair_at class n)) (place_of q)
            (subst (λ bs. get_or bs (place_of q) false ≡ true) seen e)) [
              | inl there ↦ record {
                number = length s.steps.items;
                there = new;
                is_there = subst (λ ss. slice_get ss (length s.steps.items) ≡ Some new) (sym pushed)
                    (get_last s.steps.items new);
                is_pair = is_new ∙ one_pair (pair_at class n) q is.0 is_q.is_class (sym there);
              }
              | inr was ↦
                  let f = h.sees q is_q was in
                  record {
                    number = f.number;
                    there = f.there;
                    is_there = grows.same_steps f.number f.there f.is_there;
                    is_pair = f.is_pair;
                  }
            ];
      }
