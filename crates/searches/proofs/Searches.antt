-- What the loop of a search keeps: of the steps that were followed everything that follows is there.
use Rattle.std.proofs.Common.{◌≡◌, ℕ, zero, suc, ◌<◌, ◌≤◌, ◌⊎◌, inl, inr, true, false, List, [], ◌∷◌, length, get_or, Option, Some, None, Contains, refl, sym, ap, ◌∙◌, subst, true≢false, arith}
use Rattle.std.proofs.lemmas.Option.{none-some, same_Some, slice_get_within}
use Rattle.std.specs.Prelude.{slice_get}
use Rattle.flow.specs.Walks.{Graph}
use Rattle.searches.specs.Searched.{Pair, pair_of, IsPair, Follows, IsNotBehind, IsFoundBy, AreSteps, IsSearch, IsWholeSearch, ComeEarlier}
use Rattle.searches.specs.Searching.{place_of, HasRoom, HasStep, MayFollow, Stands, Adds, IsFresh, FollowsStep}
use Rattle.searches.specs.declared.search.Progress.{Progress}
use Rattle.searches.specs.declared.search.Step.{Step}

cases_lt_suc : (i n : ℕ) → i < suc n → (i < n) ⊎ (i ≡ n)
cases_lt_suc zero zero less = inr refl
cases_lt_suc zero (suc n) less = inl (omega arith)
cases_lt_suc (suc i) zero less = absurd (omega (arith, less))
cases_lt_suc (suc i) (suc n) less =
    elim (cases_lt_suc i n (omega (arith, less))) [ inl low ↦ inl (omega (arith, low)) | inr same ↦ inr (ap suc same) ]

get_there : {X : Type 0} (xs : List X) (i : ℕ) → i < length xs → (x : X) × (slice_get xs i ≡ Some x)
get_there [] i low = absurd (omega (arith, low))
get_there (x ∷ xs) zero low = (x, refl)
get_there (x ∷ xs) (suc i) low = get_there xs i (omega (arith, low))

not_behind_more : (m : Option ℕ) (k : ℕ) → IsNotBehind m (Some k) → IsNotBehind m (Some (suc k))
not_behind_more None k h = tt
not_behind_more (Some i) k h = omega (arith, h)

at_the_start : (m : Option ℕ) (k : ℕ) → IsNotBehind m None → IsNotBehind m (Some k)
at_the_start None k h = tt
at_the_start (Some i) k h = absurd h

pub earlier : {E : Type 0} (g : Graph E) (step : E → ℕ → ℕ) (entry : ℕ) (steps : List Step)
    → AreSteps g step entry steps
    → ComeEarlier steps
earlier g step entry steps are i j s at is =
    let b = are.behind i j s at is in
    (b.is_earlier, b.earlier, b.is_there)

module _ {E : Type 0} (g : Graph E) (step : E → ℕ → ℕ) (entry : ℕ) where
  pub record IsSoFar (s : Progress) : Type 0 where
    pub is_search : IsSearch g step entry s.followed s.steps.items
    pub stands : Stands g step entry (Some s.followed) s
    pub has_room : HasRoom s
    pub is_low : s.followed ≤ length s.steps.items

  -- the whole, where each was followed
  pub whole : (s : Progress) → IsSoFar s → length s.steps.items ≤ s.followed → IsWholeSearch g step entry s.steps.items
  whole s h past =
      let low = h.is_low in
      let all : s.followed ≡ length s.steps.items = omega (arith, low, past) in
      subst (λ k. IsSearch g step entry k s.steps.items) all h.is_search

  -- At the start

  nothing_stands : (nodes : ℕ) (s : Progress) → IsFresh nodes s → nodes ≡ length g.nodes → Stands g step entry None s
  nothing_stands nodes s fresh count = record {
    are_steps = record {
      are_pairs = λ i t e. absurd (no_step i t e);
      at_start = λ i t e none. absurd (no_step i t e);
      behind = λ i j t e is. absurd (no_step i t e);
      in_order = λ i j t u e f le. absurd (no_step i t e);
    };
    is_bounded = λ i t e. absurd (no_step i t e);
    same_nodes = fresh.same_nodes ∙ count;
    sees = λ p is e. absurd (true≢false (sym e ∙ fresh.none_seen (place_of p)));
  }
    where
      no_step : (i : ℕ) (t : Step) → slice_get s.steps.items i ≡ Some t → ⊥
      no_step i t e = none-some t (subst (λ ss. slice_get ss i ≡ Some t) fresh.no_steps e)

  pub begun : (nodes : ℕ) (a s : Progress)
      → nodes ≡ length g.nodes
      → IsFresh nodes a
      → Adds E g.starts entry None a s
      → IsSoFar s
  begun nodes a s count fresh adds = record {
    is_search = record {
      are_steps = after.are_steps;
      has_starts = λ p is start.
          subst (λ q. IsFoundBy s.steps.items q None) (is_it p start.1)
          (adds.are_found g step entry p.node before may start.0
          (subst (IsPair g) (sym (is_it p start.1)) is));
      has_next = λ i t q less. absurd (omega (arith, less, none));
    };
    stands = record {
      are_steps = after.are_steps;
      is_bounded = λ i t e. at_the_start t.before s.followed (after.is_bounded i t e);
      same_nodes = after.same_nodes;
      sees = after.sees;
    };
    has_room = adds.grows.has_room;
    is_low = omega (arith, none);
  }
    where
      before : Stands g step entry None a
      before = nothing_stands nodes a fresh count

      may : (n : ℕ) → Contains g.starts n → MayFollow g step entry a.steps.items None record { node = n; class = entry }
      may n there = (there, refl)

      after : Stands g step entry None s
      after = adds.stands g step entry before may

      none : s.followed ≡ 0
      none = adds.grows.same_followed ∙ fresh.none_followed

      is_it : (p : Pair) → p.class ≡ entry → record { node = p.node; class = entry } ≡ p
      is_it p e = λ j. record { node = p.node; class = sym e j }

  -- A step is followed

  pub goes_on : (now : Step) (a s : Progress)
      → IsSoFar a
      → slice_get a.steps.items a.followed ≡ Some now
      → FollowsStep step g now a s
      → IsSoFar s
  goes_on now a s h at f = record {
    is_search = record {
      are_steps = after.are_steps;
      has_starts = λ p is start. later p None (h.is_search.has_starts p is start);
      has_next = λ i t q less there is follows.
          elim (lower i less) [
            | inl low ↦
                let old = in_old i t low there in
                later q (Some i) (h.is_search.has_next i t q low old is follows)
            | inr same ↦
                subst (λ k. IsFoundBy s.steps.items q (Some k)) (sym same)
                (found_now t q (same_step i t same there) is follows)
          ];
    };
    stands = record {
      are_steps = after.are_steps;
      is_bounded = λ i t e.
          subst (λ k. IsNotBehind t.before (Some k)) (sym count)
          (not_behind_more t.before a.followed (after.is_bounded i t e));
      same_nodes = after.same_nodes;
      sees = after.sees;
    };
    has_room = f.adds.grows.has_room;
    is_low =
        let within = slice_get_within s.steps.items a.followed now (kept a.followed now at) in
        let is = count in
        omega (arith, within, is);
  }
    where
      count : s.followed ≡ suc a.followed
      count = f.adds.grows.same_followed ∙ f.is_counted

      in_between : (i : ℕ) (t : Step)
          → slice_get a.steps.items i ≡ Some t
          → slice_get f.between.steps.items i ≡ Some t
      in_between i t e = subst (λ v. slice_get v.items i ≡ Some t) (sym f.same_steps) e

      kept : (i : ℕ) (t : Step) → slice_get a.steps.items i ≡ Some t → slice_get s.steps.items i ≡ Some t
      kept i t e = f.adds.grows.same_steps i t (in_between i t e)

      later : (p : Pair) (m : Option ℕ) → IsFoundBy a.steps.items p m → IsFoundBy s.steps.items p m
      later p m k = record {
        number = k.number;
        there = k.there;
        is_there = kept k.number k.there k.is_there;
        is_pair = k.is_pair;
        is_not_behind = k.is_not_behind;
      }

      between : Stands g step entry (Some a.followed) f.between
      between = record {
        are_steps = subst (λ v. AreSteps g step entry v.items) (sym f.same_steps) h.stands.are_steps;
        is_bounded = subst
            (λ v. (i : ℕ) (t : Step) → slice_get v.items i ≡ Some t → IsNotBehind t.before (Some a.followed))
            (sym f.same_steps) h.stands.is_bounded;
        same_nodes = f.same_nodes ∙ h.stands.same_nodes;
        sees = λ p is e.
            subst (λ v. HasStep v.items p) (sym f.same_steps)
            (h.stands.sees p is (subst (λ v. get_or v.items (place_of p) false ≡ true) f.same_seen e));
      }

      may : (n : ℕ) → Contains f.next n
          → MayFollow g step entry f.between.steps.items (Some a.followed) record { node = n; class = f.class }
      may n there = (now, in_between a.followed now at, f.leads n there)

      after : Stands g step entry (Some a.followed) s
      after = f.adds.stands g step entry between may

      lower : (i : ℕ) → i < s.followed → (i < a.followed) ⊎ (i ≡ a.followed)
      lower i less = let is = count in cases_lt_suc i a.followed (omega (arith, less, is))

      in_old : (i : ℕ) (t : Step) → i < a.followed → slice_get s.steps.items i ≡ Some t → slice_get a.steps.items i ≡ Some t
      in_old i t low there =
          let past = h.is_low in
          let u = get_there a.steps.items i (omega (arith, low, past)) in
          let same = same_Some u.0 t (sym (kept i u.0 u.1) ∙ there) in
          u.1 ∙ ap Some same

      same_step : (i : ℕ) (t : Step) → i ≡ a.followed → slice_get s.steps.items i ≡ Some t → now ≡ t
      same_step i t same there =
          same_Some now t (sym (kept a.followed now at) ∙ subst (λ k. slice_get s.steps.items k ≡ Some t) same there)

      found_now : (t : Step) (q : Pair)
          → now ≡ t
          → IsPair g q
          → Follows g step (pair_of t) q
          → IsFoundBy s.steps.items q (Some a.followed)
      found_now t q same is follows_t =
          let follows = subst (λ u. Follows g step (pair_of u) q) (sym same) follows_t in
          let told = f.is_class follows.occurrence follows.next follows.is_node follows.are_next in
          let is_q : record { node = q.node; class = f.class } ≡ q =
          (λ j. record { node = q.node; class = (told.0 ∙ sym follows.is_class) j }) in
          subst (λ p. IsFoundBy s.steps.items p (Some a.followed)) is_q
          (f.adds.are_found g step entry q.node between may
          (subst (λ ms. Contains ms q.node) (sym told.1) follows.leads)
          (subst (IsPair g) (sym is_q) is))
