-- What several locals give, each where it comes first.
use Rattle.std.proofs.Common.{◌≡◌, ℕ, ◌+◌, ◌<◌, get_or, drop, Bool, true, false, true≢false, not, ◌&&◌, ◌||◌, if◌then◌else◌, List, [], ◌∷◌, ◌++◌, length, map, flat_map, Some, refl, sym, ap, ◌∙◌}
use Rattle.std.specs.Prelude.{◌==◌}
use Rattle.std.proofs.Math.Dec.{eqb-suc-zero}
use Rattle.std.specs.List.{list_any, filter}
use Rattle.std.proofs.lemmas.Bool.Decides.{Decides-eqb}
use Rattle.meaning.specs.Mentions.{BodyPlace}
use Rattle.meaning.specs.Uses.{Seen, found, Event}
use Rattle.meaning.specs.Kept.{Keep, kept_of, is_of_body, give_all, literal_gifts, mentioned_in, in_order_of_place, first_mentions}
use Rattle.kept.specs.KeptViews.{is_declared_in}
use Rattle.tracked.proofs.Numbers.{either_way, keeps_all, keeps_both}
use Rattle.kept_events.specs.KeptEventViews.{is_among, gives_first, gives_left}
use Rattle.literal_mentions.specs.LiteralViews.{mention_at_view}
use Rattle.literal_mentions.specs.declared.mentioned.MentionAt.{MentionAt as KeptMention}
use Rattle.tree.proofs.Depths.{drop_item}

among-append : (xs : List ℕ) (x n : ℕ) → is_among (xs ++ x ∷ []) n ≡ (is_among xs n || (x == n))
among-append [] x n = last (x == n)
  where
    last : (b : Bool) → (b || false) ≡ b
    last true = refl
    last false = refl
among-append (y ∷ xs) x n = by (y == n) _ _ _ (among-append xs x n)
  where
    by : (b u v w : Bool) → u ≡ (v || w) → (b || u) ≡ ((b || v) || w)
    by true u v w e = refl
    by false u v w e = e

not_either : (a b : Bool) → (not a && not b) ≡ not (a || b)
not_either true b = refl
not_either false b = refl

pub none_viewed : {X Y : Type 0} (f : X → Y) (xs : List X) → true ≡ (length xs == 0) → map f xs ≡ []
none_viewed f [] none = refl
none_viewed f (x ∷ xs) none = absurd (true≢false (none ∙ eqb-suc-zero (length xs)))

swapped : (a b : Bool) → (a && b) ≡ (b && a)
swapped true true = refl
swapped true false = refl
swapped false true = refl
swapped false false = refl

module _ (s : Seen) (bs : List BodyPlace) where
  abbrev gives : ℕ → List Event
  gives = gives_first s bs

  abbrev others : ℕ → List ℕ → List ℕ
  others x ns = filter (λ n. not (n == x)) ns

  -- one that gives nothing may be left out
  left_out : (x : ℕ) → gives x ≡ [] → (ns : List ℕ) → flat_map gives (others x ns) ≡ flat_map gives ns
  left_out x none [] = refl
  left_out x none (n ∷ ns) = by (n == x) ((Decides-eqb n x).0) (left_out x none ns)
    where
      by : (b : Bool) → (b ≡ true → n ≡ x) → flat_map gives (others x ns) ≡ flat_map gives ns
          → flat_map gives (if not b then n ∷ others x ns else others x ns) ≡ gives n ++ flat_map gives ns
      by true same rest = rest ∙ ap (λ l. l ++ flat_map gives ns) (sym (ap gives (same refl) ∙ none))
      by false same rest = ap (λ l. gives n ++ l) rest

  abbrev not_among : List ℕ → ℕ → Bool
  not_among given n = not (is_among given n)

  -- those that were given and x are those that were given and x behind them
  one_given : (given : List ℕ) (x : ℕ) (ns : List ℕ)
      → filter (not_among given) (others x ns) ≡ filter (not_among (given ++ x ∷ [])) ns
  one_given given x ns =
      keeps_both (not_among given) (λ n. not (n == x)) (not_among (given ++ x ∷ []))
      (λ n. sym (ap (λ b. not_among given n && not b) (either_way n x) ∙ not_either (is_among given n) (x == n)
      ∙ ap not (sym (among-append given x n)))) ns

  among_both : (given : List ℕ) (x n : ℕ) → is_among given x ≡ true → (not_among given n && not (n == x)) ≡ not_among given n
  among_both given x n there = by (n == x) ((Decides-eqb n x).0)
    where
      rest : (b : Bool) → (b && true) ≡ b
      rest true = refl
      rest false = refl

      nothing : (b : Bool) → b ≡ true → (not b && false) ≡ not b
      nothing true e = refl
      nothing false e = absurd (true≢false (sym e))

      by : (b : Bool) → (b ≡ true → n ≡ x) → (not_among given n && not b) ≡ not_among given n
      by true same = nothing (is_among given n) (ap (is_among given) (same refl) ∙ there)
      by false same = rest (not_among given n)

  abbrev first_if : List ℕ → ℕ → List ℕ → Bool → List Event
  first_if given x rest b = flat_map gives (if not b then x ∷ filter (not_among given) rest else filter (not_among given) rest)

  pub given_before : (given : List ℕ) (x : ℕ) (rest : List ℕ) → is_among given x ≡ true
      → gives_left s bs given rest ≡ gives_left s bs given (x ∷ others x rest)
  given_before given x rest there =
      sym (ap (flat_map gives) (keeps_both (not_among given) (λ n. not (n == x)) (not_among given)
      (λ n. sym (among_both given x n there)) rest))
      ∙ ap (first_if given x (others x rest)) (sym there)

  either_first : (given : List ℕ) (x : ℕ) (rest : List ℕ) → gives x ≡ [] → (b : Bool)
      → flat_map gives (filter (not_among given) rest) ≡ first_if given x (others x rest) b
  either_first given x rest none b =
      sym (left_out x none (filter (not_among given) rest))
      ∙ ap (flat_map gives) (exchanged rest)
      ∙ by b
    where
      exchanged : (ns : List ℕ) → others x (filter (not_among given) ns) ≡ filter (not_among given) (others x ns)
      exchanged ns =
          keeps_both (λ n. not (n == x)) (not_among given) (λ n. not (n == x) && not_among given n) (λ n. refl) ns
          ∙ (λ i. filter (λ n. swapped (not (n == x)) (not_among given n) i) ns)
          ∙ sym (keeps_both (not_among given) (λ n. not (n == x)) (λ n. not_among given n && not (n == x)) (λ n. refl) ns)

      by : (b : Bool) → flat_map gives (filter (not_among given) (others x rest)) ≡ first_if given x (others x rest) b
      by true = refl
      by false = ap (λ l. l ++ flat_map gives (filter (not_among given) (others x rest))) (sym none)

  pub gives_nothing : (given : List ℕ) (x : ℕ) (rest : List ℕ) → gives x ≡ []
      → gives_left s bs given rest ≡ gives_left s bs given (x ∷ others x rest)
  gives_nothing given x rest none = either_first given x rest none (is_among given x)

  pub given_first : (given : List ℕ) (x : ℕ) (rest : List ℕ) → is_among given x ≡ false
      → gives x ++ gives_left s bs (given ++ x ∷ []) rest ≡ gives_left s bs given (x ∷ others x rest)
  given_first given x rest not_there =
      ap (λ ns. gives x ++ flat_map gives ns) (sym (one_given given x rest))
      ∙ ap (first_if given x (others x rest)) (sym not_there)

  pub none_given_yet : (ns : List ℕ) → gives_left s bs [] ns ≡ flat_map gives ns
  none_given_yet ns = ap (flat_map gives) (keeps_all (not_among []) (λ n. refl) ns)

  -- A literal gives nothing where the body keeps nothing.

  none_declared : (ks : List Keep) (x : ℕ) → false ≡ list_any (λ k. is_declared_in s bs k.object) ks
      → filter (λ k. (k.object == x) && is_of_body bs (found s (Some x))) ks ≡ []
  none_declared [] x none = refl
  none_declared (k ∷ ks) x none =
      by (k.object == x) ((Decides-eqb k.object x).0) (is_declared_in s bs k.object) refl none (none_declared ks x)
    where
      rest : List Keep
      rest = filter (λ q. (q.object == x) && is_of_body bs (found s (Some x))) ks

      declared : Bool
      declared = list_any (λ q. is_declared_in s bs q.object) ks

      by : (b : Bool) → (b ≡ true → k.object ≡ x) → (c : Bool) → is_declared_in s bs k.object ≡ c
          → false ≡ (c || declared) → (false ≡ declared → rest ≡ [])
          → (if b && is_of_body bs (found s (Some x)) then k ∷ rest else rest) ≡ []
      by b same true is none others = absurd (true≢false (sym none))
      by false same false is none others = others none
      by true same false is none others =
          ap (λ t. if t then k ∷ rest else rest) (ap (λ n. is_declared_in s bs n) (sym (same refl)) ∙ is) ∙ others none

  flat_none : (ns : List ℕ) → ((n : ℕ) → gives n ≡ []) → flat_map gives ns ≡ []
  flat_none [] none = refl
  flat_none (n ∷ ns) none = λ i. none n i ++ flat_none ns none i

  pub literal_gives_nothing : (literal : ℕ) → false ≡ list_any (λ k. is_declared_in s bs k.object) (kept_of s)
      → [] ≡ literal_gifts s bs literal
  literal_gives_nothing literal none =
      sym (flat_none (first_mentions (in_order_of_place (mentioned_in s literal)))
      (λ x. ap give_all (none_declared (kept_of s) x none)))

-- a loop over mentions
pub next_given : (s : Seen) (bs : List BodyPlace) (ms : List KeptMention) (i : ℕ) (m : KeptMention) → i < length ms
    → m ≡ get_or ms i m → (now next whole : List Event) (given given_after : List ℕ)
    → ((rest : List ℕ) → next ++ gives_left s bs given_after rest
    ≡ now ++ gives_left s bs given (m.number ∷ filter (λ n. not (n == m.number)) rest))
    → now ++ gives_left s bs given (first_mentions (map mention_at_view (drop i ms))) ≡ whole
    → next ++ gives_left s bs given_after (first_mentions (map mention_at_view (drop (i + 1) ms))) ≡ whole
next_given s bs ms i m within is now next whole given given_after adds so_far =
    adds (first_mentions (map mention_at_view (drop (i + 1) ms)))
    ∙ ap (λ (l : List KeptMention). now ++ gives_left s bs given (first_mentions (map mention_at_view l)))
    (sym (drop_item ms i m within is))
    ∙ so_far
