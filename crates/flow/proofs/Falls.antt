-- Codes at whose end what falls through arrives, at one of several offsets: what is so of the code, and where it leads.
use Rattle.std.proofs.Common.{◌≡◌, ℕ, Bool, true, false, ◌||◌, List, [], ◌∷◌, ◌++◌, length, refl, sym, ap, ◌∙◌, arith}
use Rattle.std.specs.Prelude.{◌==◌, if◌then◌else◌}
use Rattle.std.specs.List.{list_any}
use Rattle.std.proofs.lemmas.Bool.Decides.{Decides-eqb}
use Rattle.meaning.specs.Code.{Way, returning, breaking, continuing, falling, Code}
use Rattle.meaning.specs.StatementCode.{up_to_falls}
use Rattle.flow.specs.declared.exits.Exits.{Exits}
use Rattle.flow.specs.declared.graph.Node.{Node}
use Rattle.flow.specs.GraphOfCode.{arriving, size, nodes, firsts, links}
use Rattle.flow.specs.GraphViews.{falls_by, arriving_falls, rest_of, EntersFalls, Firsts, occurrences_of, links_of, Adds}
use Rattle.flow.specs.TurnSizes.{begins, turn_sizes, Counts}
use Rattle.flow.proofs.FirstNodes.{Vec, leading}

module _ {E : Type 0} where
  pub begins_falls : (ats : List ℕ) (c : Code E) → begins (up_to_falls ats c) ≡ begins c
  begins_falls [] c = refl
  begins_falls (at ∷ ats) c = begins_falls ats c

  pub size_falls : (ats : List ℕ) (c : Code E) → size (up_to_falls ats c) ≡ size c
  size_falls [] c = refl
  size_falls (at ∷ ats) c = size_falls ats c

  pub turn_sizes_falls : (ats : List ℕ) (c : Code E) → turn_sizes (up_to_falls ats c) ≡ turn_sizes c
  turn_sizes_falls [] c = refl
  turn_sizes_falls (at ∷ ats) c = turn_sizes_falls ats c

  nodes_falls : (ats : List ℕ) (c : Code E) → nodes (up_to_falls ats c) ≡ nodes c
  nodes_falls [] c = refl
  nodes_falls (at ∷ ats) c = nodes_falls ats c

  firsts_falls : (ats : List ℕ) (f : ℕ) (c : Code E) (next : List ℕ) (exits : Way → List ℕ)
      → firsts f (up_to_falls ats c) next exits ≡ firsts f c next (arriving_falls ats next exits)
  firsts_falls [] f c next exits = refl
  firsts_falls (at ∷ ats) f c next exits = firsts_falls ats f c next (arriving (falling at) next exits)

  links_falls : (ats : List ℕ) (f : ℕ) (c : Code E) (next : List ℕ) (exits : Way → List ℕ)
      → links f (up_to_falls ats c) next exits ≡ links f c next (arriving_falls ats next exits)
  links_falls [] f c next exits = refl
  links_falls (at ∷ ats) f c next exits = links_falls ats f c next (arriving (falling at) next exits)

  pub counts_falls : (ats : List ℕ) (a : Code E) (s0 s1 : List ℕ) (n : ℕ) → Counts a s0 s1 n → Counts (up_to_falls ats a) s0 s1 n
  counts_falls ats a s0 s1 n h = record {
    is_size = omega (arith, h.is_size, size_falls ats a);
    are_turns = h.are_turns ∙ ap (λ z. s0 ++ z) (sym (turn_sizes_falls ats a));
  }

  pub first_inside_falls : (f g : ℕ) (ats : List ℕ) (a : Code E) (next : List ℕ) (e0 e1 e2 e3 : Exits) (first : Vec ℕ)
      → EntersFalls ats next e0 e1
      → Firsts f g a next e1 e2 first
      → e3.entries.items ≡ rest_of e2.entries.items
      → Firsts f g (up_to_falls ats a) next e0 e3 first
  first_inside_falls f g ats a next e0 e1 e2 e3 first enters of_a left = record {
    are_first = λ fits. of_a.are_first (omega (arith, fits, size_falls ats a))
        ∙ ap (λ z. firsts f a next z) enters.view ∙ sym (firsts_falls ats f a next (leading e0));
    is_past = λ fits. let past = of_a.is_past (omega (arith, fits, size_falls ats a)) in omega (arith, past, size_falls ats a);
    stay = left ∙ ap rest_of of_a.stay ∙ enters.others;
  }

  pub adds_inside_falls : (ats : List ℕ) (a : Code E) (next : List ℕ) (e0 e1 e2 e3 : Exits) (n0 n1 : Vec (Node E)) (first : Vec ℕ)
      → EntersFalls ats next e0 e1
      → Adds a next e1 e2 n0 n1 first
      → e3.entries.items ≡ rest_of e2.entries.items
      → Adds (up_to_falls ats a) next e0 e3 n0 n1 first
  adds_inside_falls ats a next e0 e1 e2 e3 n0 n1 first enters of_a left = record {
    adds = record {
      are_nodes = of_a.adds.are_nodes ∙ ap (λ z. occurrences_of n0.items ++ z) (sym (nodes_falls ats a));
      are_linked = of_a.adds.are_linked
          ∙ ap (λ z. links_of n0.items ++ z)
          (ap (λ z. links (length n0.items) a next z) enters.view ∙ sym (links_falls ats (length n0.items) a next (leading e0)));
      are_first = of_a.adds.are_first
          ∙ ap (λ z. firsts (length n0.items) a next z) enters.view ∙ sym (firsts_falls ats (length n0.items) a next (leading e0));
    };
    stay = left ∙ ap rest_of of_a.stay ∙ enters.others;
  }

-- Where what falls through arrives, by a test of offsets

abbrev is_one_of : List ℕ → ℕ → Bool
is_one_of ats n = list_any (λ m. m == n) ats

turned : (m n : ℕ) → (m == n) ≡ (n == m)
turned m n = by (m == n) (n == m) refl refl
  where
    by : (b c : Bool) → (m == n) ≡ b → (n == m) ≡ c → b ≡ c
    by true true e f = refl
    by true false e f = sym ((Decides-eqb n m).1 (sym ((Decides-eqb m n).0 e))) ∙ f
    by false true e f = sym e ∙ (Decides-eqb m n).1 (sym ((Decides-eqb n m).0 f))
    by false false e f = refl

either_test : (b c : Bool) (x y : List ℕ) → (if c then x else (if b then x else y)) ≡ (if b || c then x else y)
either_test true true x y = refl
either_test true false x y = refl
either_test false true x y = refl
either_test false false x y = refl

arrives_so : (ats next : List ℕ) (exits : Way → List ℕ) (v : Way)
    → arriving_falls ats next exits v ≡ (if falls_by (is_one_of ats) v then next else exits v)
arrives_so [] next exits returning = refl
arrives_so [] next exits (breaking l) = refl
arrives_so [] next exits (continuing l) = refl
arrives_so [] next exits (falling n) = refl
arrives_so (at ∷ ats) next exits returning = arrives_so ats next (arriving (falling at) next exits) returning
arrives_so (at ∷ ats) next exits (breaking l) = arrives_so ats next (arriving (falling at) next exits) (breaking l)
arrives_so (at ∷ ats) next exits (continuing l) = arrives_so ats next (arriving (falling at) next exits) (continuing l)
arrives_so (at ∷ ats) next exits (falling n) =
    arrives_so ats next (arriving (falling at) next exits) (falling n)
    ∙ ap (λ b. if is_one_of ats n then next else (if b then next else exits (falling n))) (turned n at)
    ∙ either_test (at == n) (is_one_of ats n) next (exits (falling n))

same_tests : (f g : ℕ → Bool) (v : Way) → ((n : ℕ) → f n ≡ g n) → falls_by f v ≡ falls_by g v
same_tests f g returning h = refl
same_tests f g (breaking l) h = refl
same_tests f g (continuing l) h = refl
same_tests f g (falling n) h = h n

-- the view of the exits after these were entered
pub entered_falls : (ats next : List ℕ) (test : ℕ → Bool) (exits : Way → List ℕ) → ((n : ℕ) → test n ≡ is_one_of ats n)
    → (λ v. if falls_by test v then next else exits v) ≡ arriving_falls ats next exits
entered_falls ats next test exits h = λ i v.
    (ap (λ b. if b then next else exits v) (same_tests test (is_one_of ats) v h) ∙ sym (arrives_so ats next exits v)) i

-- Offsets that are put into a set

pub record SetSoFar (left all : List ℕ) (test : ℕ → Bool) : Type 0 where
  pub whole : (n : ℕ) → (test n || is_one_of left n) ≡ is_one_of all n
