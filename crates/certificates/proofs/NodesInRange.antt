-- The nodes that come first in a code, and those that follow a node, are nodes of the code.
use Rattle.std.proofs.Common.{◌≡◌, ℕ, ◌+◌, ◌<◌, ◌≤◌, Bool, true, false, if◌then◌else◌, List, [], ◌∷◌, ◌++◌, length, Some, Contains, subst, arith, inl, inr}
use Rattle.std.proofs.lemmas.List.Elements.{Contains-append_cases}
use Rattle.std.proofs.lemmas.Option.{slice_get_within, get_or_from_slice_get}
use Rattle.std.specs.Prelude.{slice_get}
use Rattle.flow.proofs.WalksOfLists.{nodes_size}
use Rattle.flow.specs.GraphOfCode.{same_way, arriving, no_exit, size, nodes, firsts, links}
use Rattle.flow.specs.Walks.{graph_of}
use Rattle.meaning.proofs.Membership.{contains_nil, contains_cases}
use Rattle.meaning.specs.Code.{Way, Code, skip, does, leave, then_code, either, repeats, up_to}

pub contains_at : {A : Type 0} (xs : List A) (n : ℕ) (x : A) → slice_get xs n ≡ Some x → Contains xs x
contains_at xs n x is = (n, slice_get_within xs n x is, get_or_from_slice_get xs n x x is)

module _ (top : ℕ) where
  abbrev AreBelow : List ℕ → Type 0
  AreBelow ns = (m : ℕ) → Contains ns m → m < top

  none_below : AreBelow []
  none_below m h = absurd (contains_nil m h)

  one_below : (n : ℕ) → n < top → AreBelow (n ∷ [])
  one_below n l m h =
      elim (contains_cases n m [] h) [ inl e ↦ subst (λ k. k < top) e l | inr g ↦ absurd (contains_nil m g) ]

  both_below : (ns ms : List ℕ) → AreBelow ns → AreBelow ms → AreBelow (ns ++ ms)
  both_below ns ms a b m h = elim (Contains-append_cases ns ms m h) [ inl g ↦ a m g | inr g ↦ b m g ]

  if_below : (b : Bool) (ns ms : List ℕ) → AreBelow ns → AreBelow ms → AreBelow (if b then ns else ms)
  if_below true ns ms a b = a
  if_below false ns ms a b = b

  abbrev AllExitsBelow : (Way → List ℕ) → Type 0
  AllExitsBelow exits = (w : Way) → AreBelow (exits w)

  arriving_below : (w : Way) (next : List ℕ) (exits : Way → List ℕ)
      → AreBelow next
      → AllExitsBelow exits
      → AllExitsBelow (arriving w next exits)
  arriving_below w next exits a b v = if_below (same_way v w) next (exits v) a (b v)

  abbrev AllBelow : List (List ℕ) → Type 0
  AllBelow rows = (ms : List ℕ) → Contains rows ms → AreBelow ms

  no_row : AllBelow []
  no_row ms h = absurd (contains_nil ms h)

  one_row : (ns : List ℕ) → AreBelow ns → AllBelow (ns ∷ [])
  one_row ns a ms h =
      elim (contains_cases ns ms [] h) [ inl e ↦ subst AreBelow e a | inr g ↦ absurd (contains_nil ms g) ]

  both_rows : (xs ys : List (List ℕ)) → AllBelow xs → AllBelow ys → AllBelow (xs ++ ys)
  both_rows xs ys a b ms h = elim (Contains-append_cases xs ys ms h) [ inl g ↦ a ms g | inr g ↦ b ms g ]

  module _ {E : Type 0} where
    firsts_below : (f : ℕ) (c : Code E) (next : List ℕ) (exits : Way → List ℕ)
        → f + size c ≤ top
        → AreBelow next
        → AllExitsBelow exits
        → AreBelow (firsts f c next exits)
    firsts_below f skip next exits l a b = a
    firsts_below f (does o) next exits l a b = one_below f (omega (arith, l))
    firsts_below f (leave w) next exits l a b = b w
    firsts_below f (then_code c d) next exits l a b =
        firsts_below (f + size d) c (firsts f d next exits) exits (omega (arith, l))
        (firsts_below f d next exits (omega (arith, l)) a b) b
    firsts_below f (either c d) next exits l a b =
        both_below (firsts (f + size d) c next exits) (firsts f d next exits)
        (firsts_below (f + size d) c next exits (omega (arith, l)) a b)
        (firsts_below f d next exits (omega (arith, l)) a b)
    firsts_below f (repeats c) next exits l a b = firsts_below f c [] exits l none_below b
    firsts_below f (up_to w c) next exits l a b =
        firsts_below f c next (arriving w next exits) l a (arriving_below w next exits a b)

    links_below : (f : ℕ) (c : Code E) (next : List ℕ) (exits : Way → List ℕ)
        → f + size c ≤ top
        → AreBelow next
        → AllExitsBelow exits
        → AllBelow (links f c next exits)
    links_below f skip next exits l a b = no_row
    links_below f (does o) next exits l a b = one_row next a
    links_below f (leave w) next exits l a b = no_row
    links_below f (then_code c d) next exits l a b =
        both_rows (links f d next exits) (links (f + size d) c (firsts f d next exits) exits)
        (links_below f d next exits (omega (arith, l)) a b)
        (links_below (f + size d) c (firsts f d next exits) exits (omega (arith, l))
        (firsts_below f d next exits (omega (arith, l)) a b) b)
    links_below f (either c d) next exits l a b =
        both_rows (links f d next exits) (links (f + size d) c next exits)
        (links_below f d next exits (omega (arith, l)) a b)
        (links_below (f + size d) c next exits (omega (arith, l)) a b)
    links_below f (repeats c) next exits l a b =
        links_below f c (firsts f c [] exits) exits l (firsts_below f c [] exits l none_below b) b
    links_below f (up_to w c) next exits l a b =
        links_below f c next (arriving w next exits) l a (arriving_below w next exits a b)

module _ {E : Type 0} (c : Code E) where
  in_all : 0 + size c ≤ length (nodes c)
  in_all = let as_many = nodes_size c in omega (arith, as_many)

  pub start_in_range : (n : ℕ) → Contains (graph_of c).starts n → n < length (nodes c)
  start_in_range =
      firsts_below (length (nodes c)) 0 c [] no_exit in_all (none_below (length (nodes c)))
      (λ w. none_below (length (nodes c)))

  pub next_in_range : (n m : ℕ) (ms : List ℕ)
      → slice_get (graph_of c).next n ≡ Some ms
      → Contains ms m
      → m < length (nodes c)
  next_in_range n m ms is =
      links_below (length (nodes c)) 0 c [] no_exit in_all (none_below (length (nodes c)))
      (λ w. none_below (length (nodes c))) ms (contains_at (links 0 c [] no_exit) n ms is) m
