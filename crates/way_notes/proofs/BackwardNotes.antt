-- Notes that are collected backward.
use Rattle.std.proofs.Common.{◌≡◌, ℕ, Bool, true, false, if◌then◌else◌, List, [], ◌∷◌, ◌++◌, map, reverse, Option, Some, None, refl, sym, ap, ◌∙◌, append_assoc}
use Rattle.std.proofs.lemmas.List.{append-nil, reverse-append, reverse-reverse}
use mathlib.Core.List.{reverse-cons}
use Rattle.std.proofs.lemmas.List.{map-append}
use Rattle.std.specs.Prelude.{slice_get}
use Rattle.flow.specs.Walks.{Graph}
use Rattle.meaning.specs.Code.{Occurrence}
use Rattle.meaning.specs.Uses.{Event}
use Rattle.reasons.specs.Branches.{Branch}
use Rattle.way_notes.specs.Notes.{Note, Told, one_or_none, event_note, branch_note, node_notes, binds_there, notes_to}

pub two_back : (one two : Option Note) → reverse (one_or_none one ++ one_or_none two) ≡ one_or_none two ++ one_or_none one
two_back None None = refl
two_back None (Some b) = refl
two_back (Some a) None = refl
two_back (Some a) (Some b) = refl

module _ (g : Graph Event) (bs : List Branch) (told : Told) where
  abbrev there : ℕ → ℕ → List Note
  there n next = node_notes g bs told n (slice_get g.nodes n) (slice_get g.nodes next)

  -- what was collected stands behind what is left
  onto : (found : List Note) (n next : ℕ) → reverse (found ++ reverse (there n next)) ≡ there n next ++ reverse found
  onto found n next =
      reverse-append found (reverse (there n next)) ∙ ap (λ l. l ++ reverse found) (reverse-reverse (there n next))

  module _ (whole found after : List Note) (next n : ℕ) (ns : List ℕ)
      (so_far : whole ≡ notes_to g bs told next (n ∷ ns) ++ reverse found)
      (added : after ≡ found ++ reverse (there n next)) where
    rest_is : (b : Bool) → binds_there told (slice_get g.nodes n) ≡ b
        → whole ≡ (if b then [] else notes_to g bs told n ns) ++ (there n next ++ reverse found)
    rest_is b is =
        so_far
        ∙ ap (λ t. ((if t then [] else notes_to g bs told n ns) ++ there n next) ++ reverse found) is
        ∙ append_assoc (if b then [] else notes_to g bs told n ns) (there n next) (reverse found)

    pub goes_back : binds_there told (slice_get g.nodes n) ≡ false → whole ≡ notes_to g bs told n ns ++ reverse after
    goes_back is =
        rest_is false is ∙ ap (λ l. notes_to g bs told n ns ++ l) (sym (ap reverse added ∙ onto found n next))

    pub is_bound : binds_there told (slice_get g.nodes n) ≡ true → whole ≡ reverse after
    is_bound is = rest_is true is ∙ sym (ap reverse added ∙ onto found n next)

pub map_back : {A B : Type 0} (f : A → B) (xs : List A) → map f (reverse xs) ≡ reverse (map f xs)
map_back f [] = refl
map_back f (x ∷ xs) =
    ap (map f) (reverse-cons x xs)
    ∙ map-append f (reverse xs) (x ∷ [])
    ∙ ap (λ l. l ++ f x ∷ []) (map_back f xs)
    ∙ sym (reverse-cons (f x) (map f xs))

both_told : (before between after : List Note) (branch event : Option Note)
    → between ≡ before ++ one_or_none branch
    → after ≡ between ++ one_or_none event
    → after ≡ before ++ reverse (one_or_none event ++ one_or_none branch)
both_told before between after branch event one two =
    two
    ∙ ap (λ l. l ++ one_or_none event) one
    ∙ append_assoc before (one_or_none branch) (one_or_none event)
    ∙ ap (λ l. before ++ l) (sym (two_back event branch))

-- A node of the way, and the next one

module _ (g : Graph Event) (bs : List Branch) (told : Told) (notes : List Note) (n : ℕ)
    (first next : Option (Occurrence Event)) where
  pub no_node : first ≡ None → notes ≡ notes ++ reverse (node_notes g bs told n first next)
  no_node e =
      sym (append-nil notes) ∙ ap (λ o. notes ++ reverse (node_notes g bs told n o next)) (sym e)

  pub no_next : (o : Occurrence Event) → first ≡ Some o → next ≡ None
      → notes ≡ notes ++ reverse (node_notes g bs told n first next)
  no_next o e none =
      sym (append-nil notes)
      ∙ ap (λ m. notes ++ reverse (node_notes g bs told n (Some o) m)) (sym none)
      ∙ ap (λ m. notes ++ reverse (node_notes g bs told n m next)) (sym e)

  pub both : (o p : Occurrence Event) (between after : List Note) (branch event : Option Note)
      → first ≡ Some o
      → next ≡ Some p
      → branch ≡ branch_note g bs n o.at p.at
      → event ≡ event_note told o.at o.event
      → between ≡ notes ++ one_or_none branch
      → after ≡ between ++ one_or_none event
      → after ≡ notes ++ reverse (node_notes g bs told n first next)
  both o p between after branch event is_first is_next is_branch is_event one two =
      both_told notes between after branch event one two
      ∙ ap (λ m. notes ++ reverse (one_or_none m ++ one_or_none branch)) is_event
      ∙ ap (λ m. notes ++ reverse (one_or_none (event_note told o.at o.event) ++ one_or_none m)) is_branch
      ∙ ap (λ m. notes ++ reverse (node_notes g bs told n (Some o) m)) (sym is_next)
      ∙ ap (λ m. notes ++ reverse (node_notes g bs told n m next)) (sym is_first)
