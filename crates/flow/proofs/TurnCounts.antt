-- The sizes of turns, and what comes first in a code that begins with an event.
use Rattle.std.proofs.Common.{◌≡◌, ◌+◌, ◌-◌, ◌<◌, ◌≤◌, Bool, true, false, if◌then◌else◌, ◌≢◌, ℕ, zero, suc, slice_get, min, List, [], ◌∷◌, ◌++◌, Some, None, length, get_or, drop, map, set, refl, sym, ap, ◌∙◌, arith, append_assoc}
use Rattle.std.proofs.lemmas.List.{at_drop_all, append-nil}
use Rattle.std.proofs.lemmas.Option.{slice_get_within}
use Rattle.std.proofs.Math.Seq.{set-append_seam}
use Rattle.tree.proofs.Depths.{drop_item}
use Rattle.code.specs.declared.code.Code.{Code as KeptCode}
use Rattle.meaning.specs.Code.{Way, Code, skip, does, leave, then_code, either, repeats, up_to}
use Rattle.code.specs.CodeViews.{code_view, backward, one_of}
use Rattle.flow.specs.declared.exits.Exits.{Exits}
use Rattle.flow.specs.GraphOfCode.{size, firsts}
use Rattle.flow.specs.GraphViews.{Vec, most, total, exits_view, rest_of, Firsts}
use Rattle.flow.specs.TurnSizes.{first_of, begins, last_begins, told_size, turn_sizes, all_turn_sizes, Counts, CountsAll, FirstsOfTurn}
use Rattle.flow.proofs.Numbered.{chosen, not_chosen}
use Rattle.flow.proofs.Sizes.{size_backward, size_one_of}

pub left_there : (b : Bool) (n : ℕ) (ns sizes others after : List ℕ)
    → sizes ≡ (if b then n ∷ ns else ns) ++ others
    → after ≡ (if b then rest_of sizes else sizes)
    → after ≡ ns ++ others
left_there true n ns sizes others after e f = f ∙ ap rest_of e
left_there false n ns sizes others after e f = f ∙ e

module _ {E : Type 0} where
  -- Codes that begin with an event

  begins_onto : (c : Code E) (cs : List (Code E)) (rest : Code E) → begins (backward cs (then_code c rest)) ≡ last_begins (c ∷ cs)
  begins_onto c [] rest = refl
  begins_onto c (d ∷ cs) rest = begins_onto d cs (then_code c rest)

  pub begins_backward : (cs : List (Code E)) → begins (backward cs skip) ≡ last_begins cs
  begins_backward [] = refl
  begins_backward (c ∷ cs) = begins_onto c cs skip

  never_begins : (cs : List (Code E)) (a b : Code E) → begins (one_of cs (Some (either a b))) ≡ false
  never_begins [] a b = refl
  never_begins (c ∷ cs) a b = never_begins cs c (either a b)

  pub begins_only : (cs : List (Code E)) (n : ℕ) → n ≡ length cs → n ≡ 1 → last_begins cs ≡ begins (one_of cs None)
  begins_only [] n is one = refl
  begins_only (c ∷ []) n is one = refl
  begins_only (c ∷ (d ∷ cs)) n is one = absurd (omega (arith, is, one))

  pub begins_more : (cs : List (Code E)) (n : ℕ) → n ≡ length cs → n ≢ 1 → begins (one_of cs None) ≡ false
  begins_more [] n is more = refl
  begins_more (c ∷ []) n is more = absurd (more (omega (arith, is)))
  begins_more (c ∷ (d ∷ cs)) n is more = never_begins cs d c

  pub last_known : (codes : List (KeptCode E)) (i : ℕ) (c : KeptCode E) → i + 1 ≡ length codes → slice_get codes i ≡ Some c → last_begins (map code_view codes) ≡ begins (code_view c)
  last_known [] i c is e = cc
  last_known (d ∷ []) zero c is e =
      let same : d ≡ c = cc in
      ap (λ z. begins (code_view z)) same
  last_known (d ∷ []) (suc i) c is e = absurd (omega (arith, is))
  last_known (d ∷ (f ∷ codes)) zero c is e = absurd (omega (arith, is))
  last_known (d ∷ (f ∷ codes)) (suc i) c is e = last_known (f ∷ codes) i c (omega (arith, is)) e

  pub last_found : (codes : List (KeptCode E)) (c : KeptCode E) → Some c ≡ slice_get codes (length codes - 1) → last_begins (map code_view codes) ≡ begins (code_view c)
  last_found codes c e =
      let within = slice_get_within codes (length codes - 1) c (sym e) in
      last_known codes (length codes - 1) c (omega (arith, within)) (sym e)

  begins_with_one : (c : Code E) → begins c ≡ true → 1 ≤ size c
  begins_with_one skip e = cc
  begins_with_one (does o) e = omega arith
  begins_with_one (leave w) e = cc
  begins_with_one (then_code a b) e = omega (arith, begins_with_one a e)
  begins_with_one (either a b) e = cc
  begins_with_one (repeats a) e = begins_with_one a e
  begins_with_one (up_to w a) e = begins_with_one a e

  -- the first event is the last of the code's nodes
  first_alone : (c : Code E) (f n : ℕ) (next : List ℕ) (exits : Way → List ℕ) → begins c ≡ true → f + size c ≡ n + 1 → firsts f c next exits ≡ n ∷ []
  first_alone skip f n next exits e h = cc
  first_alone (does o) f n next exits e h =
      let same : f ≡ n = omega (arith, h) in
      ap (λ z. z ∷ []) same
  first_alone (leave w) f n next exits e h = cc
  first_alone (then_code a b) f n next exits e h = first_alone a (f + size b) n (firsts f b next exits) exits e (omega (arith, h))
  first_alone (either a b) f n next exits e h = cc
  first_alone (repeats a) f n next exits e h = first_alone a f n [] exits e h
  first_alone (up_to w a) f n next exits e h = first_alone a f n next _ e h

  -- Sizes of turns

  sizes_onto : (cs : List (Code E)) (rest : Code E) → turn_sizes (backward cs rest) ≡ turn_sizes rest ++ all_turn_sizes cs
  sizes_onto [] rest = sym (append-nil (turn_sizes rest))
  sizes_onto (c ∷ cs) rest = sizes_onto cs (then_code c rest) ∙ append_assoc (turn_sizes rest) (turn_sizes c) (all_turn_sizes cs)

  pub sizes_backward : (cs : List (Code E)) → turn_sizes (backward cs skip) ≡ all_turn_sizes cs
  sizes_backward cs = sizes_onto cs skip

  sizes_another : (cs : List (Code E)) (others : Code E) → turn_sizes (one_of cs (Some others)) ≡ turn_sizes others ++ all_turn_sizes cs
  sizes_another [] others = sym (append-nil (turn_sizes others))
  sizes_another (c ∷ cs) others = sizes_another cs (either c others) ∙ append_assoc (turn_sizes others) (turn_sizes c) (all_turn_sizes cs)

  pub sizes_one_of : (cs : List (Code E)) → turn_sizes (one_of cs None) ≡ all_turn_sizes cs
  sizes_one_of [] = refl
  sizes_one_of (c ∷ cs) = sizes_another cs c

  -- Counting

  pub counts_none : (c : Code E) (before : List ℕ) (n : ℕ) → n ≡ told_size c → turn_sizes c ≡ [] → Counts c before before n
  counts_none c before n is none =
      record { is_size = is; are_turns = sym (append-nil before) ∙ ap (λ z. before ++ z) (sym none) }

  pub counts_then : (a b : Code E) (s0 s1 s2 : List ℕ) (behind own both : ℕ)
      → Counts b s0 s1 behind
      → Counts a s1 s2 own
      → both ≡ min (own + behind) most
      → Counts (then_code a b) s0 s2 both
  counts_then a b s0 s1 s2 behind own both of_b of_a sum =
      record {
        is_size = omega (arith, sum, of_a.is_size, of_b.is_size);
        are_turns = of_a.are_turns ∙ ap (λ z. z ++ turn_sizes a) of_b.are_turns ∙ append_assoc s0 (turn_sizes b) (turn_sizes a);
      }

  pub counts_sequence : (cs : List (Code E)) (s0 s1 : List ℕ) (n : ℕ) → CountsAll cs s0 s1 n → Counts (backward cs skip) s0 s1 n
  counts_sequence cs s0 s1 n h =
      record {
        is_size = h.is_size ∙ ap (λ z. min z most) (sym (size_backward cs));
        are_turns = h.are_turns ∙ ap (λ z. s0 ++ z) (sym (sizes_backward cs));
      }

  pub counts_choice : (cs : List (Code E)) (s0 s1 : List ℕ) (n : ℕ) → CountsAll cs s0 s1 n → Counts (one_of cs None) s0 s1 n
  counts_choice cs s0 s1 n h =
      record {
        is_size = h.is_size ∙ ap (λ z. min z most) (sym (size_one_of cs));
        are_turns = h.are_turns ∙ ap (λ z. s0 ++ z) (sym (sizes_one_of cs));
      }

  -- a turn whose size is kept
  pub counts_turn : (a : Code E) (s0 s1 s2 s3 : List ℕ) (n place : ℕ)
      → begins a ≡ true
      → place ≡ length s0
      → s1 ≡ s0 ++ 0 ∷ []
      → Counts a s1 s2 n
      → s3 ≡ set s2 place n
      → Counts (repeats a) s0 s3 n
  counts_turn a s0 s1 s2 s3 n place e at pushed of_a is =
      record {
        is_size = of_a.is_size;
        are_turns =
            is
            ∙ ap (λ z. set z place n) (of_a.are_turns ∙ ap (λ z. z ++ turn_sizes a) pushed ∙ append_assoc s0 (0 ∷ []) (turn_sizes a))
            ∙ ap (λ z. set (s0 ++ 0 ∷ turn_sizes a) z n) at
            ∙ set-append_seam s0 0 (turn_sizes a) n
            ∙ ap (λ z. s0 ++ z ∷ turn_sizes a) of_a.is_size
            ∙ ap (λ z. s0 ++ z) (sym (chosen (begins a) (told_size a ∷ turn_sizes a) (turn_sizes a) e));
      }

  -- one whose size is not kept
  pub counts_unkept : (a : Code E) (s0 s1 : List ℕ) (n : ℕ) → begins a ≡ false → Counts a s0 s1 n → Counts (repeats a) s0 s1 n
  counts_unkept a s0 s1 n e of_a =
      record {
        is_size = of_a.is_size;
        are_turns = of_a.are_turns ∙ ap (λ z. s0 ++ z) (sym (not_chosen (begins a) (told_size a ∷ turn_sizes a) (turn_sizes a) e));
      }

  -- the codes that were gone through, and those that are left
  pub record CountedSoFar (cs all : List (Code E)) (before after : List ℕ) (sum : ℕ) : Type 0 where
    pub is_sum : min (sum + total cs) most ≡ min (total all) most
    pub fits : sum ≤ most
    pub are_turns : after ++ all_turn_sizes cs ≡ before ++ all_turn_sizes all

  pub counted-none : (all : List (Code E)) (before : List ℕ) → CountedSoFar all all before before 0
  counted-none all before = record { is_sum = omega arith; fits = omega arith; are_turns = refl }

  pub counted-next : (codes : List (KeptCode E)) (i : ℕ) (c : KeptCode E) (all : List (Code E)) (s0 s1 s2 : List ℕ) (sum own both : ℕ)
      → i < length codes
      → c ≡ get_or codes i c
      → CountedSoFar (map code_view (drop i codes)) all s0 s1 sum
      → Counts (code_view c) s1 s2 own
      → both ≡ min (sum + own) most
      → CountedSoFar (map code_view (drop (i + 1) codes)) all s0 s2 both
  counted-next codes i c all s0 s1 s2 sum own both within is so_far of_c joins =
      let split = ap (λ cs. total (map code_view cs)) (drop_item codes i c within is) in
      record {
        is_sum = omega (arith, so_far.is_sum, split, of_c.is_size, joins);
        fits = omega (arith, joins);
        are_turns =
            ap (λ z. z ++ all_turn_sizes (map code_view (drop (i + 1) codes))) of_c.are_turns
            ∙ append_assoc s1 (turn_sizes (code_view c)) (all_turn_sizes (map code_view (drop (i + 1) codes)))
            ∙ sym (ap (λ cs. s1 ++ all_turn_sizes (map code_view cs)) (drop_item codes i c within is))
            ∙ so_far.are_turns;
      }

  pub counted-all : (codes : List (KeptCode E)) (i : ℕ) (all : List (Code E)) (s0 s1 : List ℕ) (sum : ℕ)
      → length codes ≤ i
      → CountedSoFar (map code_view (drop i codes)) all s0 s1 sum
      → CountsAll all s0 s1 sum
  counted-all codes i all s0 s1 sum past so_far =
      let none = at_drop_all (λ cs. total (map code_view cs)) codes i past in
      record {
        is_size = omega (arith, so_far.is_sum, so_far.fits, none);
        are_turns =
            sym (append-nil s1)
            ∙ sym (at_drop_all (λ cs. s1 ++ all_turn_sizes (map code_view cs)) codes i past)
            ∙ so_far.are_turns;
      }

  -- What comes first in a turn

  pub firsts_known : (from : ℕ) (a : Code E) (e : Exits) (sizes after : List ℕ) (taken_size past node : ℕ) (first : Vec ℕ)
      → begins a ≡ true
      → taken_size ≡ first_of sizes
      → past ≡ min (from + taken_size) most
      → after ≡ rest_of sizes
      → first.items ≡ node ∷ []
      → node ≡ past - 1
      → FirstsOfTurn from a e e sizes after first
  firsts_known from a e sizes after taken_size past node first b is_size told taken is is_node =
      record {
        are_first = λ counted fits. is ∙ sym (first_alone a from node [] (exits_view e.entries.items) b (omega (arith, is_size, told, counted b, fits, is_node, begins_with_one a b)));
        are_left = taken ∙ sym (chosen (begins a) (rest_of sizes) sizes b);
        stay = refl;
      }

  pub firsts_unknown : (from past : ℕ) (a : Code E) (e0 e1 : Exits) (sizes : List ℕ) (first : Vec ℕ)
      → begins a ≡ false
      → Firsts from past a [] e0 e1 first
      → FirstsOfTurn from a e0 e1 sizes sizes first
  firsts_unknown from past a e0 e1 sizes first b leads =
      record {
        are_first = λ counted fits. leads.are_first fits;
        are_left = sym (not_chosen (begins a) (rest_of sizes) sizes b);
        stay = leads.stay;
      }

  -- What is taken of the sizes

  pub size_there : (a : Code E) (sizes others : List ℕ) → sizes ≡ turn_sizes (repeats a) ++ others → begins a ≡ true → first_of sizes ≡ told_size a
  size_there a sizes others e b =
      ap first_of (e ∙ ap (λ z. z ++ others) (chosen (begins a) (told_size a ∷ turn_sizes a) (turn_sizes a) b))
