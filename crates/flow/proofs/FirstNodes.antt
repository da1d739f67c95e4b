-- The nodes that can come first, part by part.
use Rattle.std.proofs.Common.{◌≡◌, ℕ, ◌+◌, ◌<◌, ◌≤◌, List, [], ◌∷◌, ◌++◌, Option, Some, None, Result, Ok, Err, IfOk, length, get_or, drop, map, refl, sym, ap, ◌∙◌, subst, arith}
use Rattle.std.proofs.lemmas.List.{at_drop_all, append-nil}
use Rattle.std.specs.declared.alloc.Global.{Global}
use Rattle.std.specs.declared.vec.Vec.{Vec as VecIn}
use Rattle.tree.proofs.Depths.{drop_item}
use Rattle.code.specs.declared.code.Code.{Code as KeptCode}
use Rattle.meaning.specs.Code.{Occurrence, Way, Code, skip, does, then_code, up_to}
use Rattle.code.specs.CodeViews.{code_view, backward, or_another, one_of}
use Rattle.flow.specs.declared.exits.Exits.{Exits}
use Rattle.flow.specs.GraphOfCode.{size, firsts}
use Rattle.flow.specs.GraphViews.{most, exits_view, rest_of, Enters, Firsts}

abbrev pub Vec : Type 0 → Type 0
Vec T = VecIn T Global

pub if_ok : {T F : Type 0} {P Q : T → Type 0} (r : Result T F) → ((t : T) → P t → Q t) → IfOk r P → IfOk r Q
if_ok (Ok t) f h = f t h
if_ok (Err e) f h = h

abbrev pub leading : Exits → Way → List ℕ
leading e = exits_view e.entries.items

pub stays_there : (a b : Exits) → b.entries.items ≡ a.entries.items → leading b ≡ leading a
stays_there a b e = ap exits_view e

module _ {E : Type 0} where
  pub first_then : (f g h : ℕ) (a b : Code E) (next : List ℕ) (e0 e1 e2 : Exits) (later first : Vec ℕ)
      → Firsts f g b next e0 e1 later
      → Firsts g h a later.items e1 e2 first
      → Firsts f h (then_code a b) next e0 e2 first
  first_then f g h a b next e0 e1 e2 later first of_b of_a =
      record { are_first = are_first; is_past = is_past; stay = of_a.stay ∙ of_b.stay }
    where
      are_first : f + (size a + size b) ≤ most → first.items ≡ firsts (f + size b) a (firsts f b next (leading e0)) (leading e0)
      are_first fits =
          let from = of_b.is_past (omega (arith, fits)) in
          of_a.are_first (omega (arith, from, fits))
          ∙ ap (λ n. firsts n a later.items (leading e1)) from
          ∙ ap (λ z. firsts (f + size b) a z (leading e1)) (of_b.are_first (omega (arith, fits)))
          ∙ ap (λ z. firsts (f + size b) a (firsts f b next (leading e0)) z) (stays_there e0 e1 of_b.stay)

      is_past : f + (size a + size b) ≤ most → h ≡ f + (size a + size b)
      is_past fits =
          let from = of_b.is_past (omega (arith, fits)) in
          let there = of_a.is_past (omega (arith, from, fits)) in
          omega (arith, from, there)

  -- an event, and nothing behind it
  pub first_alone : (f g : ℕ) (o : Occurrence E) (next : List ℕ) (e : Exits) (first : Vec ℕ)
      → first.items ≡ f ∷ []
      → (f + 1 ≤ most → g ≡ f + 1)
      → Firsts f g (then_code (does o) skip) next e e first
  first_alone f g o next e first is past =
      record {
        are_first = λ fits. is ∙ ap (λ n. n ∷ []) (omega arith);
        is_past = λ fits. past fits;
        stay = refl;
      }

  pub first_inside : (f g : ℕ) (w : Way) (a : Code E) (next : List ℕ) (e0 e1 e2 e3 : Exits) (first : Vec ℕ)
      → Enters w next e0 e1
      → Firsts f g a next e1 e2 first
      → e3.entries.items ≡ rest_of e2.entries.items
      → Firsts f g (up_to w a) next e0 e3 first
  first_inside f g w a next e0 e1 e2 e3 first enters of_a left =
      record {
        are_first = λ fits. of_a.are_first fits ∙ ap (λ z. firsts f a next z) enters.view;
        is_past = of_a.is_past;
        stay = left ∙ ap rest_of of_a.stay ∙ enters.others;
      }

  -- the codes that were gone through, and those that are left
  pub record FirstSoFar (f behind : ℕ) (cs : List (Code E)) (whole : Code E) (next : List ℕ) (before after : Exits) (first : Vec ℕ) : Type 0 where
    pub rest : Code E
    pub is_whole : backward cs rest ≡ whole
    pub leads : Firsts f behind rest next before after first

  pub first_so_far-none : (f : ℕ) (cs : List (Code E)) (next : List ℕ) (e : Exits) (first : Vec ℕ) → first.items ≡ next → FirstSoFar f f cs (backward cs skip) next e e first
  first_so_far-none f cs next e first is =
      record {
        rest = skip;
        is_whole = refl;
        leads = record { are_first = λ fits. is; is_past = λ fits. omega arith; stay = refl };
      }

  pub first_so_far-first : (f behind : ℕ) (c : Code E) (cs : List (Code E)) (next : List ℕ) (e0 e1 : Exits) (first : Vec ℕ) → Firsts f behind c next e0 e1 first → FirstSoFar f behind cs (backward (c ∷ cs) skip) next e0 e1 first
  first_so_far-first f behind c cs next e0 e1 first of_c =
      let from : f ≡ f + 0 = omega arith in
      record {
        rest = then_code c skip;
        is_whole = refl;
        leads = record {
          are_first = λ fits. of_c.are_first (omega (arith, fits)) ∙ ap (λ n. firsts n c next (leading e0)) from;
          is_past = λ fits.
              let there = of_c.is_past (omega (arith, fits)) in
              omega (arith, there);
          stay = of_c.stay;
        };
      }

  pub first_so_far-next : (codes : List (KeptCode E)) (i : ℕ) (c : KeptCode E) (f behind after : ℕ) (whole : Code E) (next : List ℕ) (e0 e1 e2 : Exits) (first own : Vec ℕ)
      → i < length codes
      → c ≡ get_or codes i c
      → FirstSoFar f behind (map code_view (drop i codes)) whole next e0 e1 first
      → Firsts behind after (code_view c) first.items e1 e2 own
      → FirstSoFar f after (map code_view (drop (i + 1) codes)) whole next e0 e2 own
  first_so_far-next codes i c f behind after whole next e0 e1 e2 first own within is so_far of_c =
      record {
        rest = then_code (code_view c) so_far.rest;
        is_whole = sym (ap (λ l. backward (map code_view l) so_far.rest) (drop_item codes i c within is)) ∙ so_far.is_whole;
        leads = first_then f behind after (code_view c) so_far.rest next e0 e1 e2 first own so_far.leads of_c;
      }

  pub first_so_far-all : (codes : List (KeptCode E)) (i f behind : ℕ) (whole : Code E) (next : List ℕ) (e0 e1 : Exits) (first : Vec ℕ)
      → length codes ≤ i
      → FirstSoFar f behind (map code_view (drop i codes)) whole next e0 e1 first
      → Firsts f behind whole next e0 e1 first
  first_so_far-all codes i f behind whole next e0 e1 first past so_far =
      let is : so_far.rest ≡ whole = sym (at_drop_all (λ l. backward (map code_view l) so_far.rest) codes i past) ∙ so_far.is_whole in
      subst (λ z. Firsts f behind z next e0 e1 first) is so_far.leads

  -- the ways that were gone through, and those that are left
  pub record WaysSoFar (f behind : ℕ) (cs : List (Code E)) (whole : Code E) (next : List ℕ) (before after : Exits) (first : Vec ℕ) : Type 0 where
    pub others : Option (Code E)
    pub is_whole : one_of cs others ≡ whole
    pub leads : Firsts f behind (one_of [] others) next before after first

  pub ways_so_far-none : (f : ℕ) (cs : List (Code E)) (next : List ℕ) (e : Exits) (first : Vec ℕ) → first.items ≡ [] → WaysSoFar f f cs (one_of cs None) next e e first
  ways_so_far-none f cs next e first is =
      record {
        others = None;
        is_whole = refl;
        leads = record { are_first = λ fits. is; is_past = λ fits. omega arith; stay = refl };
      }

  -- one more way, before the others
  leads_way : (f behind after : ℕ) (c : Code E) (others : Option (Code E)) (next : List ℕ) (e0 e1 e2 : Exits) (first own both : Vec ℕ)
      → Firsts f behind (one_of [] others) next e0 e1 first
      → Firsts behind after c next e1 e2 own
      → both.items ≡ own.items ++ first.items
      → Firsts f after (or_another c others) next e0 e2 both
  leads_way f behind after c None next e0 e1 e2 first own both so_far of_c joins =
      record { are_first = are_first; is_past = is_past; stay = of_c.stay ∙ so_far.stay }
    where
      are_first : f + size c ≤ most → both.items ≡ firsts f c next (leading e0)
      are_first fits =
          let from_there = so_far.is_past (omega (arith, fits)) in
          let from : behind ≡ f = omega (arith, from_there) in
          joins
          ∙ ap (λ z. own.items ++ z) (so_far.are_first (omega (arith, fits)))
          ∙ append-nil own.items
          ∙ of_c.are_first (omega (arith, from, fits))
          ∙ ap (λ n. firsts n c next (leading e1)) from
          ∙ ap (λ z. firsts f c next z) (stays_there e0 e1 so_far.stay)

      is_past : f + size c ≤ most → after ≡ f + size c
      is_past fits =
          let from = so_far.is_past (omega (arith, fits)) in
          let there = of_c.is_past (omega (arith, from, fits)) in
          omega (arith, from, there)
  leads_way f behind after c (Some d) next e0 e1 e2 first own both so_far of_c joins =
      record { are_first = are_first; is_past = is_past; stay = of_c.stay ∙ so_far.stay }
    where
      are_first : f + (size c + size d) ≤ most → both.items ≡ firsts (f + size d) c next (leading e0) ++ firsts f d next (leading e0)
      are_first fits =
          let from = so_far.is_past (omega (arith, fits)) in
          joins
          ∙ ap (λ z. z ++ first.items) (of_c.are_first (omega (arith, from, fits))
          ∙ ap (λ n. firsts n c next (leading e1)) from
          ∙ ap (λ z. firsts (f + size d) c next z) (stays_there e0 e1 so_far.stay))
          ∙ ap (λ z. firsts (f + size d) c next (leading e0) ++ z) (so_far.are_first (omega (arith, fits)))

      is_past : f + (size c + size d) ≤ most → after ≡ f + (size c + size d)
      is_past fits =
          let from = so_far.is_past (omega (arith, fits)) in
          let there = of_c.is_past (omega (arith, from, fits)) in
          omega (arith, from, there)

  pub ways_so_far-next : (codes : List (KeptCode E)) (i : ℕ) (c : KeptCode E) (f behind after : ℕ) (whole : Code E) (next : List ℕ) (e0 e1 e2 : Exits) (first own both : Vec ℕ)
      → i < length codes
      → c ≡ get_or codes i c
      → WaysSoFar f behind (map code_view (drop i codes)) whole next e0 e1 first
      → Firsts behind after (code_view c) next e1 e2 own
      → both.items ≡ own.items ++ first.items
      → WaysSoFar f after (map code_view (drop (i + 1) codes)) whole next e0 e2 both
  ways_so_far-next codes i c f behind after whole next e0 e1 e2 first own both within is so_far of_c joins =
      record {
        others = Some (or_another (code_view c) so_far.others);
        is_whole = sym (ap (λ l. one_of (map code_view l) so_far.others) (drop_item codes i c within is)) ∙ so_far.is_whole;
        leads = leads_way f behind after (code_view c) so_far.others next e0 e1 e2 first own both so_far.leads of_c joins;
      }

  pub ways_so_far-all : (codes : List (KeptCode E)) (i f behind : ℕ) (whole : Code E) (next : List ℕ) (e0 e1 : Exits) (first : Vec ℕ)
      → length codes ≤ i
      → WaysSoFar f behind (map code_view (drop i codes)) whole next e0 e1 first
      → Firsts f behind whole next e0 e1 first
  ways_so_far-all codes i f behind whole next e0 e1 first past so_far =
      let is : one_of [] so_far.others ≡ whole = sym (at_drop_all (λ l. one_of (map code_view l) so_far.others) codes i past) ∙ so_far.is_whole in
      subst (λ z. Firsts f behind z next e0 e1 first) is so_far.leads
