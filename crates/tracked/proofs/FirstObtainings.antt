-- The first binding of a local that obtains it, found by a loop over the marks.
use Rattle.std.proofs.Common.{◌≡◌, ℕ, ◌+◌, ◌<◌, ◌≤◌, nat_le, Bool, true, false, true≢false, ◌⊎◌, inl, inr, if◌then◌else◌, List, [], ◌∷◌, length, get_or, drop, Option, Some, None, refl, sym, ap, ◌∙◌, arith}
use Rattle.std.proofs.lemmas.Bool.Decides.{leb_tells}
use Rattle.std.proofs.lemmas.List.{at_drop_all}
use Rattle.tree.proofs.Depths.{drop_item}
use Rattle.mentions.specs.declared.mark.Mark.{Mark as KeptMark}
use Rattle.mentions.specs.MarkViews.{mark_view, marks_view}
use Rattle.meaning.specs.Mentions.{BodyPlace, Mark, mentions, of_fields, runs_literal, returns, opens, closes}
use Rattle.meaning.specs.Tracked.{placed, outer}
use Rattle.meaning.specs.Uses.{Seen, Obtaining, first_of_both, first_of_some, obtained_there, first_obtaining}
use Rattle.tracked.specs.declared.obtainings.Obtainings.{Obtainings}
use Rattle.tracked.specs.LocalViews.{obtaining_in}

-- The first of three

is_first : (a b : Obtaining) → a.at ≤ b.at → first_of_both a b ≡ a
is_first a b h = by (nat_le a.at b.at) refl
  where
    by : (t : Bool) → nat_le a.at b.at ≡ t → (if t then a else b) ≡ a
    by true e = refl
    by false e =
        elim (leb_tells a.at b.at) [ inl c ↦ absurd (true≢false (sym c.0 ∙ e)) | inr c ↦ absurd (omega (arith, h, c.1)) ]

is_second : (a b : Obtaining) → b.at < a.at → first_of_both a b ≡ b
is_second a b h = by (nat_le a.at b.at) refl
  where
    by : (t : Bool) → nat_le a.at b.at ≡ t → (if t then a else b) ≡ b
    by true e =
        elim (leb_tells a.at b.at) [ inl c ↦ absurd (omega (arith, h, c.1)) | inr c ↦ absurd (true≢false (sym e ∙ c.0)) ]
    by false e = refl

either_order : (m n : ℕ) → (m ≤ n) ⊎ (n < m)
either_order m n = elim (leb_tells m n) [ inl c ↦ inl c.1 | inr c ↦ inr (omega (arith, c.1)) ]

first_of_three : (a b c : Obtaining) → first_of_both (first_of_both a b) c ≡ first_of_both a (first_of_both b c)
first_of_three a b c =
    elim (either_order a.at b.at) [
      | inl h ↦ elim (either_order b.at c.at) [
        | inl k ↦ ap (λ x. first_of_both x c) (is_first a b h) ∙ is_first a c (omega (arith, h, k))
            ∙ sym (ap (first_of_both a) (is_first b c k) ∙ is_first a b h)
        | inr k ↦ ap (λ x. first_of_both x c) (is_first a b h) ∙ sym (ap (first_of_both a) (is_second b c k))
      ]
      | inr h ↦ elim (either_order b.at c.at) [
        | inl k ↦ ap (λ x. first_of_both x c) (is_second a b h) ∙ is_first b c k
            ∙ sym (ap (first_of_both a) (is_first b c k) ∙ is_second a b h)
        | inr k ↦ ap (λ x. first_of_both x c) (is_second a b h) ∙ is_second b c k
            ∙ sym (ap (first_of_both a) (is_second b c k) ∙ is_second a c (omega (arith, h, k)))
      ]
    ]

three_together : (a b c : Option Obtaining) → first_of_some (first_of_some a b) c ≡ first_of_some a (first_of_some b c)
three_together None b c = refl
three_together (Some a) None c = refl
three_together (Some a) (Some b) None = refl
three_together (Some a) (Some b) (Some c) = ap Some (first_of_three a b c)

and_none : (a : Option Obtaining) → first_of_some a None ≡ a
and_none None = refl
and_none (Some a) = refl

-- Marks one after the other

abbrev pub first_in : Seen → ℕ → List Mark → Option Obtaining
first_in seen n [] = None
first_in seen n (m ∷ ms) = first_of_some (obtained_there seen n m) (first_in seen n ms)

module _ (seen : Seen) (n : ℕ) where
  -- the bodies around a mark don't matter
  pub first_placed : (bs : List BodyPlace) (ms : List Mark) → first_obtaining seen n (placed bs ms) ≡ first_in seen n ms
  unfolding placed
  first_placed bs [] = refl
  first_placed bs (mentions m ∷ ms) = ap (first_of_some (obtained_there seen n (mentions m))) (first_placed bs ms)
  first_placed bs (of_fields site m ∷ ms) = first_placed bs ms
  first_placed bs (runs_literal moment site at ∷ ms) = first_placed bs ms
  first_placed bs (returns at es ∷ ms) = first_placed bs ms
  first_placed bs (opens b ∷ ms) = first_placed (b ∷ bs) ms
  first_placed bs (closes ∷ ms) = first_placed (outer bs) ms

  -- one more mark
  pub next_noted : (marks : List KeptMark) (i : ℕ) (m : KeptMark) → i < length marks → m ≡ get_or marks i m
      → (a b : Obtainings) → obtaining_in b n ≡ first_of_some (obtaining_in a n) (obtained_there seen n (mark_view m))
      → (whole : Option Obtaining) → first_of_some (obtaining_in a n) (first_in seen n (marks_view (drop i marks))) ≡ whole
      → first_of_some (obtaining_in b n) (first_in seen n (marks_view (drop (i + 1) marks))) ≡ whole
  next_noted marks i m within is a b noted whole so_far =
      let rest : Option Obtaining = first_in seen n (marks_view (drop (i + 1) marks)) in
      ap (λ o. first_of_some o rest) noted
      ∙ three_together (obtaining_in a n) (obtained_there seen n (mark_view m)) rest
      ∙ sym
      (ap (λ (ms : List KeptMark). first_of_some (obtaining_in a n) (first_in seen n (marks_view ms)))
      (drop_item marks i m within is))
      ∙ so_far

  -- after the last one
  pub all_noted : (marks : List KeptMark) (i : ℕ) → length marks ≤ i → (a : Obtainings) (whole : Option Obtaining)
      → first_of_some (obtaining_in a n) (first_in seen n (marks_view (drop i marks))) ≡ whole → obtaining_in a n ≡ whole
  all_noted marks i past a whole so_far =
      sym
      (at_drop_all (λ (ms : List KeptMark). first_of_some (obtaining_in a n) (first_in seen n (marks_view ms))) marks i past
      ∙ and_none (obtaining_in a n))
      ∙ so_far
