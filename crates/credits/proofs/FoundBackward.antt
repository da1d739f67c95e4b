-- Credits are found from the last body of a file to the first: what is found of a literal stays, since a literal relies
-- only on those after it.
use Rattle.std.proofs.Common.{◌≡◌, ℕ, ◌+◌, ◌≤◌, Bool, true, false, ◌&&◌, List, [], ◌∷◌, ◌++◌, take, length, Some, None, nat_eq, nat_lt, refl, sym, ap, ◌∙◌, subst, arith}
use Rattle.std.specs.Prelude.{◌↔◌, slice_get}
use Rattle.std.proofs.lemmas.Bool.{ltb-true, ne_eqb, true≢false}
use Rattle.std.proofs.lemmas.Bool.Decides.{Decides-eqb}
use Rattle.std.proofs.lemmas.List.{take_all, take_more}
use Rattle.std.proofs.lemmas.Option.{none-some, same_Some, get_or_from_slice_get, slice_get_within}
use Rattle.meaning.specs.Mentions.{BodyPlace}
use Rattle.meaning.specs.Uses.{Seen, goes_off}
use Rattle.meaning.specs.BodyEvents.{bodies_of, unfollowed_faults}
use Rattle.meaning_packages.specs.PathFaults.{paths_of}
use Rattle.meaning_packages.specs.Credits.{body_at, Credits, begun_after, no_calls, promises_in, Settles, MayComeBack, IsCredited}
use Rattle.credits.specs.FoundCredits.{IsSettledBy, SettlesBody, AreFoundBut}
use Rattle.credits.proofs.BodiesByPlace.{none_of_more, is_first, is_behind}

module _ (seen : Seen) where
  -- what a literal relies on lies after it
  credited_too : (before after : Credits) (literal number : ℕ) → begun_after literal before ≡ begun_after literal after
      → IsCredited seen before literal number
      → IsCredited seen after literal number
  credited_too before after literal number same h = record {
    body = h.body;
    variable = h.variable;
    is_there = h.is_there;
    is_followed = h.is_followed;
    is_of_body = h.is_of_body;
    is_captured = h.is_captured;
    is_it = h.is_it;
    binds_none = h.binds_none;
    comes_back = subst (λ c. MayComeBack seen.known.edition (goes_off h.body.literal)
        (paths_of seen (record { calls = no_calls; credits = c }) h.body)) same h.comes_back;
    settles = subst (λ c. Settles (paths_of seen (record { calls = no_calls; credits = c }) h.body) h.variable) same h.settles;
  }

  same_behind : (before after : Credits) (at : ℕ)
      → ((other number : ℕ) → nat_eq at other ≡ false → after other number ≡ before other number)
      → (literal : ℕ) → at ≤ literal → begun_after literal before ≡ begun_after literal after
  same_behind before after at others literal l = λ i other number. by other number (nat_lt literal other) refl i
    where
      by : (other number : ℕ) (t : Bool) → nat_lt literal other ≡ t → (t && before other number) ≡ (t && after other number)
      by other number false e = refl
      by other number true e =
          sym (others other number (ne_eqb at other λ same. omega (arith, l, ltb-true literal other e, same)))

  -- the body that is the first at its offset is the literal there
  credited_there : (credits : Credits) (b : BodyPlace) (number : ℕ) → body_at b.at (bodies_of seen) ≡ Some b
      → IsSettledBy seen credits b number ↔ IsCredited seen credits b.at number
  credited_there credits b number is_there = (
    λ h. record {
      body = b;
      variable = h.relied.settles.variable;
      is_there = is_there;
      is_followed = h.is_followed;
      is_of_body = h.relied.settles.is_of_body;
      is_captured = h.relied.settles.is_captured;
      is_it = h.relied.settles.is_it;
      binds_none = h.relied.binds_none;
      comes_back = h.relied.comes_back;
      settles = h.relied.settles.settles;
    },
    λ h.
        let same : h.body ≡ b = same_Some h.body b (sym h.is_there ∙ is_there) in
        let promised = promises_in no_calls credits b.at in
        record {
          is_followed = subst (λ x. unfollowed_faults seen x ≡ []) same h.is_followed;
          relied = record {
            binds_none = h.binds_none;
            comes_back = subst (λ (x : BodyPlace). MayComeBack seen.known.edition (goes_off x.literal)
                (paths_of seen promised x)) same h.comes_back;
            settles = record {
              variable = h.variable;
              is_of_body = h.is_of_body;
              is_captured = h.is_captured;
              is_it = h.is_it;
              settles = subst (λ x. Settles (paths_of seen promised x) h.variable) same h.settles;
            };
          };
        },
  )

  -- the next body, from the last on
  module _ (i : ℕ) (b : BodyPlace) (is_there : slice_get (bodies_of seen) i ≡ Some b) (before after : Credits)
      (settles : SettlesBody seen b before after) (so_far : AreFoundBut seen (take (i + 1) (bodies_of seen)) before) where
    abbrev first_ones : List BodyPlace
    first_ones = take i (bodies_of seen)

    one_more : take (i + 1) (bodies_of seen) ≡ first_ones ++ b ∷ []
    one_more =
        take_more (bodies_of seen) i b (slice_get_within (bodies_of seen) i b is_there)
        ∙ ap (λ x. first_ones ++ x ∷ []) (get_or_from_slice_get (bodies_of seen) i b b is_there)

    there : (number : ℕ) → body_at b.at first_ones ≡ None
        → (after b.at number ≡ true) ↔ IsCredited seen after b.at number
    there number none =
        let same = same_behind before after b.at settles.others b.at (omega arith) in
        let it = credited_there before b number (is_first seen i b is_there none) in (
          λ e. credited_too before after b.at number same (it.0 ((settles.there number).0 e)),
          λ h. (settles.there number).1 (it.1 (credited_too after before b.at number (sym same) h)),
        )

    elsewhere : (literal number : ℕ) → nat_eq b.at literal ≡ false → body_at literal first_ones ≡ None
        → (after literal number ≡ true) ↔ IsCredited seen after literal number
    elsewhere literal number apart none =
        let old = so_far.each literal number
        (ap (body_at literal) one_more ∙ none_of_more literal first_ones b apart none) in (
          λ e.
              let h = old.0 (sym (settles.others literal number apart) ∙ e) in
              credited_too before after literal number (same h.body h.is_there) h,
          λ h.
              settles.others literal number apart
              ∙ old.1 (credited_too after before literal number (sym (same h.body h.is_there)) h),
        )
      where
        same : (x : BodyPlace) → body_at literal (bodies_of seen) ≡ Some x → begun_after literal before ≡ begun_after literal after
        same x is = same_behind before after b.at settles.others literal (is_behind seen i b is_there literal x none is)

    pub next_found : AreFoundBut seen first_ones after
    next_found = record { each = λ literal number. by literal number (nat_eq b.at literal) refl }
      where
        by : (literal number : ℕ) (t : Bool) → nat_eq b.at literal ≡ t → body_at literal first_ones ≡ None
            → (after literal number ≡ true) ↔ IsCredited seen after literal number
        by literal number true e =
            subst (λ l. body_at l first_ones ≡ None → (after l number ≡ true) ↔ IsCredited seen after l number)
            ((Decides-eqb b.at literal).0 e) (there number)
        by literal number false e = elsewhere literal number e

  pub none_yet : (credits : Credits) → ((literal number : ℕ) → credits literal number ≡ false)
      → (count : ℕ) → length (bodies_of seen) ≤ count
      → AreFoundBut seen (take count (bodies_of seen)) credits
  none_yet credits none count all = record {
    each = λ literal number is_none. (
      λ e. absurd (true≢false (sym e ∙ none literal number)),
      λ h. absurd (none-some h.body
          (sym (ap (body_at literal) (sym (take_all count (bodies_of seen) all)) ∙ is_none) ∙ h.is_there)),
    );
  }
