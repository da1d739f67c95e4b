-- Certificates are looked at from the last body of a file to the first: what is found of a body stays, since it relies
-- only on the literals after it.
use Rattle.std.proofs.Common.{◌≡◌, ℕ, zero, suc, ◌+◌, ◌≤◌, ◌⊎◌, inl, inr, Bool, true, false, List, [], ◌∷◌, ◌++◌, take, drop, length, Contains, Some, None, nat_eq, refl, sym, ap, ◌∙◌, subst, arith}
use Rattle.std.specs.Prelude.{◌↔◌, slice_get}
use Rattle.std.proofs.lemmas.Bool.{ne_eqb, true≢false}
use Rattle.std.proofs.lemmas.Bool.Decides.{Decides-eqb}
use Rattle.std.proofs.lemmas.List.{take_all, take_more, drop_all, drop_more}
use Rattle.std.proofs.lemmas.Option.{none-some, same_Some, get_or_from_slice_get, slice_get_within}
use Rattle.credits.proofs.BodiesByPlace.{none_of_more, is_first, is_behind}
use Rattle.findings.proofs.FoundParts.{adds_so, adds_none, adds_both, first_body, no_body}
use Rattle.findings.specs.FoundEntries.{AddsEntries}
use Rattle.meaning.specs.BodyEvents.{bodies_of, opened_in}
use Rattle.meaning.specs.Mentions.{BodyPlace}
use Rattle.meaning.specs.Uses.{Callee, Seen}
use Rattle.meaning_packages.proofs.BodyPlaces.{AreInPlace, are_in_place}
use Rattle.meaning_packages.specs.CallsFlags.{Flags}
use Rattle.meaning_packages.specs.Credits.{body_at, Credits, begun_after}
use Rattle.meaning_reports.proofs.OneAnswer.{same_behind}
use Rattle.report.specs.Entries.{Entry}
use Rattle.report.specs.declared.diagnostics.Diagnostic.{Diagnostic}
use Rattle.verifier.proofs.OneVerified.{certified_too, credited_too}
use Rattle.verifier.specs.FoundBodies.{with_table, IsUncertified, IsUncertifiedIn, FindsBody, AreFoundBut}
use Rattle.verifier.specs.Verified.{Given, IsReliedOnBy, IsCreditedBy, AreGivenCredits}

-- what stands behind a body begins at or behind it
not_before : (bs : List BodyPlace) → AreInPlace bs → (i : ℕ) (b : BodyPlace) → slice_get bs i ≡ Some b
    → (c : BodyPlace) → Contains (drop (suc i) bs) c
    → b.at ≤ c.at
not_before [] h i b is c among = absurd (none-some b is)
not_before (x ∷ xs) h zero b is c among = subst (λ (y : BodyPlace). y.at ≤ c.at) (same_Some x b is) (h.0 c among)
not_before (x ∷ xs) h (suc i) b is c among = not_before xs h.1 i b is c among

module _ (given : Given) (own : Flags) (calls : Callee → ℕ → Bool) (number : ℕ) (seen : Seen) where
  abbrev IsNot : Credits → BodyPlace → Entry → Type 0
  IsNot credits = IsUncertified given own calls number (with_table seen credits)

  abbrev AreNot : Credits → List BodyPlace → Entry → Type 0
  AreNot credits = IsUncertifiedIn given own calls number (with_table seen credits)

  agree_behind : (before after : Credits) (at : ℕ)
      → ((other variable : ℕ) → nat_eq at other ≡ false → after other variable ≡ before other variable)
      → (literal : ℕ) → at ≤ literal → begun_after literal before ≡ begun_after literal after
  agree_behind before after at others literal l =
      same_behind before after literal λ later variable below.
      sym (others later variable (ne_eqb at later λ same. omega (arith, l, below, same)))

  uncertified_too : (before after : Credits) (b : BodyPlace) (x : Entry)
      → begun_after b.at before ≡ begun_after b.at after
      → IsNot before b x
      → IsNot after b x
  uncertified_too before after b x same h = record {
    is_followed = h.is_followed;
    is_not = λ c. h.is_not (certified_too given own calls number seen after before b (sym same) c);
    is_entry = h.is_entry;
  }

  all_uncertified_too : (before after : Credits) (bodies : List BodyPlace) (x : Entry)
      → ((c : BodyPlace) → Contains bodies c → begun_after c.at before ≡ begun_after c.at after)
      → AreNot before bodies x
      → AreNot after bodies x
  all_uncertified_too before after bodies x same h = record {
    body = h.body;
    is_there = h.is_there;
    is_entry = uncertified_too before after h.body x (same h.body h.is_there) h.is_entry;
  }

  -- the next body, from the last on
  module _ (i : ℕ) (b : BodyPlace) (is_there : slice_get (bodies_of seen) i ≡ Some b) (before after : Credits)
      (first said said_then : List Diagnostic)
      (finds : FindsBody given own calls number seen b before after said said_then)
      (so_far : AreFoundBut given own calls number seen (i + 1) before first said) where
    abbrev first_ones : List BodyPlace
    first_ones = take i (bodies_of seen)

    one_more : take (i + 1) (bodies_of seen) ≡ first_ones ++ b ∷ []
    one_more =
        take_more (bodies_of seen) i b (slice_get_within (bodies_of seen) i b is_there)
        ∙ ap (λ x. first_ones ++ x ∷ []) (get_or_from_slice_get (bodies_of seen) i b b is_there)

    this_and_rest : drop i (bodies_of seen) ≡ b ∷ drop (i + 1) (bodies_of seen)
    this_and_rest =
        drop_more (bodies_of seen) i b (slice_get_within (bodies_of seen) i b is_there)
        ∙ ap (λ x. x ∷ drop (i + 1) (bodies_of seen)) (get_or_from_slice_get (bodies_of seen) i b b is_there)

    agree : (literal : ℕ) → b.at ≤ literal → begun_after literal before ≡ begun_after literal after
    agree = agree_behind before after b.at finds.others

    there : (variable : ℕ) → body_at b.at first_ones ≡ None
        → (after b.at variable ≡ true) ↔ IsCreditedBy given own calls number (with_table seen after) b.at variable
    there variable none =
        let same = agree b.at (omega arith) in
        let first_there = is_first seen i b is_there none in (
          λ e.
              credited_too given own calls number seen before after b.at variable same
              (record { body = b; is_there = first_there; relied = (finds.there variable).0 e }),
          λ h.
              let k = credited_too given own calls number seen after before b.at variable (sym same) h in
              (finds.there variable).1
              (subst (λ x. IsReliedOnBy given own calls number (with_table seen before) x variable)
              (same_Some k.body b (sym k.is_there ∙ first_there)) k.relied),
        )

    elsewhere : (literal variable : ℕ) → nat_eq b.at literal ≡ false → body_at literal first_ones ≡ None
        → (after literal variable ≡ true)
        ↔ IsCreditedBy given own calls number (with_table seen after) literal variable
    elsewhere literal variable apart none =
        let old = so_far.each literal variable
        (ap (body_at literal) one_more ∙ none_of_more literal first_ones b apart none) in (
          λ e.
              let h = old.0 (sym (finds.others literal variable apart) ∙ e) in
              credited_too given own calls number seen before after literal variable (same h.body h.is_there) h,
          λ h.
              finds.others literal variable apart
              ∙ old.1 (credited_too given own calls number seen after before literal variable
              (sym (same h.body h.is_there)) h),
        )
      where
        same : (x : BodyPlace) → body_at literal (bodies_of seen) ≡ Some x
            → begun_after literal before ≡ begun_after literal after
        same x is = agree literal (is_behind seen i b is_there literal x none is)

    behind : (c : BodyPlace) → Contains (drop (i + 1) (bodies_of seen)) c
        → begun_after c.at before ≡ begun_after c.at after
    behind c among =
        let one_more : i + 1 ≡ suc i = omega arith in
        agree c.at (not_before (bodies_of seen) (are_in_place (opened_in seen.marks)) i b is_there c
        (subst (λ n. Contains (drop n (bodies_of seen)) c) one_more among))

    entries_so : (x : Entry) → (AreNot before (drop (i + 1) (bodies_of seen)) x ⊎ IsNot before b x)
        ↔ AreNot after (drop i (bodies_of seen)) x
    entries_so x =
        let rest = drop (i + 1) (bodies_of seen) in
        let one_and_rest = first_body (IsNot after) b rest (drop i (bodies_of seen)) this_and_rest x in
        let here = agree b.at (omega arith) in (
          λ h. one_and_rest.0 (elim h [
            | inl old ↦ inr (all_uncertified_too before after rest x behind old)
            | inr new ↦ inl (uncertified_too before after b x here new)
          ]),
          λ h. elim (one_and_rest.1 h) [
            | inl one ↦ inr (uncertified_too after before b x (sym here) one)
            | inr later ↦ inl (all_uncertified_too after before rest x (λ c k. sym (behind c k)) later)
          ],
        )

    pub next_found : AreFoundBut given own calls number seen i after first said_then
    next_found = record {
      each = λ literal variable. by literal variable (nat_eq b.at literal) refl;
      entries =
          adds_so first said_then (λ x. AreNot before (drop (i + 1) (bodies_of seen)) x ⊎ IsNot before b x)
          (AreNot after (drop i (bodies_of seen))) entries_so
          (adds_both first said said_then (AreNot before (drop (i + 1) (bodies_of seen))) (IsNot before b)
          so_far.entries finds.entries);
    }
      where
        by : (literal variable : ℕ) (t : Bool) → nat_eq b.at literal ≡ t → body_at literal first_ones ≡ None
            → (after literal variable ≡ true)
            ↔ IsCreditedBy given own calls number (with_table seen after) literal variable
        by literal variable true e =
            subst (λ l. body_at l first_ones ≡ None → (after l variable ≡ true)
            ↔ IsCreditedBy given own calls number (with_table seen after) l variable)
            ((Decides-eqb b.at literal).0 e) (there variable)
        by literal variable false e = elsewhere literal variable e

  pub none_yet : (credits : Credits) → ((literal variable : ℕ) → credits literal variable ≡ false)
      → (count : ℕ) → length (bodies_of seen) ≤ count
      → (said : List Diagnostic)
      → AreFoundBut given own calls number seen count credits said said
  none_yet credits none count all said = record {
    each = λ literal variable is_none. (
      λ e. absurd (true≢false (sym e ∙ none literal variable)),
      λ h. absurd (none-some h.body
          (sym (ap (body_at literal) (sym (take_all count (bodies_of seen) all)) ∙ is_none) ∙ h.is_there)),
    );
    entries =
        adds_none said (AreNot credits (drop count (bodies_of seen)))
        (no_body (IsNot credits) (drop count (bodies_of seen)) (drop_all count (bodies_of seen) all));
  }

  -- where no body is left
  module _ (left : ℕ) (credits : Credits) (first said : List Diagnostic) (none_left : left ≡ 0)
      (found : AreFoundBut given own calls number seen left credits first said) where
    at_start : AreFoundBut given own calls number seen 0 credits first said
    at_start = subst (λ n. AreFoundBut given own calls number seen n credits first said) none_left found

    nothing_before : (literal : ℕ) (bs : List BodyPlace) → body_at literal (take 0 bs) ≡ None
    nothing_before literal [] = refl
    nothing_before literal (b ∷ bs) = refl

    all_behind : (bs : List BodyPlace) → drop 0 bs ≡ bs
    all_behind [] = refl
    all_behind (b ∷ bs) = refl

    pub all_given : AreGivenCredits given own calls number (with_table seen credits)
    all_given literal variable = at_start.each literal variable (nothing_before literal (bodies_of seen))

    pub all_entries : AddsEntries first said (AreNot credits (bodies_of seen))
    all_entries = subst (λ bs. AddsEntries first said (AreNot credits bs)) (all_behind (bodies_of seen)) at_start.entries
