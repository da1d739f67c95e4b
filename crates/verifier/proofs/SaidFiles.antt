-- What is said of files that are gone over one after the other.
use Rattle.std.proofs.Common.{◌≡◌, ℕ, zero, suc, ◌+◌, ◌<◌, ◌≤◌, ◌⊎◌, inl, inr, Bool, List, [], ◌∷◌, ◌++◌, map, take, length, Contains, Some, refl, sym, ap, ◌∙◌, subst, arith}
use Rattle.std.specs.Prelude.{◌↔◌, slice_get}
use Rattle.std.proofs.lemmas.List.{length-map, length-take-le, take_all, take_more}
use Rattle.std.proofs.lemmas.Option.{none-some, get_or_from_slice_get, slice_get_within}
use Rattle.silent_files.proofs.OneMore.{last_or_before}
use Rattle.meaning.proofs.Membership.{contains_nil}
use Rattle.meaning.specs.Uses.{Callee, Seen}
use Rattle.meaning_packages.specs.CallsFlags.{Flags, FileWithCredits}
use Rattle.report.specs.Entries.{Entry, entry_of}
use Rattle.report.specs.declared.diagnostics.Diagnostic.{Diagnostic}
use Rattle.verifier.specs.FoundBodies.{with_table}
use Rattle.verifier.specs.SaidEntries.{SaysAll, IsSaidIn, AreSaid}
use Rattle.verifier.specs.Verified.{Given, AreGivenCredits, IsSaid}

-- A list with one element more

module _ {X : Type 0} where
  there_still : (xs : List X) (y : X) (i : ℕ) (z : X) → slice_get xs i ≡ Some z → slice_get (xs ++ y ∷ []) i ≡ Some z
  there_still [] y i z e = absurd (none-some z e)
  there_still (x ∷ xs) y zero z e = e
  there_still (x ∷ xs) y (suc i) z e = there_still xs y i z e

  last_there : (xs : List X) (y : X) → slice_get (xs ++ y ∷ []) (length xs) ≡ Some y
  last_there [] y = refl
  last_there (x ∷ xs) y = last_there xs y

map_more : (files : List FileWithCredits) (f : FileWithCredits)
    → map (λ (g : FileWithCredits). g.seen) (files ++ f ∷ [])
    ≡ map (λ (g : FileWithCredits). g.seen) files ++ f.seen ∷ []
map_more [] f = refl
map_more (g ∷ gs) f = ap (λ seens. g.seen ∷ seens) (map_more gs f)

module _ (given : Given) (own : Flags) (calls : Callee → ℕ → Bool) where
  pub none_said : (seens : List Seen) (said : List Diagnostic) → said ≡ []
      → AreSaid given own calls (take 0 seens) said
  none_said seens said none = record {
    files = [];
    are_seen = no_take seens;
    are_credits = λ number file is. absurd (none-some file is);
    each = λ x. (
      λ h. absurd (contains_nil x (subst (λ ds. Contains (map entry_of ds) x) none h)),
      λ h. absurd (none-some h.file h.is_file),
    );
  }
    where
      no_take : (seens : List Seen) → [] ≡ take 0 seens
      no_take [] = refl
      no_take (s ∷ ss) = refl

  -- the next file
  module _ (seens : List Seen) (n : ℕ) (seen : Seen) (is_seen : slice_get seens n ≡ Some seen)
      (said said_then : List Diagnostic) (so_far : AreSaid given own calls (take n seens) said)
      (says : SaysAll given own calls n seen said said_then) where
    abbrev file : FileWithCredits
    file = with_table seen says.credits

    size : length so_far.files ≡ n
    size =
        let within : n < length seens = slice_get_within seens n seen is_seen in
        let many = length-map so_far.files (λ (g : FileWithCredits). g.seen) in
        let same = ap length so_far.are_seen in
        let taken = length-take-le n seens (omega (arith, within)) in
        omega (arith, many, same, taken)

    next_seen : map (λ (g : FileWithCredits). g.seen) (so_far.files ++ file ∷ []) ≡ take (n + 1) seens
    next_seen =
        map_more so_far.files file
        ∙ (ap (λ ss. ss ++ seen ∷ []) so_far.are_seen
        ∙ sym (take_more seens n seen (slice_get_within seens n seen is_seen)
        ∙ ap (λ s. take n seens ++ s ∷ []) (get_or_from_slice_get seens n seen seen is_seen)))

    next_credits : (number : ℕ) (f : FileWithCredits) → slice_get (so_far.files ++ file ∷ []) number ≡ Some f
        → AreGivenCredits given own calls number f
    next_credits number f is = elim (last_or_before so_far.files file number f is) [
      | inl before ↦ so_far.are_credits number f before
      | inr last ↦
          subst (λ k. AreGivenCredits given own calls k f) (sym (last.0 ∙ size))
          (subst (AreGivenCredits given own calls n) last.1 says.are_given)
    ]

    entries_so : (x : Entry)
        → (IsSaidIn given own calls so_far.files x ⊎ IsSaid given own calls n file x)
        ↔ IsSaidIn given own calls (so_far.files ++ file ∷ []) x
    entries_so x = (
      λ h. elim h [
        | inl old ↦ record {
          number = old.number;
          file = old.file;
          is_file = there_still so_far.files file old.number old.file old.is_file;
          is_said = old.is_said;
        }
        | inr new ↦ record {
          number = length so_far.files;
          file = file;
          is_file = last_there so_far.files file;
          is_said = subst (λ k. IsSaid given own calls k file x) (sym size) new;
        }
      ],
      λ h. elim (last_or_before so_far.files file h.number h.file h.is_file) [
        | inl before ↦ inl (record { number = h.number; file = h.file; is_file = before; is_said = h.is_said })
        | inr last ↦
            inr (subst (λ k. IsSaid given own calls k file x) (last.0 ∙ size)
            (subst (λ f. IsSaid given own calls h.number f x) (sym last.1) h.is_said))
      ],
    )

    pub next_said : AreSaid given own calls (take (n + 1) seens) said_then
    next_said = record {
      files = so_far.files ++ file ∷ [];
      are_seen = next_seen;
      are_credits = next_credits;
      each = λ x. (
        λ h. (entries_so x).0 (elim ((says.adds x).0 h) [ inl old ↦ inl ((so_far.each x).0 old) | inr new ↦ inr new ]),
        λ h. (says.adds x).1 (elim ((entries_so x).1 h) [ inl old ↦ inl ((so_far.each x).1 old) | inr new ↦ inr new ]),
      );
    }

  pub all_said : (seens : List Seen) (n : ℕ) (said : List Diagnostic) → length seens ≤ n
      → AreSaid given own calls (take n seens) said
      → AreSaid given own calls seens said
  all_said seens n said past h = subst (λ ss. AreSaid given own calls ss said) (take_all n seens past) h
