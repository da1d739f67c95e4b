-- What is said of a body and of a file, part by part.
use Rattle.std.proofs.Common.{◌≡◌, ℕ, ◌⊎◌, inl, inr, Bool, true, false, List, [], ◌∷◌, ◌++◌, map, length, Contains, Some, None, refl, sym, ap, ◌∙◌, subst}
use Rattle.std.specs.Prelude.{◌↔◌, ◌==◌, not}
use Rattle.std.proofs.lemmas.Bool.{false≢true}
use Rattle.std.proofs.lemmas.Bool.Decides.{Decides-eqb}
use Rattle.std.proofs.lemmas.List.{nil_from_length}
use Rattle.bodies.specs.Bodies.{TellsBody, is_unfollowed}
use Rattle.bodies.specs.declared.body.Body.{Body as KeptBody}
use Rattle.credits.specs.CreditViews.{has, is_among, SettlesThese}
use Rattle.credits.specs.declared.table.Credits.{Credits as KeptCredits}
use Rattle.findings.proofs.FoundParts.{adds_list, adds_so, adds_none, adds_both}
use Rattle.findings.specs.FoundEntries.{use_entries, AddsEntries, IsPassEntry}
use Rattle.meaning.proofs.Membership.{contains_nil, contains_here, contains_cases, contains_map, contains_unmap}
use Rattle.meaning.specs.BodyEvents.{bodies_of, unfollowed_faults, outer_faults, body_faults}
use Rattle.meaning.specs.Mentions.{BodyPlace}
use Rattle.meaning.specs.Uses.{Callee, Seen}
use Rattle.meaning_packages.specs.CallsFlags.{Flags, FileWithCredits}
use Rattle.meaning_packages.specs.Credits.{Credits}
use Rattle.meaning_reports.specs.PackageReports.{use_entry}
use Rattle.mentions.specs.MarkViews.{body_view}
use Rattle.report.specs.Entries.{Entry, entry_of}
use Rattle.report.specs.declared.diagnostics.Diagnostic.{Diagnostic}
use Rattle.verifier.specs.FoundBodies.{with_table, IsFoundReliedOn, IsUncertified, IsUncertifiedIn, FindsBody}
use Rattle.verifier.specs.SaidEntries.{uncertified_entries, IsUseOrPassIn, SaysAll}
use Rattle.verifier.specs.Verified.{Given, IsCertified, AreGivenCredits, IsSaid, outside_bodies, of_use, of_pass, not_certified, uncertified_entry}

-- A body

followed_not : (seen : Seen) (b : BodyPlace) → unfollowed_faults seen b ≡ [] → is_unfollowed seen b ≡ false
followed_not seen b followed = ap (λ fs. not (length fs == 0)) followed

pub followed_so : (seen : Seen) (b : BodyPlace) → is_unfollowed seen b ≡ false → unfollowed_faults seen b ≡ []
followed_so seen b e =
    nil_from_length (unfollowed_faults seen b)
    ((Decides-eqb (length (unfollowed_faults seen b)) 0).0 (not_not (length (unfollowed_faults seen b) == 0) e))
  where
    not_not : (t : Bool) → not t ≡ false → t ≡ true
    not_not true e = refl
    not_not false e = absurd (false≢true (sym e))

only_one : {A : Type 0} (x y : A) → Contains (x ∷ []) y → x ≡ y
only_one x y h = elim (contains_cases x y [] h) [ inl same ↦ same | inr bad ↦ absurd (contains_nil y bad) ]

module _ (given : Given) (own : Flags) (calls : Callee → ℕ → Bool) (number : ℕ) (seen : Seen) (b : BodyPlace)
    (body : KeptBody) (tells : TellsBody number seen b body) where
  -- that it has no certificate is added, if its paths are followed
  uncertified_so : (file : FileWithCredits) → file.seen ≡ seen → (IsCertified given own calls number file b → ⊥)
      → (x : Entry) → Contains (uncertified_entries body.is_unfollowed body.file (body_view body.place)) x
      ↔ IsUncertified given own calls number file b x
  uncertified_so file same none x =
      subst (λ es. Contains es x ↔ IsUncertified given own calls number file b x) (sym moved) (by (is_unfollowed file.seen b) refl)
    where
      unfollowed : body.is_unfollowed ≡ is_unfollowed file.seen b
      unfollowed = tells.unfollowed ∙ ap (λ s. is_unfollowed s b) (sym same)

      moved : uncertified_entries body.is_unfollowed body.file (body_view body.place)
          ≡ uncertified_entries (is_unfollowed file.seen b) number b
      moved = λ i. uncertified_entries (unfollowed i) (tells.is_file i) (tells.is_place i)

      by : (t : Bool) → is_unfollowed file.seen b ≡ t
          → Contains (uncertified_entries t number b) x ↔ IsUncertified given own calls number file b x
      by true e = (
        λ h. absurd (contains_nil x h),
        λ h. absurd (false≢true (sym (followed_not file.seen b h.is_followed) ∙ e)),
      )
      by false e = (
        λ h. record {
          is_followed = followed_so file.seen b e;
          is_not = none;
          is_entry = sym (only_one (uncertified_entry number b) x h);
        },
        λ h. subst (Contains (uncertified_entry number b ∷ [])) (sym h.is_entry) (contains_here (uncertified_entry number b) []),
      )

  module _ (before after : KeptCredits) (numbers : List ℕ) (these : SettlesThese body.place.at numbers before after)
      (said : List Diagnostic) where
    its_these : SettlesThese b.at numbers before after
    its_these = subst (λ (p : BodyPlace). SettlesThese p.at numbers before after) tells.is_place these

    pub found_some : IsFoundReliedOn given own calls number (with_table seen (has before)) b (Some numbers)
        → FindsBody given own calls number seen b (has before) (has after) said said
    found_some found = record {
      there = λ variable. (
        λ e. (found.1 variable).0 (sym (its_these.there variable) ∙ e),
        λ h. its_these.there variable ∙ (found.1 variable).1 h,
      );
      others = its_these.others;
      entries = adds_none said _ λ x h. h.is_not found.0;
    }

    pub found_none : (said_then : List Diagnostic) → numbers ≡ []
        → map entry_of said_then
        ≡ map entry_of said ++ uncertified_entries body.is_unfollowed body.file (body_view body.place)
        → IsFoundReliedOn given own calls number (with_table seen (has before)) b None
        → FindsBody given own calls number seen b (has before) (has after) said said_then
    found_none said_then no_number added none = record {
      there = λ variable. (
        λ e. absurd (false≢true (ap (λ ns. is_among ns variable) (sym no_number) ∙ (sym (its_these.there variable) ∙ e))),
        λ h. absurd (none h.settles.certified),
      );
      others = its_these.others;
      entries =
          adds_so said said_then (Contains (uncertified_entries body.is_unfollowed body.file (body_view body.place)))
          (IsUncertified given own calls number (with_table seen (has before)) b)
          (uncertified_so (with_table seen (has before)) refl none)
          (adds_list said said_then (uncertified_entries body.is_unfollowed body.file (body_view body.place)) added);
    }

-- A file

module _ (given : Given) (own : Flags) (calls : Callee → ℕ → Bool) (number : ℕ) (file : FileWithCredits) where
  abbrev OneOfAll : Entry → Type 0
  OneOfAll x =
      (IsUncertifiedIn given own calls number file (bodies_of file.seen) x
      ⊎ Contains (use_entries number (outer_faults file.seen)) x)
      ⊎ IsUseOrPassIn calls number file (bodies_of file.seen) x

  use_there : (b : BodyPlace) (x : Entry) → Contains (bodies_of file.seen) b
      → Contains (use_entries number (body_faults file.seen b.at)) x
      → IsSaid given own calls number file x
  use_there b x there h =
      let w = contains_unmap (use_entry number) (body_faults file.seen b.at) x h in
      subst (IsSaid given own calls number file) w.2 (of_use b w.0 there w.1)

  pass_there : (b : BodyPlace) (x : Entry) → Contains (bodies_of file.seen) b → IsPassEntry calls number file b x
      → IsSaid given own calls number file x
  pass_there b x there h = subst (IsSaid given own calls number file) (sym h.is_entry) (of_pass b h.fault there h.is_fault)

  is_said : (x : Entry) → OneOfAll x → IsSaid given own calls number file x
  is_said x (inl (inl h)) =
      subst (IsSaid given own calls number file) (sym h.is_entry.is_entry)
      (not_certified h.body h.is_there h.is_entry.is_followed h.is_entry.is_not)
  is_said x (inl (inr h)) =
      let w = contains_unmap (use_entry number) (outer_faults file.seen) x h in
      subst (IsSaid given own calls number file) w.2 (outside_bodies w.0 w.1)
  is_said x (inr h) = elim h.is_entry [
    | inl of_body ↦ use_there h.body x h.is_there of_body
    | inr pass ↦ pass_there h.body x h.is_there pass
  ]

  one_of_all : (x : Entry) → IsSaid given own calls number file x → OneOfAll x
  one_of_all x (outside_bodies f h) = inl (inr (contains_map (use_entry number) (outer_faults file.seen) f h))
  one_of_all x (of_use b f there h) =
      inr (record {
        body = b;
        is_there = there;
        is_entry = inl (contains_map (use_entry number) (body_faults file.seen b.at) f h);
      })
  one_of_all x (of_pass b f there h) =
      inr (record {
        body = b;
        is_there = there;
        is_entry = inr (record { fault = f; is_fault = h; is_entry = refl });
      })
  one_of_all x (not_certified b there followed none) =
      inl (inl (record {
        body = b;
        is_there = there;
        is_entry = record { is_followed = followed; is_not = none; is_entry = refl };
      }))

  said_so : (x : Entry) → OneOfAll x ↔ IsSaid given own calls number file x
  said_so x = (is_said x, one_of_all x)

pub says_all : (given : Given) (own : Flags) (calls : Callee → ℕ → Bool) (number : ℕ) (seen : Seen) (credits : Credits)
    (before certified outer after : List Diagnostic)
    → AreGivenCredits given own calls number (with_table seen credits)
    → AddsEntries before certified
    (IsUncertifiedIn given own calls number (with_table seen credits) (bodies_of seen))
    → map entry_of outer ≡ map entry_of certified ++ use_entries number (outer_faults seen)
    → AddsEntries outer after (IsUseOrPassIn calls number (with_table seen credits) (bodies_of seen))
    → SaysAll given own calls number seen before after
says_all given own calls number seen credits before certified outer after are_given uncertified added others = record {
  credits = credits;
  are_given = are_given;
  adds =
      adds_so before after (OneOfAll given own calls number file) (IsSaid given own calls number file)
      (said_so given own calls number file)
      (adds_both before outer after
      (λ x. IsUncertifiedIn given own calls number file (bodies_of seen) x
      ⊎ Contains (use_entries number (outer_faults seen)) x)
      (IsUseOrPassIn calls number file (bodies_of seen))
      (adds_both before certified outer (IsUncertifiedIn given own calls number file (bodies_of seen))
      (Contains (use_entries number (outer_faults seen))) uncertified
      (adds_list certified outer (use_entries number (outer_faults seen)) added))
      others);
}
  where
    file : FileWithCredits
    file = with_table seen credits
