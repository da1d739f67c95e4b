-- What the program finds of the certificates of a file's bodies: one body after the other, the last first.
use Rattle.std.specs.Prelude.{ℕ, ◌≡◌, ◌↔◌, Bool, true, false, List, [], take, drop, Option, Some, None, nat_eq}
use Rattle.credits.specs.CreditViews.{is_among}
use Rattle.findings.specs.FoundEntries.{AddsEntries, IsOfBodies}
use Rattle.meaning.specs.BodyEvents.{bodies_of, unfollowed_faults}
use Rattle.meaning.specs.Mentions.{BodyPlace}
use Rattle.meaning.specs.Uses.{Callee, Seen}
use Rattle.meaning_packages.specs.CallsFlags.{Flags, FileWithCredits}
use Rattle.meaning_packages.specs.Credits.{Credits, body_at}
use Rattle.report.specs.Entries.{Entry}
use Rattle.report.specs.declared.diagnostics.Diagnostic.{Diagnostic}
use Rattle.verifier.specs.Verified.{Given, IsCertified, SettlesBy, IsReliedOnBy, IsCreditedBy, uncertified_entry}

-- the file that was seen so, with these credits
abbrev pub with_table : Seen → Credits → FileWithCredits
with_table seen credits = record { seen = seen; credits = credits }

module _ (given : Given) (own : Flags) (calls : Callee → ℕ → Bool) (number : ℕ) (file : FileWithCredits) where
  -- what is found of a body: nothing where it is not certified, or else the numbers of the variables that it settles
  abbrev pub IsFound : BodyPlace → Option (List ℕ) → Type 0
  IsFound b None = IsCertified given own calls number file b → ⊥
  IsFound b (Some settled) =
      IsCertified given own calls number file b
      × ((variable : ℕ) → (is_among settled variable ≡ true) ↔ SettlesBy given own calls number file b variable)

  -- the same of those for which it is relied on
  abbrev pub IsFoundReliedOn : BodyPlace → Option (List ℕ) → Type 0
  IsFoundReliedOn b None = IsCertified given own calls number file b → ⊥
  IsFoundReliedOn b (Some relied) =
      IsCertified given own calls number file b
      × ((variable : ℕ) → (is_among relied variable ≡ true) ↔ IsReliedOnBy given own calls number file b variable)

  -- it is said of the body that it has no certificate that holds
  pub record IsUncertified (b : BodyPlace) (x : Entry) : Type 0 where
    pub is_followed : unfollowed_faults file.seen b ≡ []
    pub is_not : IsCertified given own calls number file b → ⊥
    pub is_entry : x ≡ uncertified_entry number b

  -- of one of these bodies
  abbrev pub IsUncertifiedIn : List BodyPlace → Entry → Type 0
  IsUncertifiedIn = IsOfBodies IsUncertified

module _ (given : Given) (own : Flags) (calls : Callee → ℕ → Bool) (number : ℕ) (seen : Seen) where
  -- what the body is relied on for is told of its offset, and nothing changes elsewhere; and it is said if it is not
  -- certified
  pub record FindsBody (b : BodyPlace) (before after : Credits) (said said_then : List Diagnostic) : Type 0 where
    pub there : (variable : ℕ)
        → (after b.at variable ≡ true) ↔ IsReliedOnBy given own calls number (with_table seen before) b variable
    pub others : (other variable : ℕ) → nat_eq b.at other ≡ false → after other variable ≡ before other variable
    pub entries : AddsEntries said said_then (IsUncertified given own calls number (with_table seen before) b)

  -- so it was of all bodies but so many of the first ones
  pub record AreFoundBut (left : ℕ) (credits : Credits) (said said_then : List Diagnostic) : Type 0 where
    pub each : (literal variable : ℕ)
        → body_at literal (take left (bodies_of seen)) ≡ None
        → (credits literal variable ≡ true)
        ↔ IsCreditedBy given own calls number (with_table seen credits) literal variable
    pub entries : AddsEntries said said_then
        (IsUncertifiedIn given own calls number (with_table seen credits) (drop left (bodies_of seen)))
