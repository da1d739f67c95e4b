-- There is one answer by certificates: which flags are claimed is seen in the files, and then each file has one table of
-- credits, since a literal relies only on those that begin after it.
use Rattle.std.proofs.Common.{◌≡◌, ℕ, suc, ◌+◌, Bool, true, false, if◌then◌else◌, List, [], ◌∷◌, map, Some, Contains, refl, sym, ap, ◌∙◌, subst, arith}
use Rattle.std.specs.Prelude.{◌==◌, slice_get}
use Rattle.std.proofs.lemmas.Bool.Decides.{Decides-eqb}
use Rattle.checker.specs.Certificates.{Holds}
use Rattle.meaning.proofs.Membership.{contains_map, contains_unmap}
use Rattle.meaning.specs.BodyEvents.{bodies_of}
use Rattle.meaning.specs.Mentions.{BodyPlace}
use Rattle.meaning.specs.FunctionFacts.{cancel_type}
use Rattle.meaning.specs.Uses.{Callee, Seen, facts_take_type}
use Rattle.meaning_packages.specs.CallsFlags.{Flags, ComesBackBy, FileWithCredits, IsClaim, calls_by}
use Rattle.meaning_packages.specs.Credits.{body_at, Credits, begun_after}
use Rattle.meaning_packages.specs.PathFaults.{paths_of}
use Rattle.meaning_reports.proofs.OneAnswer.{same_test, one_table_by}
use Rattle.meaning_reports.proofs.OneReport.{seen_by}
use Rattle.meaning_reports.specs.Loaded.{LoadedPackage, Tables, imported_flags, seen_files}
use Rattle.verifier.specs.Rules.{GivenByPath, IsVerified}
use Rattle.verifier.specs.FoundBodies.{with_table}
use Rattle.verifier.specs.Verified.{Given, nothing_known, IsClaimed, AreClaimed, flags_of_body, checked, IsCertified, SettlesBy, IsCreditedBy, AreGivenCredits}
use Rattle.verifier.specs.VerifierLaws.{FlagsAreDetermined}

-- Flags

abbrev pub seen_of : List FileWithCredits → List Seen
seen_of files = map (λ (f : FileWithCredits). f.seen) files

-- what is claimed is seen in the files, whatever their credits are
pub claimed_too : (files others : List FileWithCredits) → seen_of files ≡ seen_of others → (given : Given)
    → (name : List ℕ) (k : ℕ) → IsClaimed files given name k
    → IsClaimed others given name k
claimed_too files others same given name k h =
    let among = contains_map (λ (f : FileWithCredits). f.seen) files h.file h.is_of_package in
    let w = contains_unmap (λ (f : FileWithCredits). f.seen) others h.file.seen (subst (λ xs. Contains xs h.file.seen) same among) in
    record {
      file = w.0;
      body = h.body;
      variable = h.variable;
      type = h.type;
      is_of_package = w.1;
      is_claim = subst (λ seen. IsClaim seen h.body h.variable name k) (sym w.2) h.is_claim;
      is_given = h.is_given;
      has_its_type = ap (λ (seen : Seen). facts_take_type (cancel_type h.type) k (seen.known.functions name)) w.2 ∙ h.has_its_type;
      comes_back = subst (λ (seen : Seen). ComesBackBy seen.known.edition (paths_of seen nothing_known h.body)) (sym w.2)
          h.comes_back;
    }

pub one_claimed : (files others : List FileWithCredits) → seen_of files ≡ seen_of others → (given : Given)
    → (flags more : Flags) → AreClaimed files given flags → AreClaimed others given more
    → flags ≡ more
one_claimed files others same given flags more are too = λ i name k.
    same_test (flags name k) (more name k)
    (λ e. (too name k).1 (claimed_too files others same given name k ((are name k).0 e)))
    (λ e. (are name k).1 (claimed_too others files (sym same) given name k ((too name k).0 e))) i

-- Credits

pub at_its_offset : (at : ℕ) (bs : List BodyPlace) (b : BodyPlace) → body_at at bs ≡ Some b → b.at ≡ at
at_its_offset at [] b e = cc
at_its_offset at (x ∷ bs) b e = by (x.at == at) (Decides-eqb x.at at).0 (at_its_offset at bs b) e
  where
    by : (t : Bool) → (t ≡ true → x.at ≡ at) → (body_at at bs ≡ Some b → b.at ≡ at)
        → (if t then Some x else body_at at bs) ≡ Some b
        → b.at ≡ at
    by true same rest is = let it : x ≡ b = cc in ap (λ y. y.at) (sym it) ∙ same refl
    by false same rest is = rest is

module _ (given : Given) (own : Flags) (calls : Callee → ℕ → Bool) (number : ℕ) (seen : Seen) where
  -- what certifies a body lies after it
  pub certified_too : (one other : Credits) (b : BodyPlace) → begun_after b.at one ≡ begun_after b.at other
      → IsCertified given own calls number (with_table seen one) b
      → IsCertified given own calls number (with_table seen other) b
  certified_too one other b same h = record {
    rows = h.rows;
    order = h.order;
    is_followed = h.is_followed;
    are_given = h.are_given;
    is_order = record { same = h.is_order.same; ordered = h.is_order.ordered };
    holds =
        subst (λ c. Holds (checked (paths_of seen (record { calls = calls; credits = c }) b) (flags_of_body own b) h.order) h.rows)
        same h.holds;
  }

  -- and so does what it settles
  pub settled_too : (one other : Credits) (b : BodyPlace) (variable : ℕ) → begun_after b.at one ≡ begun_after b.at other
      → SettlesBy given own calls number (with_table seen one) b variable
      → SettlesBy given own calls number (with_table seen other) b variable
  unfolding certified_too
  settled_too one other b variable same h = record {
    certified = certified_too one other b same h.certified;
    place = h.place;
    found = h.found;
    is_of_body = h.is_of_body;
    is_captured = h.is_captured;
    is_it = h.is_it;
    settles = h.settles;
  }

  pub credited_too : (one other : Credits) (literal variable : ℕ) → begun_after literal one ≡ begun_after literal other
      → IsCreditedBy given own calls number (with_table seen one) literal variable
      → IsCreditedBy given own calls number (with_table seen other) literal variable
  credited_too one other literal variable same h = record {
    body = h.body;
    is_there = h.is_there;
    relied = record {
      settles =
          settled_too one other h.body variable
          (subst (λ n. begun_after n one ≡ begun_after n other) (sym (at_its_offset literal (bodies_of seen) h.body h.is_there))
          same)
          h.relied.settles;
      binds_none = h.relied.binds_none;
      comes_back = h.relied.comes_back;
    };
  }

  pub one_table : (one other : Credits) → AreGivenCredits given own calls number (with_table seen one)
      → AreGivenCredits given own calls number (with_table seen other)
      → one ≡ other
  one_table one other are too =
      one_table_by (bodies_of seen) (λ credits. IsCreditedBy given own calls number (with_table seen credits))
      (λ credits literal variable h. (h.body, h.is_there)) credited_too one other are too

-- Files

-- the files of a package, where the first has the number n
pub same_files : (given : Given) (own : Flags) (calls : Callee → ℕ → Bool) (n : ℕ) (files others : List FileWithCredits)
    → seen_of files ≡ seen_of others
    → ((place : ℕ) (file : FileWithCredits) → slice_get files place ≡ Some file → AreGivenCredits given own calls (n + place) file)
    → ((place : ℕ) (file : FileWithCredits) → slice_get others place ≡ Some file → AreGivenCredits given own calls (n + place) file)
    → files ≡ others
same_files given own calls n [] [] same are too = refl
same_files given own calls n [] (g ∷ gs) same are too = cc
same_files given own calls n (f ∷ fs) [] same are too = cc
same_files given own calls n (f ∷ fs) (g ∷ gs) same are too =
    let seen : f.seen ≡ g.seen = cc in
    let rest : seen_of fs ≡ seen_of gs = cc in
    let credits : f.credits ≡ g.credits =
    one_table given own calls (n + 0) g.seen f.credits g.credits
    (subst (λ s. AreGivenCredits given own calls (n + 0) (with_table s f.credits)) seen (are 0 f refl)) (too 0 g refl) in
    let file : f ≡ g = λ i. record { seen = seen i; credits = credits i } in
    let moved : (place : ℕ) → n + suc place ≡ n + 1 + place = λ place. omega arith in
    let left = same_files given own calls (n + 1) fs gs rest
    (λ place file is. subst (λ k. AreGivenCredits given own calls k file) (moved place) (are (suc place) file is))
    (λ place file is. subst (λ k. AreGivenCredits given own calls k file) (moved place) (too (suc place) file is)) in
    λ i. file i ∷ left i

-- Packages

pub flags_are_determined : FlagsAreDetermined
flags_are_determined given ps one other i p flags more is none same first second =
    let h = first.is_verified in
    let k = second.is_verified in
    let seen : seen_files ps one p ≡ seen_files ps other p = ap (seen_by ps p) same in
    one_claimed first.files second.files (h.are_seen ∙ (seen ∙ sym k.are_seen)) (given p.path) flags more h.are_flags
    k.are_flags

-- a package that is verified has one list of files, and one table of flags
pub one_verified : (given : GivenByPath) (ps : List LoadedPackage) (tables : Tables) (i : ℕ) (p : LoadedPackage)
    (files others : List FileWithCredits) (flags more : Flags)
    → IsVerified given ps tables i p files flags
    → IsVerified given ps tables i p others more
    → (flags ≡ more) × (files ≡ others)
one_verified given ps tables i p files others flags more h k =
    let same = h.are_seen ∙ sym k.are_seen in
    let one : flags ≡ more = one_claimed files others same (given p.path) flags more h.are_flags k.are_flags in (
      one,
      same_files (given p.path) more (calls_by more (imported_flags p tables)) 0 files others same
          (λ place file is. subst (λ n. AreGivenCredits (given p.path) more (calls_by more (imported_flags p tables)) n file)
          (from_start place)
          (subst (λ (f : Flags). AreGivenCredits (given p.path) f (calls_by f (imported_flags p tables)) place file) one
          (h.are_credits place file is)))
          (λ place file is. subst (λ n. AreGivenCredits (given p.path) more (calls_by more (imported_flags p tables)) n file)
          (from_start place) (k.are_credits place file is)),
    )
  where
    from_start : (place : ℕ) → place ≡ 0 + place
    from_start place = omega arith
