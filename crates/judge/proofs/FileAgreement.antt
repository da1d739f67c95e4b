-- Where `check` finds nothing in a file, no body has a fault, and so its least certificates hold. Where `verify` says
-- nothing of it, each body has a certificate that holds, so that none has a fault; and the credits are the same.
use Rattle.std.proofs.Common.{◌≡◌, ℕ, Bool, true, [], Contains, refl, sym, subst}
use Rattle.judge.proofs.LowerLaws.{LowerLaws}
use Rattle.judge.proofs.OneTable.{IsSound, is_certified, one_table}
use Rattle.judge.specs.AgreementLaws.{HasLeastCertificates, KeepsItsFlags, FindsNothing, LeastCertificatesAreBelieved, WhatIsBelievedHasNoFinding}
use Rattle.judge.specs.OwnGroups.{HaveOwnGroups, KeepByEdition}
use Rattle.checker.specs.Certificates.{is_claimed}
use Rattle.meaning.specs.BodyEvents.{Variable, bodies_of, variables_of, unfollowed_faults}
use Rattle.meaning.specs.FunctionFacts.{cancel}
use Rattle.meaning.specs.Mentions.{BodyPlace}
use Rattle.meaning.specs.Uses.{Callee, Seen}
use Rattle.meaning_packages.specs.CallsFlags.{Flags, FileWithCredits}
use Rattle.meaning_packages.specs.Credits.{Credits, promises_in}
use Rattle.meaning_packages.specs.PathFaults.{paths_of, KeepsCall, of_a_pass, of_a_path}
use Rattle.meaning_reports.specs.PackageReports.{outside_bodies, of_use, of_path}
use Rattle.path_faults.proofs.Places.{place_of}
use Rattle.report.specs.Entries.{Entry}
use Rattle.verifier.specs.FoundBodies.{with_table}
use Rattle.verifier.specs.Verified as verified
use Rattle.verifier.specs.Verified.{Given, flags_of_body, checked, IsCertified, AreGivenCredits, IsSaid}
use Rattle.verifier.specs.VerifierLaws.{BodiesHaveOwnPlaces, SaysNothing}

-- a property of a file is one of the file that has the same credits
same_file : (P : FileWithCredits → Type 0) (seen : Seen) (one other : Credits)
    → ((literal variable : ℕ) → one literal variable ≡ other literal variable)
    → P (with_table seen one)
    → P (with_table seen other)
same_file P seen one other same h =
    let credits : one ≡ other = λ i literal variable. same literal variable i in
    subst (λ c. P (with_table seen c)) credits h

module _ (laws : LowerLaws) (given : Given) (own : Flags) (calls : Callee → ℕ → Bool) (number : ℕ) (seen : Seen)
    (full other : Credits) (groups : HaveOwnGroups seen) (keep : KeepByEdition seen)
    (least : HasLeastCertificates given calls number (with_table seen full))
    (are : AreGivenCredits given own calls number (with_table seen other)) where
  abbrev file : FileWithCredits
  file = with_table seen full

  -- Where nothing is found

  module _ (keeps : KeepsItsFlags own calls file) (nothing : FindsNothing calls number file) where
    sound : (b : BodyPlace) → Contains (bodies_of seen) b → unfollowed_faults seen b ≡ []
        → IsSound own (paths_of seen (promises_in calls full b.at) b) b
    sound b among followed = record {
      no_fault = λ f fault. nothing _ (of_path b f among (of_a_path f followed fault));
      keeps = λ v there kind claimed. keeps b v among followed there kind claimed;
    }

    pub same_credits : (literal variable : ℕ) → other literal variable ≡ full literal variable
    same_credits =
        one_table given own calls number seen laws full groups keep least other are
        (λ b among followed same. sound b among followed)

    nothing_said : (x : Entry) → IsSaid given own calls number file x → ⊥
    nothing_said x (verified.outside_bodies f h) = nothing _ (outside_bodies f h)
    nothing_said x (verified.of_use b f among h) = nothing _ (of_use b f among h)
    nothing_said x (verified.of_pass b f among h) = nothing _ (of_path b f among (of_a_pass f h))
    nothing_said x (verified.not_certified b among followed none) =
        none
        (is_certified given own calls number seen laws full groups keep least b followed (least.each b among followed)
        (sound b among followed))

    pub says_nothing : SaysNothing given own calls number (with_table seen other)
    says_nothing =
        same_file (SaysNothing given own calls number) seen full other (λ literal variable. sym (same_credits literal variable))
        nothing_said

  -- Where nothing is said

  module _ (places : BodiesHaveOwnPlaces seen)
      (nothing : SaysNothing given own calls number (with_table seen other)) where
    none_found : FindsNothing calls number (with_table seen other)
    none_found = laws.nothing_is_found given own calls number (with_table seen other) places nothing

    -- what a certificate refutes is not so
    refuted : (b : BodyPlace) → Contains (bodies_of seen) b → unfollowed_faults seen b ≡ []
        → (IsCertified given own calls number (with_table seen other) b → ⊥)
        → ⊥
    refuted b among followed none = nothing _ (verified.not_certified b among followed none)

    kept : (b : BodyPlace) (v : Variable) → Contains (bodies_of seen) b → Contains (variables_of seen b.at) v
        → v.kind ≡ cancel
        → is_claimed (flags_of_body own b) v.role ≡ true
        → IsCertified given own calls number (with_table seen other) b
        → KeepsCall (paths_of seen (promises_in calls other b.at) b) v
    kept b v among there kind claimed c =
        let w = place_of (variables_of seen b.at) v there in
        let paths = paths_of seen (promises_in calls other b.at) b in
        laws.keeps_claims paths (checked paths (flags_of_body own b) c.order) c.rows
        (record { is_edition = refl; is_graph = refl; are_variables = refl; are_promises = refl })
        (places b (promises_in calls other b.at) among) c.holds w.0 v w.1 kind claimed

    sound_too : (b : BodyPlace) → Contains (bodies_of seen) b → unfollowed_faults seen b ≡ []
        → IsSound own (paths_of seen (promises_in calls other b.at) b) b
    sound_too b among followed = record {
      no_fault = λ f fault. none_found _ (of_path b f among (of_a_path f followed fault));
      keeps = λ v there kind claimed. record {
        never_open = λ handed t o comes same.
            refuted b among followed λ c. (kept b v among there kind claimed c).never_open handed t o comes same;
        never_kept = λ handed t o comes same.
            refuted b among followed λ c. (kept b v among there kind claimed c).never_kept handed t o comes same;
        never_left = λ handed t o comes left.
            refuted b among followed λ c. (kept b v among there kind claimed c).never_left handed t o comes left;
      };
    }

    pub same_credits_too : (literal variable : ℕ) → other literal variable ≡ full literal variable
    same_credits_too =
        one_table given own calls number seen laws full groups keep least other are λ b among followed same.
        subst (λ c. IsSound own (paths_of seen (record { calls = calls; credits = c }) b) b) same
        (sound_too b among followed)

    pub finds_nothing : FindsNothing calls number file
    finds_nothing = same_file (FindsNothing calls number) seen other full same_credits_too none_found

-- the other file is seen as the first one
pub least_certificates_are_believed : LowerLaws → LeastCertificatesAreBelieved
least_certificates_are_believed laws given own calls number file other groups keep least keeps same are nothing =
    let their : AreGivenCredits given own calls number (with_table file.seen other.credits) =
    subst (λ seen. AreGivenCredits given own calls number (with_table seen other.credits)) same are in (
      record {
        is_seen_so = same;
        has_its_credits =
            same_credits laws given own calls number file.seen file.credits other.credits groups keep least their keeps nothing;
      },
      subst (λ seen. SaysNothing given own calls number (with_table seen other.credits)) (sym same)
          (says_nothing laws given own calls number file.seen file.credits other.credits groups keep least their keeps nothing),
    )

pub what_is_believed_has_no_finding : LowerLaws → WhatIsBelievedHasNoFinding
what_is_believed_has_no_finding laws given own calls number file other groups keep places least same are nothing =
    let their : AreGivenCredits given own calls number (with_table file.seen other.credits) =
    subst (λ seen. AreGivenCredits given own calls number (with_table seen other.credits)) same are in
    let quiet : SaysNothing given own calls number (with_table file.seen other.credits) =
    subst (λ seen. SaysNothing given own calls number (with_table seen other.credits)) same nothing in (
      record {
        is_seen_so = same;
        has_its_credits =
            same_credits_too laws given own calls number file.seen file.credits other.credits groups keep least their places
            quiet;
      },
      finds_nothing laws given own calls number file.seen file.credits other.credits groups keep least their places quiet,
    )
