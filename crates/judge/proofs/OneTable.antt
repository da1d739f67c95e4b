-- Where the paths of the bodies of a file have no fault, their least certificates hold, and so what is credited by these
-- is what all credits of the file say: from the last literal to the first, since a literal relies only on those that
-- begin after it.
use Rattle.std.proofs.Common.{◌≡◌, ℕ, zero, suc, ◌+◌, ◌<◌, ◌≤◌, Bool, true, false, if◌then◌else◌, List, [], ◌∷◌, Some, Contains, refl, sym, ap, ◌∙◌, subst, arith}
use Rattle.std.specs.Prelude.{◌==◌, slice_get}
use Rattle.std.proofs.lemmas.Bool.Decides.{Decides-eqb}
use Rattle.bodies.proofs.FewVariables.{none_at_first}
use Rattle.judge.proofs.LowerLaws.{LowerLaws}
use Rattle.judge.proofs.MoreKnown.{settles_still}
use Rattle.judge.specs.AgreementLaws.{IsGivenLeast, HasLeastCertificates}
use Rattle.judge.specs.OwnGroups.{HaveOwnGroups, KeepByEdition}
use Rattle.certificates.specs.Least.{body_with}
use Rattle.certificates.specs.LeastLaws as certificates
use Rattle.certificates.specs.LeastLaws.{HasNoFault}
use Rattle.checker.specs.Certificates.{CheckedBody, is_claimed, Holds, SettlesIn}
use Rattle.meaning.proofs.Membership.{contains_here, contains_there}
use Rattle.meaning.specs.BodyEvents.{Variable, bodies_of, variables_of, too_many_faults, jump_faults, unfollowed_faults}
use Rattle.meaning.specs.FunctionFacts.{cancel}
use Rattle.meaning.specs.Mentions.{BodyPlace}
use Rattle.meaning.specs.Uses.{Callee, Seen, goes_off}
use Rattle.meaning_packages.specs.CallsFlags.{Flags}
use Rattle.meaning_packages.specs.Credits.{body_at, Credits, begun_after, promises_in, no_calls, binds_captured, Settles, MayComeBack, IsCredited}
use Rattle.meaning_packages.specs.PathFaults.{Paths, paths_of, KeepsCall}
use Rattle.meaning_reports.proofs.OneAnswer.{same_test, same_behind}
use Rattle.path_faults.proofs.Places.{contains_at, place_of}
use Rattle.verifier.proofs.OneVerified.{credited_too as credited_by_too}
use Rattle.verifier.specs.FoundBodies.{with_table}
use Rattle.calls_flags.proofs.ComesBack.{back_alone}
use Rattle.verifier.specs.Verified.{Given, nothing_known, flags_of_body, IsCertified, IsCreditedBy, AreGivenCredits}

-- Bodies at an offset

-- no body begins so far on
abbrev bound : List BodyPlace → ℕ
bound [] = 0
bound (b ∷ bs) = b.at + 1 + bound bs

record IsFirst (at : ℕ) (bs : List BodyPlace) (b : BodyPlace) : Type 0 where
  is_there : b.at ≡ at
  is_among : Contains bs b
  is_below : at < bound bs

first_there : (at : ℕ) (bs : List BodyPlace) (b : BodyPlace) → body_at at bs ≡ Some b → IsFirst at bs b
first_there at [] b e = cc
first_there at (x ∷ bs) b e = by (x.at == at) (Decides-eqb x.at at).0 (first_there at bs b) e
  where
    by : (t : Bool) → (t ≡ true → x.at ≡ at) → (body_at at bs ≡ Some b → IsFirst at bs b)
        → (if t then Some x else body_at at bs) ≡ Some b
        → IsFirst at (x ∷ bs) b
    by true same later is =
        let here = same refl in
        let it : x ≡ b = cc in
        record {
          is_there = ap (λ (y : BodyPlace). y.at) (sym it) ∙ here;
          is_among = subst (Contains (x ∷ bs)) it (contains_here x bs);
          is_below = omega (arith, here);
        }
    by false same later is =
        let h = later is in
        let below = h.is_below in
        record { is_there = h.is_there; is_among = contains_there x b bs h.is_among; is_below = omega (arith, below) }

-- Tables that agree behind a literal

-- the paths of the body, where this is relied on
abbrev relying : Seen → BodyPlace → (Callee → ℕ → Bool) → (ℕ → ℕ → Bool) → Paths
relying seen b calls credits = paths_of seen (record { calls = calls; credits = credits }) b

pub credited_too : (seen : Seen) (one other : Credits) (literal number : ℕ)
    → begun_after literal one ≡ begun_after literal other
    → IsCredited seen one literal number
    → IsCredited seen other literal number
credited_too seen one other literal number same h = record {
  body = h.body;
  variable = h.variable;
  is_there = h.is_there;
  is_followed = h.is_followed;
  is_of_body = h.is_of_body;
  is_captured = h.is_captured;
  is_it = h.is_it;
  binds_none = h.binds_none;
  comes_back = subst (λ c. MayComeBack seen.known.edition (goes_off h.body.literal) (relying seen h.body no_calls c)) same
      h.comes_back;
  settles = subst (λ c. Settles (relying seen h.body no_calls c) h.variable) same h.settles;
}

-- the body has no fault, and keeps what is known of its parameters
pub record IsSound (own : Flags) (paths : Paths) (b : BodyPlace) : Type 0 where
  pub no_fault : HasNoFault paths
  pub keeps : (v : Variable)
      → Contains paths.variables v
      → v.kind ≡ cancel
      → is_claimed (flags_of_body own b) v.role ≡ true
      → KeepsCall paths v

module _ (given : Given) (own : Flags) (calls : Callee → ℕ → Bool) (number : ℕ) (seen : Seen) where
  module _ (laws : LowerLaws) (full : Credits) (groups : HaveOwnGroups seen) (keep : KeepByEdition seen)
      (least : HasLeastCertificates given calls number (with_table seen full)) where
    abbrev its_paths : BodyPlace → Paths
    its_paths b = paths_of seen (promises_in calls full b.at) b

    -- Least certificates

    module _ (b : BodyPlace) (followed : unfollowed_faults seen b ≡ [])
        (its : IsGivenLeast given calls number (with_table seen full) b) where
      abbrev its_body : CheckedBody
      its_body = body_with (its_paths b) its.are_least.order (flags_of_body own b)

      certifiable : certificates.CanHaveCertificate (its_paths b) its_body
      certifiable = record {
        is_of = record { is_edition = refl; is_graph = refl; are_variables = refl; are_promises = refl };
        are_few = none_at_first (too_many_faults (variables_of seen b.at)) (jump_faults seen b) followed;
        starts_in_own_groups =
            groups b (promises_in calls full b.at) its.are_least.order (flags_of_body own b);
        keeps_by_edition =
            keep b (promises_in calls full b.at) its.are_least.order (flags_of_body own b);
      }

      module _ (sound : IsSound own (its_paths b) b) where
        its_holds : Holds its_body its.rows
        its_holds =
            laws.least_holds (its_paths b) its_body its.rows certifiable sound.no_fault
            (λ i v at kind claimed. sound.keeps v (contains_at (variables_of seen b.at) i v at) kind claimed)
            (its.are_least.is_least (flags_of_body own b))

        -- the least certificate holds
        pub is_certified : IsCertified given own calls number (with_table seen full) b
        is_certified = record {
          rows = its.rows;
          order = its.are_least.order;
          is_followed = followed;
          are_given = its.are_given;
          is_order = record { same = its.are_least.has_each; ordered = its.are_least.ordered };
          holds = its_holds;
        }

        -- and settles what the body settles
        is_settled_by : (v : Variable) → Contains (variables_of seen b.at) v → Settles (its_paths b) v
            → (place : ℕ)
            × (slice_get (variables_of seen b.at) place ≡ Some v)
            × SettlesIn its_body its.rows place v
        is_settled_by v among settles =
            let w = place_of (variables_of seen b.at) v among in (
              w.0,
              w.1,
              (laws.least_settles (its_paths b) its_body its.rows certifiable
                  (its.are_least.is_least (flags_of_body own b)) w.0 v w.1).1 settles,
            )

    credited_by : (literal variable : ℕ) (h : IsCredited seen full literal variable)
        → IsSound own (its_paths h.body) h.body
        → IsCreditedBy given own calls number (with_table seen full) literal variable
    unfolding is_certified
    credited_by literal variable h sound =
        let b = h.body in
        let first = first_there literal (bodies_of seen) b h.is_there in
        let back = sym first.is_there in
        let among = subst (λ at. Contains (variables_of seen at) h.variable) back h.is_of_body in
        let its = least.each b first.is_among h.is_followed in
        let settles =
        subst (λ at. Settles (paths_of seen (promises_in no_calls full at) b) h.variable) back h.settles in
        let still = settles_still calls seen full b h.variable settles in
        let settled = is_settled_by b h.is_followed its sound h.variable among still in
        record {
          body = b;
          is_there = h.is_there;
          relied = record {
            settles = record {
              certified = is_certified b h.is_followed its sound;
              place = settled.0;
              found = h.variable;
              is_of_body = settled.1;
              is_captured = h.is_captured;
              is_it = h.is_it;
              settles = settled.2;
            };
            binds_none = subst (λ at. binds_captured seen.known.edition seen at variable ≡ false) back h.binds_none;
            comes_back = back_alone seen.known.edition (goes_off b.literal) seen (promises_in no_calls full literal)
                nothing_known b h.comes_back;
          };
        }

    -- One table

    module _ (other : Credits)
        (are : AreGivenCredits given own calls number (with_table seen other))
        (sound : (b : BodyPlace)
        → Contains (bodies_of seen) b
        → unfollowed_faults seen b ≡ []
        → begun_after b.at other ≡ begun_after b.at full
        → IsSound own (its_paths b) b) where
      none_past : (literal variable : ℕ) → bound (bodies_of seen) ≤ literal → other literal variable ≡ true → ⊥
      none_past literal variable past e =
          let h = (are literal variable).0 e in
          let l = (first_there literal (bodies_of seen) h.body h.is_there).is_below in
          omega (arith, l, past)

      none_credited : (literal variable : ℕ) → bound (bodies_of seen) ≤ literal → full literal variable ≡ true → ⊥
      none_credited literal variable past e =
          let h = (least.are_full.each literal variable).0 e in
          let l = (first_there literal (bodies_of seen) h.body h.is_there).is_below in
          omega (arith, l, past)

      fair_too : (literal variable : ℕ) → begun_after literal other ≡ begun_after literal full
          → other literal variable ≡ true
          → full literal variable ≡ true
      fair_too literal variable same e =
          (least.are_full.each literal variable).1
          (credited_too seen other full literal variable same
          ((laws.credits_are_fair given own calls number (with_table seen other) are).each literal variable e))

      full_too : (literal variable : ℕ) → begun_after literal other ≡ begun_after literal full
          → full literal variable ≡ true
          → other literal variable ≡ true
      full_too literal variable same e =
          let h = (least.are_full.each literal variable).0 e in
          let first = first_there literal (bodies_of seen) h.body h.is_there in
          (are literal variable).1
          (credited_by_too given own calls number seen full other literal variable (sym same)
          (credited_by literal variable h
          (sound h.body first.is_among h.is_followed
          (subst (λ n. begun_after n other ≡ begun_after n full) (sym first.is_there) same))))

      same_from : (k literal : ℕ) → bound (bodies_of seen) ≤ literal + k → (variable : ℕ)
          → other literal variable ≡ full literal variable
      same_from zero literal past variable =
          let behind_all : bound (bodies_of seen) ≤ literal = omega (arith, past) in
          same_test (other literal variable) (full literal variable)
          (λ e. absurd (none_past literal variable behind_all e))
          (λ e. absurd (none_credited literal variable behind_all e))
      same_from (suc k) literal past variable =
          let same = same_behind other full literal (λ later n l. same_from k later (omega (arith, l, past)) n) in
          same_test (other literal variable) (full literal variable) (fair_too literal variable same)
          (full_too literal variable same)

      pub one_table : (literal variable : ℕ) → other literal variable ≡ full literal variable
      one_table literal variable = same_from (bound (bodies_of seen)) literal (omega arith) variable
