-- The claims that rounds leave are the most flags that are consistent: all are claimed first, each round keeps what
-- consistent flags keep, and where a round drops none, the claims that are left keep each other.
use Rattle.std.proofs.Common.{◌≡◌, ℕ, ◌≤◌, inl, inr, true, ◌&&◌, List, ◌∷◌, length, Option, Contains, refl, sym, subst, arith}
use Rattle.std.specs.Prelude.{◌==◌}
use Rattle.std.specs.Str.{bytes_eq}
use Rattle.std.proofs.lemmas.Bool.{and_parts, and_from}
use Rattle.std.proofs.lemmas.Bool.Decides.{Decides-eqb}
use Rattle.std.proofs.lemmas.Slice.Eq.{bytes_eq-Decides}
use Rattle.meaning.proofs.Membership.{contains_nil, contains_here, contains_there, contains_cases}
use Rattle.meaning.specs.FunctionFacts.{FunctionFacts}
use Rattle.meaning.specs.BodyEvents.{bodies_of, variables_of}
use Rattle.meaning_packages.specs.Credits.{promises_in}
use Rattle.meaning_packages.specs.CallsFlags.{Flags, calls_by, FileWithCredits, IsKept, AreConsistent, AreMost}
use Rattle.path_faults.proofs.Places.{place_of, contains_at, any_witness, any_holds}
use Rattle.calls_flags.specs.Claims.{Claim, all_claims, flags_claimed, IsClaimOf, IsOneOf, KeepsClaim, AreClaims, HaveFacts, Sieves, ends, keeps, drops}
use Rattle.calls_flags.proofs.ClaimsOf.{claim_of, claim_among}
use Rattle.calls_flags.proofs.ComesBack.{by_code_alone}
use Rattle.calls_flags.proofs.MoreCalls.{keeps_still, calls_still}

-- What a round leaves

module _ {Keeps : Claim → Type 0} where
  left_among : {before after : List Claim} → Sieves Keeps before after → (d : Claim) → Contains after d → Contains before d
  left_among ends d h = h
  left_among (keeps {c} {before} {after} is rest) d h =
      elim (contains_cases c d after h) [
        | inl same ↦ subst (Contains (c ∷ before)) same (contains_here c before)
        | inr later ↦ contains_there c d before (left_among rest d later)
      ]
  left_among (drops {c} {before} {after} none rest) d h = contains_there c d before (left_among rest d h)

  left_over : {before after : List Claim} → Sieves Keeps before after → (d : Claim) → Contains before d → Keeps d
      → Contains after d
  left_over ends d h is = h
  left_over (keeps {c} {before} {after} kept rest) d h is =
      elim (contains_cases c d before h) [
        | inl same ↦ subst (Contains (c ∷ after)) same (contains_here c after)
        | inr later ↦ contains_there c d after (left_over rest d later is)
      ]
  left_over (drops {c} {before} {after} none rest) d h is =
      elim (contains_cases c d before h) [
        | inl same ↦ absurd (none (subst Keeps (sym same) is))
        | inr later ↦ left_over rest d later is
      ]

  no_longer : {before after : List Claim} → Sieves Keeps before after → length after ≤ length before
  no_longer ends = omega arith
  no_longer (keeps kept rest) = let l = no_longer rest in omega (arith, l)
  no_longer (drops none rest) = let l = no_longer rest in omega (arith, l)

  -- where none is dropped, each is kept
  all_kept : {before after : List Claim} → Sieves Keeps before after → length after ≡ length before
      → (d : Claim) → Contains before d → Keeps d
  all_kept ends size d h = absurd (contains_nil d h)
  all_kept (keeps {c} {before} {after} kept rest) size d h =
      elim (contains_cases c d before h) [
        | inl same ↦ subst Keeps same kept
        | inr later ↦ all_kept rest (omega (arith, size)) d later
      ]
  all_kept (drops none rest) size d h = absurd (let l = no_longer rest in omega (arith, l, size))

-- What claims say

claims_it : (claims : List Claim) (c : Claim) → Contains claims c → flags_claimed claims c.name c.position ≡ true
claims_it claims c h =
    any_holds (λ d. bytes_eq c.name d.name && (c.position == d.position)) claims c h
    (and_from (bytes_eq c.name c.name) (c.position == c.position) ((bytes_eq-Decides c.name c.name).1 refl) ((Decides-eqb c.position c.position).1 refl))

record ClaimsIt (claims : List Claim) (name : List ℕ) (k : ℕ) : Type 0 where
  claim : Claim
  is_there : Contains claims claim
  same_name : claim.name ≡ name
  same_position : claim.position ≡ k

who_claims : (claims : List Claim) (name : List ℕ) (k : ℕ) → flags_claimed claims name k ≡ true → ClaimsIt claims name k
who_claims claims name k e =
    let w = any_witness (λ d. bytes_eq name d.name && (k == d.position)) claims e in
    let both = and_parts (bytes_eq name w.0.name) (k == w.0.position) w.2 in
    record {
      claim = w.0;
      is_there = w.1;
      same_name = sym ((bytes_eq-Decides name w.0.name).0 both.0);
      same_position = sym ((Decides-eqb k w.0.position).0 both.1);
    }

module _ (fs : List FileWithCredits) (imported : List ℕ → Flags) where
  -- the claim of a flag that is kept
  record IsClaimed (flags : Flags) (name : List ℕ) (k : ℕ) : Type 0 where
    claim : Claim
    is_one : IsOneOf fs claim
    is_kept : KeepsClaim fs (calls_by flags imported) claim
    same_name : claim.name ≡ name
    same_position : claim.position ≡ k

  claim_kept : (flags : Flags) (name : List ℕ) (k : ℕ) → IsKept fs imported flags name k → IsClaimed flags name k
  claim_kept flags name k h =
      let file_at = place_of fs h.file h.is_of_package in
      let body_at = place_of (bodies_of h.file.seen) h.body h.is_claim.is_body in
      let variable_at = place_of (variables_of h.file.seen h.body.at) h.variable h.is_claim.is_of_body in
      let c : Claim = record { file = file_at.0; body = body_at.0; place = variable_at.0; name = name; position = k } in
      let is : IsClaimOf fs c h.file h.body h.variable =
      record { is_file = file_at.1; is_body = body_at.1; is_variable = variable_at.1; is_claim = h.is_claim } in
      record {
        claim = c;
        is_one = record { file = h.file; body = h.body; variable = h.variable; is_claim = is };
        is_kept = record { file = h.file; body = h.body; variable = h.variable; is_claim = is; keeps = (h.comes_back, h.keeps) };
        same_name = refl;
        same_position = refl;
      }

  flag_kept : (flags : Flags) (c : Claim) → KeepsClaim fs (calls_by flags imported) c
      → IsKept fs imported flags c.name c.position
  flag_kept flags c h = record {
    file = h.file;
    body = h.body;
    variable = h.variable;
    is_of_package = contains_at fs c.file h.file h.is_claim.is_file;
    is_claim = h.is_claim.is_claim;
    comes_back = h.keeps.0;
    keeps = h.keeps.1;
  }

  -- the claims are some of the package's, and what consistent flags keep is among them
  pub record AreEnough (claims : List Claim) : Type 0 where
    pub are_claims : AreClaims fs claims
    pub has_kept : (others : Flags) → AreConsistent fs imported others
        → (c : Claim) → IsOneOf fs c
        → KeepsClaim fs (calls_by others imported) c
        → Contains claims c

  pub at_first : (facts : List ℕ → Option FunctionFacts) → HaveFacts facts fs
      → (claims : List Claim) → claims ≡ all_claims facts fs
      → AreEnough claims
  at_first facts have claims are = record {
    are_claims = record { each = λ c h. claim_of facts fs have c (subst (λ cs. Contains cs c) are h) };
    has_kept = λ others consistent c is kept.
        subst (λ cs. Contains cs c) (sym are) (claim_among facts fs have c is.file is.body is.variable is.is_claim);
  }

  -- consistent flags are claimed
  claimed_too : (claims : List Claim) → AreEnough claims → (others : Flags) → AreConsistent fs imported others
      → (name : List ℕ) (k : ℕ) → others name k ≡ true
      → flags_claimed claims name k ≡ true
  claimed_too claims enough others consistent name k e =
      let w = claim_kept others name k (consistent.each name k e) in
      subst (λ n. flags_claimed claims n k ≡ true) w.same_name
      (subst (λ p. flags_claimed claims w.claim.name p ≡ true) w.same_position
      (claims_it claims w.claim (enough.has_kept others consistent w.claim w.is_one w.is_kept)))

  pub next_round : (claims left : List Claim) → AreEnough claims
      → Sieves (KeepsClaim fs (calls_by (flags_claimed claims) imported)) claims left
      → AreEnough left
  next_round claims left enough sieves = record {
    are_claims = record { each = λ c h. enough.are_claims.each c (left_among sieves c h) };
    has_kept = λ others consistent c is kept.
        left_over sieves c (enough.has_kept others consistent c is kept)
        (record {
          file = kept.file;
          body = kept.body;
          variable = kept.variable;
          is_claim = kept.is_claim;
          keeps = (
            by_code_alone kept.file.seen.known.edition kept.file.seen
                (promises_in (calls_by others imported) kept.file.credits kept.body.at)
                (promises_in (calls_by (flags_claimed claims) imported) kept.file.credits kept.body.at) kept.body kept.keeps.0,
            keeps_still (calls_by others imported) (calls_by (flags_claimed claims) imported)
                (calls_still others (flags_claimed claims) (claimed_too claims enough others consistent) imported)
                kept.file.seen kept.file.credits kept.body kept.variable kept.keeps.1,
          );
        });
  }

  pub last_round : (claims left : List Claim) → AreEnough claims
      → Sieves (KeepsClaim fs (calls_by (flags_claimed claims) imported)) claims left
      → length left ≡ length claims
      → AreMost fs imported (flags_claimed claims)
  last_round claims left enough sieves size = record {
    are_consistent = record {
      each = λ name k e.
          let w = who_claims claims name k e in
          subst (λ n. IsKept fs imported (flags_claimed claims) n k) w.same_name
          (subst (λ p. IsKept fs imported (flags_claimed claims) w.claim.name p) w.same_position
          (flag_kept (flags_claimed claims) w.claim (all_kept sieves size w.claim w.is_there)));
    };
    include = λ others consistent name k e. claimed_too claims enough others consistent name k e;
  }
