-- What the believed claims say of functions is what is claimed of a package and may be known.
use Rattle.std.proofs.Common.{◌≡◌, ℕ, ◌⊎◌, inl, inr, Bool, true, false, if◌then◌else◌, List, [], ◌∷◌, Option, Some, None, Contains, refl, sym, ap, ◌∙◌, subst}
use Rattle.std.specs.Prelude.{◌==◌, ◌&&◌}
use Rattle.std.specs.Str.{bytes_eq}
use Rattle.std.proofs.lemmas.Bool.{and_parts, and_from, false≢true}
use Rattle.std.proofs.lemmas.Bool.Decides.{Decides-eqb}
use Rattle.std.proofs.lemmas.Slice.Eq.{bytes_eq-Decides}
use Rattle.calls_flags.proofs.ClaimsOf.{claim_of, claim_among}
use Rattle.calls_flags.proofs.ComesBack.{by_code_alone}
use Rattle.calls_flags.specs.Claims.{Claim, all_claims, flags_claimed, IsClaimOf, AreClaims, HaveFacts, Sieves, ends, keeps, drops}
use Rattle.meaning.proofs.Membership.{contains_nil, contains_here, contains_there, contains_cases}
use Rattle.meaning.specs.BodyEvents.{bodies_of, variables_of}
use Rattle.meaning.specs.FunctionFacts.{CancelType, cancel_type, FunctionFacts}
use Rattle.meaning.specs.Uses.{facts_take_type}
use Rattle.meaning_packages.specs.CallsFlags.{Flags, FileWithCredits}
use Rattle.meaning_packages.specs.Credits.{no_calls, promises_in}
use Rattle.path_faults.proofs.Places.{place_of, contains_at, any_witness, any_holds}
use Rattle.verifier.specs.BelievedClaims.{has_type, is_believed, believes, ComesBackOf}
use Rattle.verifier.specs.Verified.{Given, nothing_known, IsClaimed, AreClaimed}

-- What is believed

module _ (facts : List ℕ → Option FunctionFacts) (claims : List ℕ → ℕ → Option CancelType) where
  believed_of : (cs : List Claim) (c : Claim) → Contains (believes facts claims cs) c
      → Contains cs c × (is_believed facts claims c ≡ true)
  believed_of [] c h = absurd (contains_nil c h)
  believed_of (d ∷ cs) c h = by (is_believed facts claims d) refl h (believed_of cs c)
    where
      by : (t : Bool) → is_believed facts claims d ≡ t
          → Contains (if t then d ∷ believes facts claims cs else believes facts claims cs) c
          → (Contains (believes facts claims cs) c → Contains cs c × (is_believed facts claims c ≡ true))
          → Contains (d ∷ cs) c × (is_believed facts claims c ≡ true)
      by true e g rest =
          elim (contains_cases d c (believes facts claims cs) g) [
            | inl same ↦ (subst (Contains (d ∷ cs)) same (contains_here d cs), ap (is_believed facts claims) (sym same) ∙ e)
            | inr later ↦ let w = rest later in (contains_there d c cs w.0, w.1)
          ]
      by false e g rest = let w = rest g in (contains_there d c cs w.0, w.1)

  is_among : (cs : List Claim) (c : Claim) → Contains cs c → is_believed facts claims c ≡ true
      → Contains (believes facts claims cs) c
  is_among [] c h e = absurd (contains_nil c h)
  is_among (d ∷ cs) c h e = by (is_believed facts claims d) refl (contains_cases d c cs h) (λ k. is_among cs c k e)
    where
      by : (t : Bool) → is_believed facts claims d ≡ t → (d ≡ c) ⊎ Contains cs c → (Contains cs c → Contains (believes facts claims cs) c)
          → Contains (if t then d ∷ believes facts claims cs else believes facts claims cs) c
      by true q (inl same) rest = subst (Contains (d ∷ believes facts claims cs)) same (contains_here d (believes facts claims cs))
      by true q (inr later) rest = contains_there d c (believes facts claims cs) (rest later)
      by false q (inl same) rest = absurd (false≢true (sym q ∙ ap (is_believed facts claims) same ∙ e))
      by false q (inr later) rest = rest later

-- the type of a believed claim
some_type : (facts : Option FunctionFacts) (k : ℕ) (o : Option CancelType) → has_type facts k o ≡ true
    → (t : CancelType) × (o ≡ Some t) × (facts_take_type (cancel_type t) k facts ≡ true)
some_type facts k None e = absurd (false≢true e)
some_type facts k (Some t) e = (t, refl, e)

-- What is left of claims

module _ {Keeps : Claim → Type 0} where
  left_of : {before after : List Claim} → Sieves Keeps before after → (d : Claim) → Contains after d
      → Contains before d × Keeps d
  left_of ends d h = absurd (contains_nil d h)
  left_of (keeps {c} {before} {after} is rest) d h =
      elim (contains_cases c d after h) [
        | inl same ↦ (subst (Contains (c ∷ before)) same (contains_here c before), subst Keeps same is)
        | inr later ↦ let w = left_of rest d later in (contains_there c d before w.0, w.1)
      ]
  left_of (drops {c} {before} none rest) d h = let w = left_of rest d h in (contains_there c d before w.0, w.1)

  left_in : {before after : List Claim} → Sieves Keeps before after → (d : Claim) → Contains before d → Keeps d
      → Contains after d
  left_in ends d h k = absurd (contains_nil d h)
  left_in (keeps {c} {before} {after} is rest) d h k =
      elim (contains_cases c d before h) [
        | inl same ↦ subst (Contains (c ∷ after)) same (contains_here c after)
        | inr later ↦ contains_there c d after (left_in rest d later k)
      ]
  left_in (drops {c} {before} none rest) d h k =
      elim (contains_cases c d before h) [
        | inl same ↦ absurd (none (subst Keeps (sym same) k))
        | inr later ↦ left_in rest d later k
      ]

module _ (facts : List ℕ → Option FunctionFacts) (fs : List FileWithCredits) (have : HaveFacts facts fs) (given : Given) where
  abbrev pub kept : List Claim
  kept = believes facts given.claims (all_claims facts fs)

  -- each is a claim of the package
  pub are_claims : AreClaims fs kept
  are_claims = record {
    each = λ c h. claim_of facts fs have c (believed_of facts given.claims (all_claims facts fs) c h).0;
  }

  module _ (left : List Claim) (sieves : Sieves (ComesBackOf fs) kept left) where
    claimed : (name : List ℕ) (k : ℕ) → flags_claimed left name k ≡ true → IsClaimed fs given name k
    claimed name k e =
        let w = any_witness (λ (c : Claim). bytes_eq name c.name && (k == c.position)) left e in
        let c = w.0 in
        let both = and_parts (bytes_eq name c.name) (k == c.position) w.2 in
        let its = left_of sieves c w.1 in
        let b = believed_of facts given.claims (all_claims facts fs) c its.0 in
        let one = its.1 in
        let t = some_type (facts c.name) c.position (given.claims c.name c.position) b.1 in
        let of_package = contains_at fs c.file one.file one.is_claim.is_file in
        let same_name : c.name ≡ name = sym ((bytes_eq-Decides name c.name).0 both.0) in
        let same_position : c.position ≡ k = sym ((Decides-eqb k c.position).0 both.1) in
        moved c.name c.position name k same_name same_position (record {
          file = one.file;
          body = one.body;
          variable = one.variable;
          type = t.0;
          is_of_package = of_package;
          is_claim = one.is_claim.is_claim;
          is_given = t.1;
          has_its_type = ap (facts_take_type (cancel_type t.0) c.position) (have.each one.file of_package c.name) ∙ t.2;
          comes_back = by_code_alone one.file.seen.known.edition one.file.seen
              (promises_in no_calls one.file.credits one.body.at) nothing_known one.body one.comes_back;
        })
      where
        moved : (m : List ℕ) (j : ℕ) (n : List ℕ) (i : ℕ) → m ≡ n → j ≡ i → IsClaimed fs given m j → IsClaimed fs given n i
        moved m j n i p q h = subst (λ x. IsClaimed fs given x i) p (subst (λ x. IsClaimed fs given m x) q h)

    known : (name : List ℕ) (k : ℕ) → IsClaimed fs given name k → flags_claimed left name k ≡ true
    known name k h =
        let file = place_of fs h.file h.is_of_package in
        let body = place_of (bodies_of h.file.seen) h.body h.is_claim.is_body in
        let variable = place_of (variables_of h.file.seen h.body.at) h.variable h.is_claim.is_of_body in
        let c : Claim = record { file = file.0; body = body.0; place = variable.0; name = name; position = k } in
        let is : IsClaimOf fs c h.file h.body h.variable = record {
          is_file = file.1;
          is_body = body.1;
          is_variable = variable.1;
          is_claim = h.is_claim;
        } in
        let there = claim_among facts fs have c h.file h.body h.variable is in
        let believed : is_believed facts given.claims c ≡ true =
        ap (has_type (facts name) k) h.is_given
        ∙ (ap (facts_take_type (cancel_type h.type) k) (sym (have.each h.file h.is_of_package name)) ∙ h.has_its_type) in
        let comes : ComesBackOf fs c = record {
          file = h.file;
          body = h.body;
          variable = h.variable;
          is_claim = is;
          comes_back = by_code_alone h.file.seen.known.edition h.file.seen nothing_known
              (promises_in no_calls h.file.credits h.body.at) h.body h.comes_back;
        } in
        any_holds (λ (d : Claim). bytes_eq name d.name && (k == d.position)) left c
        (left_in sieves c (is_among facts given.claims (all_claims facts fs) c there believed) comes)
        (and_from (bytes_eq name name) (k == k) ((bytes_eq-Decides name name).1 refl) ((Decides-eqb k k).1 refl))

    pub are_claimed : (flags : Flags) → ((name : List ℕ) (k : ℕ) → flags name k ≡ flags_claimed left name k)
        → AreClaimed fs given flags
    are_claimed flags same name k = (
      λ e. claimed name k (sym (same name k) ∙ e),
      λ h. same name k ∙ known name k h,
    )

-- what is believed by the same claims of the same
pub same_believed : (facts : List ℕ → Option FunctionFacts) (claims others : List ℕ → ℕ → Option CancelType)
    → ((name : List ℕ) (k : ℕ) → claims name k ≡ others name k)
    → (cs ds : List Claim) → cs ≡ ds
    → believes facts claims cs ≡ believes facts others ds
same_believed facts claims others same cs ds same_claims = λ i. believes facts (λ name k. same name k i) (same_claims i)
