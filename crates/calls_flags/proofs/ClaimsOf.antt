-- The claims that the program goes over are those of the definitions.
use Rattle.std.proofs.Common.{◌≡◌, ℕ, inl, inr, Bool, true, false, ◌&&◌, if◌then◌else◌, List, [], ◌∷◌, length, Option, Some, None, Contains, refl, sym, ap, ◌∙◌, subst}
use Rattle.std.specs.Prelude.{◌==◌, not, is_none, slice_get}
use Rattle.std.specs.Str.{bytes_eq}
use Rattle.std.proofs.lemmas.Bool.{false≢true}
use Rattle.std.proofs.lemmas.Bool.Decides.{Decides-eqb}
use Rattle.std.proofs.lemmas.List.{nil_from_length}
use Rattle.std.proofs.lemmas.Option.{none-some, same_Some}
use Rattle.std.proofs.lemmas.Slice.Eq.{bytes_eq-Decides}
use Rattle.tree.specs.Syntax.{Identifier}
use Rattle.meaning.proofs.Membership.{contains_nil, contains_here, contains_cases}
use Rattle.meaning.specs.Scopes.{is_blank}
use Rattle.meaning.specs.OuterBlocks.{is_init}
use Rattle.meaning.specs.FunctionFacts.{FunctionFacts, VariableKind, cancel, group}
use Rattle.meaning.specs.Mentions.{BodyPlace}
use Rattle.meaning.specs.Uses.{facts_take}
use Rattle.meaning.specs.BodyEvents.{Variable, VariableRole, own_parameter, own_receiver, declared_in_body, captured, variables_of, unfollowed_faults}
use Rattle.meaning.specs.BodyEvents.{bodies_of}
use Rattle.meaning_packages.specs.CallsFlags.{FileWithCredits, has_name, is_function}
use Rattle.path_faults.proofs.Places.{contains_at, given_at, gives_at}
use Rattle.path_faults.specs.FoundFaults.{each_from}
use Rattle.calls_flags.specs.Claims.{Claim, called_name, function_name, claimed_as, claim_at, variable_claims, claims_named, body_claims, file_claims, all_claims, IsClaimOf, IsOneOf, HaveFacts}

-- The name of a function

named_so : (o : Option Identifier) (name : List ℕ) → called_name o ≡ Some name → has_name name o ≡ true
named_so None name e = absurd (none-some name e)
named_so (Some n) name e = by (not (is_blank n.text) && not (is_init n.text)) refl e
  where
    by : (t : Bool) → (not (is_blank n.text) && not (is_init n.text)) ≡ t
        → (if t then Some n.text else None) ≡ Some name
        → (bytes_eq n.text name && (not (is_blank n.text) && not (is_init n.text))) ≡ true
    by true test is =
        let same = same_Some n.text name is in
        ap (λ t. bytes_eq n.text name && t) test
        ∙ ap (λ t. t && true) ((bytes_eq-Decides n.text name).1 same)
    by false test is = absurd (none-some name is)

so_named : (o : Option Identifier) (name : List ℕ) → has_name name o ≡ true → called_name o ≡ Some name
so_named None name e = absurd (false≢true e)
so_named (Some n) name e = by (bytes_eq n.text name) (bytes_eq-Decides n.text name).0 e
  where
    by : (t : Bool) → (t ≡ true → n.text ≡ name) → (t && (not (is_blank n.text) && not (is_init n.text))) ≡ true
        → (if not (is_blank n.text) && not (is_init n.text) then Some n.text else None) ≡ Some name
    by true same both = ap (λ t. if t then Some n.text else None) both ∙ ap Some (same refl)
    by false same both = absurd (false≢true both)

function_so : (b : BodyPlace) (name : List ℕ) → function_name b ≡ Some name → is_function name b ≡ true
function_so b name e = by (is_none b.receiver) e
  where
    by : (t : Bool) → (if t then called_name b.name else None) ≡ Some name → (t && has_name name b.name) ≡ true
    by true is = named_so b.name name is
    by false is = absurd (none-some name is)

pub so_function : (b : BodyPlace) (name : List ℕ) → is_function name b ≡ true → function_name b ≡ Some name
so_function b name e = by (is_none b.receiver) e
  where
    by : (t : Bool) → (t && has_name name b.name) ≡ true → (if t then called_name b.name else None) ≡ Some name
    by true is = so_named b.name name is
    by false is = absurd (false≢true is)

-- The position

record IsClaimed (kind : VariableKind) (role : VariableRole) (k : ℕ) : Type 0 where
  is_cancel_variable : kind ≡ cancel
  is_parameter : role ≡ own_parameter k

claimed_so : (kind : VariableKind) (role : VariableRole) (k : ℕ) → claimed_as kind role ≡ Some k → IsClaimed kind role k
claimed_so cancel (own_parameter j) k e = record { is_cancel_variable = refl; is_parameter = ap own_parameter (same_Some j k e) }
claimed_so cancel own_receiver k e = absurd (none-some k e)
claimed_so cancel declared_in_body k e = absurd (none-some k e)
claimed_so cancel captured k e = absurd (none-some k e)
claimed_so group role k e = absurd (none-some k e)

no_items : {A : Type 0} (xs : List A) → (length xs == 0) ≡ true → xs ≡ []
no_items xs e = nil_from_length xs ((Decides-eqb (length xs) 0).0 e)

only_one : {A : Type 0} (x y : A) → Contains (x ∷ []) y → x ≡ y
only_one x y h = elim (contains_cases x y [] h) [
  | inl same ↦ same
  | inr bad ↦ absurd (contains_nil y bad)
]

module _ (facts : List ℕ → Option FunctionFacts) (fs : List FileWithCredits) (have : HaveFacts facts fs) where
  -- a claim that the program goes over is one

  record Claimed (taken : Option FunctionFacts) (file b : ℕ) (name : List ℕ) (place : ℕ) (v : Variable) (c : Claim)
      : Type 0 where
    position : ℕ
    is_it : record { file = file; body = b; place = place; name = name; position = position } ≡ c
    is_claimed : IsClaimed v.kind v.role position
    is_taken : facts_take cancel position taken ≡ true

  claimed_at : (taken : Option FunctionFacts) (file b : ℕ) (name : List ℕ) (place : ℕ) (v : Variable) (c : Claim)
      → Contains (variable_claims taken file b name place v) c
      → Claimed taken file b name place v c
  claimed_at taken file b name place v c h = by (claimed_as v.kind v.role) refl h
    where
      at : (k : ℕ) → claimed_as v.kind v.role ≡ Some k → (t : Bool) → facts_take cancel k taken ≡ t
          → Contains (if t then record { file = file; body = b; place = place; name = name; position = k } ∷ [] else []) c
          → Claimed taken file b name place v c
      at k e true is g = record {
        position = k;
        is_it = only_one _ c g;
        is_claimed = claimed_so v.kind v.role k e;
        is_taken = is;
      }
      at k e false is g = absurd (contains_nil c g)

      by : (o : Option ℕ) → claimed_as v.kind v.role ≡ o → Contains (claim_at taken file b name place o) c
          → Claimed taken file b name place v c
      by None e g = absurd (contains_nil c g)
      by (Some k) e g = at k e (facts_take cancel k taken) refl g

  named_claim : (number : ℕ) (file : FileWithCredits) → slice_get fs number ≡ Some file
      → (place : ℕ) (b : BodyPlace) → slice_get (bodies_of file.seen) place ≡ Some b
      → (name : List ℕ) → function_name b ≡ Some name
      → (t : Bool) → (length (unfollowed_faults file.seen b) == 0) ≡ t
      → (c : Claim)
      → Contains (if t then each_from (variable_claims (facts name) number place name) 0 (variables_of file.seen b.at) else []) c
      → IsOneOf fs c
  named_claim number file is_file place b is_body name is_name false few c h = absurd (contains_nil c h)
  named_claim number file is_file place b is_body name is_name true few c h =
      let w = given_at (variable_claims (facts name) number place name) (variables_of file.seen b.at) c h in
      let g = claimed_at (facts name) number place name w.place w.element c w.gives in
      subst (IsOneOf fs) g.is_it (record {
        file = file;
        body = b;
        variable = w.element;
        is_claim = record {
          is_file = is_file;
          is_body = is_body;
          is_variable = w.is_there;
          is_claim = record {
            is_body = contains_at (bodies_of file.seen) place b is_body;
            is_of_function = function_so b name is_name;
            is_cancel_parameter =
                ap (facts_take cancel g.position) (have.each file (contains_at fs number file is_file) name)
                ∙ g.is_taken;
            is_followed = no_items (unfollowed_faults file.seen b) few;
            is_of_body = contains_at (variables_of file.seen b.at) w.place w.element w.is_there;
            is_parameter = g.is_claimed.is_parameter;
            is_cancel_variable = g.is_claimed.is_cancel_variable;
          };
        };
      })

  pub claim_of : (c : Claim) → Contains (all_claims facts fs) c → IsOneOf fs c
  claim_of c h =
      let w = given_at (file_claims facts) fs c h in
      let g = given_at (body_claims facts w.element.seen w.place) (bodies_of w.element.seen) c w.gives in
      by w.place w.element w.is_there g.place g.element g.is_there (function_name g.element) refl g.gives
    where
      by : (number : ℕ) (file : FileWithCredits) → slice_get fs number ≡ Some file
          → (place : ℕ) (b : BodyPlace) → slice_get (bodies_of file.seen) place ≡ Some b
          → (o : Option (List ℕ)) → function_name b ≡ o
          → Contains (claims_named facts number place (unfollowed_faults file.seen b) (variables_of file.seen b.at) o) c
          → IsOneOf fs c
      by number file is_file place b is_body None e g = absurd (contains_nil c g)
      by number file is_file place b is_body (Some name) e g =
          named_claim number file is_file place b is_body name e
          (length (unfollowed_faults file.seen b) == 0) refl c g

  -- and each claim is among those

  claim_there : (c : Claim) (file : FileWithCredits) (b : BodyPlace) (v : Variable) → IsClaimOf fs c file b v
      → Contains (variable_claims (facts c.name) c.file c.body c.name c.place v) c
  claim_there c file b v h =
      let taken : facts_take cancel c.position (facts c.name) ≡ true =
      ap (facts_take cancel c.position) (sym (have.each file (contains_at fs c.file file h.is_file) c.name))
      ∙ h.is_claim.is_cancel_parameter in
      let claimed : claimed_as v.kind v.role ≡ Some c.position =
      λ i. claimed_as (h.is_claim.is_cancel_variable i) (h.is_claim.is_parameter i) in
      subst (λ o. Contains (claim_at (facts c.name) c.file c.body c.name c.place o) c) (sym claimed)
      (subst (λ t. Contains (if t then c ∷ [] else []) c) (sym taken) (contains_here c []))

  pub claim_among : (c : Claim) (file : FileWithCredits) (b : BodyPlace) (v : Variable) → IsClaimOf fs c file b v
      → Contains (all_claims facts fs) c
  claim_among c file b v h =
      gives_at (file_claims facts) fs c c.file file h.is_file
      (gives_at (body_claims facts file.seen c.file) (bodies_of file.seen) c c.body b h.is_body
      (subst (λ o. Contains (claims_named facts c.file c.body (unfollowed_faults file.seen b) (variables_of file.seen b.at) o) c)
      (sym (so_function b c.name h.is_claim.is_of_function))
      (subst (λ t. Contains (if t then each_from (variable_claims (facts c.name) c.file c.body c.name) 0 (variables_of file.seen b.at) else []) c)
      (sym few)
      (gives_at (variable_claims (facts c.name) c.file c.body c.name) (variables_of file.seen b.at) c c.place v
      h.is_variable (claim_there c file b v h)))))
    where
      few : (length (unfollowed_faults file.seen b) == 0) ≡ true
      few = ap (λ fs. length fs == 0) h.is_claim.is_followed
