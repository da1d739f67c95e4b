-- The parameters of a package's functions of which it may be known that they are called, as the program goes over them:
-- file by file, body by body, variable by variable.
use Rattle.std.specs.Prelude.{ℕ, ◌≡◌, ◌==◌, ◌&&◌, not, Bool, if◌then◌else◌, List, [], ◌∷◌, length, Option, Some, None, is_none, slice_get, Contains}
use Rattle.std.specs.List.{list_any}
use Rattle.std.specs.Str.{bytes_eq}
use Rattle.tree.specs.Syntax.{Identifier}
use Rattle.meaning.specs.Scopes.{is_blank}
use Rattle.meaning.specs.OuterBlocks.{is_init}
use Rattle.meaning.specs.FunctionFacts.{FunctionFacts, VariableKind, cancel, group}
use Rattle.meaning.specs.Mentions.{BodyPlace}
use Rattle.meaning.specs.Uses.{Callee, Seen, UseFault, facts_take}
use Rattle.meaning.specs.BodyEvents.{Variable, VariableRole, own_parameter, own_receiver, declared_in_body, captured, variables_of, unfollowed_faults}
use Rattle.meaning_packages.specs.PathFaults.{paths_of, KeepsCall}
use Rattle.meaning_packages.specs.Credits.{Credits, no_calls, promises_in}
use Rattle.meaning.specs.BodyEvents.{bodies_of}
use Rattle.meaning_packages.specs.CallsFlags.{Flags, ComesBackBy, FileWithCredits, IsClaim}
use Rattle.path_faults.specs.FoundFaults.{each_from}
use Rattle.calls_flags.specs.declared.claims.Claim.{Claim as KeptClaim}

-- a parameter by its file's number, the place of its body in the list of the file's, its own place in the body's list
-- of variables, the name of the function and its position
pub record Claim : Type 0 where
  pub file : ℕ
  pub body : ℕ
  pub place : ℕ
  pub name : List ℕ
  pub position : ℕ

abbrev pub claim_view : KeptClaim → Claim
claim_view c = record {
  file = c.file;
  body = c.body;
  place = c.place;
  name = c.parameter.name.now;
  position = c.parameter.position;
}

-- All of a package

abbrev pub called_name : Option Identifier → Option (List ℕ)
called_name None = None
called_name (Some n) = if not (is_blank n.text) && not (is_init n.text) then Some n.text else None

-- the name of a function, which is no method and neither `init` nor `_`
abbrev pub function_name : BodyPlace → Option (List ℕ)
function_name b = if is_none b.receiver then called_name b.name else None

-- the position of a cancel variable that is a parameter
abbrev pub claimed_as : VariableKind → VariableRole → Option ℕ
claimed_as cancel (own_parameter k) = Some k
claimed_as cancel own_receiver = None
claimed_as cancel declared_in_body = None
claimed_as cancel captured = None
claimed_as group role = None

-- of the body at that place in the list of its file's
abbrev pub claim_at : Option FunctionFacts → ℕ → ℕ → List ℕ → ℕ → Option ℕ → List Claim
claim_at facts file b name place None = []
claim_at facts file b name place (Some k) =
    if facts_take cancel k facts
    then record { file = file; body = b; place = place; name = name; position = k } ∷ []
    else []

abbrev pub variable_claims : Option FunctionFacts → ℕ → ℕ → List ℕ → ℕ → Variable → List Claim
variable_claims facts file b name place v = claim_at facts file b name place (claimed_as v.kind v.role)

-- those of a body with these variables, whose paths are not followed for these faults
abbrev pub claims_with : Option FunctionFacts → ℕ → ℕ → List ℕ → List UseFault → List Variable → List Claim
claims_with facts file b name faults vs =
    if length faults == 0 then each_from (variable_claims facts file b name) 0 vs else []

abbrev pub claims_named
    : (List ℕ → Option FunctionFacts) → ℕ → ℕ → List UseFault → List Variable → Option (List ℕ) → List Claim
claims_named facts file b faults vs None = []
claims_named facts file b faults vs (Some name) = claims_with (facts name) file b name faults vs

abbrev pub body_claims : (List ℕ → Option FunctionFacts) → Seen → ℕ → ℕ → BodyPlace → List Claim
body_claims facts seen file place b =
    claims_named facts file place (unfollowed_faults seen b) (variables_of seen b.at) (function_name b)

abbrev pub bodies_claims : (List ℕ → Option FunctionFacts) → ℕ → Seen → List Claim
bodies_claims facts file seen = each_from (body_claims facts seen file) 0 (bodies_of seen)

abbrev pub file_claims : (List ℕ → Option FunctionFacts) → ℕ → FileWithCredits → List Claim
file_claims facts number file = bodies_claims facts number file.seen

abbrev pub all_claims : (List ℕ → Option FunctionFacts) → List FileWithCredits → List Claim
all_claims facts files = each_from (file_claims facts) 0 files

-- what the claims say of functions
abbrev pub flags_claimed : List Claim → Flags
flags_claimed claims name k = list_any (λ c. bytes_eq name c.name && (k == c.position)) claims

-- Claims that are kept

-- the claim's file, body and variable are there
pub record IsClaimOf
    (files : List FileWithCredits) (c : Claim) (file : FileWithCredits) (b : BodyPlace) (v : Variable)
    : Type 0 where
  pub is_file : slice_get files c.file ≡ Some file
  pub is_body : slice_get (bodies_of file.seen) c.body ≡ Some b
  pub is_variable : slice_get (variables_of file.seen b.at) c.place ≡ Some v
  pub is_claim : IsClaim file.seen b v c.name c.position

pub record IsOneOf (files : List FileWithCredits) (c : Claim) : Type 0 where
  pub file : FileWithCredits
  pub body : BodyPlace
  pub variable : Variable
  pub is_claim : IsClaimOf files c file body variable

-- some return of the body is reached, if the edition asks for that
abbrev pub ComesBackThere : Seen → Credits → BodyPlace → Variable → Type 0
ComesBackThere seen credits b v =
    ComesBackBy seen.known.edition (paths_of seen (promises_in no_calls credits b.at) b)

-- so it is, and the body's paths keep the call of the variable, by what is known of functions
abbrev pub KeepsThere : (Callee → ℕ → Bool) → Seen → Credits → BodyPlace → Variable → Type 0
KeepsThere calls seen credits b v =
    ComesBackBy seen.known.edition (paths_of seen (promises_in calls credits b.at) b)
    × KeepsCall (paths_of seen (promises_in calls credits b.at) b) v

-- the paths of the claim's function keep it, by what is known of functions
pub record KeepsClaim (files : List FileWithCredits) (calls : Callee → ℕ → Bool) (c : Claim) : Type 0 where
  pub file : FileWithCredits
  pub body : BodyPlace
  pub variable : Variable
  pub is_claim : IsClaimOf files c file body variable
  pub keeps : KeepsThere calls file.seen file.credits body variable

-- each is a claim of the package
pub record AreClaims (files : List FileWithCredits) (claims : List Claim) : Type 0 where
  pub each : (c : Claim) → Contains claims c → IsOneOf files c

-- what is known in each file of the functions of the package
pub record HaveFacts (facts : List ℕ → Option FunctionFacts) (files : List FileWithCredits) : Type 0 where
  pub each : (file : FileWithCredits) → Contains files file
      → (name : List ℕ)
      → file.seen.known.functions name ≡ facts name

-- what a round leaves of claims: exactly those that are kept
pub data Sieves (Keeps : Claim → Type 0) : List Claim → List Claim → Type 0 where
  ends : Sieves Keeps [] []
  keeps : {c : Claim} {before after : List Claim}
      → Keeps c
      → Sieves Keeps before after
      → Sieves Keeps (c ∷ before) (c ∷ after)
  drops : {c : Claim} {before after : List Claim}
      → (Keeps c → ⊥)
      → Sieves Keeps before after
      → Sieves Keeps (c ∷ before) after
