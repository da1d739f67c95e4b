-- The claims that are believed, as the program goes over them.
use Rattle.std.specs.Prelude.{ℕ, Bool, false, if◌then◌else◌, List, [], ◌∷◌, Option, Some, None}
use Rattle.calls_flags.specs.Claims.{Claim, IsClaimOf, ComesBackThere}
use Rattle.meaning.specs.FunctionFacts.{CancelType, cancel_type, FunctionFacts}
use Rattle.meaning.specs.BodyEvents.{Variable}
use Rattle.meaning.specs.Mentions.{BodyPlace}
use Rattle.meaning.specs.Uses.{facts_take_type}
use Rattle.meaning_packages.specs.CallsFlags.{FileWithCredits}

-- a claim with that type, or none, of a parameter of a function with these facts
abbrev pub has_type : Option FunctionFacts → ℕ → Option CancelType → Bool
has_type facts k None = false
has_type facts k (Some t) = facts_take_type (cancel_type t) k facts

module _ (facts : List ℕ → Option FunctionFacts) (claims : List ℕ → ℕ → Option CancelType) where
  abbrev pub is_believed : Claim → Bool
  is_believed c = has_type (facts c.name) c.position (claims c.name c.position)

  abbrev pub believes : List Claim → List Claim
  believes [] = []
  believes (c ∷ cs) = if is_believed c then c ∷ believes cs else believes cs

-- the claim's function comes back, if the edition asks for that
pub record ComesBackOf (files : List FileWithCredits) (c : Claim) : Type 0 where
  pub file : FileWithCredits
  pub body : BodyPlace
  pub variable : Variable
  pub is_claim : IsClaimOf files c file body variable
  pub comes_back : ComesBackThere file.seen file.credits body variable
