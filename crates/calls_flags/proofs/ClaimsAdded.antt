-- Claims that are added file by file, and functions that have none.
use Rattle.std.proofs.Common.{◌≡◌, ℕ, ◌+◌, Bool, true, false, if◌then◌else◌, List, [], ◌∷◌, ◌++◌, length, Option, Some, None, refl, sym, ap, ◌∙◌}
use Rattle.std.specs.Prelude.{◌==◌, not}
use Rattle.std.proofs.lemmas.Bool.{false≢true}
use Rattle.std.proofs.lemmas.List.{append-nil, append_assoc}
use Rattle.meaning.specs.BodyEvents.{Variable}
use Rattle.meaning.specs.FunctionFacts.{FunctionFacts}
use Rattle.meaning.specs.Mentions.{BodyPlace}
use Rattle.meaning.specs.Uses.{UseFault}
use Rattle.path_faults.specs.FoundFaults.{each_from}
use Rattle.calls_flags.specs.Claims.{Claim, claimed_as, claim_at, variable_claims, claims_with, claims_named, function_name}

-- a function without facts has no claims

no_claim_at : (file b : ℕ) (name : List ℕ) (place : ℕ) (o : Option ℕ) → claim_at None file b name place o ≡ []
no_claim_at file b name place None = refl
no_claim_at file b name place (Some k) = refl

none_of : (file b : ℕ) (name : List ℕ) (n : ℕ) (vs : List Variable)
    → each_from (variable_claims None file b name) n vs ≡ []
none_of file b name n [] = refl
none_of file b name n (v ∷ vs) =
    ap (λ cs. cs ++ each_from (variable_claims None file b name) (n + 1) vs)
    (no_claim_at file b name n (claimed_as v.kind v.role))
    ∙ none_of file b name (n + 1) vs

no_claims : (file b : ℕ) (name : List ℕ) (faults : List UseFault) (vs : List Variable)
    → claims_with None file b name faults vs ≡ []
no_claims file b name faults vs = by (length faults == 0)
  where
    by : (t : Bool) → (if t then each_from (variable_claims None file b name) 0 vs else []) ≡ []
    by true = none_of file b name 0 vs
    by false = refl

pub none_added : (facts : List ℕ → Option FunctionFacts) (file place : ℕ) (b : BodyPlace) (faults : List UseFault)
    (vs : List Variable) (name : List ℕ)
    → function_name b ≡ Some name
    → facts name ≡ None
    → (cs : List Claim) → cs ≡ cs ++ claims_named facts file place faults vs (function_name b)
none_added facts file place b faults vs name named none cs =
    sym (append-nil cs)
    ∙ ap (λ ds. cs ++ ds) (sym (ap (claims_named facts file place faults vs) named
    ∙ (ap (λ o. claims_with o file place name faults vs) none ∙ no_claims file place name faults vs)))

-- nor has a body without a name
pub none_named : (facts : List ℕ → Option FunctionFacts) (file place : ℕ) (b : BodyPlace) (faults : List UseFault)
    (vs : List Variable)
    → function_name b ≡ None
    → (cs : List Claim) → cs ≡ cs ++ claims_named facts file place faults vs (function_name b)
none_named facts file place b faults vs none cs =
    sym (append-nil cs) ∙ ap (λ ds. cs ++ ds) (sym (ap (claims_named facts file place faults vs) none))

-- those of a function with a name and facts
pub some_added : (facts : List ℕ → Option FunctionFacts) (file place : ℕ) (b : BodyPlace) (faults : List UseFault)
    (vs : List Variable) (name : List ℕ) (known : FunctionFacts)
    → function_name b ≡ Some name
    → facts name ≡ Some known
    → (cs ds : List Claim) → ds ≡ cs ++ claims_with (Some known) file place name faults vs
    → ds ≡ cs ++ claims_named facts file place faults vs (function_name b)
some_added facts file place b faults vs name known named are cs ds adds =
    adds
    ∙ ap (λ es. cs ++ es)
    (sym (ap (claims_named facts file place faults vs) named ∙ ap (λ o. claims_with o file place name faults vs) are))

module _ (facts : Option FunctionFacts) (file place : ℕ) (name : List ℕ) (faults : List UseFault) (vs : List Variable)
  where
    -- a function whose paths are not followed has no claims
    pub none_unfollowed : (t : Bool) → t ≡ not (length faults == 0) → t ≡ true → (cs : List Claim)
        → cs ≡ cs ++ claims_with facts file place name faults vs
    none_unfollowed t is many cs = by (length faults == 0) (sym is ∙ many)
      where
        by : (few : Bool) → not few ≡ true
            → cs ≡ cs ++ (if few then each_from (variable_claims facts file place name) 0 vs else [])
        by true bad = absurd (false≢true bad)
        by false e = sym (append-nil cs)

    pub all_followed : (t : Bool) → t ≡ not (length faults == 0) → t ≡ false → (cs ds : List Claim)
        → ds ≡ cs ++ each_from (variable_claims facts file place name) 0 vs
        → ds ≡ cs ++ claims_with facts file place name faults vs
    all_followed t is few cs ds adds = by (length faults == 0) (sym is ∙ few)
      where
        by : (is_few : Bool) → not is_few ≡ false
            → ds ≡ cs ++ (if is_few then each_from (variable_claims facts file place name) 0 vs else [])
        by true e = adds
        by false bad = absurd (false≢true (sym bad))

-- what was added, with what is left

module _ {A : Type 0} (g : ℕ → A → List Claim) where
  pub claims_next : (n : ℕ) (x : A) (left here : List A) (before after all : List Claim) → here ≡ x ∷ left
      → after ≡ before ++ g n x
      → before ++ each_from g n here ≡ all
      → after ++ each_from g (n + 1) left ≡ all
  claims_next n x left here before after all is adds h =
      ap (λ cs. cs ++ each_from g (n + 1) left) adds
      ∙ (append_assoc before (g n x) (each_from g (n + 1) left)
      ∙ (ap (λ xs. before ++ each_from g n xs) (sym is) ∙ h))

  pub claims_all : (n : ℕ) (left : List A) (found all : List Claim) → left ≡ [] → found ++ each_from g n left ≡ all
      → found ≡ all
  claims_all n left found all none h =
      sym (append-nil found) ∙ (ap (λ xs. found ++ each_from g n xs) (sym none) ∙ h)
