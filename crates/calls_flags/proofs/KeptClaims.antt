-- Whether a claim is kept, by the file that it is of, and what is left of claims one by one.
use Rattle.std.proofs.Common.{◌≡◌, ℕ, ◌+◌, ◌<◌, ◌≤◌, Bool, List, [], ◌∷◌, ◌++◌, drop, length, get_or, map, Some, IsTrue, refl, sym, ap, ◌∙◌, subst, arith}
use Rattle.std.specs.Prelude.{◌↔◌, slice_get}
use Rattle.std.proofs.lemmas.List.{append-nil, append_assoc, drop_more, length-append, map-append}
use Rattle.std.proofs.lemmas.Option.{slice_get_within, slice_get_read}
use Rattle.meaning.specs.BodyEvents.{Variable, bodies_of, variables_of, unfollowed_faults}
use Rattle.meaning.specs.Mentions.{BodyPlace}
use Rattle.meaning.specs.FunctionFacts.{cancel}
use Rattle.meaning.specs.Uses.{Callee, Seen}
use Rattle.meaning_packages.specs.CallsFlags.{FileWithCredits}
use Rattle.meaning_packages.specs.Credits.{Credits}
use Rattle.calls_flags.specs.declared.file_bodies.FileBodies.{FileBodies}
use Rattle.calls_flags.specs.FilesBodies.{TellsWithCredits, TellAll}
use Rattle.calls_flags.specs.Claims.{Claim, claim_view, AreClaims, IsClaimOf, IsOneOf, KeepsThere, KeepsClaim, Sieves, ends, keeps, drops}
use Rattle.calls_flags.specs.declared.claims.Claim.{Claim as KeptClaim}
use Rattle.meaning.proofs.Membership.{contains_map}

module _ (files : List FileBodies) (Holds : Seen → Credits → BodyPlace → Variable → Type 0) (c : Claim) where
  -- whether it holds of the claim's body and variable, which stand in the file
  pub holds_in : (file : FileBodies) → c.file < length files → file ≡ get_or files c.file file
      → (is : Bool)
      → ((number : ℕ) (f : FileWithCredits) → TellsWithCredits number f file
      → (b : BodyPlace) → slice_get (bodies_of f.seen) c.body ≡ Some b
      → unfollowed_faults f.seen b ≡ []
      → (v : Variable) → slice_get (variables_of f.seen b.at) c.place ≡ Some v → v.kind ≡ cancel
      → IsTrue is ↔ Holds f.seen f.credits b v)
      → (fs : List FileWithCredits) → TellAll fs files
      → (f : FileWithCredits) (b : BodyPlace) (v : Variable) → IsClaimOf fs c f b v
      → IsTrue is ↔ Holds f.seen f.credits b v
  holds_in file within there is by_body fs tell f b v claim =
      by_body c.file f
      (tell.each c.file f file claim.is_file (slice_get_read files (length files) c.file file refl within there)) b
      claim.is_body claim.is_claim.is_followed v claim.is_variable claim.is_claim.is_cancel_variable

  pub no_file : length files ≤ c.file → (fs : List FileWithCredits) → TellAll fs files
      → (f : FileWithCredits) (b : BodyPlace) (v : Variable) → IsClaimOf fs c f b v → ⊥
  no_file past fs tell f b v claim =
      let size = tell.are_as_many in
      let within = slice_get_within fs c.file f claim.is_file in
      omega (arith, past, size, within)

-- the claim is kept, where it holds of its body and variable
pub kept_in : (files : List FileBodies) (calls : Callee → ℕ → Bool) (c : Claim) (is : Bool)
    → ((fs : List FileWithCredits) → TellAll fs files → (f : FileWithCredits) (b : BodyPlace) (v : Variable)
    → IsClaimOf fs c f b v → IsTrue is ↔ KeepsThere calls f.seen f.credits b v)
    → (fs : List FileWithCredits) → TellAll fs files
    → (f : FileWithCredits) (b : BodyPlace) (v : Variable) → IsClaimOf fs c f b v
    → IsTrue is ↔ KeepsClaim fs calls c
kept_in files calls c is holds fs tell f b v claim = (
  λ t. record { file = f; body = b; variable = v; is_claim = claim; keeps = (holds fs tell f b v claim).0 t },
  λ k. (holds fs tell k.file k.body k.variable k.is_claim).1 k.keeps,
)

-- what was kept so far, with what is kept of the claims that are left, is what is kept of all
abbrev pub SievesOn : (Claim → Type 0) → List Claim → List Claim → List Claim → Type 0
SievesOn Keeps left all so_far = (rest : List Claim) → Sieves Keeps left rest → Sieves Keeps all (so_far ++ rest)

module _ (Keeps : Claim → Type 0) (c : Claim) (left before all so_far next : List Claim) (is_next_one : before ≡ c ∷ left)
  where
    pub keeps_next : Keeps c → next ≡ so_far ++ c ∷ [] → SievesOn Keeps before all so_far → SievesOn Keeps left all next
    keeps_next kept is_next on rest sieves =
        let here : Sieves Keeps before (c ∷ rest) =
        subst (λ cs. Sieves Keeps cs (c ∷ rest)) (sym is_next_one) (keeps kept sieves) in
        subst (Sieves Keeps all) (sym (append_assoc so_far (c ∷ []) rest) ∙ ap (λ cs. cs ++ rest) (sym is_next))
        (on (c ∷ rest) here)

    pub drops_next : (Keeps c → ⊥) → SievesOn Keeps before all so_far → SievesOn Keeps left all so_far
    drops_next none on rest sieves =
        on rest (subst (λ cs. Sieves Keeps cs rest) (sym is_next_one) (drops none sieves))

pub all_sieved : (Keeps : Claim → Type 0) (left all so_far : List Claim) → left ≡ [] → SievesOn Keeps left all so_far
    → Sieves Keeps all so_far
all_sieved Keeps left all so_far none on =
    subst (Sieves Keeps all) (append-nil so_far) (on [] (subst (λ cs. Sieves Keeps cs []) (sym none) ends))

pub sieves_first : (Keeps : Claim → Type 0) (all so_far : List Claim) → so_far ≡ [] → SievesOn Keeps all all so_far
sieves_first Keeps all so_far none rest sieves =
    subst (λ cs. Sieves Keeps all (cs ++ rest)) (sym none) sieves

-- what is left of a list from a place on
pub drop_one : {A : Type 0} (xs : List A) (i : ℕ) (x : A) → i < length xs → x ≡ get_or xs i x
    → drop i xs ≡ x ∷ drop (i + 1) xs
drop_one xs i x within is = drop_more xs i x within ∙ ap (λ y. y ∷ drop (i + 1) xs) (sym is)

-- The next of the claims in memory

pub longer : {X : Type 0} (xs next : List X) (x : X) → next ≡ xs ++ x ∷ [] → length next ≡ length xs + 1
longer xs next x is = ap length is ∙ length-append xs (x ∷ [])

module _ (fs : List FileWithCredits) (calls : Callee → ℕ → Bool) (claims : List KeptClaim) (i : ℕ)
    (within : i < length claims) (item : KeptClaim) (is : item ≡ get_or claims i item)
    (are : AreClaims fs (map claim_view claims)) (keeps : Bool)
    (keeps_it : (f : FileWithCredits) (b : BodyPlace) (v : Variable) → IsClaimOf fs (claim_view item) f b v
    → IsTrue keeps ↔ KeepsClaim fs calls (claim_view item)) where
  one : IsOneOf fs (claim_view item)
  one = are.each (claim_view item) (contains_map claim_view claims item (i, within, sym is))

  next_left : map claim_view (drop i claims) ≡ claim_view item ∷ map claim_view (drop (i + 1) claims)
  next_left = ap (map claim_view) (drop_one claims i item within is)

  pub next_kept : IsTrue keeps → (so_far next : List KeptClaim) → next ≡ so_far ++ item ∷ []
      → SievesOn (KeepsClaim fs calls) (map claim_view (drop i claims)) (map claim_view claims) (map claim_view so_far)
      → SievesOn (KeepsClaim fs calls) (map claim_view (drop (i + 1) claims)) (map claim_view claims) (map claim_view next)
  next_kept kept so_far next is_next on =
      keeps_next (KeepsClaim fs calls) (claim_view item) (map claim_view (drop (i + 1) claims))
      (map claim_view (drop i claims)) (map claim_view claims) (map claim_view so_far) (map claim_view next) next_left
      ((keeps_it one.file one.body one.variable one.is_claim).0 kept)
      (ap (map claim_view) is_next ∙ map-append claim_view so_far (item ∷ [])) on

  pub next_dropped : (IsTrue keeps → ⊥) → (so_far next : List KeptClaim) → next ≡ so_far
      → SievesOn (KeepsClaim fs calls) (map claim_view (drop i claims)) (map claim_view claims) (map claim_view so_far)
      → SievesOn (KeepsClaim fs calls) (map claim_view (drop (i + 1) claims)) (map claim_view claims) (map claim_view next)
  next_dropped none so_far next is_next on =
      subst (λ cs. SievesOn (KeepsClaim fs calls) (map claim_view (drop (i + 1) claims)) (map claim_view claims) (map claim_view cs))
      (sym is_next)
      (drops_next (KeepsClaim fs calls) (claim_view item) (map claim_view (drop (i + 1) claims))
      (map claim_view (drop i claims)) (map claim_view claims) (map claim_view so_far) (map claim_view so_far) next_left
      (λ kept. none ((keeps_it one.file one.body one.variable one.is_claim).1 kept)) on)
