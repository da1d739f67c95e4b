-- Chains of uses: a step along one, and what one use more changes.
use Rattle.std.proofs.Common.{◌≡◌, ℕ, zero, suc, ◌+◌, ◌-◌, ◌<◌, ◌≤◌, Bool, true, false, if◌then◌else◌, Option, Some, None, List, [], ◌∷◌, ◌++◌, length, slice_get, get_or, nat_eq, refl, sym, ap, ◌∙◌, subst, arith, inl, inr, length-append}
use Rattle.std.specs.Prelude.{min, slice_index_or, slice_set}
use Rattle.std.proofs.lemmas.Bool.Decides.{eqb_tells}
use Rattle.std.proofs.lemmas.List.{get_or-set_same, get_or-set_other}
use Rattle.std.proofs.lemmas.Bool.{eq-eqb, ne_eqb}
use Rattle.std.proofs.lemmas.Option.{slice_get_read, slice_get_past, slice_get-get_or, get_or_from_slice_get}
use Rattle.names.specs.declared.meanings.NameMeaning.{NameMeaning}
use Rattle.names.specs.declared.use_meanings.UseMeaning.{UseMeaning}
use Rattle.names.specs.declared.use_meanings.UseMeanings.{UseMeanings}
use Rattle.names.specs.KeptMeanings.{AreNumbered, Keeps}
use Rattle.names.specs.UseMeanings.{block_of, in_use, in_chain, Reaches}

-- how many uses a chain may have plays no part beyond its first number
pub enough :
    (uses : List UseMeaning) (at n m number : ℕ) → number ≤ n → number ≤ m
    → in_chain n uses number at ≡ in_chain m uses number at
enough uses at zero zero number l k = refl
enough uses at zero (suc m) zero l k = refl
enough uses at zero (suc m) (suc i) l k = absurd (omega (arith, l))
enough uses at (suc n) zero zero l k = refl
enough uses at (suc n) zero (suc i) l k = absurd (omega (arith, k))
enough uses at (suc n) (suc m) zero l k = refl
enough uses at (suc n) (suc m) (suc i) l k = λ j.
    in_use (slice_get uses i) at
    (λ next. enough uses at n m (min i next) (omega (arith, l)) (omega (arith, k)) j)

get_front : {A : Type 0} (xs ys : List A) (i : ℕ) → i < length xs → slice_get (xs ++ ys) i ≡ slice_get xs i
get_front [] ys i l = absurd (omega (arith, l))
get_front (x ∷ xs) ys zero l = refl
get_front (x ∷ xs) ys (suc i) l = get_front xs ys i (omega (arith, l))

-- uses that stand behind all of a chain play no part in it
pub as_before :
    (uses others : List UseMeaning) (at n number : ℕ) → number ≤ length uses
    → in_chain n (uses ++ others) number at ≡ in_chain n uses number at
as_before uses others at zero number l = refl
as_before uses others at (suc n) zero l = refl
as_before uses others at (suc n) (suc i) l = λ j.
    in_use (get_front uses others i l j) at
    (λ next. as_before uses others at n (min i next) (omega (arith, l)) j)

-- at a number: the use there is looked at, and then those further on
at_number :
    (uses : List UseMeaning) (at number : ℕ) → 0 < number
    → in_chain number uses number at
    ≡ in_use (slice_get uses (number - 1)) at (λ next. in_chain (min (number - 1) next) uses (min (number - 1) next) at)
at_number uses at zero some = absurd (omega (arith, some))
at_number uses at (suc i) some =
    let same : i ≡ suc i - 1 = omega arith in
    (λ j. in_use (slice_get uses i) at (λ next. enough uses at i (min i next) (min i next) (omega arith) (omega arith) j))
    ∙ ap (λ (k : ℕ). in_use (slice_get uses k) at (λ next. in_chain (min k next) uses (min k next) at)) same

at_use : (u : UseMeaning) (at : ℕ) (further : ℕ → Option NameMeaning) (b : Bool) → nat_eq u.at at ≡ b
    → in_use (Some u) at further ≡ (if b then Some u.meaning else further u.next)
at_use u at further b e = ap (λ (t : Bool). if t then Some u.meaning else further u.next) e

-- a look-up that has come to a number of the chain, and says there what the whole chain says
module _ (uses : List UseMeaning) (at number : ℕ) (whole : Option NameMeaning) (some : 0 < number)
    (so_far : whole ≡ in_chain number uses number at) where
  abbrev next_uses : ℕ → Option NameMeaning
  next_uses next = in_chain (min (number - 1) next) uses (min (number - 1) next) at

  pub none_there : length uses ≤ number - 1 → None ≡ whole
  none_there past =
      sym
      (so_far ∙ at_number uses at number some
      ∙ ap (λ (o : Option UseMeaning). in_use o at next_uses) (slice_get_past uses (number - 1) past))

  module _ (u : UseMeaning) (within : number - 1 < length uses) (is : u ≡ get_or uses (number - 1) u) where
    there : (b : Bool) → nat_eq u.at at ≡ b → whole ≡ (if b then Some u.meaning else next_uses u.next)
    there b e =
        so_far ∙ at_number uses at number some
        ∙ ap (λ (o : Option UseMeaning). in_use o at next_uses) (slice_get_read uses (length uses) (number - 1) u refl within is)
        ∙ at_use u at next_uses b e

    pub is_found : u.at ≡ at → Some u.meaning ≡ whole
    is_found same = sym (there true (eq-eqb u.at at same))

    pub goes_on : (next : ℕ) → next ≡ min (number - 1) u.next → (u.at ≡ at → ⊥) → whole ≡ in_chain next uses next at
    goes_on next e other =
        there false (ne_eqb u.at at other) ∙ ap (λ (k : ℕ). in_chain k uses k at) (sym e)

pub all_seen : (uses : List UseMeaning) (at number : ℕ) (whole : Option NameMeaning) → (0 < number → ⊥)
    → whole ≡ in_chain number uses number at → None ≡ whole
all_seen uses at zero whole none so_far = sym so_far
all_seen uses at (suc i) whole none so_far = absurd (none (omega arith))

get_last : {A : Type 0} (xs : List A) (x : A) → slice_get (xs ++ x ∷ []) (length xs) ≡ Some x
get_last [] x = refl
get_last (y ∷ ys) x = get_last ys x

-- what the chain of an offset's block says of it
abbrev says : List ℕ → List UseMeaning → ℕ → Option NameMeaning
says firsts uses at = in_chain (slice_index_or firsts (block_of at) 0) uses (slice_index_or firsts (block_of at) 0) at

-- one use more, with which the chain of its block begins now
module _ (firsts reached : List ℕ) (uses : List UseMeaning) (u : UseMeaning) (reaches : Reaches firsts reached (block_of u.at))
    (numbered : (block : ℕ) → slice_index_or firsts block 0 ≤ length uses)
    (follows : u.next ≡ slice_index_or reached (block_of u.at) 0) where
  abbrev firsts_now : List ℕ
  firsts_now = slice_set reached (block_of u.at) (suc (length uses))

  abbrev uses_now : List UseMeaning
  uses_now = uses ++ u ∷ []

  of_this : (block : ℕ) → block ≡ block_of u.at → slice_index_or firsts_now block 0 ≡ suc (length uses)
  of_this block e =
      ap (λ (b : ℕ). slice_index_or firsts_now b 0) e
      ∙ get_or-set_same reached (block_of u.at) (suc (length uses)) 0 reaches.reached

  of_other : (block : ℕ) → (block ≡ block_of u.at → ⊥) → slice_index_or firsts_now block 0 ≡ slice_index_or firsts block 0
  of_other block apart =
      get_or-set_other reached (block_of u.at) block (suc (length uses)) 0 apart ∙ reaches.same block

  numbered_now : (block : ℕ) → slice_index_or firsts_now block 0 ≤ length uses_now
  numbered_now block =
      elim (eqb_tells block (block_of u.at)) [
        | inl h ↦ omega (arith, of_this block h.1, length-append uses (u ∷ []))
        | inr h ↦ omega (arith, of_other block h.1, numbered block, length-append uses (u ∷ []))
      ]

  next_is : u.next ≡ slice_index_or firsts (block_of u.at) 0
  next_is = follows ∙ reaches.same (block_of u.at)

  further : (at : ℕ) → block_of at ≡ block_of u.at
      → in_chain (length uses) uses_now (min (length uses) u.next) at ≡ says firsts uses at
  further at e =
      let low : u.next ≤ length uses = omega (arith, next_is, numbered (block_of u.at)) in
      let least : min (length uses) u.next ≡ u.next = omega (arith, low) in
      ap (λ (k : ℕ). in_chain (length uses) uses_now k at) least
      ∙ as_before uses (u ∷ []) at (length uses) u.next low
      ∙ enough uses at (length uses) u.next u.next low (omega arith)
      ∙ ap (λ (k : ℕ). in_chain k uses k at) (next_is ∙ ap (λ (b : ℕ). slice_index_or firsts b 0) (sym e))

  here : (at : ℕ) → block_of at ≡ block_of u.at
      → says firsts_now uses_now at ≡ (if nat_eq u.at at then Some u.meaning else says firsts uses at)
  here at e =
      ap (λ (k : ℕ). in_chain k uses_now k at) (of_this (block_of at) e)
      ∙ ap
      (λ (o : Option UseMeaning). in_use o at (λ next. in_chain (length uses) uses_now (min (length uses) next) at))
      (get_last uses u)
      ∙ ap (λ (o : Option NameMeaning). if nat_eq u.at at then Some u.meaning else o) (further at e)

  elsewhere : (at : ℕ) → (block_of at ≡ block_of u.at → ⊥)
      → says firsts_now uses_now at ≡ (if nat_eq u.at at then Some u.meaning else says firsts uses at)
  elsewhere at apart =
      ap (λ (k : ℕ). in_chain k uses_now k at) (of_other (block_of at) apart)
      ∙ as_before uses (u ∷ []) at (slice_index_or firsts (block_of at) 0) (slice_index_or firsts (block_of at) 0)
      (numbered (block_of at))
      ∙ sym
      (ap (λ (b : Bool). if b then Some u.meaning else says firsts uses at)
      (ne_eqb u.at at (λ e. apart (sym (ap block_of e)))))

  said_now : (at : ℕ) → says firsts_now uses_now at ≡ (if nat_eq u.at at then Some u.meaning else says firsts uses at)
  said_now at =
      elim (eqb_tells (block_of at) (block_of u.at)) [ inl h ↦ here at h.1 | inr h ↦ elsewhere at h.1 ]

pub kept_one :
    (before after : UseMeanings) (reached : List ℕ) (u : UseMeaning) (block number d : ℕ) → AreNumbered before
    → Reaches before.firsts.items reached (block_of u.at) → block ≡ block_of u.at → u.next ≡ slice_index_or reached block d
    → number ≡ length before.uses.items + 1 → after.firsts.items ≡ slice_set reached block number
    → after.uses.items ≡ before.uses.items ++ u ∷ [] → Keeps before after u.at u.meaning
kept_one before after reached u block number d numbered reaches is next count set pushed =
    let uses = before.uses.items in
    let firsts = before.firsts.items in
    let follows : u.next ≡ slice_index_or reached (block_of u.at) 0 =
    next ∙ ap (λ (b : ℕ). slice_index_or reached b d) is
    ∙ sym
    (get_or_from_slice_get reached (block_of u.at) _ 0 (slice_get-get_or reached (block_of u.at) d reaches.reached)) in
    let counted : number ≡ suc (length uses) = omega (arith, count) in
    let set_now : after.firsts.items ≡ slice_set reached (block_of u.at) (suc (length uses)) =
    set ∙ (λ j. slice_set reached (is j) (counted j)) in
    record {
      numbered = λ block.
          subst (λ (l : List UseMeaning). slice_index_or after.firsts.items block 0 ≤ length l) (sym pushed)
          (subst (λ (l : List ℕ). slice_index_or l block 0 ≤ length (uses ++ u ∷ [])) (sym set_now)
          (numbered_now firsts reached uses u reaches numbered follows block));
      kept = λ k. (λ j. says (set_now j) (pushed j) k) ∙ said_now firsts reached uses u reaches numbered follows k;
    }
