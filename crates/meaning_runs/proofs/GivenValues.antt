-- The contents that a call gives to the parameters of a body: cancel functions and groups.
use Rattle.std.proofs.Common.{◌≡◌, ℕ, ◌<◌, ◌⊎◌, inl, inr, Bool, true, false, cond, List, [], ◌∷◌, Option, Some, None, Contains, refl, sym, ap, ◌∙◌, subst, arith}
use Rattle.std.specs.Prelude.{◌==◌, if◌then◌else◌}
use Rattle.std.proofs.lemmas.Bool.{eq-eqb, cond_both}
use Rattle.std.proofs.lemmas.Option.{same_Some}
use Rattle.meaning.specs.Uses.{Callee, found}
use Rattle.meaning.specs.BodyEvents.{Variable, VariableRole, own_parameter, own_receiver, declared_in_body, captured, role_in}
use Rattle.meaning.proofs.Membership.{contains_here, contains_there, contains_cases, contains_nil}
use Rattle.meaning_runs.specs.Bodies.{Body, variables_in}
use Rattle.meaning_runs.specs.World.{Value, nothing, Store, IsAny, any_nothing, outside_none, IsOutside, Given, Lent, Passing}
use Rattle.meaning_runs.specs.Steps.{MayJoin, is_next, joining, IsLentTo, Fits}
use Rattle.meaning_runs.proofs.Captured.{of_variable}
use Rattle.meaning_runs.proofs.Places.{eqb_is}

-- two variables of a body with one number have one role
pub same_role : (b : Body) (u v : Variable) → Contains (variables_in b) u → Contains (variables_in b) v → u.number ≡ v.number → u.role ≡ v.role
same_role b u v c d e =
    let x = of_variable b.file b.place.at u c in
    let y = of_variable b.file b.place.at v d in
    let same : x.0 ≡ y.0 = same_Some x.0 y.0 (sym x.1 ∙ ap (λ n. found b.file (Some n)) e ∙ y.1) in
    x.3 ∙ ap (role_in b.place.at) same ∙ sym y.3

-- arguments, each with its position and its content, and what a parameter without one holds
module _ {X A : Type 0} (position : X → ℕ) (content : X → A) (default : A) where
  -- one content for each position
  abbrev pub IsOneEach : List X → Type 0
  IsOneEach xs = (x y : X) → Contains xs x → Contains xs y → position x ≡ position y → content x ≡ content y

  -- one more argument, behind all others
  one_more : (x : X) (xs : List X) → ((y : X) → Contains xs y → position y < position x) → IsOneEach xs → IsOneEach (x ∷ xs)
  one_more x xs below one = λ y z c d e. both y z (contains_cases x y xs c) (contains_cases x z xs d) e
    where
      both : (y z : X) → (x ≡ y) ⊎ Contains xs y → (x ≡ z) ⊎ Contains xs z → position y ≡ position z → content y ≡ content z
      both y z (inl q) (inl r) e = ap content (sym q ∙ r)
      both y z (inl q) (inr r) e =
          let same : position x ≡ position y = ap position q in
          let less = below z r in
          absurd (omega (arith, same, less, e))
      both y z (inr q) (inl r) e =
          let same : position x ≡ position z = ap position r in
          let less = below y q in
          absurd (omega (arith, same, less, e))
      both y z (inr q) (inr r) e = one y z q r e

  none_yet : IsOneEach []
  none_yet x y c d e = absurd (contains_nil x c)

  abbrev content_at : List X → ℕ → A
  content_at [] k = default
  content_at (x ∷ xs) k = if position x == k then content x else content_at xs k

  abbrev content_of : List X → VariableRole → A
  content_of xs (own_parameter k) = content_at xs k
  content_of xs own_receiver = default
  content_of xs declared_in_body = default
  content_of xs captured = default

  abbrev pub contents_of : List X → List Variable → ℕ → A
  contents_of xs [] n = default
  contents_of xs (v ∷ vs) n = if v.number == n then content_of xs v.role else contents_of xs vs n

  content_at-is : (xs : List X) (x : X) → Contains xs x → ((y : X) → Contains xs y → position y ≡ position x → content y ≡ content x) → content_at xs (position x) ≡ content x
  content_at-is [] x c h = absurd (contains_nil x c)
  content_at-is (y ∷ ys) x c h = elim (contains_cases y x ys c) [
    | inl q ↦ ap (λ b. cond b (content y) (content_at ys (position x))) (eq-eqb (position y) (position x) (ap position q)) ∙ ap content q
    | inr r ↦
        let further = content_at-is ys x r (λ z k. h z (contains_there y z ys k)) in
        cond_both (position y == position x) (content y) (content_at ys (position x)) (λ z. z ≡ content x) (λ e. h y (contains_here y ys) (eqb_is (position y) (position x) e)) (λ e. further)
  ]

  contents_of-is : (xs : List X) (vs : List Variable) (v : Variable) → Contains vs v → ((u : Variable) → Contains vs u → u.number ≡ v.number → u.role ≡ v.role) → contents_of xs vs v.number ≡ content_of xs v.role
  contents_of-is xs [] v c h = absurd (contains_nil v c)
  contents_of-is xs (u ∷ us) v c h = elim (contains_cases u v us c) [
    | inl q ↦ ap (λ b. cond b (content_of xs u.role) (contents_of xs us v.number)) (eq-eqb u.number v.number (ap (λ (z : Variable). z.number) q)) ∙ ap (λ (z : Variable). content_of xs z.role) q
    | inr r ↦
        let further = contents_of-is xs us v r (λ z k. h z (contains_there u z us k)) in
        cond_both (u.number == v.number) (content_of xs u.role) (contents_of xs us v.number) (λ z. z ≡ content_of xs v.role) (λ e. ap (content_of xs) (h u (contains_here u us) (eqb_is u.number v.number e))) (λ e. further)
  ]

  -- a parameter holds what its argument is
  contents_fit : (b : Body) (xs : List X) → IsOneEach xs → (v : Variable) (x : X) → Contains (variables_in b) v → Contains xs x → v.role ≡ own_parameter (position x) → contents_of xs (variables_in b) v.number ≡ content x
  contents_fit b xs one v x among c role =
      contents_of-is xs (variables_in b) v among (λ u k e. same_role b u v k among e)
      ∙ ap (content_of xs) role
      ∙ content_at-is xs x c (λ y k e. one y x k c e)

  -- some argument is at the position of a parameter of that number, and this is its content
  pub record IsArgument (xs : List X) (vs : List Variable) (n : ℕ) (a : A) : Type 0 where
    pub variable : Variable
    pub argument : X
    pub is_of_body : Contains vs variable
    pub is_among : Contains xs argument
    pub is_number : variable.number ≡ n
    pub is_position : variable.role ≡ own_parameter (position argument)
    pub is_content : a ≡ content argument

  content_at-from : (xs : List X) (k : ℕ) → ((x : X) × Contains xs x × (k ≡ position x) × (content_at xs k ≡ content x)) ⊎ (content_at xs k ≡ default)
  content_at-from [] k = inr refl
  content_at-from (x ∷ xs) k = by (position x == k) refl (content_at-from xs k)
    where
      by : (b : Bool) → (position x == k) ≡ b → ((y : X) × Contains xs y × (k ≡ position y) × (content_at xs k ≡ content y)) ⊎ (content_at xs k ≡ default)
          → ((y : X) × Contains (x ∷ xs) y × (k ≡ position y) × ((if b then content x else content_at xs k) ≡ content y)) ⊎ ((if b then content x else content_at xs k) ≡ default)
      by true q further = inl (x, contains_here x xs, sym (eqb_is (position x) k q), refl)
      by false q (inl (y, c, e, h)) = inl (y, contains_there x y xs c, e, h)
      by false q (inr e) = inr e

  content_of-from : (xs : List X) (r : VariableRole) → ((x : X) × Contains xs x × (r ≡ own_parameter (position x)) × (content_of xs r ≡ content x)) ⊎ (content_of xs r ≡ default)
  content_of-from xs (own_parameter k) = elim (content_at-from xs k) [
    | inl h ↦ inl (h.0, h.1, ap own_parameter h.2, h.3)
    | inr e ↦ inr e
  ]
  content_of-from xs own_receiver = inr refl
  content_of-from xs declared_in_body = inr refl
  content_of-from xs captured = inr refl

  -- each other number holds what is there without a call
  contents_from : (xs : List X) (vs : List Variable) (n : ℕ) → IsArgument xs vs n (contents_of xs vs n) ⊎ (contents_of xs vs n ≡ default)
  contents_from xs [] n = inr refl
  contents_from xs (v ∷ vs) n = by (v.number == n) refl (contents_from xs vs n)
    where
      its : v.number ≡ n → ((x : X) × Contains xs x × (v.role ≡ own_parameter (position x)) × (content_of xs v.role ≡ content x)) ⊎ (content_of xs v.role ≡ default) → IsArgument xs (v ∷ vs) n (content_of xs v.role) ⊎ (content_of xs v.role ≡ default)
      its q (inl h) = inl record { variable = v; argument = h.0; is_of_body = contains_here v vs; is_among = h.1; is_number = q; is_position = h.2; is_content = h.3 }
      its q (inr e) = inr e

      by : (b : Bool) → (v.number == n) ≡ b → IsArgument xs vs n (contents_of xs vs n) ⊎ (contents_of xs vs n ≡ default) → IsArgument xs (v ∷ vs) n (if b then content_of xs v.role else contents_of xs vs n) ⊎ ((if b then content_of xs v.role else contents_of xs vs n) ≡ default)
      by true q further = its (eqb_is v.number n q) (content_of-from xs v.role)
      by false q (inl h) = inl record { variable = h.variable; argument = h.argument; is_of_body = contains_there v h.variable vs h.is_of_body; is_among = h.is_among; is_number = h.is_number; is_position = h.is_position; is_content = h.is_content }
      by false q (inr e) = inr e

-- Calls

abbrev pub OneValueEach : List Given → Type 0
OneValueEach = IsOneEach (λ x. x.position) (λ x. x.value) nothing

abbrev pub OneGroupEach : List Lent → Type 0
OneGroupEach = IsOneEach (λ y. y.position) (λ y. y.group) None

-- what a call gives are values of the world, and one for each position
pub record IsGiven (s : Store) (passing : Passing) : Type 0 where
  pub any : (x : Given) → Contains passing.given x → IsAny s x.value
  pub one : OneValueEach passing.given
  pub one_lent : OneGroupEach passing.lent

one_any : (s : Store) (x : Given) (xs : List Given) → ((y : Given) → Contains xs y → IsAny s y.value) → IsAny s x.value → (y : Given) → Contains (x ∷ xs) y → IsAny s y.value
one_any s x xs h any y c =
    elim (contains_cases x y xs c) [ inl q ↦ subst (λ (z : Given). IsAny s z.value) q any | inr r ↦ h y r ]

-- one more argument: a cancel function
pub joining_gives : (s : Store) (waiting : Option Passing) (c : Callee) (is_deferred : Bool) (x : Given) → ((q : Passing) → waiting ≡ Some q → IsGiven s q) → MayJoin c is_deferred x.position waiting → IsAny s x.value → IsGiven s (joining waiting c is_deferred (x ∷ []) [])
joining_gives s None c is_deferred x h m any = record {
  any = one_any s x [] (λ y k. absurd (contains_nil y k)) any;
  one = one_more (λ y. y.position) (λ y. y.value) nothing x [] (λ y k. absurd (contains_nil y k)) (none_yet (λ y. y.position) (λ y. y.value) nothing);
  one_lent = none_yet (λ y. y.position) (λ y. y.group) None;
}
joining_gives s (Some passing) c is_deferred x h (is_next callee deferred below others) any =
    let its = h passing refl in
    record {
      any = one_any s x passing.given its.any any;
      one = one_more (λ y. y.position) (λ y. y.value) nothing x passing.given below its.one;
      one_lent = its.one_lent;
    }

-- or a group
pub joining_lends : (s : Store) (waiting : Option Passing) (c : Callee) (y : Lent) → ((q : Passing) → waiting ≡ Some q → IsGiven s q) → MayJoin c false y.position waiting → IsGiven s (joining waiting c false [] (y ∷ []))
joining_lends s None c y h m = record {
  any = λ x k. absurd (contains_nil x k);
  one = none_yet (λ x. x.position) (λ x. x.value) nothing;
  one_lent = one_more (λ x. x.position) (λ x. x.group) None y [] (λ x k. absurd (contains_nil x k)) (none_yet (λ x. x.position) (λ x. x.group) None);
}
joining_lends s (Some passing) c y h (is_next callee deferred others below) =
    let its = h passing refl in
    record {
      any = its.any;
      one = its.one;
      one_lent = one_more (λ x. x.position) (λ x. x.group) None y passing.lent below its.one_lent;
    }

abbrev pub given_values : Body → Passing → ℕ → Value
given_values b passing = contents_of (λ x. x.position) (λ x. x.value) nothing passing.given (variables_in b)

abbrev pub given_groups : Body → Passing → ℕ → Option ℕ
given_groups b passing = contents_of (λ y. y.position) (λ y. y.group) None passing.lent (variables_in b)

pub contents_are_given : (s : Store) (b : Body) (passing : Passing) → IsGiven s passing → Fits s b passing (given_values b passing) (given_groups b passing)
contents_are_given s b passing h = record {
  same = contents_fit (λ x. x.position) (λ x. x.value) nothing b passing.given h.one;
  any = λ n. of_any n (contents_from (λ x. x.position) (λ x. x.value) nothing passing.given (variables_in b) n);
  same_group = contents_fit (λ y. y.position) (λ y. y.group) None b passing.lent h.one_lent;
  other_groups = λ n. of_other n (contents_from (λ y. y.position) (λ y. y.group) None passing.lent (variables_in b) n);
}
  where
    of_any : (n : ℕ) → IsArgument (λ x. x.position) (λ x. x.value) nothing passing.given (variables_in b) n (given_values b passing n) ⊎ (given_values b passing n ≡ nothing) → IsAny s (given_values b passing n)
    of_any n (inl k) = subst (IsAny s) (sym k.is_content) (h.any k.argument k.is_among)
    of_any n (inr e) = subst (IsAny s) (sym e) any_nothing

    of_other : (n : ℕ) → IsArgument (λ y. y.position) (λ y. y.group) None passing.lent (variables_in b) n (given_groups b passing n) ⊎ (given_groups b passing n ≡ None) → IsLentTo b passing.lent n ⊎ IsOutside s (given_groups b passing n)
    of_other n (inl k) = inl record {
      parameter = k.variable;
      argument = k.argument;
      is_of_body = k.is_of_body;
      is_lent = k.is_among;
      is_its_number = k.is_number;
      is_its_position = k.is_position;
    }
    of_other n (inr e) = inr (subst (IsOutside s) (sym e) outside_none)
