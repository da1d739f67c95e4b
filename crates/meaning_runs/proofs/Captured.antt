-- A variable of a body is that of a local, with its role there and its kind. One that the body captures is no local of
-- the body, and a literal in the body that declares it mentions it.
use Rattle.std.proofs.Common.{◌≡◌, ℕ, ◌<◌, Bool, true, false, inl, inr, List, [], ◌∷◌, map, Option, Some, None, Contains, refl, sym, ap, ◌∙◌, arith}
use Rattle.std.specs.Prelude.{◌==◌, ◌||◌, if◌then◌else◌, not, is_some}
use Rattle.std.specs.List.{list_any}
use Rattle.std.proofs.lemmas.Bool.{and_parts, and_from, or_left, or_right, not_from_false, ne_eqb}
use Rattle.std.proofs.lemmas.Option.{same_Some}
use Rattle.meaning.specs.FunctionFacts.{VariableKind}
use Rattle.meaning.specs.Mentions.{BodyPlace, Mark, mentions, runs_literal, returns, opens, closes, of_fields}
use Rattle.meaning.specs.Tracked.{Known, variable_of, Placed, LocalRole, parameter, receiver, variadic, result, in_block, Local}
use Rattle.meaning.specs.Uses.{Seen, found, tracked_kind, is_of_local, is_own, is_body, mentions_inside, is_in_literal}
use Rattle.meaning.specs.BodyEvents.{Variable, VariableRole, own_parameter, own_receiver, declared_in_body, captured, role_in, role_in_own, is_declared_around, is_captured_there, is_variable_of, variable_there, variable_found, variables_of, distinct}
use Rattle.meaning.proofs.Membership.{contains_here, contains_there, contains_cases, contains_nil}
use Rattle.meaning_packages.specs.PathFaults.{is_declared}
use Rattle.meaning_runs.specs.Bodies.{is_captured}
use Rattle.meaning_runs.specs.BodyOffsets.{AreFalling}
use Rattle.meaning_runs.proofs.OwnVariables.{among_from, order_from, find_is}
use Rattle.meaning_runs.proofs.Places.{eqb_is}

-- what is found of a local
of_local : (seen : Seen) (body : ℕ) (l : Local) (x : Variable) → Contains (variable_found seen body (Some l)) x → (x.number ≡ l.number) × (x.role ≡ role_in body l) × (tracked_kind seen (Some l) ≡ Some x.kind) × (is_variable_of seen body l ≡ true)
of_local seen body l x h = by (is_variable_of seen body l) (tracked_kind seen (Some l)) refl refl h
  where
    by : (b : Bool) (kind : Option VariableKind) → is_variable_of seen body l ≡ b → tracked_kind seen (Some l) ≡ kind → Contains (if b then variable_there seen body l kind else []) x
        → (x.number ≡ l.number) × (x.role ≡ role_in body l) × (tracked_kind seen (Some l) ≡ Some x.kind) × (is_variable_of seen body l ≡ true)
    by false kind p q k = absurd (contains_nil x k)
    by true None p q k = absurd (contains_nil x k)
    by true (Some kind) p q k = elim (contains_cases _ x [] k) [
      | inl e ↦ (ap (λ (y : Variable). y.number) (sym e), ap (λ (y : Variable). y.role) (sym e), q ∙ ap (λ (y : Variable). Some y.kind) e, p)
      | inr n ↦ absurd (contains_nil x n)
    ]

-- a local that is found by a number has that number
of_number : (seen : Seen) (body n : ℕ) (o : Option Local) (w : Variable) → found seen (Some n) ≡ o → Contains (variable_found seen body o) w
    → (l : Local) × (found seen (Some w.number) ≡ Some l) × (l.number ≡ w.number) × (w.role ≡ role_in body l) × (tracked_kind seen (Some l) ≡ Some w.kind) × (is_variable_of seen body l ≡ true)
of_number seen body n None w is h = absurd (contains_nil w h)
of_number seen body n (Some l) w is h =
    let r = of_local seen body l w h in
    let number : l.number ≡ n = (find_is seen.locals n l is).1 in
    (l, ap (λ m. found seen (Some m)) (r.0 ∙ number) ∙ is, sym r.0, r.1, r.2, r.3)

pub of_variable : (seen : Seen) (body : ℕ) (w : Variable) → Contains (variables_of seen body) w
    → (l : Local) × (found seen (Some w.number) ≡ Some l) × (l.number ≡ w.number) × (w.role ≡ role_in body l) × (tracked_kind seen (Some l) ≡ Some w.kind) × (is_variable_of seen body l ≡ true)
of_variable seen body w h =
    let m = among_from seen body (distinct (map (λ (l : Local). l.number) seen.locals)) w (order_from _ w h) in
    of_number seen body m.0 (found seen (Some m.0)) w refl m.1

-- which local it is
same_local : (seen : Seen) (body : ℕ) (w : Variable) (l : Local) → Contains (variables_of seen body) w → found seen (Some w.number) ≡ Some l → (w.role ≡ role_in body l) × (is_variable_of seen body l ≡ true)
same_local seen body w l h is =
    let v = of_variable seen body w h in
    let same : v.0 ≡ l = same_Some v.0 l (sym v.1 ∙ is) in
    (v.3 ∙ ap (role_in body) same, ap (is_variable_of seen body) (sym same) ∙ v.5)

-- Roles

pub own_role : (r : LocalRole) → is_captured (role_in_own r) ≡ false
own_role (parameter k) = refl
own_role receiver = refl
own_role variadic = refl
own_role result = refl
own_role in_block = refl

-- whether the body declares the local, by the variable's role
stands_there : (body : ℕ) (l : Local) (r : VariableRole) → r ≡ role_in body l → (l.body == body) ≡ not (is_captured r)
stands_there body l r e = by (l.body == body) e
  where
    by : (b : Bool) → r ≡ (if b then role_in_own l.role else captured) → b ≡ not (is_captured r)
    by true q = sym (ap (λ x. not (is_captured x)) q ∙ ap not (own_role l.role))
    by false q = sym (ap (λ x. not (is_captured x)) q)

pub captured_is_none_of_its_own : (seen : Seen) (body : ℕ) (w : Variable) (l : Local) → Contains (variables_of seen body) w → w.role ≡ captured → found seen (Some w.number) ≡ Some l → (l.body == body) ≡ false
captured_is_none_of_its_own seen body w l h role is =
    stands_there body l w.role (same_local seen body w l h is).0 ∙ ap (λ x. not (is_captured x)) role

pub own_is_not_captured : (seen : Seen) (body : ℕ) (w : Variable) (l : Local) → Contains (variables_of seen body) w → is_captured w.role ≡ false → found seen (Some w.number) ≡ Some l → (l.body == body) ≡ true
own_is_not_captured seen body w l h role is =
    stands_there body l w.role (same_local seen body w l h is).0 ∙ ap not role

pub declared_is_not_captured : (r : VariableRole) → is_declared r ≡ true → is_captured r ≡ false
declared_is_not_captured (own_parameter k) e = refl
declared_is_not_captured own_receiver e = refl
declared_is_not_captured declared_in_body e = refl
declared_is_not_captured captured e = let bad : false ≡ true = e in cc

-- Literals

pub any_there : {A : Type 0} (test : A → Bool) (xs : List A) → list_any test xs ≡ true → (x : A) × Contains xs x × (test x ≡ true)
any_there test [] e = let bad : false ≡ true = e in cc
any_there test (x ∷ xs) e = by (test x) refl e (any_there test xs)
  where
    by : (b : Bool) → test x ≡ b → (b || list_any test xs) ≡ true → (list_any test xs ≡ true → (y : _) × Contains xs y × (test y ≡ true)) → (y : _) × Contains (x ∷ xs) y × (test y ≡ true)
    by true q r f = (x, contains_here x xs, q)
    by false q r f = let w = f r in (w.0, contains_there x w.0 xs w.1, w.2)

pub any_true : {A : Type 0} (test : A → Bool) (xs : List A) (x : A) → Contains xs x → test x ≡ true → list_any test xs ≡ true
any_true test [] x h e = absurd (contains_nil x h)
any_true test (y ∷ ys) x h e =
    elim (contains_cases y x ys h) [
      | inl q ↦ or_left (test y) (list_any test ys) (ap test q ∙ e)
      | inr r ↦ or_right (test y) (list_any test ys) (any_true test ys x r e)
    ]

-- the body that declares it stands around another one, so that it is not the innermost
around : (declaring body : ℕ) (b : BodyPlace) (bs : List BodyPlace) → is_declared_around declaring body (b ∷ bs) ≡ true → (c : BodyPlace) × Contains bs c × (c.at ≡ declaring)
around declaring body b [] e = by (b.at == body) e
  where
    by : (x : Bool) → (if x then false else false) ≡ true → (c : BodyPlace) × Contains [] c × (c.at ≡ declaring)
    by true q = let bad : false ≡ true = q in cc
    by false q = let bad : false ≡ true = q in cc
around declaring body b (d ∷ ds) e = by (b.at == body) e (around declaring body d ds)
  where
    by : (x : Bool) → (if x then list_any (λ (c : BodyPlace). c.at == declaring) (d ∷ ds) else is_declared_around declaring body (d ∷ ds)) ≡ true
        → (is_declared_around declaring body (d ∷ ds) ≡ true → (c : BodyPlace) × Contains ds c × (c.at ≡ declaring))
        → (c : BodyPlace) × Contains (d ∷ ds) c × (c.at ≡ declaring)
    by true q f = let w = any_there (λ (c : BodyPlace). c.at == declaring) (d ∷ ds) q in (w.0, w.1, eqb_is w.0.at declaring w.2)
    by false q f = let w = f q in (w.0, contains_there d w.0 ds w.1, w.2)

not_innermost : (declaring body : ℕ) (bodies : List BodyPlace) → AreFalling bodies → is_declared_around declaring body bodies ≡ true → is_body declaring bodies ≡ false
not_innermost declaring body [] falling e = refl
not_innermost declaring body (b ∷ bs) falling e =
    let w = around declaring body b bs e in
    let less : w.0.at < b.at = falling.0 w.0 w.1 in
    ne_eqb b.at declaring (λ q. omega (arith, less, q, w.2))

inside : (known : Known) (literal : ℕ) (l : Local) (bodies : List BodyPlace) (mark : Mark) → AreFalling bodies → is_captured_there known literal l bodies mark ≡ true → mentions_inside known l bodies mark ≡ true
inside known literal l bodies (mentions m) falling e =
    let parts = and_parts (is_declared_around l.body literal bodies) (is_of_local l (variable_of known m)) e in
    and_from (is_of_local l (variable_of known m)) (not (is_own l bodies)) parts.1 (not_from_false (is_own l bodies) (not_innermost l.body literal bodies falling parts.0))
inside known literal l bodies (of_fields site m) falling e = e
inside known literal l bodies (runs_literal moment site at) falling e = e
inside known literal l bodies (returns at es) falling e = e
inside known literal l bodies (opens b) falling e = e
inside known literal l bodies closes falling e = e

pub or_second : (b c : Bool) → b ≡ false → (b || c) ≡ true → c ≡ true
or_second true c q e = let bad : true ≡ false = q in cc
or_second false c q e = e

pub is_inside : (seen : Seen) → ((p : Placed) → Contains seen.marks p → AreFalling p.bodies)
    → (literal : ℕ) (w : Variable) (l : Local) → Contains (variables_of seen literal) w → w.role ≡ captured → found seen (Some w.number) ≡ Some l
    → is_in_literal seen l ≡ true
is_inside seen falling literal w l h role is =
    let its = (same_local seen literal w l h is).1 in
    let parts = and_parts (is_some (tracked_kind seen (Some l))) ((l.body == literal) || list_any (λ (p : Placed). is_captured_there seen.known literal l p.bodies p.mark) seen.marks) its in
    let any = or_second (l.body == literal) (list_any (λ (p : Placed). is_captured_there seen.known literal l p.bodies p.mark) seen.marks) (captured_is_none_of_its_own seen literal w l h role is) parts.1 in
    let there = any_there (λ (p : Placed). is_captured_there seen.known literal l p.bodies p.mark) seen.marks any in
    any_true (λ (p : Placed). mentions_inside seen.known l p.bodies p.mark) seen.marks there.0 there.1 (inside seen.known literal l there.0.bodies there.0.mark (falling there.0 there.1) there.2)
