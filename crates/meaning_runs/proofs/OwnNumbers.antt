-- Which of its variables a body declares: those of its own roles, and none that it captures.
use Rattle.std.proofs.Common.{◌≡◌, ℕ, Bool, true, false, Some, None, Contains, refl, sym, ap, ◌∙◌, subst}
use Rattle.std.specs.Prelude.{◌==◌, ◌&&◌, Option}
use Rattle.std.proofs.lemmas.Bool.{and_parts, and_from, eq-eqb}
use Rattle.meaning.specs.Tracked.{Local}
use Rattle.meaning.specs.Uses.{found}
use Rattle.meaning.specs.BodyEvents.{Variable, VariableRole, own_parameter, own_receiver, declared_in_body, captured, is_parameter}
use Rattle.meaning_packages.specs.PathFaults.{is_declared}
use Rattle.meaning_runs.specs.Bodies.{Body, variables_in, is_parameter_of, is_captured_by, is_captured, Program}
use Rattle.meaning_runs.specs.Duties.{IsFlagged, IsCreditedWith, IsWaitingFor}
use Rattle.meaning_runs.proofs.Captured.{of_variable, captured_is_none_of_its_own, own_is_not_captured, declared_is_not_captured, any_there, any_true}
use Rattle.meaning_runs.proofs.Places.{eqb_is}

-- the body declares the local of that number
abbrev pub declares_it : ℕ → Option Local → Bool
declares_it at None = false
declares_it at (Some l) = l.body == at

abbrev pub is_own : Body → ℕ → Bool
is_own b n = declares_it b.place.at (found b.file (Some n))

not_captured : (b : Body) (v : Variable) → Contains (variables_in b) v → is_captured v.role ≡ false → is_own b v.number ≡ true
not_captured b v among role =
    let h = of_variable b.file b.place.at v among in
    ap (declares_it b.place.at) h.1 ∙ own_is_not_captured b.file b.place.at v h.0 among role h.1

pub captured_is_not : (b : Body) (v : Variable) → Contains (variables_in b) v → v.role ≡ captured → is_own b v.number ≡ false
captured_is_not b v among role =
    let h = of_variable b.file b.place.at v among in
    ap (declares_it b.place.at) h.1 ∙ captured_is_none_of_its_own b.file b.place.at v h.0 among role h.1

pub declared_is_own : (b : Body) (v : Variable) → Contains (variables_in b) v → is_declared v.role ≡ true → is_own b v.number ≡ true
declared_is_own b v among role = not_captured b v among (declared_is_not_captured v.role role)

parameter_role : (r : VariableRole) → is_parameter r ≡ true → is_captured r ≡ false
parameter_role (own_parameter k) e = refl
parameter_role own_receiver e = refl
parameter_role declared_in_body e = refl
parameter_role captured e = sym e

pub captured_role : (r : VariableRole) → is_captured r ≡ true → r ≡ captured
captured_role (own_parameter k) e = let bad : false ≡ true = e in cc
captured_role own_receiver e = let bad : false ≡ true = e in cc
captured_role declared_in_body e = let bad : false ≡ true = e in cc
captured_role captured e = refl

-- the numbers of parameters, and those of captured variables

pub parameter_is_own : (b : Body) (n : ℕ) → is_parameter_of b n ≡ true → is_own b n ≡ true
parameter_is_own b n e =
    let w = any_there (λ v. (v.number == n) && is_parameter v.role) (variables_in b) e in
    let q = and_parts (w.0.number == n) (is_parameter w.0.role) w.2 in
    subst (λ m. is_own b m ≡ true) (eqb_is w.0.number n q.0) (not_captured b w.0 w.1 (parameter_role w.0.role q.1))

pub parameter_number : (b : Body) (v : Variable) (n : ℕ) → Contains (variables_in b) v → is_parameter v.role ≡ true → v.number ≡ n
    → is_parameter_of b n ≡ true
parameter_number b v n among role same =
    any_true (λ (w : Variable). (w.number == n) && is_parameter w.role) (variables_in b) v among
    (and_from (v.number == n) (is_parameter v.role) (eq-eqb v.number n same) role)

pub captured_number : (b : Body) (v : Variable) → Contains (variables_in b) v → v.role ≡ captured → is_captured_by b v.number ≡ true
captured_number b v among role =
    any_true (λ (w : Variable). (w.number == v.number) && is_captured w.role) (variables_in b) v among
    (and_from (v.number == v.number) (is_captured v.role) (eq-eqb v.number v.number refl) (ap is_captured role))

-- what is asked of a body is of its parameters, or of what it captures

pub flag_is_its : {p : Program} (b : Body) (v : Variable) → IsFlagged p b v → is_parameter_of b v.number ≡ true
flag_is_its b v g = parameter_number b v v.number g.is_of_body (ap is_parameter g.is_parameter) refl

pub wait_is_captured : (b : Body) (v : Variable) → IsWaitingFor b v → is_captured_by b v.number ≡ true
wait_is_captured b v w = captured_number b v w.is_of_body w.is_captured

pub credit_is_captured : (b : Body) (v : Variable) → IsCreditedWith b v → is_captured_by b v.number ≡ true
credit_is_captured b v c = captured_number b v c.is_of_body c.is_captured
