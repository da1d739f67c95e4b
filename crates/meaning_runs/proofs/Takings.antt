-- What is taken on where a `go` statement starts a goroutine: what a variable holds that it calls, what a function gets
-- that is known to call it, and what a literal captures that is credited with it.
use Rattle.std.proofs.Common.{◌≡◌, ℕ, ◌<◌, inl, inr, Bool, true, cond, List, Option, Contains, refl, sym, ap, ◌∙◌, subst, arith}
use Rattle.std.specs.Prelude.{◌==◌, ◌&&◌}
use Rattle.std.specs.List.{list_any}
use Rattle.std.proofs.lemmas.Bool.{true≢false, and_parts, cases_Bool}
use Rattle.meaning.specs.Uses.{Callee, Sent}
use Rattle.meaning.specs.BodyEvents.{Variable, VariableRole, own_parameter, own_receiver, declared_in_body, captured}
use Rattle.meaning.specs.Classes.{Promises}
use Rattle.meaning.proofs.Membership.{contains_here, contains_map}
use Rattle.meaning_packages.specs.PathFaults.{is_declared}
use Rattle.meaning_runs.specs.Bodies.{Program, Body, IsFunction, variables_in}
use Rattle.meaning_runs.specs.World.{Value, nothing, cancel_function, Store, Given, Frame, held, nothing_around}
use Rattle.meaning_runs.specs.Steps.{Fits, sending}
use Rattle.meaning_runs.specs.Duties.{TakesUp}
use Rattle.meaning_runs.proofs.Captured.{any_there}
use Rattle.meaning_runs.proofs.CaredBindings.{declared_elsewhere}
use Rattle.meaning_runs.proofs.CaredFor.{level_in, level, IsTaken, of_flag}
use Rattle.meaning_runs.proofs.OwnNumbers.{flag_is_its}
use Rattle.meaning_runs.proofs.Places.{eqb_is}
use Rattle.meaning_runs.proofs.Remembered.{Origins, root_of, with_block, with_begun}
use Rattle.meaning_runs.proofs.WhoStarts.{is_declared_in}

-- What a function gets

-- it gets the variable at a position at which it is relied on
abbrev pub takes_sent : Callee → List Sent → Promises → ℕ → Bool
takes_sent callee xs relies u = list_any (λ x. (x.number == u) && relies.calls callee x.position) xs

pub record IsSentOn (callee : Callee) (xs : List Sent) (relies : Promises) (u : ℕ) : Type 0 where
  pub sent : Sent
  pub is_among : Contains xs sent
  pub is_it : sent.number ≡ u
  pub calls : relies.calls callee sent.position ≡ true

pub sent_on : (callee : Callee) (xs : List Sent) (relies : Promises) (u : ℕ) → takes_sent callee xs relies u ≡ true
    → IsSentOn callee xs relies u
sent_on callee xs relies u e =
    let r = any_there (λ (x : Sent). (x.number == u) && relies.calls callee x.position) xs e in
    let q = and_parts (r.0.number == u) (relies.calls callee r.0.position) r.2 in
    record { sent = r.0; is_among = r.1; is_it = eqb_is r.0.number u q.0; calls = q.1 }

-- the argument that it is
abbrev pub argument_of : Store → Frame → Sent → Given
argument_of s f x = record { position = x.position; value = held s f x.number }

pub argument_is_given : (s : Store) (f : Frame) (callee : Callee) (xs : List Sent) (x : Sent) → Contains xs x
    → Contains (sending s f callee xs).given (argument_of s f x)
argument_is_given s f callee xs x h = contains_map (argument_of s f) xs x h

-- what the body declares stands at the top
pub declared_level : (b : Body) (n : ℕ) → is_declared_in b n ≡ true → (v : Variable) → Contains (variables_in b) v
    → n ≡ v.number
    → level b v ≡ 0
declared_level b n own v among same = elim (cases_Bool (is_declared v.role)) [
  | inl e ↦ by v.role e
  | inr e ↦ absurd (declared_elsewhere b n own v among e same)
]
  where
    by : (r : VariableRole) → is_declared r ≡ true → level_in b.place.at r ≡ 0
    by declared_in_body e = refl
    by (own_parameter k) e = absurd (true≢false (sym e))
    by own_receiver e = absurd (true≢false (sym e))
    by captured e = absurd (true≢false (sym e))

module _ {p : Program} {caller : Body} (o : Origins) (s : Store) (b : Body) (values : ℕ → Value) (groups : ℕ → Option ℕ) where
  -- a function that is known to call what it gets takes it on
  pub function_takes : (f : Frame) (callee : Callee) (xs : List Sent) → IsFunction p caller callee b
      → Fits s b (sending s f callee xs) values groups
      → (x : Sent) (a : ℕ)
      → Contains xs x
      → held s f x.number ≡ cancel_function a
      → TakesUp p caller callee x.position
      → o.least ≡ 0
      → IsTaken p (with_block (with_begun o (root_of s b values groups nothing_around)) s.cell_count) a
  function_takes f callee xs is fits x a among e takes top =
      let t = takes.each b is in record {
        root = root_of s b values groups nothing_around;
        has_gone = refl;
        is_begun = contains_here (root_of s b values groups nothing_around) o.begun;
        must = record {
          body = b;
          variable = t.0;
          is_body = refl;
          is_relied = of_flag t.1;
          is_given = ap (λ c. cond c (values t.0.number) nothing) (flag_is_its b t.0 t.1)
              ∙ fits.same t.0 (argument_of s f x) t.1.is_of_body (argument_is_given s f callee xs x among) t.2 ∙ e;
          is_deeper = subst (λ r. o.least < level_in b.place.at r) (sym t.2) (omega (arith, top));
        };
      }
