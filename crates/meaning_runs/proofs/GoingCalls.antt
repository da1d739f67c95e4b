-- What is to be called outside where a `go` statement starts a goroutine there.
use Rattle.std.proofs.Common.{◌≡◌, ℕ, inl, inr, Bool, true, false, List, [], ◌∷◌, Contains, sym, ap, ◌∙◌, subst}
use Rattle.std.specs.Prelude.{if◌then◌else◌}
use Rattle.meaning.specs.Uses.{Callee}
use Rattle.meaning.proofs.Membership.{contains_nil, contains_here, contains_there, contains_cases}
use Rattle.meaning_runs.specs.Bodies.{Program}
use Rattle.meaning_runs.specs.World.{Value, nothing, cancel_function, Given, to_call_too}
use Rattle.meaning_runs.specs.Steps.{is_declared_to_call, declared_too}

pub to_call_has : (x : Value) (calls : List ℕ) (a : ℕ) → x ≡ cancel_function a → Contains (to_call_too x calls) a
to_call_has nothing calls a e = let bad : nothing ≡ cancel_function a = e in absurd cc
to_call_has (cancel_function b) calls a e =
    let same : b ≡ a = cc in subst (Contains (b ∷ calls)) same (contains_here b calls)

pub to_call_more : (x : Value) (calls : List ℕ) (a : ℕ) → Contains calls a → Contains (to_call_too x calls) a
to_call_more nothing calls a h = h
to_call_more (cancel_function b) calls a h = contains_there b a calls h

pub to_call_grows : (x : Value) (calls whole : List ℕ) → ((a : ℕ) → Contains calls a → Contains whole a)
    → (a : ℕ)
    → Contains (to_call_too x calls) a
    → Contains (to_call_too x whole) a
to_call_grows nothing calls whole all a h = all a h
to_call_grows (cancel_function b) calls whole all a h = elim (contains_cases b a calls h) [
  | inl same ↦ subst (Contains (b ∷ whole)) same (contains_here b whole)
  | inr more ↦ contains_there b a whole (all a more)
]

module _ (p : Program) (callee : Callee) where
  pub declared_grows : (xs : List Given) (calls whole : List ℕ) → ((a : ℕ) → Contains calls a → Contains whole a)
      → (a : ℕ)
      → Contains (declared_too p callee xs calls) a
      → Contains (declared_too p callee xs whole) a
  declared_grows [] calls whole all = all
  declared_grows (x ∷ xs) calls whole all =
      by (is_declared_to_call p callee x.position) (declared_grows xs calls whole all)
    where
      by : (b : Bool)
          → ((a : ℕ) → Contains (declared_too p callee xs calls) a → Contains (declared_too p callee xs whole) a)
          → (a : ℕ)
          → Contains (if b then to_call_too x.value (declared_too p callee xs calls) else declared_too p callee xs calls) a
          → Contains (if b then to_call_too x.value (declared_too p callee xs whole) else declared_too p callee xs whole) a
      by true more = to_call_grows x.value (declared_too p callee xs calls) (declared_too p callee xs whole) more
      by false more = more

  pub declared_more : (xs : List Given) (calls : List ℕ) (a : ℕ) → Contains calls a
      → Contains (declared_too p callee xs calls) a
  declared_more [] calls a h = h
  declared_more (x ∷ xs) calls a h =
      by (is_declared_to_call p callee x.position) (declared_more xs calls a h)
    where
      by : (b : Bool) → Contains (declared_too p callee xs calls) a
          → Contains (if b then to_call_too x.value (declared_too p callee xs calls) else declared_too p callee xs calls) a
      by true k = to_call_more x.value (declared_too p callee xs calls) a k
      by false k = k

  pub declared_has : (xs : List Given) (calls : List ℕ) (x : Given) (a : ℕ) → Contains xs x
      → is_declared_to_call p callee x.position ≡ true
      → x.value ≡ cancel_function a
      → Contains (declared_too p callee xs calls) a
  declared_has [] calls x a h e is = absurd (contains_nil x h)
  declared_has (y ∷ ys) calls x a h e is = elim (contains_cases y x ys h) [
    | inl same ↦
        subst (λ b. Contains (if b then to_call_too y.value (declared_too p callee ys calls) else declared_too p callee ys calls) a)
        (sym (ap (λ (z : Given). is_declared_to_call p callee z.position) same ∙ e))
        (to_call_has y.value (declared_too p callee ys calls) a (ap (λ (z : Given). z.value) same ∙ is))
    | inr more ↦ by (is_declared_to_call p callee y.position) (declared_has ys calls x a more e is)
  ]
    where
      by : (b : Bool) → Contains (declared_too p callee ys calls) a
          → Contains (if b then to_call_too y.value (declared_too p callee ys calls) else declared_too p callee ys calls) a
      by true k = to_call_more y.value (declared_too p callee ys calls) a k
      by false k = k
