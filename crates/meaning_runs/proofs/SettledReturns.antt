-- At each return what the frame owes is seen to, and the work of each group that it made has ended, or a goroutine was
-- started that waits for it.
use Rattle.std.proofs.Common.{◌≡◌, ℕ, inl, inr, List, ◌∷◌, Option, Some, None, Contains, refl, sym, ap, ◌∙◌, subst}
use Rattle.std.specs.Prelude.{if◌then◌else◌}
use Rattle.std.proofs.lemmas.Option.{none-some, same_Some}
use Rattle.meaning.proofs.Membership.{contains_here, contains_there, contains_cases, contains_nil}
use Rattle.meaning_runs.specs.Bodies.{Program, Body, is_parameter_of}
use Rattle.meaning_runs.specs.Duties.{IsWaitingFor}
use Rattle.meaning_runs.specs.World.{Store, itself, Frame, World, group_in_cell, with_member, nothing_around}
use Rattle.meaning_runs.specs.Steps.{ChangesMembers, starts_member, starts_stranger, starts_outside, starts_beside, leaves_group, StartsGoroutine, starts_call, starts_function, starts_foreign, starts_its_literal, Surrounds, starts, evaluates_literal, starts_literal, makes_cells, makes_one, ends_one, calls_any, makes_outside, joins_outside, Step, of_goroutine, of_members, of_go, of_environment}
use Rattle.meaning_runs.specs.Runs.{Run, no_step, step_more, IsReturning, Started, started_with, and_members, and_goings, and_step, started_in, IsAtRest, IsAwaited, IsSettled}
use Rattle.meaning_runs.proofs.CaredActs.{BodiesAreKept}
use Rattle.meaning_runs.proofs.MadeGroups.{IsOver, IsGone, Nothing}
use Rattle.meaning_runs.proofs.QuietGroups.{GroupsAreSeenOver, made_is_over}
use Rattle.meaning_runs.proofs.Remembered.{Root, no_root, root_of, Memory, memory_of_members, memory_of_go, memory_of_environment, memory_after, memory_of}
use Rattle.meaning_runs.proofs.SeenTo.{owed_is_seen_to}
use Rattle.meaning_runs.proofs.Starts.{acts_starts}
use Rattle.meaning_runs.proofs.WhoStarts.{BodiesAreWellUsed}

-- the run tells of the root
pub record IsTold (l : List Started) (r : Root) (b : Body) : Type 0 where
  pub started : Started
  pub is_there : Contains l started
  pub same_body : started.body ≡ b
  pub same_lent : started.lent ≡ r.lent

told_more : (k : Started) (l : List Started) (r : Root) (b : Body) → IsTold l r b → IsTold (k ∷ l) r b
told_more k l r b t = record {
  started = t.started;
  is_there = contains_there k t.started l t.is_there;
  same_body = t.same_body;
  same_lent = t.same_lent;
}

same_in_cell : (s : Store) (h : ℕ) (group : Option ℕ) (v : ℕ) (o : Option ℕ)
    → group_in_cell s v o ≡ group_in_cell (with_member s h group) v o
same_in_cell s h group v None = refl
same_in_cell s h group v (Some k) = refl

none_told : (r : Root) (b : Body) → no_root ≡ r → r.body ≡ Some b → ⊥
none_told r b same is = none-some b (ap (λ (z : Root). z.body) same ∙ is)

module _ {p : Program} {w : World} (m : Memory) (l : List Started) (r : Root) (b : Body) (is : r.body ≡ Some b)
    (before : Contains m.origins.begun r → IsTold l r b) where
  members_tell : {next : World} (changes : ChangesMembers p w next)
      → Contains (memory_of_members changes m).origins.begun r
      → IsTold (and_members changes l) r b
  members_tell (starts_member {f = f} {group = group} g h c values groups work free is_in is_at foreign) k =
      let its = started_with w.store c groups f.newest in
      elim (contains_cases (root_of (with_member w.store h (Some group)) c values groups f.newest) r m.origins.begun k) [
        | inl same ↦ record {
          started = its;
          is_there = contains_here its l;
          same_body = same_Some c b (ap (λ (z : Root). z.body) same ∙ is);
          same_lent =
              (λ j v. if is_parameter_of c v then groups v else same_in_cell w.store h (Some group) v (f.newest v) j)
              ∙ ap (λ (z : Root). z.lent) same;
        }
        | inr more ↦ told_more its l r b (before more)
      ]
  members_tell (starts_stranger g h work free) k = elim (contains_cases no_root r m.origins.begun k) [
    | inl same ↦ absurd (none_told r b same is)
    | inr more ↦ before more
  ]
  members_tell (starts_outside g h running call lent y free) k = elim (contains_cases no_root r m.origins.begun k) [
    | inl same ↦ absurd (none_told r b same is)
    | inr more ↦ before more
  ]
  members_tell (starts_beside g h member none free) k = elim (contains_cases no_root r m.origins.begun k) [
    | inl same ↦ absurd (none_told r b same is)
    | inr more ↦ before more
  ]
  members_tell (leaves_group g member none) k = before k

  goings_tell : {next : World} (going : StartsGoroutine p w next) → Contains (memory_of_go going m).origins.begun r
      → IsTold (and_goings going l) r b
  goings_tell (starts_call g sets) k = before k
  goings_tell (starts_function g h c values groups sets free y fits) k =
      let its = started_with w.store c groups nothing_around in
      elim (contains_cases (root_of w.store c values groups nothing_around) r m.origins.begun k) [
        | inl same ↦ record {
          started = its;
          is_there = contains_here its l;
          same_body = same_Some c b (ap (λ (z : Root). z.body) same ∙ is);
          same_lent = ap (λ (z : Root). z.lent) same;
        }
        | inr more ↦ told_more its l r b (before more)
      ]
  goings_tell (starts_foreign g sets no_body) k = before k
  goings_tell (starts_its_literal {f = f} g h c values groups sets free is_in is_at foreign) k =
      let its = started_with w.store c groups f.newest in
      elim (contains_cases (root_of w.store c values groups f.newest) r m.origins.begun k) [
        | inl same ↦ record {
          started = its;
          is_there = contains_here its l;
          same_body = same_Some c b (ap (λ (z : Root). z.body) same ∙ is);
          same_lent = ap (λ (z : Root). z.lent) same;
        }
        | inr more ↦ told_more its l r b (before more)
      ]

  environment_tells : {next : World} (surrounds : Surrounds p w next)
      → Contains (memory_of_environment surrounds m).origins.begun r
      → IsTold l r b
  environment_tells (starts g c values groups free of outermost foreign) k = before k
  environment_tells (evaluates_literal g f c among escapes) k = before k
  environment_tells (starts_literal g c values groups free among foreign) k = before k
  environment_tells (makes_cells values groups foreign) k = before k
  environment_tells (makes_one parent earlier) k = before k
  environment_tells (ends_one a within) k = before k
  environment_tells (calls_any a within) k = before k
  environment_tells (makes_outside context earlier) k = before k
  environment_tells (joins_outside g a free made) k = elim (contains_cases no_root r m.origins.begun k) [
    | inl same ↦ absurd (none_told r b same is)
    | inr more ↦ before more
  ]

  step_tells : {next : World} (step : Step p w next) → Contains (memory_after step m).origins.begun r
      → IsTold (and_step step l) r b
  step_tells (of_goroutine g running acts) k = before (subst (λ z. Contains z r) (acts_starts acts m.origins).begun k)
  step_tells (of_members changes) k = members_tell changes k
  step_tells (of_go going) k = goings_tell going k
  step_tells (of_environment surrounds) k = environment_tells surrounds k

begun_is_told : {p : Program} (least : ℕ) (w : World) (run : Run p w) (r : Root) (b : Body) → r.body ≡ Some b
    → Contains (memory_of least run).origins.begun r
    → IsTold (started_in run) r b
begun_is_told least w no_step r b is k = absurd (contains_nil r k)
begun_is_told least w (step_more {w = before} run step) r b is k =
    step_tells (memory_of least run) (started_in run) r b is (begun_is_told least before run r b is) step k

module _ (p : Program) (used : BodiesAreWellUsed p) (kept : BodiesAreKept p) (over : GroupsAreSeenOver p) where
  awaited : (w : World) (run : Run p w) (a : ℕ) → IsGone (memory_of 0 run).origins a → IsAwaited p w run a
  awaited w run a gone =
      let its = begun_is_told 0 w run gone.root gone.literal gone.is_body gone.is_begun in
      record {
        started = its.started;
        variable = gone.variable;
        is_started = its.is_there;
        waits_for = subst (λ b. IsWaitingFor b gone.variable) (sym its.same_body) gone.waits_for;
        is_held = ap (λ (z : ℕ → Option ℕ). z gone.variable.number) its.same_lent ∙ gone.is_lent;
      }

  at_rest : (w : World) (a : ℕ) → IsOver w.store Nothing a → IsAtRest a w
  at_rest w a done = record {
    has_no_member = done.has_no_member;
    is_done = λ b e. record { context = b; was_ended = done.has_ended b e; comes_from = itself };
  }

  pub return_is_settled : (w : World) (f : Frame) (run : Run p w) → IsReturning w f → IsSettled p w run f
  return_is_settled w f run back = record {
    functions = owed_is_seen_to p used kept over w run f back;
    groups = λ group h. elim (made_is_over p used kept over w f run back 0 group h) [
      | inl done ↦ inl (at_rest w group done)
      | inr gone ↦ inr (awaited w run group gone)
    ];
  }
