-- Where no body that runs comes to a `go` statement that takes something on, each return is quiet.
use Rattle.std.proofs.Common.{◌≡◌, ℕ, false, inl, inr, List, [], length, Contains, refl, sym, ◌∙◌, subst}
use Rattle.std.proofs.lemmas.Bool.{false≢true}
use Rattle.meaning.specs.Uses.{Work, Event, go}
use Rattle.meaning.specs.Code.{Code}
use Rattle.meaning.proofs.Membership.{contains_nil}
use Rattle.meaning_runs.specs.Bodies.{Program}
use Rattle.meaning_runs.specs.World.{itself, Frame, World}
use Rattle.meaning_runs.specs.Steps.{SetsOff, ChangesMembers, starts_member, starts_stranger, starts_outside, starts_beside, leaves_group, StartsGoroutine, starts_call, starts_function, starts_foreign, starts_its_literal, Surrounds, starts, evaluates_literal, starts_literal, makes_cells, makes_one, ends_one, calls_any, makes_outside, joins_outside, Step, of_goroutine, of_members, of_go, of_environment}
use Rattle.meaning_runs.specs.Runs.{Run, no_step, step_more, IsReturning, IsQuiet, Owes}
use Rattle.meaning_runs.specs.Promise.{HasNoGo}
use Rattle.meaning_runs.proofs.CaredActs.{BodiesAreKept}
use Rattle.meaning_runs.proofs.CaredFor.{IsMet, was_called, is_to_call, is_taken}
use Rattle.meaning_runs.proofs.Contexts.{run_is_sound, called_done}
use Rattle.meaning_runs.proofs.HeldWorlds.{running_held, run_held}
use Rattle.meaning_runs.proofs.HolderFrames.{reached}
use Rattle.meaning_runs.proofs.Holders.{IsHolder, AreHolders}
use Rattle.meaning_runs.proofs.MadeGroups.{IsOver, Nothing}
use Rattle.meaning_runs.proofs.QuietGroups.{GroupsAreSeenOver, owed_is_met, made_is_over}
use Rattle.meaning_runs.proofs.Remembered.{Memory, first_past, memory_of_members, memory_of_environment, memory_after, memory_of}
use Rattle.meaning_runs.proofs.Starts.{acts_starts, least_is}
use Rattle.meaning_runs.proofs.WhoStarts.{BodiesAreWellUsed}

-- nothing was taken on, so far
pub record NoneGone (m : Memory) : Type 0 where
  pub has_gone : m.origins.has_gone ≡ false
  pub to_call : m.origins.to_call ≡ []

module _ {p : Program} {w : World} (m : Memory) (none : NoneGone m) where
  members_go_not : {next : World} (changes : ChangesMembers p w next) → NoneGone (memory_of_members changes m)
  members_go_not (starts_member g h b values groups work free is_in is_at foreign) =
      record { has_gone = none.has_gone; to_call = none.to_call }
  members_go_not (starts_stranger g h work free) = record { has_gone = none.has_gone; to_call = none.to_call }
  members_go_not (starts_outside g h running call lent is free) =
      record { has_gone = none.has_gone; to_call = none.to_call }
  members_go_not (starts_beside g h member nothing free) = record { has_gone = none.has_gone; to_call = none.to_call }
  members_go_not (leaves_group g member nothing) = none

  environment_goes_not : {next : World} (surrounds : Surrounds p w next) → NoneGone (memory_of_environment surrounds m)
  environment_goes_not (starts g b values groups free of outermost foreign) =
      record { has_gone = none.has_gone; to_call = none.to_call }
  environment_goes_not (evaluates_literal g f b among escapes) = none
  environment_goes_not (starts_literal g c values groups free among foreign) =
      record { has_gone = none.has_gone; to_call = none.to_call }
  environment_goes_not (makes_cells values groups foreign) = record { has_gone = none.has_gone; to_call = none.to_call }
  environment_goes_not (makes_one parent earlier) = none
  environment_goes_not (ends_one a within) = none
  environment_goes_not (calls_any a within) = none
  environment_goes_not (makes_outside context earlier) = none
  environment_goes_not (joins_outside g a free made) = record { has_gone = none.has_gone; to_call = none.to_call }

module _ (p : Program) (used : BodiesAreWellUsed p) (kept : BodiesAreKept p) (over : GroupsAreSeenOver p) (no : HasNoGo p) where
  -- no running frame comes to such a statement
  sets_none : (least : ℕ) (w : World) (run : Run p w) (g : ℕ) (f : Frame) (others : List Frame) (work : Work) (rest : Code Event)
      → SetsOff w g f others work rest
      → ⊥
  sets_none least w run g f others work rest sets =
      let m = memory_of least run in
      let it : IsHolder p m.origins w.store (g, length others) (first_past (m.pasts g)) f =
      (running_held p m.origins w.store g f others (m.pasts g)
      (subst (λ l. AreHolders p m.origins w.store g l (m.pasts g)) sets.is_running
      ((run_held p used least w run).holders g))).0 in
      no f.body (first_past (m.pasts g)).events _ work it.is_of
      (reached p m.origins w.store (g, length others) (first_past (m.pasts g)) f it (go work) rest sets.does_next.comes_to) refl

  goings_none : (least : ℕ) (w next : World) (run : Run p w) → StartsGoroutine p w next → ⊥
  goings_none least w next run (starts_call {f = f} {others = others} {rest = rest} g sets) =
      sets_none least w run g f others _ rest sets
  goings_none least w next run (starts_function {f = f} {others = others} {rest = rest} g h b values groups sets free is fits) =
      sets_none least w run g f others _ rest sets
  goings_none least w next run (starts_foreign {f = f} {others = others} {rest = rest} g sets no_body) =
      sets_none least w run g f others _ rest sets
  goings_none least w next run (starts_its_literal {f = f} {others = others} {rest = rest} g h b values groups sets free is_in is_at foreign) =
      sets_none least w run g f others _ rest sets

  step_goes_not : (least : ℕ) (w next : World) (run : Run p w) (step : Step p w next) → NoneGone (memory_of least run)
      → NoneGone (memory_after step (memory_of least run))
  step_goes_not least w next run (of_goroutine g running acts) none =
      let same = acts_starts acts (memory_of least run).origins in
      record { has_gone = same.has_gone ∙ none.has_gone; to_call = same.to_call ∙ none.to_call }
  step_goes_not least w next run (of_members changes) none = members_go_not (memory_of least run) none changes
  step_goes_not least w next run (of_go going) none = absurd (goings_none least w next run going)
  step_goes_not least w next run (of_environment surrounds) none =
      environment_goes_not (memory_of least run) none surrounds

  pub none_gone : (least : ℕ) (w : World) (run : Run p w) → NoneGone (memory_of least run)
  none_gone least w no_step = record { has_gone = refl; to_call = refl }
  none_gone least w (step_more {w = before} run step) =
      step_goes_not least before w run step (none_gone least before run)

  pub return_is_quiet : (w : World) (f : Frame) → Run p w → IsReturning w f → IsQuiet w f
  return_is_quiet w f run back = record {
    called = called;
    done = λ a b owes from. called_done w.store a b (run_is_sound p w run) (called a owes) from;
    ended = λ group h. (groups group h).has_no_member;
    groups_done = λ group a h e. record {
      context = a;
      was_ended = (groups group h).has_ended a e;
      comes_from = itself;
    };
  }
    where
      m : Memory
      m = memory_of 0 run

      none : NoneGone (memory_of 0 run)
      none = none_gone 0 w run

      by_met : (a : ℕ) → IsMet p (memory_of 0 run).origins w.store a → Contains w.store.called a
      by_met a (was_called h) = h
      by_met a (is_to_call h) = absurd (contains_nil a (subst (λ l. Contains l a) (none_gone 0 w run).to_call h))
      by_met a (is_taken t) = absurd (false≢true (sym (none_gone 0 w run).has_gone ∙ t.has_gone))

      called : (a : ℕ) → Owes f a → Contains w.store.called a
      called a owes = by_met a (owed_is_met p used kept over w f run back 0 a (least_is 0 w run) owes)

      groups : (a : ℕ) → Contains f.made a → IsOver w.store Nothing a
      groups a h = elim (made_is_over p used kept over w f run back 0 a h) [
        | inl done ↦ done
        | inr gone ↦ absurd (false≢true (sym (none_gone 0 w run).has_gone ∙ gone.has_gone))
      ]
