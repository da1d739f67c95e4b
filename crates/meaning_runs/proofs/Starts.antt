-- What acts and steps leave as it was in what is remembered: nothing is started by an act, the lowest frame of a goroutine
-- stays the activation that it is, and what is remembered of roots and of what frames were given is one at each level.
use Rattle.std.proofs.Common.{◌≡◌, ℕ, ◌⊎◌, inl, inr, List, [], ◌∷◌, ◌++◌, Some, refl, sym, ap, ◌∙◌, subst}
use Rattle.std.proofs.lemmas.Bool.{cases_eq}
use Rattle.meaning_runs.specs.Bodies.{Program}
use Rattle.meaning_runs.specs.World.{Place, Store, put_at, held, to_call_too, Frame, World, with_member, nothing_around}
use Rattle.meaning_runs.specs.Steps.{IsAtEnd, sending, declared_too, Acts, moves_on, does_other, obtains_one, obtains_into, keeps_one, renews_object, calls_kept, saves_kept, gives_object, gives_in_field, clears_one, calls_one, saves_call, makes_group, tries_nothing, ends_wait, saves_wait, evaluates, evaluates_deferred, lends, makes_call, calls_outside, saves_pass, saves_literal, comes_to_return, runs_call, runs_pass, runs_literal, runs_wait, returns_now, of_function, of_none, ChangesMembers, starts_member, starts_stranger, starts_outside, starts_beside, leaves_group, StartsGoroutine, starts_call, starts_function, starts_foreign, starts_its_literal, Surrounds, starts, evaluates_literal, starts_literal, makes_cells, makes_one, ends_one, calls_any, makes_outside, joins_outside, Step, of_goroutine, of_members, of_go, of_environment}
use Rattle.meaning_runs.specs.Runs.{Run, no_step, step_more}
use Rattle.meaning_runs.proofs.Contexts.{put_at-same, put_at-other}
use Rattle.meaning_runs.proofs.Remembered.{no_root, root_of, Origins, Past, Memory, first_past, later_pasts, origins_after, pasts_after, memory_of_members, memory_of_go, memory_of_environment, memory_after, memory_of}

-- nothing was started
pub record SameStarts (o after_o : Origins) : Type 0 where
  pub begun : after_o.begun ≡ o.begun
  pub has_gone : after_o.has_gone ≡ o.has_gone
  pub to_call : after_o.to_call ≡ o.to_call
  pub least : after_o.least ≡ o.least

-- The lowest of these frames, if there is one, is the same activation as the frame.
abbrev pub LastStays : Frame → Past → List Frame → List Past → Type 0
LastStays f q [] [] = Unit {0}
LastStays f q [] (r ∷ rs) = ⊥
LastStays f q (e ∷ fs) [] = ⊥
LastStays f q (e ∷ []) (r ∷ []) = (e.body ≡ f.body) × (r.given ≡ q.given) × (r.lent ≡ q.lent)
LastStays f q (e ∷ []) (r ∷ s ∷ rs) = ⊥
LastStays f q (e ∷ d ∷ fs) (r ∷ rs) = LastStays f q (d ∷ fs) rs

-- frames were given the same
abbrev pub SameGiven : List Past → List Past → Type 0
SameGiven [] [] = Unit {0}
SameGiven [] (r ∷ rs) = ⊥
SameGiven (q ∷ qs) [] = ⊥
SameGiven (q ∷ qs) (r ∷ rs) = (q.given ≡ r.given) × (q.lent ≡ r.lent) × SameGiven qs rs

none-cons : (f : Frame) (fs : List Frame) → f ∷ fs ≡ [] → ⊥
none-cons f fs e = cc

module _ {p : Program} {s : Store} {place : Place} {f : Frame} where
  pub acts_starts : {after : Store} {frames : List Frame} (acts : Acts p s place f after frames) (o : Origins)
      → SameStarts o (origins_after acts o)
  acts_starts (moves_on d) o = record { begun = refl; has_gone = refl; to_call = refl; least = refl }
  acts_starts (does_other d) o = record { begun = refl; has_gone = refl; to_call = refl; least = refl }
  acts_starts (obtains_one d gives) o = record { begun = refl; has_gone = refl; to_call = refl; least = refl }
  acts_starts (clears_one d) o = record { begun = refl; has_gone = refl; to_call = refl; least = refl }
  acts_starts (obtains_into d gives) o = record { begun = refl; has_gone = refl; to_call = refl; least = refl }
  acts_starts (keeps_one d) o = record { begun = refl; has_gone = refl; to_call = refl; least = refl }
  acts_starts (renews_object d) o = record { begun = refl; has_gone = refl; to_call = refl; least = refl }
  acts_starts (calls_kept d) o = record { begun = refl; has_gone = refl; to_call = refl; least = refl }
  acts_starts (saves_kept d) o = record { begun = refl; has_gone = refl; to_call = refl; least = refl }
  acts_starts (gives_object d) o = record { begun = refl; has_gone = refl; to_call = refl; least = refl }
  acts_starts (gives_in_field d) o = record { begun = refl; has_gone = refl; to_call = refl; least = refl }
  acts_starts (calls_one d) o = record { begun = refl; has_gone = refl; to_call = refl; least = refl }
  acts_starts (saves_call d) o = record { begun = refl; has_gone = refl; to_call = refl; least = refl }
  acts_starts (makes_group d its_context) o = record { begun = refl; has_gone = refl; to_call = refl; least = refl }
  acts_starts (tries_nothing d) o = record { begun = refl; has_gone = refl; to_call = refl; least = refl }
  acts_starts (ends_wait d ends) o = record { begun = refl; has_gone = refl; to_call = refl; least = refl }
  acts_starts (saves_wait d) o = record { begun = refl; has_gone = refl; to_call = refl; least = refl }
  acts_starts (evaluates d joins) o = record { begun = refl; has_gone = refl; to_call = refl; least = refl }
  acts_starts (evaluates_deferred d joins) o = record { begun = refl; has_gone = refl; to_call = refl; least = refl }
  acts_starts (lends d joins) o = record { begun = refl; has_gone = refl; to_call = refl; least = refl }
  acts_starts (makes_call way now (of_function b values groups is fits)) o =
      record { begun = refl; has_gone = refl; to_call = refl; least = refl }
  acts_starts (makes_call way now (of_none no_body holds)) o =
      record { begun = refl; has_gone = refl; to_call = refl; least = refl }
  acts_starts (calls_outside way gets) o = record { begun = refl; has_gone = refl; to_call = refl; least = refl }
  acts_starts (saves_pass way later) o = record { begun = refl; has_gone = refl; to_call = refl; least = refl }
  acts_starts (saves_literal b d is_in is_at) o = record { begun = refl; has_gone = refl; to_call = refl; least = refl }
  acts_starts (comes_to_return d) o = record { begun = refl; has_gone = refl; to_call = refl; least = refl }
  acts_starts (runs_call r) o = record { begun = refl; has_gone = refl; to_call = refl; least = refl }
  acts_starts (runs_pass r (of_function b values groups is fits)) o =
      record { begun = refl; has_gone = refl; to_call = refl; least = refl }
  acts_starts (runs_pass r (of_none no_body holds)) o =
      record { begun = refl; has_gone = refl; to_call = refl; least = refl }
  acts_starts (runs_literal values groups r foreign) o =
      record { begun = refl; has_gone = refl; to_call = refl; least = refl }
  acts_starts (runs_wait r ends) o = record { begun = refl; has_gone = refl; to_call = refl; least = refl }
  acts_starts (returns_now ended) o = record { begun = refl; has_gone = refl; to_call = refl; least = refl }

  pub acts_last : {after : Store} {frames : List Frame} (acts : Acts p s place f after frames) (o : Origins) (q : Past)
      → LastStays f q frames (pasts_after acts o q)
  acts_last (moves_on d) o q = (refl, refl, refl)
  acts_last (does_other d) o q = (refl, refl, refl)
  acts_last (obtains_one d gives) o q = (refl, refl, refl)
  acts_last (clears_one d) o q = (refl, refl, refl)
  acts_last (obtains_into d gives) o q = (refl, refl, refl)
  acts_last (keeps_one d) o q = (refl, refl, refl)
  acts_last (renews_object d) o q = (refl, refl, refl)
  acts_last (calls_kept d) o q = (refl, refl, refl)
  acts_last (saves_kept d) o q = (refl, refl, refl)
  acts_last (gives_object d) o q = (refl, refl, refl)
  acts_last (gives_in_field d) o q = (refl, refl, refl)
  acts_last (calls_one d) o q = (refl, refl, refl)
  acts_last (saves_call d) o q = (refl, refl, refl)
  acts_last (makes_group d its_context) o q = (refl, refl, refl)
  acts_last (tries_nothing d) o q = (refl, refl, refl)
  acts_last (ends_wait d ends) o q = (refl, refl, refl)
  acts_last (saves_wait d) o q = (refl, refl, refl)
  acts_last (evaluates d joins) o q = (refl, refl, refl)
  acts_last (evaluates_deferred d joins) o q = (refl, refl, refl)
  acts_last (lends d joins) o q = (refl, refl, refl)
  acts_last (makes_call way now (of_function b values groups is fits)) o q = (refl, refl, refl)
  acts_last (makes_call way now (of_none no_body holds)) o q = (refl, refl, refl)
  acts_last (calls_outside way gets) o q = (refl, refl, refl)
  acts_last (saves_pass way later) o q = (refl, refl, refl)
  acts_last (saves_literal b d is_in is_at) o q = (refl, refl, refl)
  acts_last (comes_to_return d) o q = (refl, refl, refl)
  acts_last (runs_call r) o q = (refl, refl, refl)
  acts_last (runs_pass r (of_function b values groups is fits)) o q = (refl, refl, refl)
  acts_last (runs_pass r (of_none no_body holds)) o q = (refl, refl, refl)
  acts_last (runs_literal values groups r foreign) o q = (refl, refl, refl)
  acts_last (runs_wait r ends) o q = (refl, refl, refl)
  acts_last (returns_now ended) o q = tt

  pub acts_given : {after : Store} {frames : List Frame} (acts : Acts p s place f after frames) (o other_o : Origins)
      (q r : Past)
      → q.given ≡ r.given
      → q.lent ≡ r.lent
      → SameGiven (pasts_after acts o q) (pasts_after acts other_o r)
  acts_given (moves_on d) o other_o q z e g = (e, g, tt)
  acts_given (does_other d) o other_o q z e g = (e, g, tt)
  acts_given (obtains_one d gives) o other_o q z e g = (e, g, tt)
  acts_given (clears_one d) o other_o q z e g = (e, g, tt)
  acts_given (obtains_into d gives) o other_o q z e g = (e, g, tt)
  acts_given (keeps_one d) o other_o q z e g = (e, g, tt)
  acts_given (renews_object d) o other_o q z e g = (e, g, tt)
  acts_given (calls_kept d) o other_o q z e g = (e, g, tt)
  acts_given (saves_kept d) o other_o q z e g = (e, g, tt)
  acts_given (gives_object d) o other_o q z e g = (e, g, tt)
  acts_given (gives_in_field d) o other_o q z e g = (e, g, tt)
  acts_given (calls_one d) o other_o q z e g = (e, g, tt)
  acts_given (saves_call d) o other_o q z e g = (e, g, tt)
  acts_given (makes_group d its_context) o other_o q z e g = (e, g, tt)
  acts_given (tries_nothing d) o other_o q z e g = (e, g, tt)
  acts_given (ends_wait d ends) o other_o q z e g = (e, g, tt)
  acts_given (saves_wait d) o other_o q z e g = (e, g, tt)
  acts_given (evaluates d joins) o other_o q z e g = (e, g, tt)
  acts_given (evaluates_deferred d joins) o other_o q z e g = (e, g, tt)
  acts_given (lends d joins) o other_o q z e g = (e, g, tt)
  acts_given (makes_call way now (of_function b values groups is fits)) o other_o q z e g = (refl, refl, (e, g, tt))
  acts_given (makes_call way now (of_none no_body holds)) o other_o q z e g = (e, g, tt)
  acts_given (calls_outside way gets) o other_o q z e g = (e, g, tt)
  acts_given (saves_pass way later) o other_o q z e g = (e, g, tt)
  acts_given (saves_literal b d is_in is_at) o other_o q z e g = (e, g, tt)
  acts_given (comes_to_return d) o other_o q z e g = (e, g, tt)
  acts_given (runs_call r) o other_o q z e g = (e, g, tt)
  acts_given (runs_pass r (of_function b values groups is fits)) o other_o q z e g = (refl, refl, (e, g, tt))
  acts_given (runs_pass r (of_none no_body holds)) o other_o q z e g = (e, g, tt)
  acts_given (runs_literal values groups r foreign) o other_o q z e g = (refl, refl, (e, g, tt))
  acts_given (runs_wait r ends) o other_o q z e g = (e, g, tt)
  acts_given (returns_now ended) o other_o q z e g = tt

  -- a goroutine has no frame left where its only one has come to its end
  pub acts_end : {after : Store} {frames : List Frame} (acts : Acts p s place f after frames) → frames ≡ [] → IsAtEnd f
  acts_end (moves_on d) e = absurd (none-cons _ _ e)
  acts_end (does_other d) e = absurd (none-cons _ _ e)
  acts_end (obtains_one d gives) e = absurd (none-cons _ _ e)
  acts_end (clears_one d) e = absurd (none-cons _ _ e)
  acts_end (obtains_into d gives) e = absurd (none-cons _ _ e)
  acts_end (keeps_one d) e = absurd (none-cons _ _ e)
  acts_end (renews_object d) e = absurd (none-cons _ _ e)
  acts_end (calls_kept d) e = absurd (none-cons _ _ e)
  acts_end (saves_kept d) e = absurd (none-cons _ _ e)
  acts_end (gives_object d) e = absurd (none-cons _ _ e)
  acts_end (gives_in_field d) e = absurd (none-cons _ _ e)
  acts_end (calls_one d) e = absurd (none-cons _ _ e)
  acts_end (saves_call d) e = absurd (none-cons _ _ e)
  acts_end (makes_group d its_context) e = absurd (none-cons _ _ e)
  acts_end (tries_nothing d) e = absurd (none-cons _ _ e)
  acts_end (ends_wait d ends) e = absurd (none-cons _ _ e)
  acts_end (saves_wait d) e = absurd (none-cons _ _ e)
  acts_end (evaluates d joins) e = absurd (none-cons _ _ e)
  acts_end (evaluates_deferred d joins) e = absurd (none-cons _ _ e)
  acts_end (lends d joins) e = absurd (none-cons _ _ e)
  acts_end (makes_call way now (of_function b values groups is fits)) e = absurd (none-cons _ _ e)
  acts_end (makes_call way now (of_none no_body holds)) e = absurd (none-cons _ _ e)
  acts_end (calls_outside way gets) e = absurd (none-cons _ _ e)
  acts_end (saves_pass way later) e = absurd (none-cons _ _ e)
  acts_end (saves_literal b d is_in is_at) e = absurd (none-cons _ _ e)
  acts_end (comes_to_return d) e = absurd (none-cons _ _ e)
  acts_end (runs_call r) e = absurd (none-cons _ _ e)
  acts_end (runs_pass r (of_function b values groups is fits)) e = absurd (none-cons _ _ e)
  acts_end (runs_pass r (of_none no_body holds)) e = absurd (none-cons _ _ e)
  acts_end (runs_literal values groups r foreign) e = absurd (none-cons _ _ e)
  acts_end (runs_wait r ends) e = absurd (none-cons _ _ e)
  acts_end (returns_now ended) e = ended

-- Memories at two levels

append_given : (qs rs more others : List Past) → SameGiven qs rs → SameGiven more others
    → SameGiven (qs ++ more) (rs ++ others)
append_given [] [] more others h g = g
append_given [] (r ∷ rs) more others h g = absurd h
append_given (q ∷ qs) [] more others h g = absurd h
append_given (q ∷ qs) (r ∷ rs) more others h g = (h.0, h.1, append_given qs rs more others h.2 g)

pub first_given : (qs rs : List Past) → SameGiven qs rs
    → ((first_past qs).given ≡ (first_past rs).given) × ((first_past qs).lent ≡ (first_past rs).lent)
first_given [] [] h = (refl, refl)
first_given [] (r ∷ rs) h = absurd h
first_given (q ∷ qs) [] h = absurd h
first_given (q ∷ qs) (r ∷ rs) h = (h.0, h.1)

later_given : (qs rs : List Past) → SameGiven qs rs → SameGiven (later_pasts qs) (later_pasts rs)
later_given [] [] h = tt
later_given [] (r ∷ rs) h = absurd h
later_given (q ∷ qs) [] h = absurd h
later_given (q ∷ qs) (r ∷ rs) h = h.2

put_given : (ps rs : ℕ → List Past) (g : ℕ) (x y : List Past) → ((k : ℕ) → SameGiven (ps k) (rs k)) → SameGiven x y
    → (k : ℕ)
    → SameGiven (put_at ps g x k) (put_at rs g y k)
put_given ps rs g x y all one k = by (cases_eq k g)
  where
    by : (k ≡ g) ⊎ (k ≡ g → ⊥) → SameGiven (put_at ps g x k) (put_at rs g y k)
    by (inl same) =
        subst (λ l. SameGiven l (put_at rs g y k)) (sym (ap (put_at ps g x) same ∙ put_at-same ps g x))
        (subst (SameGiven x) (sym (ap (put_at rs g y) same ∙ put_at-same rs g y)) one)
    by (inr ne) =
        subst (λ l. SameGiven l (put_at rs g y k)) (sym (put_at-other ps g x k ne))
        (subst (SameGiven (ps k)) (sym (put_at-other rs g y k ne)) (all k))

pub record Agree (m n : Memory) : Type 0 where
  pub begun : m.origins.begun ≡ n.origins.begun
  pub has_gone : m.origins.has_gone ≡ n.origins.has_gone
  pub to_call : m.origins.to_call ≡ n.origins.to_call
  pub pasts : (g : ℕ) → SameGiven (m.pasts g) (n.pasts g)

module _ {m n : Memory} (h : Agree m n) where
  -- the running frame goes past an event
  past_given : (g : ℕ) → ((first_past (m.pasts g)).given ≡ (first_past (n.pasts g)).given)
      × ((first_past (m.pasts g)).lent ≡ (first_past (n.pasts g)).lent)
      × SameGiven (later_pasts (m.pasts g)) (later_pasts (n.pasts g))
  past_given g =
      let r = first_given (m.pasts g) (n.pasts g) (h.pasts g) in
      (r.0, r.1, later_given (m.pasts g) (n.pasts g) (h.pasts g))

  module _ {p : Program} {w : World} where
    members_agree : {next : World} (changes : ChangesMembers p w next)
        → Agree (memory_of_members changes m) (memory_of_members changes n)
    members_agree (starts_member {f = f} {group = group} g k b values groups work free is_in is_at foreign) = record {
      begun = ap (λ l. root_of (with_member w.store k (Some group)) b values groups f.newest ∷ l) h.begun;
      has_gone = h.has_gone;
      to_call = h.to_call;
      pasts = put_given _ _ k _ _ (put_given m.pasts n.pasts g _ _ h.pasts (past_given g)) (refl, refl, tt);
    }
    members_agree (starts_stranger g k work free) = record {
      begun = ap (λ l. no_root ∷ l) h.begun;
      has_gone = h.has_gone;
      to_call = h.to_call;
      pasts = put_given m.pasts n.pasts g _ _ h.pasts (past_given g);
    }
    members_agree (starts_outside g k running call lent is free) = record {
      begun = ap (λ l. no_root ∷ l) h.begun;
      has_gone = h.has_gone;
      to_call = h.to_call;
      pasts = h.pasts;
    }
    members_agree (starts_beside g k member none free) = record {
      begun = ap (λ l. no_root ∷ l) h.begun;
      has_gone = h.has_gone;
      to_call = h.to_call;
      pasts = h.pasts;
    }
    members_agree (leaves_group g member none) = h

    goings_agree : {next : World} (going : StartsGoroutine p w next)
        → Agree (memory_of_go going m) (memory_of_go going n)
    goings_agree (starts_call {f = f} {v = v} g sets) = record {
      begun = h.begun;
      has_gone = h.has_gone;
      to_call = ap (to_call_too (held w.store f v)) h.to_call;
      pasts = put_given m.pasts n.pasts g _ _ h.pasts (past_given g);
    }
    goings_agree (starts_function g k b values groups sets free is fits) = record {
      begun = ap (λ l. root_of w.store b values groups nothing_around ∷ l) h.begun;
      has_gone = refl;
      to_call = h.to_call;
      pasts = put_given _ _ k _ _ (put_given m.pasts n.pasts g _ _ h.pasts (past_given g)) (refl, refl, tt);
    }
    goings_agree (starts_foreign {f = f} {callee = callee} {xs = xs} g sets no_body) = record {
      begun = h.begun;
      has_gone = h.has_gone;
      to_call = ap (declared_too p callee (sending w.store f callee xs).given) h.to_call;
      pasts = put_given m.pasts n.pasts g _ _ h.pasts (past_given g);
    }
    goings_agree (starts_its_literal {f = f} g k b values groups sets free is_in is_at foreign) = record {
      begun = ap (λ l. root_of w.store b values groups f.newest ∷ l) h.begun;
      has_gone = refl;
      to_call = h.to_call;
      pasts = put_given _ _ k _ _ (put_given m.pasts n.pasts g _ _ h.pasts (past_given g)) (refl, refl, tt);
    }

    environment_agrees : {next : World} (surrounds : Surrounds p w next)
        → Agree (memory_of_environment surrounds m) (memory_of_environment surrounds n)
    environment_agrees (starts g b values groups free of outermost foreign) = record {
      begun = h.begun;
      has_gone = h.has_gone;
      to_call = h.to_call;
      pasts = put_given m.pasts n.pasts g _ _ h.pasts (refl, refl, tt);
    }
    environment_agrees (evaluates_literal g f b among escapes) = h
    environment_agrees (starts_literal g c values groups free among foreign) = record {
      begun = h.begun;
      has_gone = h.has_gone;
      to_call = h.to_call;
      pasts = put_given m.pasts n.pasts g _ _ h.pasts (refl, refl, tt);
    }
    environment_agrees (makes_cells values groups foreign) =
        record { begun = h.begun; has_gone = h.has_gone; to_call = h.to_call; pasts = h.pasts }
    environment_agrees (makes_one parent earlier) = h
    environment_agrees (ends_one a within) = h
    environment_agrees (calls_any a within) = h
    environment_agrees (makes_outside context earlier) = h
    environment_agrees (joins_outside g a free made) =
        record { begun = ap (λ l. no_root ∷ l) h.begun; has_gone = h.has_gone; to_call = h.to_call; pasts = h.pasts }

    step_agrees : {next : World} (step : Step p w next) → Agree (memory_after step m) (memory_after step n)
    step_agrees (of_goroutine g running acts) =
        let one = acts_starts acts m.origins in
        let other_one = acts_starts acts n.origins in
        let past = past_given g in
        record {
          begun = one.begun ∙ h.begun ∙ sym other_one.begun;
          has_gone = one.has_gone ∙ h.has_gone ∙ sym other_one.has_gone;
          to_call = one.to_call ∙ h.to_call ∙ sym other_one.to_call;
          pasts = put_given m.pasts n.pasts g _ _ h.pasts (append_given _ _ _ _ (acts_given acts m.origins n.origins
              (first_past (m.pasts g)) (first_past (n.pasts g)) past.0 past.1) past.2);
        }
    step_agrees (of_members changes) = members_agree changes
    step_agrees (of_go going) = goings_agree going
    step_agrees (of_environment surrounds) = environment_agrees surrounds

pub runs_agree : {p : Program} (one other : ℕ) (w : World) (run : Run p w)
    → Agree (memory_of one run) (memory_of other run)
runs_agree one other w no_step = record { begun = refl; has_gone = refl; to_call = refl; pasts = λ g. tt }
runs_agree one other w (step_more {w = before} run step) = step_agrees (runs_agree one other before run) step

-- What is remembered of levels and of calls

module _ {p : Program} {w : World} (m : Memory) where
  members_least : {next : World} (changes : ChangesMembers p w next)
      → (memory_of_members changes m).origins.least ≡ m.origins.least
  members_least (starts_member g k b values groups work free is_in is_at foreign) = refl
  members_least (starts_stranger g k work free) = refl
  members_least (starts_outside g k running call lent is free) = refl
  members_least (starts_beside g k member none free) = refl
  members_least (leaves_group g member none) = refl

  goings_least : {next : World} (going : StartsGoroutine p w next)
      → (memory_of_go going m).origins.least ≡ m.origins.least
  goings_least (starts_call g sets) = refl
  goings_least (starts_function g k b values groups sets free is fits) = refl
  goings_least (starts_foreign g sets no_body) = refl
  goings_least (starts_its_literal g k b values groups sets free is_in is_at foreign) = refl

  environment_least : {next : World} (surrounds : Surrounds p w next)
      → (memory_of_environment surrounds m).origins.least ≡ m.origins.least
  environment_least (starts g b values groups free of outermost foreign) = refl
  environment_least (evaluates_literal g f b among escapes) = refl
  environment_least (starts_literal g c values groups free among foreign) = refl
  environment_least (makes_cells values groups foreign) = refl
  environment_least (makes_one parent earlier) = refl
  environment_least (ends_one a within) = refl
  environment_least (calls_any a within) = refl
  environment_least (makes_outside context earlier) = refl
  environment_least (joins_outside g a free made) = refl

  step_least : {next : World} (step : Step p w next) → (memory_after step m).origins.least ≡ m.origins.least
  step_least (of_goroutine g running acts) = (acts_starts acts m.origins).least
  step_least (of_members changes) = members_least changes
  step_least (of_go going) = goings_least going
  step_least (of_environment surrounds) = environment_least surrounds

  -- what is to be called is so in the world
  members_call : {next : World} (changes : ChangesMembers p w next) → m.origins.to_call ≡ w.to_call
      → (memory_of_members changes m).origins.to_call ≡ next.to_call
  members_call (starts_member g k b values groups work free is_in is_at foreign) e = e
  members_call (starts_stranger g k work free) e = e
  members_call (starts_outside g k running call lent is free) e = e
  members_call (starts_beside g k member none free) e = e
  members_call (leaves_group g member none) e = e

  goings_call : {next : World} (going : StartsGoroutine p w next) → m.origins.to_call ≡ w.to_call
      → (memory_of_go going m).origins.to_call ≡ next.to_call
  goings_call (starts_call {f = f} {v = v} g sets) e = ap (to_call_too (held w.store f v)) e
  goings_call (starts_function g k b values groups sets free is fits) e = e
  goings_call (starts_foreign {f = f} {callee = callee} {xs = xs} g sets no_body) e =
      ap (declared_too p callee (sending w.store f callee xs).given) e
  goings_call (starts_its_literal g k b values groups sets free is_in is_at foreign) e = e

  environment_calls : {next : World} (surrounds : Surrounds p w next) → m.origins.to_call ≡ w.to_call
      → (memory_of_environment surrounds m).origins.to_call ≡ next.to_call
  environment_calls (starts g b values groups free of outermost foreign) e = e
  environment_calls (evaluates_literal g f b among escapes) e = e
  environment_calls (starts_literal g c values groups free among foreign) e = e
  environment_calls (makes_cells values groups foreign) e = e
  environment_calls (makes_one parent earlier) e = e
  environment_calls (ends_one a within) e = e
  environment_calls (calls_any a within) e = e
  environment_calls (makes_outside context earlier) e = e
  environment_calls (joins_outside g a free made) e = e

  step_calls : {next : World} (step : Step p w next) → m.origins.to_call ≡ w.to_call
      → (memory_after step m).origins.to_call ≡ next.to_call
  step_calls (of_goroutine g running acts) e = (acts_starts acts m.origins).to_call ∙ e
  step_calls (of_members changes) e = members_call changes e
  step_calls (of_go going) e = goings_call going e
  step_calls (of_environment surrounds) e = environment_calls surrounds e

pub least_is : {p : Program} (least : ℕ) (w : World) (run : Run p w) → (memory_of least run).origins.least ≡ least
least_is least w no_step = refl
least_is least w (step_more {w = before} run step) = step_least (memory_of least run) step ∙ least_is least before run

pub same_calls : {p : Program} (least : ℕ) (w : World) (run : Run p w)
    → (memory_of least run).origins.to_call ≡ w.to_call
same_calls least w no_step = refl
same_calls least w (step_more {w = before} run step) =
    step_calls (memory_of least run) step (same_calls least before run)
