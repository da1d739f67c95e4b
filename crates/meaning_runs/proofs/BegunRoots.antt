-- What a goroutine was started with sees to what it was given: the function was called, or a goroutine was started whose
-- lowest frame has to call it.
use Rattle.std.proofs.Common.{◌≡◌, ℕ, zero, suc, ◌+◌, ◌<◌, ◌≤◌, ◌⊎◌, inl, inr, Bool, true, false, List, [], ◌∷◌, ◌++◌, Option, Some, Contains, refl, sym, ap, ◌∙◌, subst, arith}
use Rattle.std.proofs.lemmas.Bool.{cases_eq}
use Rattle.std.proofs.lemmas.Option.{none-some, same_Some}
use Rattle.meaning.specs.Code.{Code}
use Rattle.meaning.specs.Uses.{Event}
use Rattle.meaning.specs.BodyEvents.{Variable, VariableRole, own_parameter, own_receiver, declared_in_body, captured}
use Rattle.meaning.proofs.Membership.{contains_cases, contains_nil}
use Rattle.meaning_runs.specs.Bodies.{Program, Body, IsOf}
use Rattle.meaning_runs.specs.World.{Value, cancel_function, Store, put_at, held, Frame, World, new_frame, nothing_around, with_member}
use Rattle.meaning_runs.specs.Steps.{ComesTo, at_code, IsAtEnd, sending, ChangesMembers, starts_member, starts_stranger, starts_outside, starts_beside, leaves_group, StartsGoroutine, starts_call, starts_function, starts_foreign, starts_its_literal, Surrounds, starts, evaluates_literal, starts_literal, makes_cells, makes_one, ends_one, calls_any, makes_outside, joins_outside, Step, of_goroutine, of_members, of_go, of_environment}
use Rattle.meaning_runs.specs.Runs.{Run, no_step, step_more, started_as_member, started_by_go, started_outside, started_after, was_started, IsReturning, IsCalledFor, was_called, is_to_call}
use Rattle.meaning_runs.proofs.Contexts.{put_at-same, put_at-other, run_is_sound, step_follows}
use Rattle.meaning_runs.proofs.GoingCalls.{to_call_more, declared_more}
use Rattle.meaning_runs.proofs.CaredActs.{BodiesAreKept}
use Rattle.meaning_runs.proofs.CaredFor.{IsRelied, MustStart, IsMet, was_called as met_called, is_to_call as met_to_call, is_taken, level, level_in}
use Rattle.meaning_runs.proofs.QuietGroups.{GroupsAreSeenOver, its_holder, its_care, must_is_met}
use Rattle.meaning_runs.proofs.Remembered.{Root, no_root, root_of, Origins, Past, Memory, first_past, later_pasts, no_past, with_root, with_begun, pasts_after, pasts_behind, memory_of_members, memory_of_go, memory_of_environment, memory_after, memory_of}
use Rattle.meaning_runs.proofs.Starts.{LastStays, first_given, acts_starts, acts_last, acts_end, runs_agree, least_is, same_calls}
use Rattle.meaning_runs.proofs.WhoStarts.{BodiesAreWellUsed}

-- Levels

pub level_low : (at : ℕ) (role : VariableRole) → level_in at role ≤ at + 2
level_low at declared_in_body = omega arith
level_low at (own_parameter k) = omega arith
level_low at own_receiver = omega arith
level_low at captured = omega arith

-- Lowest frames

-- the frame has to call the function, by what stands deeper than the level
pub record FrameSees (p : Program) (n : ℕ) (f : Frame) (q : Past) (a : ℕ) : Type 0 where
  pub variable : Variable
  pub is_relied : IsRelied p f.body variable
  pub is_given : q.given variable.number ≡ cancel_function a
  pub is_deeper : n < level f.body variable

abbrev pub LowestSees : Program → ℕ → List Frame → List Past → ℕ → Type 0
LowestSees p n [] qs a = ⊥
LowestSees p n (f ∷ fs) [] a = ⊥
LowestSees p n (f ∷ []) (q ∷ qs) a = FrameSees p n f q a
LowestSees p n (f ∷ e ∷ fs) (q ∷ qs) a = LowestSees p n (e ∷ fs) qs a

frame_stays : (p : Program) (n : ℕ) (f e : Frame) (q r : Past) (a : ℕ) → e.body ≡ f.body → r.given ≡ q.given
    → FrameSees p n f q a
    → FrameSees p n e r a
frame_stays p n f e q r a same given h = record {
  variable = h.variable;
  is_relied = subst (λ b. IsRelied p b h.variable) (sym same) h.is_relied;
  is_given = ap (λ (g : ℕ → Value). g h.variable.number) given ∙ h.is_given;
  is_deeper = subst (λ b. n < level b h.variable) (sym same) h.is_deeper;
}

module _ (p : Program) (n a : ℕ) where
  pub no_frame : (fs : List Frame) (qs : List Past) → fs ≡ [] → LowestSees p n fs qs a → ⊥
  no_frame [] qs e h = h
  no_frame (f ∷ fs) qs e h = cc

  -- the running frame goes past an event
  past_sees : {f : Frame} {e : Event} {rest : Code Event} (others : List Frame) (qs : List Past) (d : ComesTo f e rest)
      → LowestSees p n (f ∷ others) qs a
      → LowestSees p n (at_code f rest ∷ others) (pasts_behind qs d) a
  past_sees others [] d h = absurd h
  past_sees [] (q ∷ qs) d h = record {
    variable = h.variable;
    is_relied = h.is_relied;
    is_given = h.is_given;
    is_deeper = h.is_deeper;
  }
  past_sees (o ∷ os) (q ∷ qs) d h = h

  -- frames stand in the place of the running one
  last_sees : (f : Frame) (q : Past) (frames : List Frame) (news more : List Past) → (frames ≡ [] → ⊥)
      → LastStays f q frames news
      → FrameSees p n f q a
      → LowestSees p n (frames ++ []) (news ++ more) a
  last_sees f q [] news more some stays h = absurd (some refl)
  last_sees f q (e ∷ fs) [] more some stays h = absurd stays
  last_sees f q (e ∷ []) (r ∷ []) more some stays h = frame_stays p n f e q r a stays.0 stays.1 h
  last_sees f q (e ∷ []) (r ∷ s ∷ rs) more some stays h = absurd stays
  last_sees f q (e ∷ d ∷ fs) (r ∷ rs) more some stays h = last_sees f q (d ∷ fs) rs more (λ i. cc) stays h

  -- and others are below
  over_sees : (f : Frame) (q : Past) (frames : List Frame) (news : List Past) (o : Frame) (os : List Frame) (qs : List Past)
      → LastStays f q frames news
      → LowestSees p n (o ∷ os) qs a
      → LowestSees p n (frames ++ o ∷ os) (news ++ qs) a
  over_sees f q [] [] o os qs stays h = h
  over_sees f q [] (r ∷ rs) o os qs stays h = absurd stays
  over_sees f q (e ∷ fs) [] o os qs stays h = absurd stays
  over_sees f q (e ∷ []) (r ∷ []) o os qs stays h = h
  over_sees f q (e ∷ []) (r ∷ s ∷ rs) o os qs stays h = absurd stays
  over_sees f q (e ∷ d ∷ fs) (r ∷ rs) o os qs stays h = over_sees f q (d ∷ fs) rs o os qs stays h

  -- one goroutine gets other frames
  put_sees : (st : ℕ → List Frame) (ps : ℕ → List Past) (h : ℕ) (fs : List Frame) (qs : List Past) (g : ℕ)
      → (LowestSees p n (st h) (ps h) a → LowestSees p n fs qs a)
      → LowestSees p n (st g) (ps g) a
      → LowestSees p n (put_at st h fs g) (put_at ps h qs g) a
  put_sees st ps h fs qs g one sees = elim (cases_eq g h) [
    | inl same ↦
        subst (λ l. LowestSees p n l (put_at ps h qs g) a) (sym (ap (put_at st h fs) same ∙ put_at-same st h fs))
        (subst (λ l. LowestSees p n fs l a) (sym (ap (put_at ps h qs) same ∙ put_at-same ps h qs))
        (one (subst (λ i. LowestSees p n (st i) (ps i) a) same sees)))
    | inr ne ↦
        subst (λ l. LowestSees p n l (put_at ps h qs g) a) (sym (put_at-other st h fs g ne))
        (subst (λ l. LowestSees p n (st g) l a) (sym (put_at-other ps h qs g ne)) sees)
  ]

  new_sees : (st : ℕ → List Frame) (ps : ℕ → List Past) (h : ℕ) (fs : List Frame) (qs : List Past)
      → LowestSees p n fs qs a
      → LowestSees p n (put_at st h fs h) (put_at ps h qs h) a
  new_sees st ps h fs qs sees =
      subst (λ l. LowestSees p n l (put_at ps h qs h) a) (sym (put_at-same st h fs))
      (subst (λ l. LowestSees p n fs l a) (sym (put_at-same ps h qs)) sees)

-- Steps

-- the only frame of the goroutine returned, and all others stayed
pub record Returns (p : Program) (w next : World) (m after : Memory) (g : ℕ) : Type 0 where
  pub frame : Frame
  pub is_running : w.stacks g ≡ frame ∷ []
  pub is_at_end : IsAtEnd frame
  pub has_none : next.stacks g ≡ []
  pub others : (h n a : ℕ) → (h ≡ g → ⊥) → LowestSees p n (w.stacks h) (m.pasts h) a
      → LowestSees p n (next.stacks h) (after.pasts h) a

pub none_left : (fs os : List Frame) → ((fs ≡ []) × (os ≡ [])) ⊎ (os ≡ [] → fs ≡ [] → ⊥)
none_left [] [] = inl (refl, refl)
none_left [] (o ∷ os) = inr (λ e g. cc)
none_left (f ∷ fs) os = inr (λ e g. cc)

module _ (p : Program) (w : World) (m : Memory) where
  -- the goroutine goes past an event
  moves_past : {f : Frame} {e : Event} {rest : Code Event} {others : List Frame} (n a h g : ℕ) (d : ComesTo f e rest)
      → w.stacks h ≡ f ∷ others
      → LowestSees p n (w.stacks g) (m.pasts g) a
      → LowestSees p n (put_at w.stacks h (at_code f rest ∷ others) g) (put_at m.pasts h (pasts_behind (m.pasts h) d) g) a
  moves_past {others = others} n a h g d running =
      put_sees p n a w.stacks m.pasts h _ _ g
      (λ sees. past_sees p n a others (m.pasts h) d (subst (λ l. LowestSees p n l (m.pasts h) a) running sees))

  -- one that was free begins
  begins_free : (n a h g : ℕ) (st : ℕ → List Frame) (ps : ℕ → List Past) (fs : List Frame) (qs : List Past)
      → w.stacks h ≡ []
      → LowestSees p n (w.stacks g) (m.pasts g) a
      → LowestSees p n (st g) (ps g) a
      → LowestSees p n (put_at st h fs g) (put_at ps h qs g) a
  begins_free n a h g st ps fs qs free there sees = elim (cases_eq g h) [
    | inl same ↦ absurd (no_frame p n a (w.stacks g) (m.pasts g) (ap w.stacks same ∙ free) there)
    | inr ne ↦
        subst (λ l. LowestSees p n l (put_at ps h qs g) a) (sym (put_at-other st h fs g ne))
        (subst (λ l. LowestSees p n (st g) l a) (sym (put_at-other ps h qs g ne)) sees)
  ]

module _ {p : Program} {w : World} (m : Memory) where
  members_lowest : {next : World} (changes : ChangesMembers p w next) (g n a : ℕ)
      → LowestSees p n (w.stacks g) (m.pasts g) a
      → LowestSees p n (next.stacks g) ((memory_of_members changes m).pasts g) a
  members_lowest (starts_member {f = f} {others = others} {rest = rest} {group = group} g h b values groups work free is_in is_at foreign) k n a sees =
      begins_free p w m n a h k (put_at w.stacks g (at_code f rest ∷ others))
      (put_at m.pasts g (pasts_behind (m.pasts g) work.does_next.comes_to))
      (new_frame w.store b f.newest ∷ [])
      (no_past (with_root m.origins h (root_of (with_member w.store h (Some group)) b values groups f.newest))
      (with_member w.store h (Some group)) b values groups f.newest ∷ [])
      free.has_no_frame sees (moves_past p w m n a g k work.does_next.comes_to work.is_running sees)
  members_lowest (starts_stranger g h work free) k n a sees =
      moves_past p w m n a g k work.does_next.comes_to work.is_running sees
  members_lowest (starts_outside g h running call lent is free) k n a sees = sees
  members_lowest (starts_beside g h member none free) k n a sees = sees
  members_lowest (leaves_group g member none) k n a sees = sees

  goings_lowest : {next : World} (going : StartsGoroutine p w next) (g n a : ℕ)
      → LowestSees p n (w.stacks g) (m.pasts g) a
      → LowestSees p n (next.stacks g) ((memory_of_go going m).pasts g) a
  goings_lowest (starts_call g sets) k n a sees = moves_past p w m n a g k sets.does_next.comes_to sets.is_running sees
  goings_lowest (starts_function {f = f} {others = others} {rest = rest} g h b values groups sets free is fits) k n a sees =
      begins_free p w m n a h k (put_at w.stacks g (at_code f rest ∷ others))
      (put_at m.pasts g (pasts_behind (m.pasts g) sets.does_next.comes_to))
      (new_frame w.store b nothing_around ∷ [])
      (no_past (with_begun m.origins (root_of w.store b values groups nothing_around)) w.store b values groups nothing_around ∷ [])
      free.has_no_frame sees (moves_past p w m n a g k sets.does_next.comes_to sets.is_running sees)
  goings_lowest (starts_foreign g sets no_body) k n a sees =
      moves_past p w m n a g k sets.does_next.comes_to sets.is_running sees
  goings_lowest (starts_its_literal {f = f} {others = others} {rest = rest} g h b values groups sets free is_in is_at foreign) k n a sees =
      begins_free p w m n a h k (put_at w.stacks g (at_code f rest ∷ others))
      (put_at m.pasts g (pasts_behind (m.pasts g) sets.does_next.comes_to))
      (new_frame w.store b f.newest ∷ [])
      (no_past (with_begun m.origins (root_of w.store b values groups f.newest)) w.store b values groups f.newest ∷ [])
      free.has_no_frame sees (moves_past p w m n a g k sets.does_next.comes_to sets.is_running sees)

  environment_lowest : {next : World} (surrounds : Surrounds p w next) (g n a : ℕ)
      → LowestSees p n (w.stacks g) (m.pasts g) a
      → LowestSees p n (next.stacks g) ((memory_of_environment surrounds m).pasts g) a
  environment_lowest (starts g b values groups free of outermost foreign) k n a sees =
      begins_free p w m n a g k w.stacks m.pasts (new_frame w.store b nothing_around ∷ [])
      (no_past m.origins w.store b values groups nothing_around ∷ []) free sees sees
  environment_lowest (evaluates_literal g f b among escapes) k n a sees = sees
  environment_lowest (starts_literal g c values groups free among foreign) k n a sees =
      begins_free p w m n a g k w.stacks m.pasts (new_frame w.store c.literal c.newest ∷ [])
      (no_past m.origins w.store c.literal values groups c.newest ∷ []) free.has_no_frame sees sees
  environment_lowest (makes_cells values groups foreign) k n a sees = sees
  environment_lowest (makes_one parent earlier) k n a sees = sees
  environment_lowest (ends_one x within) k n a sees = sees
  environment_lowest (calls_any x within) k n a sees = sees
  environment_lowest (makes_outside context earlier) k n a sees = sees
  environment_lowest (joins_outside g x free made) k n a sees = sees

  pub step_lowest : {next : World} (step : Step p w next) (g n a : ℕ)
      → LowestSees p n (w.stacks g) (m.pasts g) a
      → LowestSees p n (next.stacks g) ((memory_after step m).pasts g) a ⊎ Returns p w next m (memory_after step m) g
  step_lowest (of_members changes) g n a sees = inl (members_lowest changes g n a sees)
  step_lowest (of_go going) g n a sees = inl (goings_lowest going g n a sees)
  step_lowest (of_environment surrounds) g n a sees = inl (environment_lowest surrounds g n a sees)
  step_lowest (of_goroutine {f = f} {others = others} {after = after} {frames = frames} h running acts) g n a sees =
      elim (cases_eq g h) [
        | inr ne ↦ inl (apart g n a ne sees)
        | inl same ↦ elim (none_left frames others) [
          | inl none ↦ inr record {
            frame = f;
            is_running = ap w.stacks same ∙ running ∙ ap (λ l. f ∷ l) none.1;
            is_at_end = acts_end acts none.0;
            has_none = ap (put_at w.stacks h (frames ++ others)) same ∙ put_at-same w.stacks h (frames ++ others)
                ∙ (λ j. none.0 j ++ none.1 j);
            others = λ k l c ne i. apart k l c (λ e. ne (e ∙ sym same)) i;
          }
          | inr some ↦ inl (subst (λ i. LowestSees p n (put_at w.stacks h (frames ++ others) i) (put_at m.pasts h its_pasts i) a)
              (sym same) (new_sees p n a w.stacks m.pasts h (frames ++ others) its_pasts
              (its_own others (m.pasts h) n a some (subst (λ l. LowestSees p n l (m.pasts h) a) running
              (subst (λ i. LowestSees p n (w.stacks i) (m.pasts i) a) same sees)))))
        ]
      ]
    where
      its_pasts : List Past
      its_pasts = pasts_after acts m.origins (first_past (m.pasts h)) ++ later_pasts (m.pasts h)

      apart : (k l c : ℕ) → (k ≡ h → ⊥) → LowestSees p l (w.stacks k) (m.pasts k) c
          → LowestSees p l (put_at w.stacks h (frames ++ others) k) (put_at m.pasts h its_pasts k) c
      apart k l c ne i =
          subst (λ y. LowestSees p l y (put_at m.pasts h its_pasts k) c) (sym (put_at-other w.stacks h (frames ++ others) k ne))
          (subst (λ y. LowestSees p l (w.stacks k) y c) (sym (put_at-other m.pasts h its_pasts k ne)) i)

      -- what the goroutine itself sees to
      its_own : (os : List Frame) (qs : List Past) (k c : ℕ) → (os ≡ [] → frames ≡ [] → ⊥)
          → LowestSees p k (f ∷ os) qs c
          → LowestSees p k (frames ++ os) (pasts_after acts m.origins (first_past qs) ++ later_pasts qs) c
      its_own os [] k c some i = absurd i
      its_own [] (r ∷ rs) k c some i =
          last_sees p k c f r frames (pasts_after acts m.origins r) rs (some refl) (acts_last acts m.origins r) i
      its_own (o ∷ os) (r ∷ rs) k c some i =
          over_sees p k c f r frames (pasts_after acts m.origins r) o os rs (acts_last acts m.origins r) i

-- What was started stays so

put_true : (was : ℕ → Bool) (h g : ℕ) → was g ≡ true → put_at was h true g ≡ true
put_true was h g e = elim (cases_eq g h) [
  | inl same ↦ ap (put_at was h true) same ∙ put_at-same was h true
  | inr ne ↦ put_at-other was h true g ne ∙ e
]

put_false : (w : World) (was : ℕ → Bool) (g : ℕ) → (w.stacks g ≡ [] → ⊥) → was g ≡ true → (h : ℕ) → w.stacks h ≡ []
    → put_at was h false g ≡ true
put_false w was g some e h free = elim (cases_eq g h) [
  | inl same ↦ absurd (some (ap w.stacks same ∙ free))
  | inr ne ↦ put_at-other was h false g ne ∙ e
]

module _ {p : Program} {w : World} (was : ℕ → Bool) (g : ℕ) (some : w.stacks g ≡ [] → ⊥) (e : was g ≡ true) where
  members_started : {next : World} (changes : ChangesMembers p w next) → started_as_member changes was g ≡ true
  members_started (starts_member k h b values groups work free is_in is_at foreign) = put_true was h g e
  members_started (starts_stranger k h work free) = e
  members_started (starts_outside k h running call lent is free) = e
  members_started (starts_beside k h member none free) = e
  members_started (leaves_group k member none) = e

  goings_started : {next : World} (going : StartsGoroutine p w next) → started_by_go going was g ≡ true
  goings_started (starts_call k sets) = e
  goings_started (starts_function k h b values groups sets free is fits) = put_true was h g e
  goings_started (starts_foreign k sets no_body) = e
  goings_started (starts_its_literal k h b values groups sets free is_in is_at foreign) = put_true was h g e

  environment_started : {next : World} (surrounds : Surrounds p w next) → started_outside surrounds was g ≡ true
  environment_started (starts k b values groups free of outermost foreign) = put_false w was g some e k free
  environment_started (evaluates_literal k f b among escapes) = e
  environment_started (starts_literal k c values groups free among foreign) =
      put_false w was g some e k free.has_no_frame
  environment_started (makes_cells values groups foreign) = e
  environment_started (makes_one parent earlier) = e
  environment_started (ends_one x within) = e
  environment_started (calls_any x within) = e
  environment_started (makes_outside context earlier) = e
  environment_started (joins_outside k x free made) = e

  pub step_started : {next : World} (step : Step p w next) → started_after step was g ≡ true
  step_started (of_goroutine k running acts) = e
  step_started (of_members changes) = members_started changes
  step_started (of_go going) = goings_started going
  step_started (of_environment surrounds) = environment_started surrounds

-- What is to be called stays so

module _ {p : Program} {w : World} (a : ℕ) (h : Contains w.to_call a) where
  goings_call : {next : World} (going : StartsGoroutine p w next) → Contains next.to_call a
  goings_call (starts_call {f = f} {v = v} k sets) = to_call_more (held w.store f v) w.to_call a h
  goings_call (starts_function k g b values groups sets free is fits) = h
  goings_call (starts_foreign {f = f} {callee = callee} {xs = xs} k sets no_body) =
      declared_more p callee (sending w.store f callee xs).given w.to_call a h
  goings_call (starts_its_literal k g b values groups sets free is_in is_at foreign) = h

  members_call : {next : World} (changes : ChangesMembers p w next) → Contains next.to_call a
  members_call (starts_member k g b values groups work free is_in is_at foreign) = h
  members_call (starts_stranger k g work free) = h
  members_call (starts_outside k g running call lent is free) = h
  members_call (starts_beside k g member none free) = h
  members_call (leaves_group k member none) = h

  environment_calls : {next : World} (surrounds : Surrounds p w next) → Contains next.to_call a
  environment_calls (starts k b values groups free of outermost foreign) = h
  environment_calls (evaluates_literal k f b among escapes) = h
  environment_calls (starts_literal k c values groups free among foreign) = h
  environment_calls (makes_cells values groups foreign) = h
  environment_calls (makes_one parent earlier) = h
  environment_calls (ends_one x within) = h
  environment_calls (calls_any x within) = h
  environment_calls (makes_outside context earlier) = h
  environment_calls (joins_outside k x free made) = h

  step_still_calls : {next : World} (step : Step p w next) → Contains next.to_call a
  step_still_calls (of_goroutine k running acts) = h
  step_still_calls (of_members changes) = members_call changes
  step_still_calls (of_go going) = goings_call going
  step_still_calls (of_environment surrounds) = environment_calls surrounds

pub called_stays : (p : Program) (w next : World) (a : ℕ) → Run p w → Step p w next → IsCalledFor a w
    → IsCalledFor a next
called_stays p w next a run step (was_called h) =
    was_called ((step_follows p w next step (run_is_sound p w run)).called a h)
called_stays p w next a run step (is_to_call h) = is_to_call (step_still_calls a h step)

-- What begins

module _ (p : Program) where
  -- some goroutine was started with the root
  abbrev BeginsWith : (next : World) (now : ℕ → Bool) (after : Memory) (r : Root) → Type 0
  BeginsWith next now after r = (n a : ℕ) → MustStart p n r a
      → (g : ℕ) × (now g ≡ true) × LowestSees p n (next.stacks g) (after.pasts g) a

  new_root : (o : Origins) (s : Store) (here : Store) (b : Body) (values : ℕ → Value) (groups around : ℕ → Option ℕ) (n a : ℕ) (r : Root)
      → root_of s b values groups around ≡ r
      → MustStart p n r a
      → FrameSees p n (new_frame here b around) (no_past o s b values groups around) a
  new_root o s here b values groups around n a r same must =
      let its : b ≡ must.body = same_Some b must.body (ap (λ (z : Root). z.body) same ∙ must.is_body) in
      record {
        variable = must.variable;
        is_relied = subst (λ z. IsRelied p z must.variable) (sym its) must.is_relied;
        is_given = ap (λ (z : Root). z.given must.variable.number) same ∙ must.is_given;
        is_deeper = subst (λ z. n < level z must.variable) (sym its) must.is_deeper;
      }

  nothing_begins : (n a : ℕ) (r : Root) → no_root ≡ r → MustStart p n r a → ⊥
  nothing_begins n a r same must = none-some must.body (ap (λ (z : Root). z.body) same ∙ must.is_body)

module _ {p : Program} {w : World} (m : Memory) (was : ℕ → Bool) where
  members_begin : {next : World} (changes : ChangesMembers p w next) (r : Root)
      → Contains (memory_of_members changes m).origins.begun r
      → Contains m.origins.begun r ⊎ BeginsWith p next (started_as_member changes was) (memory_of_members changes m) r
  members_begin (starts_member {f = f} {others = others} {rest = rest} {group = group} g h b values groups work free is_in is_at foreign) r c =
      elim (contains_cases (root_of (with_member w.store h (Some group)) b values groups f.newest) r m.origins.begun c) [
        | inl same ↦ inr (λ n a must. (
          h,
          put_at-same was h true,
          new_sees p n a (put_at w.stacks g (at_code f rest ∷ others))
              (put_at m.pasts g (pasts_behind (m.pasts g) work.does_next.comes_to)) h (new_frame w.store b f.newest ∷ [])
              (no_past (with_root m.origins h (root_of (with_member w.store h (Some group)) b values groups f.newest))
              (with_member w.store h (Some group)) b values groups f.newest ∷ [])
              (new_root p (with_root m.origins h (root_of (with_member w.store h (Some group)) b values groups f.newest))
              (with_member w.store h (Some group)) w.store b values groups f.newest n a r same must),
        ))
        | inr more ↦ inl more
      ]
  members_begin (starts_stranger g h work free) r c = elim (contains_cases no_root r m.origins.begun c) [
    | inl same ↦ inr (λ n a must. absurd (nothing_begins p n a r same must))
    | inr more ↦ inl more
  ]
  members_begin (starts_outside g h running call lent is free) r c = elim (contains_cases no_root r m.origins.begun c) [
    | inl same ↦ inr (λ n a must. absurd (nothing_begins p n a r same must))
    | inr more ↦ inl more
  ]
  members_begin (starts_beside g h member none free) r c = elim (contains_cases no_root r m.origins.begun c) [
    | inl same ↦ inr (λ n a must. absurd (nothing_begins p n a r same must))
    | inr more ↦ inl more
  ]
  members_begin (leaves_group g member none) r c = inl c

  goings_begin : {next : World} (going : StartsGoroutine p w next) (r : Root)
      → Contains (memory_of_go going m).origins.begun r
      → Contains m.origins.begun r ⊎ BeginsWith p next (started_by_go going was) (memory_of_go going m) r
  goings_begin (starts_call g sets) r c = inl c
  goings_begin (starts_function {f = f} {others = others} {rest = rest} g h b values groups sets free is fits) r c =
      elim (contains_cases (root_of w.store b values groups nothing_around) r m.origins.begun c) [
        | inl same ↦ inr (λ n a must. (
          h,
          put_at-same was h true,
          new_sees p n a (put_at w.stacks g (at_code f rest ∷ others))
              (put_at m.pasts g (pasts_behind (m.pasts g) sets.does_next.comes_to)) h (new_frame w.store b nothing_around ∷ [])
              (no_past (with_begun m.origins (root_of w.store b values groups nothing_around)) w.store b values groups nothing_around ∷ [])
              (new_root p (with_begun m.origins (root_of w.store b values groups nothing_around)) w.store w.store b values groups nothing_around n a r same must),
        ))
        | inr more ↦ inl more
      ]
  goings_begin (starts_foreign g sets no_body) r c = inl c
  goings_begin (starts_its_literal {f = f} {others = others} {rest = rest} g h b values groups sets free is_in is_at foreign) r c =
      elim (contains_cases (root_of w.store b values groups f.newest) r m.origins.begun c) [
        | inl same ↦ inr (λ n a must. (
          h,
          put_at-same was h true,
          new_sees p n a (put_at w.stacks g (at_code f rest ∷ others))
              (put_at m.pasts g (pasts_behind (m.pasts g) sets.does_next.comes_to)) h (new_frame w.store b f.newest ∷ [])
              (no_past (with_begun m.origins (root_of w.store b values groups f.newest)) w.store b values groups f.newest ∷ [])
              (new_root p (with_begun m.origins (root_of w.store b values groups f.newest)) w.store w.store b values groups f.newest n a r same must),
        ))
        | inr more ↦ inl more
      ]

  environment_begins : {next : World} (surrounds : Surrounds p w next) (r : Root)
      → Contains (memory_of_environment surrounds m).origins.begun r
      → Contains m.origins.begun r ⊎ BeginsWith p next (started_outside surrounds was) (memory_of_environment surrounds m) r
  environment_begins (starts k b values groups free of outermost foreign) r c = inl c
  environment_begins (evaluates_literal k f b among escapes) r c = inl c
  environment_begins (starts_literal k x values groups free among foreign) r c = inl c
  environment_begins (makes_cells values groups foreign) r c = inl c
  environment_begins (makes_one parent earlier) r c = inl c
  environment_begins (ends_one x within) r c = inl c
  environment_begins (calls_any x within) r c = inl c
  environment_begins (makes_outside context earlier) r c = inl c
  environment_begins (joins_outside k x free made) r c = elim (contains_cases no_root r m.origins.begun c) [
    | inl same ↦ inr (λ n a must. absurd (nothing_begins p n a r same must))
    | inr more ↦ inl more
  ]

  step_begins : {next : World} (step : Step p w next) (r : Root)
      → Contains (memory_after step m).origins.begun r
      → Contains m.origins.begun r ⊎ BeginsWith p next (started_after step was) (memory_after step m) r
  step_begins (of_goroutine g running acts) r c = inl (subst (λ l. Contains l r) (acts_starts acts m.origins).begun c)
  step_begins (of_members changes) r c = members_begin changes r c
  step_begins (of_go going) r c = goings_begin going r c
  step_begins (of_environment surrounds) r c = environment_begins surrounds r c

-- Runs

only_sees : (p : Program) (n a : ℕ) (f : Frame) (qs : List Past) → LowestSees p n (f ∷ []) qs a
    → FrameSees p n f (first_past qs) a
only_sees p n a f [] h = absurd h
only_sees p n a f (q ∷ qs) h = h

sees_less : (p : Program) (n l a : ℕ) → n ≤ l → (fs : List Frame) (qs : List Past) → LowestSees p l fs qs a
    → LowestSees p n fs qs a
sees_less p n l a less [] qs h = absurd h
sees_less p n l a less (f ∷ fs) [] h = absurd h
sees_less p n l a less (f ∷ []) (q ∷ qs) h = let deep = h.is_deeper in record {
  variable = h.variable;
  is_relied = h.is_relied;
  is_given = h.is_given;
  is_deeper = omega (arith, less, deep);
}
sees_less p n l a less (f ∷ e ∷ fs) (q ∷ qs) h = sees_less p n l a less (e ∷ fs) qs h

-- it was called, or is to call, or a goroutine was started whose lowest frame has to call it
abbrev pub IsSeenBy : (p : Program) (w : World) → Run p w → ℕ → ℕ → Type 0
IsSeenBy p w run n a = IsCalledFor a w
    ⊎ ((g : ℕ) × (was_started run g ≡ true) × LowestSees p n (w.stacks g) ((memory_of 0 run).pasts g) a)

-- so it is of what each root has to see to
abbrev pub RootsSee : (p : Program) (w : World) → Run p w → Type 0
RootsSee p w run = (n : ℕ) (r : Root) (a : ℕ) → Contains (memory_of 0 run).origins.begun r → MustStart p n r a
    → IsSeenBy p w run n a

module _ (p : Program) (used : BodiesAreWellUsed p) (kept : BodiesAreKept p) (over : GroupsAreSeenOver p) where
  pub met_is_seen : (w : World) (run : Run p w) → RootsSee p w run → (l a : ℕ)
      → IsMet p (memory_of l run).origins w.store a
      → IsSeenBy p w run l a
  met_is_seen w run law l a (met_called h) = inl (was_called h)
  met_is_seen w run law l a (met_to_call h) = inl (is_to_call (subst (λ x. Contains x a) (same_calls l w run) h))
  met_is_seen w run law l a (is_taken t) =
      law l t.root a (subst (λ x. Contains x t.root) (runs_agree l 0 w run).begun t.is_begun)
      (subst (λ z. MustStart p z t.root a) (least_is l w run) t.must)

  -- where the lowest frame returns, it is seen to by what stands deeper
  pub at_return : (w : World) (run : Run p w) → RootsSee p w run → (g : ℕ) (f : Frame) (n a : ℕ) → w.stacks g ≡ f ∷ []
      → IsAtEnd f
      → LowestSees p n (w.stacks g) ((memory_of 0 run).pasts g) a
      → (l : ℕ) × (n < l) × (l ≤ f.body.place.at + 2) × IsOf p f.body × IsSeenBy p w run l a
  at_return w run law g f n a running at_end sees = (
    l,
    its.is_deeper,
    level_low f.body.place.at its.variable.role,
    (its_holder p used kept over w f run back l).is_of,
    met_is_seen w run law l a (must_is_met p used kept over w f run back l a
        (inl (its.variable, its.is_relied, given, deep))),
  )
    where
      its : FrameSees p n f (first_past ((memory_of 0 run).pasts g)) a
      its =
          only_sees p n a f ((memory_of 0 run).pasts g) (subst (λ x. LowestSees p n x ((memory_of 0 run).pasts g) a) running sees)

      l : ℕ
      l = level f.body its.variable

      back : IsReturning w f
      back = record { goroutine = g; others = []; is_running = running; is_at_end = at_end }

      given : (first_past ((memory_of l run).pasts g)).given its.variable.number ≡ cancel_function a
      given = ap (λ (h : ℕ → Value). h its.variable.number)
          (first_given ((memory_of l run).pasts g) ((memory_of 0 run).pasts g) ((runs_agree l 0 w run).pasts g)).0 ∙ its.is_given

      deep : (first_past ((memory_of l run).pasts g)).origins.least ≤ l
      deep =
          let same = (its_care p used kept over w f run back l).same_least ∙ least_is l w run in
          omega (arith, same)

  -- one more step
  module _ (before w : World) (run : Run p before) (step : Step p before w) (law : RootsSee p before run) (n a : ℕ) where
    abbrev m : Memory
    m = memory_of 0 run

    abbrev SeenNow : Type 0
    SeenNow = IsSeenBy p w (step_more run step) n a

    started : (g k : ℕ) → was_started run g ≡ true → LowestSees p k (before.stacks g) (m.pasts g) a
        → started_after step (was_started run) g ≡ true
    started g k is sees =
        step_started (was_started run) g (λ e. no_frame p k a (before.stacks g) (m.pasts g) e sees) is step

    module _ (g : ℕ) (back : Returns p before w m (memory_after step m) g) where
      -- the goroutine returns, so that another one sees to it
      once : (k : ℕ) → n ≤ k → LowestSees p k (before.stacks g) (m.pasts g) a
          → ((l : ℕ) → k < l → l ≤ back.frame.body.place.at + 2 → LowestSees p l (before.stacks g) (m.pasts g) a → SeenNow)
          → SeenNow
      once k less sees again =
          let r = at_return before run law g back.frame k a back.is_running back.is_at_end sees in
          let deep = r.1 in
          elim r.4 [
            | inl called ↦ inl (called_stays p before w a run step called)
            | inr x ↦ elim (cases_eq x.0 g) [
              | inr ne ↦ inr (
                x.0,
                started x.0 r.0 x.1 x.2,
                sees_less p n r.0 a (omega (arith, less, deep)) (w.stacks x.0) ((memory_after step m).pasts x.0)
                    (back.others x.0 r.0 a ne x.2),
              )
              | inl same ↦ again r.0 deep r.2 (subst (λ z. LowestSees p r.0 (before.stacks z) (m.pasts z) a) same x.2)
            ]
          ]

      returned : (fuel k : ℕ) → n ≤ k → back.frame.body.place.at + 2 ≤ k + fuel
          → LowestSees p k (before.stacks g) (m.pasts g) a
          → SeenNow
      returned zero k less low sees = once k less sees (λ l deep bound i. absurd (omega (arith, low, deep, bound)))
      returned (suc left) k less low sees =
          once k less sees (λ l deep bound i. returned left l (omega (arith, less, deep)) (omega (arith, low, deep)) i)

    still_seen : IsSeenBy p before run n a → SeenNow
    still_seen (inl called) = inl (called_stays p before w a run step called)
    still_seen (inr x) = elim (step_lowest m step x.0 n a x.2) [
      | inl sees ↦ inr (x.0, started x.0 n x.1 x.2, sees)
      | inr back ↦ returned x.0 back (back.frame.body.place.at + 2) n (omega arith) (omega arith) x.2
    ]

  pub roots_see : (w : World) (run : Run p w) → RootsSee p w run
  roots_see w no_step = λ n r a begun must. absurd (contains_nil r begun)
  roots_see w (step_more {w = before} run step) =
      λ n r a begun must. elim (step_begins (memory_of 0 run) (was_started run) step r begun) [
        | inr new ↦ inr (new n a must)
        | inl earlier ↦ still_seen before w run step (roots_see before run) n a (roots_see before run n r a earlier must)
      ]
