-- How what is said of a frame's cancel functions goes on with what it does, and that a frame keeps it while others act.
use Rattle.std.proofs.Common.{◌≡◌, ℕ, ◌<◌, ◌⊎◌, inl, inr, List, [], ◌∷◌, length, Option, Some, Contains, refl, ◌≤◌, sym, ◌∙◌, subst, arith}
use Rattle.meaning.specs.Code.{Occurrence, Code}
use Rattle.meaning.specs.Uses.{Event}
use Rattle.meaning.specs.BodyEvents.{Variable}
use Rattle.meaning.specs.Classes.{Promises}
use Rattle.meaning_runs.specs.Bodies.{Program, Body}
use Rattle.meaning_runs.specs.World.{cancel_function, Maker, frame_at, Place, Store, HasNoMember, Given, Passing, Saved, Stage, runs, exits, Frame, held}
use Rattle.meaning_runs.specs.Duties.{TakesUp}
use Rattle.meaning_runs.proofs.Remembered.{Root, Origins, Past}
use Rattle.meaning_runs.proofs.Holders.{Grows, IsHolder, AreHolders}
use Rattle.meaning_runs.proofs.HolderFrames.{safe_in, still_holds}
use Rattle.meaning_runs.proofs.MadeGroups.{HasNoFaultUnder, IsWaitedForUnder, SavesWait}
use Rattle.meaning_runs.proofs.MadeGroupsStand.{saves_grow}
use Rattle.meaning_runs.proofs.CaredFor.{level, MustStart, IsMet, was_called, is_to_call, is_taken, IsCalledUnder, MustRoot, IsLeftTo, MustCall, SavesCall, calls_it, passes_it, credits_it, IsOpen, is_held, is_kept, is_pending, IsStillLeft, IsSeen, is_met, is_saved, is_passed, is_waiting, left_to_made, left_to_awaited, is_open, IsCared, SeenAbove, AreCared, LowestMust, IsOwn, LetsGo}
use Rattle.meaning_runs.proofs.StoreGrowth.{counts_more, in_cell_grows}

-- What members have to call

-- what was left to members still is, or was met
abbrev pub LeftStill : Program → Origins → Store → Origins → Store → Type 0
LeftStill p o s after_o after = (group a : ℕ) → IsLeftTo o s group a
    → IsLeftTo after_o after group a ⊎ IsMet p after_o after a

pub left_same : {p : Program} {o after_o : Origins} {s after : Store}
    → ((g : ℕ) → after.member g ≡ s.member g)
    → ((g : ℕ) → after_o.root g ≡ o.root g)
    → ((r : Root) → Contains o.begun r → Contains after_o.begun r)
    → after_o.least ≡ o.least
    → LeftStill p o s after_o after
left_same {o = o} {after_o = after_o} members roots more least group a l = inl record {
  goroutine = l.goroutine;
  is_member = members l.goroutine ∙ l.is_member;
  must = subst (λ n. MustRoot n (after_o.root l.goroutine) a) (sym least)
      (subst (λ r. MustRoot o.least r a) (sym (roots l.goroutine)) l.must);
  is_begun = subst (Contains after_o.begun) (sym (roots l.goroutine)) (more (o.root l.goroutine) l.is_begun);
}

pub none_left : {o : Origins} {s : Store} (group a : ℕ) → HasNoMember s group → IsLeftTo o s group a → ⊥
none_left group a none l = none l.goroutine l.is_member

pub left_or_met : {p : Program} {o after_o : Origins} {s after : Store} {R : Type 0} → LeftStill p o s after_o after
    → (group a : ℕ)
    → (IsLeftTo after_o after group a → R)
    → (IsMet p after_o after a → R)
    → IsLeftTo o s group a
    → R
left_or_met {R = R} still group a left met l =
    elim (still group a l) as (λ x. R) [ inl x ↦ left x | inr x ↦ met x ]

-- What was met still is, where a store grows.
pub met_grows : {p : Program} {at : Maker} {o after_o : Origins} {s after : Store} → Grows at o after_o s after
    → (a : ℕ)
    → IsMet p o s a
    → IsMet p after_o after a
met_grows grows a (was_called h) = was_called (grows.called a h)
met_grows grows a (is_to_call h) = is_to_call (grows.more_to_call a h)
met_grows {p} grows a (is_taken t) = is_taken record {
  root = t.root;
  has_gone = grows.still_gone t.has_gone;
  is_begun = grows.more_begun t.root t.is_begun;
  must = subst (λ n. MustStart p n t.root a) (sym grows.same_least) t.must;
}

-- What is seen to

-- nothing is left for the frame itself to do
pub seen_anyway : {p : Program} {o : Origins} {s : Store} {must : ℕ → Type 0} {f : Frame} {Open : Type 0} {a : ℕ}
    → IsSeen p o s must f ⊥ a
    → IsSeen p o s must f Open a
seen_anyway (is_met h) = is_met h
seen_anyway (is_saved x h c) = is_saved x h c
seen_anyway (is_passed h) = is_passed h
seen_anyway (is_waiting passing x w h e t l) = is_waiting passing x w h e t l
seen_anyway (left_to_made group h l) = left_to_made group h l
seen_anyway (left_to_awaited group x h w l) = left_to_awaited group x h w l
seen_anyway (is_open h) = absurd h

-- what was seen to otherwise than by a variable still is, by the frame that stands in its place
pub record SeesOn
    (p : Program) (o after_o : Origins) (s after : Store) (must must_now : ℕ → Type 0) (f next : Frame)
    : Type 0 where
  pub met : (a : ℕ) → IsMet p o s a → IsMet p after_o after a
  pub saves : (x : Saved) (a : ℕ) → Contains f.saved x
      → SavesCall p f.body o s a x
      → IsSeen p after_o after must_now next ⊥ a
  pub musts : (a : ℕ) → must a → IsSeen p after_o after must_now next ⊥ a
  pub waits : (passing : Passing) (x : Given) (a : ℕ) → f.waiting ≡ Some passing
      → Contains passing.given x
      → x.value ≡ cancel_function a
      → TakesUp p f.body passing.callee x.position
      → o.least ≤ 1
      → IsSeen p after_o after must_now next ⊥ a
  pub made : (group a : ℕ) → Contains f.made group
      → IsLeftTo o s group a
      → IsSeen p after_o after must_now next ⊥ a
  pub awaited : (group : ℕ) (x : Saved) (a : ℕ) → Contains f.saved x
      → SavesWait o s group x
      → IsLeftTo o s group a
      → IsSeen p after_o after must_now next ⊥ a

module _ {p : Program} {o after_o : Origins} {s after : Store} {must must_now : ℕ → Type 0} {f next : Frame}
    (sees : SeesOn p o after_o s after must must_now f next)
  where
    pub seen_on : {Open Open_now : Type 0} (a : ℕ)
        → (Open → IsSeen p after_o after must_now next Open_now a)
        → IsSeen p o s must f Open a
        → IsSeen p after_o after must_now next Open_now a
    seen_on a opens (is_met h) = is_met (sees.met a h)
    seen_on a opens (is_saved x h c) = seen_anyway (sees.saves x a h c)
    seen_on a opens (is_passed h) = seen_anyway (sees.musts a h)
    seen_on a opens (is_waiting passing x w h e t l) = seen_anyway (sees.waits passing x a w h e t l)
    seen_on a opens (left_to_made group h l) = seen_anyway (sees.made group a h l)
    seen_on a opens (left_to_awaited group x h w l) = seen_anyway (sees.awaited group x a h w l)
    seen_on a opens (is_open h) = opens h

-- so it is for all that the frame has to see to
pub record CaresOn
    (p : Program) (o after_o : Origins) (s after : Store) (must must_now : ℕ → Type 0)
    (q : Past) (events : List (Occurrence Event)) (f next : Frame)
    : Type 0 where
  pub same_body : next.body ≡ f.body
  pub same_least : after_o.least ≡ o.least
  pub sees : SeesOn p o after_o s after must must_now f next
  pub hands : (a : ℕ) → LetsGo f a → LetsGo next a
  pub obtained : (relies : Promises) (a : ℕ) → o.least ≡ 0
      → HasNoFaultUnder p f.body relies
      → Contains next.obtained a
      → Contains f.obtained a
      ⊎ ((v : Variable) × IsOwn f.body v
      × IsSeen p after_o after must_now next (IsOpen relies after_o after (record q { events = events }) next v a) a)
  pub own : (relies : Promises) (v : Variable) (a : ℕ) → o.least ≡ 0
      → HasNoFaultUnder p f.body relies
      → IsOwn f.body v
      → IsOpen relies o s q f v a
      → LetsGo next a
      ⊎ IsSeen p after_o after must_now next (IsOpen relies after_o after (record q { events = events }) next v a) a
  pub duty : (relies : Promises) (v : Variable) (a : ℕ) → o.least ≤ level f.body v
      → IsCalledUnder p f.body relies v
      → IsOpen relies o s q f v a
      → IsSeen p after_o after must_now next (IsOpen relies after_o after (record q { events = events }) next v a) a
  pub awaits : (relies : Promises) (v : Variable) (group a : ℕ) → IsWaitedForUnder p f.body relies v
      → IsStillLeft relies o s q f v group a
      → IsSeen p after_o after must_now next
      (IsStillLeft relies after_o after (record q { events = events }) next v group a) a

module _ {p : Program} {o after_o : Origins} {s after : Store} {must must_now : ℕ → Type 0}
    {q : Past} {events : List (Occurrence Event)} {f next : Frame}
    (on : CaresOn p o after_o s after must must_now q events f next)
  where
    abbrev OpenNow : Promises → Variable → ℕ → Type 0
    OpenNow relies v a = IsOpen relies after_o after (record q { events = events }) next v a

    -- an own variable, of which it is known what it comes to when open
    own_seen : (relies : Promises) (v : Variable) (a : ℕ)
        → (IsOpen relies o s q f v a → LetsGo next a ⊎ IsSeen p after_o after must_now next (OpenNow relies v a) a)
        → IsSeen p o s must f (IsOpen relies o s q f v a) a
        → LetsGo next a ⊎ IsSeen p after_o after must_now next (OpenNow relies v a) a
    own_seen relies v a opens (is_met h) = inr (is_met (on.sees.met a h))
    own_seen relies v a opens (is_saved x h c) = inr (seen_anyway (on.sees.saves x a h c))
    own_seen relies v a opens (is_passed h) = inr (seen_anyway (on.sees.musts a h))
    own_seen relies v a opens (is_waiting passing x w h e t l) = inr (seen_anyway (on.sees.waits passing x a w h e t l))
    own_seen relies v a opens (left_to_made group h l) = inr (seen_anyway (on.sees.made group a h l))
    own_seen relies v a opens (left_to_awaited group x h w l) = inr (seen_anyway (on.sees.awaited group x a h w l))
    own_seen relies v a opens (is_open h) = opens h

    pub cared_on : IsCared p o s must q f → IsCared p after_o after must_now (record q { events = events }) next
    cared_on cared = record {
      same_least = cared.same_least ∙ sym on.same_least;
      obtained = λ relies a top none h.
          let was = sym on.same_least ∙ top in
          let faultless = subst (λ b. HasNoFaultUnder p b relies) on.same_body none in
          elim (on.obtained relies a was faultless h) [
            | inl i ↦ of_old relies a was faultless (cared.obtained relies a was faultless i)
            | inr r ↦ inr (r.0, its r.0 r.1, r.2)
          ];
      duties = λ relies v a deep under e.
          let of_body = subst (λ b. IsCalledUnder p b relies v) on.same_body under in
          let was = subst (λ n. n ≤ level f.body v) on.same_least (subst (λ b. after_o.least ≤ level b v) on.same_body deep) in
          seen_on on.sees a (on.duty relies v a was of_body) (cared.duties relies v a was of_body e);
      awaits = λ relies v group a under e l.
          let of_body = subst (λ b. IsWaitedForUnder p b relies v) on.same_body under in
          seen_on on.sees a (on.awaits relies v group a of_body) (cared.awaits relies v group a of_body e l);
    }
      where
        its : (v : Variable) → IsOwn f.body v → IsOwn next.body v
        its v o = subst (λ b. IsOwn b v) (sym on.same_body) o

        of_old : (relies : Promises) (a : ℕ) → o.least ≡ 0
            → HasNoFaultUnder p f.body relies
            → LetsGo f a ⊎ ((v : Variable) × IsOwn f.body v × IsSeen p o s must f (IsOpen relies o s q f v a) a)
            → LetsGo next a
            ⊎ ((v : Variable) × IsOwn next.body v × IsSeen p after_o after must_now next (OpenNow relies v a) a)
        of_old relies a top none (inl h) = inl (on.hands a h)
        of_old relies a top none (inr (v, own, h)) =
            elim (own_seen relies v a (on.own relies v a top none own) h) [ inl x ↦ inl x | inr x ↦ inr (v, its v own, x) ]

-- Where a store grows

module _ {at : Maker} {o after_o : Origins} {s after : Store} (grows : Grows at o after_o s after) where
  pub saves_call_grows : {p : Program} {b : Body} (a : ℕ) (x : Saved) → SavesCall p b o s a x
      → SavesCall p b after_o after a x
  saves_call_grows a x (calls_it e) = calls_it e
  saves_call_grows a x (passes_it passing y h e t deep) =
      passes_it passing y h e t (subst (λ n. n ≤ 1) (sym grows.same_least) deep)
  saves_call_grows a x (credits_it c v k i n l once h deep) =
      credits_it c v k i n (counts_more at o after_o s after grows k l) (grows.same_frozen k l ∙ once)
      (grows.same_cells k v.number l (inl once) ∙ h) (subst (λ n. n ≤ level c.literal v) (sym grows.same_least) deep)

  pub still_value : (p : Program) (place : Place) (q : Past) (f : Frame) → (frame_at place ≡ at → ⊥)
      → IsHolder p o s place q f
      → (v : ℕ)
      → held after f v ≡ held s f v
  still_value p place q f elsewhere it v =
      in_cell_grows at o after_o s after grows v (f.newest v) (λ k e. safe_in p o s place q f it at elsewhere v k e)

  -- at a level that is looked at
  pub still_top : (n : ℕ) → o.least ≤ n → after_o.least ≤ n
  still_top n h = subst (λ m. m ≤ n) (sym grows.same_least) h

  module _ {p : Program} (still : LeftStill p o s after_o after) where
    -- where more may be saved and made, and what a call under way is to see to is seen to
    pub sees_more : {must must_now : ℕ → Type 0} {f : Frame} (next : Frame) → next.body ≡ f.body
        → ((x : Saved) → Contains f.saved x → Contains next.saved x)
        → ((group : ℕ) → Contains f.made group → Contains next.made group)
        → ((a : ℕ) → must a → must_now a ⊎ IsMet p after_o after a)
        → ((passing : Passing) (x : Given) (a : ℕ) → f.waiting ≡ Some passing
        → Contains passing.given x
        → x.value ≡ cancel_function a
        → TakesUp p f.body passing.callee x.position
        → o.least ≤ 1
        → IsSeen p after_o after must_now next ⊥ a)
        → SeesOn p o after_o s after must must_now f next
    sees_more {must} {must_now} {f} next same more more_made musts waits = record {
      met = met_grows grows;
      saves = λ x a h c. is_saved x (more x h)
          (subst (λ b. SavesCall p b after_o after a x) (sym same) (saves_call_grows a x c));
      musts = λ a h. elim (musts a h) [ inl x ↦ is_passed x | inr x ↦ is_met x ];
      waits = waits;
      made = λ group a h l. left_or_met still group a (λ x. left_to_made group (more_made group h) x) (λ x. is_met x) l;
      awaited = λ group x a h w l.
          left_or_met still group a (λ y. left_to_awaited group x (more x h) (saves_grow grows group x w) y)
          (λ y. is_met y) l;
    }

    -- A frame that binds nothing and comes to no event: it goes on, or begins or saves a call, or runs what it saved.

    module _ {place : Place} {q : Past} {f : Frame} (elsewhere : frame_at place ≡ at → ⊥)
        (it : IsHolder p o s place q f) (stage : Stage) (waiting : Option Passing)
        (saved : List Saved)
      where
        abbrev pub going : Frame
        going = record f { stage = stage; waiting = waiting; saved = saved }

        abbrev Now : (ℕ → Type 0) → Type 0 → ℕ → Type 0
        Now must_now Open a = IsSeen p after_o after must_now going Open a

        -- where it goes through its body it still does
        abbrev pub Goes : Type 0
        Goes = (c : Code Event) → f.stage ≡ runs c → (rest : Code Event) × (stage ≡ runs rest)

        open_goes : {must_now : ℕ → Type 0} → Goes → (relies : Promises) (v : Variable) (a : ℕ) → IsOpen relies o s q f v a
            → Now must_now (IsOpen relies after_o after q going v a) a
        open_goes goes relies v a (is_held c at_code opens h) =
            let r = goes c at_code in
            is_open (is_held r.0 r.1 opens (still_value p place q f elsewhere it v.number ∙ h))
        open_goes goes relies v a (is_kept c at_code class declared h keeps) =
            let r = goes c at_code in
            is_open (is_kept r.0 r.1 class declared (still_value p place q f elsewhere it v.number ∙ h) keeps)
        open_goes goes relies v a (is_pending k h) =
            let r = goes k.code k.stage in
            left_or_met still k.group a (λ l. is_open (is_pending record {
              code = r.0;
              stage = r.1;
              left_to = k.left_to;
              group = k.group;
              is_pending = k.is_pending;
              is_other = k.is_other;
              is_working = k.is_working;
              is_held = still_holds at o after_o s after grows p place q f elsewhere it k.left_to.number ∙ k.is_held;
              is_left = l;
            } (still_value p place q f elsewhere it v.number ∙ h))) (λ x. is_met x) k.is_left

        left_goes : {must_now : ℕ → Type 0} → Goes → (relies : Promises) (v : Variable) (group a : ℕ) → IsStillLeft relies o s q f v group a
            → Now must_now (IsStillLeft relies after_o after q going v group a) a
        left_goes goes relies v group a h =
            let r = goes h.is_live.code h.is_live.stage in
            left_or_met still group a (λ l. is_open record {
              is_live = record {
                code = r.0;
                stage = r.1;
                is_live = h.is_live.is_live;
                is_held = still_holds at o after_o s after grows p place q f elsewhere it v.number ∙ h.is_live.is_held;
              };
              is_left = l;
            }) (λ x. is_met x) h.is_left

        pub cared_goes : {must must_now : ℕ → Type 0} → Goes → (f.stage ≡ exits → stage ≡ exits)
            → SeesOn p o after_o s after must must_now f going
            → IsCared p o s must q f
            → IsCared p after_o after must_now q going
        cared_goes goes ends sees cared = cared_on {events = q.events} record {
          same_body = refl;
          same_least = grows.same_least;
          sees = sees;
          hands = λ a h. elim h [ inl x ↦ inl (ends x.0, x.1) | inr x ↦ inr x ];
          obtained = λ relies a top none h. inl h;
          own = λ relies v a top none own h. inr (open_goes goes relies v a h);
          duty = λ relies v a deep under h. open_goes goes relies v a h;
          awaits = λ relies v group a under h. left_goes goes relies v group a h;
        } cared

    pub cared_stands : {place : Place} {q : Past} {f : Frame} {must must_now : ℕ → Type 0}
        → (frame_at place ≡ at → ⊥)
        → IsHolder p o s place q f
        → ((a : ℕ) → must a → must_now a ⊎ IsMet p after_o after a)
        → IsCared p o s must q f
        → IsCared p after_o after must_now q f
    cared_stands {f = f} elsewhere it musts cared =
        cared_goes elsewhere it f.stage f.waiting f.saved (λ c e. (c, e)) (λ e. e)
        (sees_more f refl (λ x h. h) (λ group h. h) musts (λ passing x a w h e t l. is_waiting passing x w h e t (still_top 1 l))) cared

    pub all_cared : (g : ℕ) (must must_now : ℕ → Type 0) (fs : List Frame) (qs : List Past)
        → ((a : ℕ) → must a → must_now a ⊎ IsMet p after_o after a)
        → ((n : ℕ) → n < length fs → frame_at (g, n) ≡ at → ⊥)
        → AreHolders p o s g fs qs
        → AreCared p o s must fs qs
        → AreCared p after_o after must_now fs qs
    all_cared g must must_now [] qs musts elsewhere it cared = tt
    all_cared g must must_now (f ∷ fs) [] musts elsewhere it cared = absurd it
    all_cared g must must_now (f ∷ fs) (q ∷ qs) musts elsewhere it cared = (
      cared_stands (elsewhere (length fs) (omega arith)) it.0 musts cared.0,
      all_cared g (SeenAbove p f.body q must) (SeenAbove p f.body q must_now) fs qs more
          (λ n l. elsewhere n (omega (arith, l))) it.1 cared.1,
    )
      where
        more : (a : ℕ) → SeenAbove p f.body q must a → SeenAbove p f.body q must_now a ⊎ IsMet p after_o after a
        more a (inl x) = inl (inl x)
        more a (inr x) = elim (musts a x) [ inl y ↦ inl (inr y) | inr y ↦ inr y ]

-- The lowest frame

pub lowest_same : (p : Program) (f e : Frame) (q r : Past) (fs : List Frame) (qs : List Past) (a : ℕ)
    → (MustCall p f.body q a → MustCall p e.body r a)
    → LowestMust p (f ∷ fs) (q ∷ qs) a
    → LowestMust p (e ∷ fs) (r ∷ qs) a
lowest_same p f e q r [] qs a same h = same h
lowest_same p f e q r (x ∷ fs) qs a same h = h
