-- Steps of example runs: to an event past all that is silent before it. A branch is the first or the second one, as a
-- truth value says; of a loop nothing is said.
use Rattle.std.proofs.Common.{◌≡◌, ℕ, ◌⊎◌, inl, inr, Bool, true, false, cond, List, [], ◌∷◌, ◌++◌, length, Option, Some, None, refl, sym, ap, ◌∙◌, subst}
use Rattle.std.specs.Prelude.{◌==◌, map}
use Rattle.std.proofs.lemmas.Bool.{cases_eq}
use Rattle.meaning.specs.Code.{Occurrence, Way, Code, skip, does, leave, then_code, either, repeats, up_to}
use Rattle.meaning.specs.Tracked.{idle, live}
use Rattle.meaning.specs.Uses.{Callee, VariableAt, Handed, Event, other, obtain, obtain_kept, renew, keep, call_kept, defer_kept, give, give_field, call, defer_call, lend, try, wait, defer_wait, make, return_event}
use Rattle.meaning_runs.specs.Bodies.{Program, Body, IsLiteralIn}
use Rattle.meaning_runs.specs.World.{Value, nothing, cancel_function, frame_at, Store, put_at, with_new, calling, with_group, with_member, MayEndWait, waiting_for, Saved, saved_call, saved_wait, runs, exits, Frame, World, with_stack, held, held_group, with_cells, binding, binding_group, binds, new_frame, own_cell, kept_value, without_kept, with_kept, giving_away, handed_by}
use Rattle.meaning_runs.specs.Moves.{Moves, happens, first_moves, first_is_done, first_leaves, picks_first, picks_second}
use Rattle.meaning_runs.specs.Steps.{DoesNext, at_code, MayJoin, is_first as is_first_argument, lending, new_one, zero_group, with_context, Acts, moves_on, does_other, obtains_one, calls_one, saves_call, makes_group, tries_nothing, ends_wait, saves_wait, lends, comes_to_return, runs_call, runs_wait, returns_now, IsFree, Starts, starts_member, starts_stranger, leaves_group, of_goroutine, of_members, obtains_into, keeps_one, renews_object, calls_kept, saves_kept, gives_object, gives_in_field}
use Rattle.meaning_runs.specs.Runs.{Run, step_more}
use Rattle.meaning_runs.proofs.Contexts.{put_at-same, put_at-other}
use Rattle.meaning_runs.proofs.FreeGoroutines.{none_given}

-- What comes first in a code

data Silent : Code Event → Code Event → Type 0 where
  stays : {c : Code Event} → Silent c c
  moves : {c d e : Code Event} → Moves c None d → Silent d e → Silent c e

pub data Front : Type 0 where
  over : Front
  gone : Way → Front
  comes_to : Occurrence Event → Code Event → Front
  unknown : Front

abbrev then_front : Code Event → Front → Front → Front
then_front b over after = after
then_front b (gone way) after = gone way
then_front b (comes_to o rest) after = comes_to o (then_code rest b)
then_front b unknown after = unknown

abbrev pub front : Bool → Code Event → Front
front is_first skip = over
front is_first (does o) = comes_to o skip
front is_first (leave way) = gone way
front is_first (then_code a b) = then_front b (front is_first a) (front is_first b)
front true (either a b) = front true a
front false (either a b) = front false b
front is_first (repeats a) = unknown
front is_first (up_to way a) = unknown

record Comes (c : Code Event) (o : Occurrence Event) (rest : Code Event) : Type 0 where
  before : Code Event
  silent : Silent c before
  moves : Moves before (Some o) rest

abbrev Fits : Code Event → Front → Type 0
Fits c over = Silent c skip
Fits c (gone way) = Silent c (leave way)
Fits c (comes_to o rest) = Comes c o rest
Fits c unknown = Unit {0}

further : (c d e : Code Event) → Silent c d → Silent d e → Silent c e
further c d e stays h = h
further c d e (moves m r) h = moves m (further _ d e r h)

in_first : (a d b : Code Event) → Silent a d → Silent (then_code a b) (then_code d b)
in_first a d b stays = stays
in_first a d b (moves m r) = moves (first_moves m) (in_first _ d b r)

behind : (c d : Code Event) (f : Front) → Silent c d → Fits d f → Fits c f
behind c d over h k = further c d skip h k
behind c d (gone way) h k = further c d (leave way) h k
behind c d (comes_to o rest) h k = record { before = k.before; silent = further c d k.before h k.silent; moves = k.moves }
behind c d unknown h k = tt

then_fits : (a b : Code Event) (f g : Front) → Fits a f → Fits b g → Fits (then_code a b) (then_front b f g)
then_fits a b over g h k = behind (then_code a b) b g (further (then_code a b) (then_code skip b) b (in_first a skip b h) (moves first_is_done stays)) k
then_fits a b (gone way) g h k = further (then_code a b) (then_code (leave way) b) (leave way) (in_first a (leave way) b h) (moves first_leaves stays)
then_fits a b (comes_to o rest) g h k = record { before = then_code h.before b; silent = in_first a h.before b h.silent; moves = first_moves h.moves }
then_fits a b unknown g h k = tt

front_fits : (is_first : Bool) (c : Code Event) → Fits c (front is_first c)
front_fits is_first skip = stays
front_fits is_first (does o) = record { before = does o; silent = stays; moves = happens }
front_fits is_first (leave way) = stays
front_fits is_first (then_code a b) = then_fits a b (front is_first a) (front is_first b) (front_fits is_first a) (front_fits is_first b)
front_fits true (either a b) = behind (either a b) a (front true a) (moves picks_first stays) (front_fits true a)
front_fits false (either a b) = behind (either a b) b (front false b) (moves picks_second stays) (front_fits false b)
front_fits is_first (repeats a) = tt
front_fits is_first (up_to way a) = tt

-- Stacks

twice : {A : Type 0} (f : ℕ → A) (g : ℕ) (x y : A) → put_at (put_at f g x) g y ≡ put_at f g y
twice {A = A} f g x y = λ i m. by (m == g) (f m) i
  where
    by : (b : Bool) (z : A) → cond b y (cond b x z) ≡ cond b y z
    by true z = refl
    by false z = refl

pub same_stack : (w : World) (s t : Store) (g : ℕ) (x y : List Frame) → with_stack (with_stack w s g x) t g y ≡ with_stack w t g y
same_stack w s t g x y = λ i. record { store = t; stacks = twice w.stacks g x y i; escaped = w.escaped; to_call = w.to_call }

-- a stack that is put where it is
put_itself : {A : Type 0} (f : ℕ → A) (g : ℕ) (x : A) → f g ≡ x → put_at f g x ≡ f
put_itself {A = A} f g x e = λ i m. by m (cases_eq m g) i
  where
    by : (m : ℕ) → (m ≡ g) ⊎ (m ≡ g → ⊥) → put_at f g x m ≡ f m
    by m (inl q) = ap (put_at f g x) q ∙ put_at-same f g x ∙ sym e ∙ ap f (sym q)
    by m (inr ne) = put_at-other f g x m ne

itself : (w : World) (g : ℕ) (stack : List Frame) → w.stacks g ≡ stack → with_stack w w.store g stack ≡ w
itself w g stack e = λ i. record { store = w.store; stacks = put_itself w.stacks g stack e i; escaped = w.escaped; to_call = w.to_call }

module _ (p : Program) where
  -- a goroutine acts
  pub acts : (w : World) (g : ℕ) (f : Frame) (others : List Frame) (after : Store) (frames : List Frame) → Run p w → w.stacks g ≡ f ∷ others → Acts p w.store (g, length others) f after frames → Run p (with_stack w after g (frames ++ others))
  acts w g f others after frames run at a = step_more run (of_goroutine g at a)

  silently : (w : World) (g : ℕ) (f : Frame) (others : List Frame) (c d : Code Event) → Run p w → w.stacks g ≡ f ∷ others → f.stage ≡ runs c → Silent c d → Run p (with_stack w w.store g (at_code f d ∷ others))
  silently w g f others c d run at stage stays =
      subst (λ (x : Frame). Run p (with_stack w w.store g (x ∷ others))) (λ i. record f { stage = stage i })
      (subst (Run p) (sym (itself w g (f ∷ others) at)) run)
  silently w g f others c d run at stage (moves {d = e} m r) =
      subst (Run p) (same_stack w w.store w.store g (at_code f e ∷ others) (at_code f d ∷ others))
      (silently (with_stack w w.store g (at_code f e ∷ others)) g (at_code f e) others e d (acts w g f others w.store (at_code f e ∷ []) run at (moves_on record { code = c; stage = stage; moves = m })) (put_at-same w.stacks g (at_code f e ∷ others)) refl r)

abbrev on : ℕ → ℕ → Event → Occurrence Event
on at order e = record { at = at; order = order; event = e }

-- the frame stands there, past what is silent
abbrev there : World → ℕ → Frame → List Frame → Code Event → World
there w g f others b = with_stack w w.store g (at_code f b ∷ others)

another : (w : World) (g h : ℕ) (f : Frame) (others : List Frame) → w.stacks g ≡ f ∷ others → IsFree w h → h ≡ g → ⊥
another w g h f others at free q =
    let bad : [] ≡ f ∷ others = sym free.has_no_frame ∙ ap w.stacks q ∙ at in
    cc

free_there : (w : World) (g h : ℕ) (f : Frame) (others : List Frame) → w.stacks g ≡ f ∷ others → IsFree w h → (b : Code Event) → IsFree (there w g f others b) h
free_there w g h f others at free b = record { has_no_frame = put_at-other w.stacks g (at_code f b ∷ others) h (another w g h f others at free) ∙ free.has_no_frame; is_no_member = free.is_no_member }

-- The running frame of a goroutine comes to an event.
module _ {p : Program} {w : World} {f : Frame} {others : List Frame} {c d : Code Event} {k order : ℕ} (g : ℕ) (run : Run p w) (at : w.stacks g ≡ f ∷ others) (stage : f.stage ≡ runs c) (none : f.waiting ≡ None) (is_first : Bool) where
  its : (e : Event) → front is_first c ≡ comes_to (on k order e) d → Comes c (on k order e) d
  its e is = subst (λ x. Fits c x) is (front_fits is_first c)

  at_its_event : (b : Code Event) (e : Event) → Moves b (Some (on k order e)) d → DoesNext (at_code f b) e d
  at_its_event b e m = record { comes_to = record { at = k; order = order; goes_on = record { code = b; stage = refl; moves = m } }; none_waits = none }

  past : (e : Event) (after : Store) (frames : List Frame) → front is_first c ≡ comes_to (on k order e) d → ((b : Code Event) → DoesNext (at_code f b) e d → Acts p w.store (g, length others) (at_code f b) after frames) → Run p (with_stack w after g (frames ++ others))
  past e after frames is act =
      let h = its e is in
      subst (Run p) (same_stack w w.store after g (at_code f h.before ∷ others) (frames ++ others))
      (acts p (there w g f others h.before) g (at_code f h.before) others after frames (silently p w g f others c h.before run at stage h.silent) (put_at-same w.stacks g (at_code f h.before ∷ others)) (act h.before (at_its_event h.before e h.moves)))

  pub past_other : front is_first c ≡ comes_to (on k order other) d → Run p (with_stack w w.store g (at_code f d ∷ others))
  past_other is = past other w.store (at_code f d ∷ []) is (λ b n. does_other n)

  -- a maker gives a new function
  pub past_maker : {u : VariableAt} {maker : Callee} {n : ℕ} {is_new : Bool} → front is_first c ≡ comes_to (on k order (obtain u maker n is_new)) d → Run p (with_stack w (binding (with_new w.store None) f u (cancel_function w.store.context_count)) g ((record (binds (with_new w.store None) f u) { stage = runs d; obtained = w.store.context_count ∷ f.obtained }) ∷ others))
  past_maker {u = u} {maker = maker} {n = n} {is_new = is_new} is =
      past (obtain u maker n is_new) (binding (with_new w.store None) f u (cancel_function w.store.context_count)) ((record (binds (with_new w.store None) f u) { stage = runs d; obtained = w.store.context_count ∷ f.obtained }) ∷ []) is (λ b x. obtains_one x (new_one None tt))

  pub past_call : {v : ℕ} → front is_first c ≡ comes_to (on k order (call v)) d → Run p (with_stack w (calling w.store (held w.store f v)) g (at_code f d ∷ others))
  past_call {v = v} is = past (call v) (calling w.store (held w.store f v)) (at_code f d ∷ []) is (λ b n. calls_one n)

  -- where it is known what the variable holds
  pub past_call_of : {v : ℕ} (value : Value) → held w.store f v ≡ value → front is_first c ≡ comes_to (on k order (call v)) d → Run p (with_stack w (calling w.store value) g (at_code f d ∷ others))
  past_call_of value holds is = subst (λ x. Run p (with_stack w (calling w.store x) g (at_code f d ∷ others))) holds (past_call is)

  pub past_deferral : {v : ℕ} → front is_first c ≡ comes_to (on k order (defer_call v)) d → Run p (with_stack w w.store g ((record f { stage = runs d; saved = saved_call (held w.store f v) ∷ f.saved }) ∷ others))
  past_deferral {v = v} is =
      past (defer_call v) w.store ((record f { stage = runs d; saved = saved_call (held w.store f v) ∷ f.saved }) ∷ []) is (λ b n. saves_call n)

  pub past_deferral_of : {v : ℕ} (value : Value) → held w.store f v ≡ value → front is_first c ≡ comes_to (on k order (defer_call v)) d → Run p (with_stack w w.store g ((record f { stage = runs d; saved = saved_call value ∷ f.saved }) ∷ others))
  past_deferral_of value holds is =
      subst (λ x. Run p (with_stack w w.store g ((record f { stage = runs d; saved = saved_call x ∷ f.saved }) ∷ others))) holds (past_deferral is)

  -- a zero group is made
  pub past_making : {u : VariableAt} → front is_first c ≡ comes_to (on k order (make u idle)) d → Run p (with_stack w (binding_group (with_group w.store (frame_at (g, length others)) None) f u w.store.group_count) g ((record (binds w.store f u) { stage = runs d; made = w.store.group_count ∷ f.made }) ∷ others))
  past_making {u = u} is =
      past (make u idle) (binding_group (with_group w.store (frame_at (g, length others)) None) f u w.store.group_count) ((record (binds w.store f u) { stage = runs d; made = w.store.group_count ∷ f.made }) ∷ []) is (λ b n. makes_group n zero_group)

  -- one with a context is made
  pub past_with_context : {u : VariableAt} → front is_first c ≡ comes_to (on k order (make u live)) d → Run p (with_stack w (binding_group (with_group (with_new w.store None) (frame_at (g, length others)) (Some w.store.context_count)) f u w.store.group_count) g ((record (binds (with_new w.store None) f u) { stage = runs d; made = w.store.group_count ∷ f.made }) ∷ others))
  past_with_context {u = u} is =
      past (make u live) (binding_group (with_group (with_new w.store None) (frame_at (g, length others)) (Some w.store.context_count)) f u w.store.group_count) ((record (binds (with_new w.store None) f u) { stage = runs d; made = w.store.group_count ∷ f.made }) ∷ []) is (λ b n. makes_group n (with_context None tt))

  pub past_try : {v : ℕ} {literal : Option ℕ} → front is_first c ≡ comes_to (on k order (try v literal)) d → Run p (with_stack w w.store g (at_code f d ∷ others))
  past_try {v = v} {literal = literal} is = past (try v literal) w.store (at_code f d ∷ []) is (λ b n. tries_nothing n)

  pub past_wait : {v : ℕ} → front is_first c ≡ comes_to (on k order (wait v)) d → MayEndWait w.store (held_group w.store f v) → Run p (with_stack w (waiting_for w.store (held_group w.store f v)) g (at_code f d ∷ others))
  past_wait {v = v} is ends =
      past (wait v) (waiting_for w.store (held_group w.store f v)) (at_code f d ∷ []) is (λ b n. ends_wait n ends)

  pub past_saved_wait : {v : ℕ} → front is_first c ≡ comes_to (on k order (defer_wait v)) d → Run p (with_stack w w.store g ((record f { stage = runs d; saved = saved_wait (held_group w.store f v) ∷ f.saved }) ∷ others))
  past_saved_wait {v = v} is =
      past (defer_wait v) w.store ((record f { stage = runs d; saved = saved_wait (held_group w.store f v) ∷ f.saved }) ∷ []) is (λ b n. saves_wait n)

  -- the first argument of a call
  pub past_loan : {v position : ℕ} {callee : Callee} → front is_first c ≡ comes_to (on k order (lend v callee position)) d → Run p (with_stack w w.store g (lending w.store f v callee position d ∷ others))
  past_loan {v = v} {position = position} {callee = callee} is =
      past (lend v callee position) w.store (lending w.store f v callee position d ∷ []) is (λ b n. lends n.comes_to (subst (MayJoin callee false position) (sym none) is_first_argument))

  pub past_return : front is_first c ≡ comes_to (on k order (return_event [])) d → Run p (with_stack w w.store g ((record f { stage = exits; handed_on = [] }) ∷ others))
  past_return is = past (return_event []) w.store ((record f { stage = exits; handed_on = [] }) ∷ []) is (λ b n. comes_to_return n)

  -- Objects

  pub past_maker_into : {u : VariableAt} {maker : Callee} {n x : ℕ} → front is_first c ≡ comes_to (on k order (obtain_kept u maker n x)) d → Run p (with_stack w (binding (with_new w.store None) f (own_cell u.number) (cancel_function w.store.context_count)) g (with_kept (record (binds (with_new w.store None) f (own_cell u.number)) { stage = runs d; obtained = w.store.context_count ∷ f.obtained }) u.number x (cancel_function w.store.context_count) ∷ others))
  past_maker_into {u = u} {maker = maker} {n = n} {x = x} is =
      past (obtain_kept u maker n x) (binding (with_new w.store None) f (own_cell u.number) (cancel_function w.store.context_count)) (with_kept (record (binds (with_new w.store None) f (own_cell u.number)) { stage = runs d; obtained = w.store.context_count ∷ f.obtained }) u.number x (cancel_function w.store.context_count) ∷ []) is (λ b y. obtains_into y (new_one None tt))

  pub past_keep : {v x : ℕ} → front is_first c ≡ comes_to (on k order (keep v x)) d → Run p (with_stack w w.store g (with_kept (at_code f d) v x (held w.store f v) ∷ others))
  past_keep {v = v} {x = x} is = past (keep v x) w.store (with_kept (at_code f d) v x (held w.store f v) ∷ []) is (λ b n. keeps_one n)

  pub past_renewal : {v x : ℕ} → front is_first c ≡ comes_to (on k order (renew v x)) d → Run p (with_stack w w.store g ((record f { stage = runs d; kept = without_kept f.kept v x }) ∷ others))
  past_renewal {v = v} {x = x} is =
      past (renew v x) w.store ((record f { stage = runs d; kept = without_kept f.kept v x }) ∷ []) is (λ b n. renews_object n)

  pub past_kept_call : {v x : ℕ} → front is_first c ≡ comes_to (on k order (call_kept v x)) d → Run p (with_stack w (calling w.store (kept_value f.kept v x)) g (at_code f d ∷ others))
  past_kept_call {v = v} {x = x} is = past (call_kept v x) (calling w.store (kept_value f.kept v x)) (at_code f d ∷ []) is (λ b n. calls_kept n)

  pub past_kept_deferral : {v x : ℕ} → front is_first c ≡ comes_to (on k order (defer_kept v x)) d → Run p (with_stack w w.store g ((record f { stage = runs d; saved = saved_call (kept_value f.kept v x) ∷ f.saved }) ∷ others))
  past_kept_deferral {v = v} {x = x} is =
      past (defer_kept v x) w.store ((record f { stage = runs d; saved = saved_call (kept_value f.kept v x) ∷ f.saved }) ∷ []) is (λ b n. saves_kept n)

  pub past_gift : {v x : ℕ} → front is_first c ≡ comes_to (on k order (give v x)) d → Run p (with_stack w w.store g (giving_away (at_code f d) (kept_value f.kept v x) ∷ others))
  past_gift {v = v} {x = x} is = past (give v x) w.store (giving_away (at_code f d) (kept_value f.kept v x) ∷ []) is (λ b n. gives_object n)

  pub past_field_gift : {v : ℕ} → front is_first c ≡ comes_to (on k order (give_field v)) d → Run p (with_stack w w.store g (giving_away (at_code f d) (held w.store f v) ∷ others))
  past_field_gift {v = v} is = past (give_field v) w.store (giving_away (at_code f d) (held w.store f v) ∷ []) is (λ b n. gives_in_field n)

  pub past_handing : (handed : List Handed) → front is_first c ≡ comes_to (on k order (return_event handed)) d → Run p (with_stack w w.store g ((record f { stage = exits; handed_on = map (handed_by w.store f) handed }) ∷ others))
  past_handing handed is =
      past (return_event handed) w.store ((record f { stage = exits; handed_on = map (handed_by w.store f) handed }) ∷ []) is (λ b n. comes_to_return n)

  -- Work is started in another goroutine.
  module _ {v group : ℕ} (h : ℕ) (held_there : held_group w.store f v ≡ Some group) (free : IsFree w h) where
    pub past_stranger : {e : Event} → Starts e v None → front is_first c ≡ comes_to (on k order e) d → Run p (with_stack w (with_member w.store h (Some group)) g (at_code f d ∷ others))
    past_stranger {e = e} starts is =
        let i = its e is in
        subst (Run p) (same_stack w w.store (with_member w.store h (Some group)) g (at_code f i.before ∷ others) (at_code f d ∷ others))
        (step_more (silently p w g f others c i.before run at stage i.silent) (of_members (starts_stranger g h record { event = e; variable = v; is_running = put_at-same w.stacks g (at_code f i.before ∷ others); does_next = at_its_event i.before e i.moves; is_start = starts; is_held = held_there } (free_there w g h f others at free i.before))))

    pub past_start : {e : Event} {offset : ℕ} (b : Body) → Starts e v (Some offset) → front is_first c ≡ comes_to (on k order e) d → IsLiteralIn f.body b → b.place.at ≡ offset → Run p (with_stack (with_stack w w.store g (at_code f d ∷ others)) (with_cells (with_member w.store h (Some group)) (λ n. nothing) (λ n. None)) h (new_frame w.store b f.newest ∷ []))
    past_start {e = e} {offset = offset} b starts is is_in is_at =
        let i = its e is in
        subst (λ x. Run p (with_stack x (with_cells (with_member w.store h (Some group)) (λ n. nothing) (λ n. None)) h (new_frame w.store b f.newest ∷ [])))
        (same_stack w w.store w.store g (at_code f i.before ∷ others) (at_code f d ∷ others))
        (step_more (silently p w g f others c i.before run at stage i.silent) (of_members (starts_member g h b (λ n. nothing) (λ n. None) record { event = e; variable = v; is_running = put_at-same w.stacks g (at_code f i.before ∷ others); does_next = at_its_event i.before e i.moves; is_start = starts; is_held = held_there } (free_there w g h f others at free i.before) is_in is_at (none_given w.store))))

-- What was saved runs, a frame is gone, and a member leaves.
module _ {p : Program} {w : World} (g : ℕ) (run : Run p w) where
  pub runs_its_call : {f : Frame} {others : List Frame} {left : List Saved} (value : Value) → w.stacks g ≡ f ∷ others → f.stage ≡ exits → f.saved ≡ saved_call value ∷ left → Run p (with_stack w (calling w.store value) g ((record f { saved = left }) ∷ others))
  runs_its_call {f = f} {others = others} {left = left} value at stage saved =
      acts p w g f others (calling w.store value) ((record f { saved = left }) ∷ []) run at (runs_call record { stage = stage; saved = saved })

  pub runs_its_wait : {f : Frame} {others : List Frame} {left : List Saved} (group : Option ℕ) → w.stacks g ≡ f ∷ others → f.stage ≡ exits → f.saved ≡ saved_wait group ∷ left → MayEndWait w.store group → Run p (with_stack w (waiting_for w.store group) g ((record f { saved = left }) ∷ others))
  runs_its_wait {f = f} {others = others} {left = left} group at stage saved ends =
      acts p w g f others (waiting_for w.store group) ((record f { saved = left }) ∷ []) run at (runs_wait record { stage = stage; saved = saved } ends)

  pub is_gone : {f : Frame} {others : List Frame} → w.stacks g ≡ f ∷ others → f.stage ≡ exits → f.saved ≡ [] → Run p (with_stack w w.store g others)
  is_gone {f = f} {others = others} at stage saved =
      acts p w g f others w.store [] run at (returns_now record { stage = stage; saved = saved })

  pub leaves : {group : ℕ} → w.store.member g ≡ Some group → w.stacks g ≡ [] → Run p (record w { store = with_member w.store g None })
  leaves member none = step_more run (of_members (leaves_group g member none))
