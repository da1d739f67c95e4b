-- What a code that a frame has left goes on with, and what calls do to the store.
use Rattle.std.proofs.Common.{◌≡◌, ℕ, inl, inr, Bool, true, false, List, [], ◌∷◌, ◌++◌, Option, Some, None, Contains, refl, sym, ◌∙◌, subst, append_assoc}
use Rattle.std.specs.Prelude.{◌==◌, ◌&&◌, ◌||◌, is_none}
use Rattle.std.proofs.lemmas.Bool.{and_parts, ne_eqb, cases_eq}
use Rattle.meaning.specs.Code.{Occurrence, Code}
use Rattle.meaning.specs.Lists.{Exit, stopped, Lists, not_begun, Reaches}
use Rattle.meaning.specs.Uses.{Handed, Event}
use Rattle.meaning.specs.BodyEvents.{Variable}
use Rattle.meaning.specs.Classes.{Promises, CancelClass, entry_cancel, change_cancel, cancel_after}
use Rattle.meaning.proofs.Membership.{contains_here, contains_there}
use Rattle.meaning_packages.specs.PathFaults.{is_handed, is_handed_kept}
use Rattle.meaning_runs.specs.Bodies.{Body, code_of}
use Rattle.meaning_runs.specs.World.{Value, nothing, cancel_function, Store, calling, runs, exits}
use Rattle.meaning_runs.specs.Steps.{WasCalled}
use Rattle.meaning_runs.specs.Moves.{Moves}
use Rattle.meaning_runs.proofs.Simulation.{simulates}

abbrev pub class_of : Promises → Variable → List (Occurrence Event) → CancelClass
class_of relies v t = cancel_after relies v.number (entry_cancel v.role) t

pub after_push : (relies : Promises) (v : ℕ) (k : CancelClass) (t : List (Occurrence Event)) (o : Occurrence Event) → cancel_after relies v k (t ++ o ∷ []) ≡ change_cancel relies v o.event (cancel_after relies v k t)
after_push relies v k [] o = refl
after_push relies v k (x ∷ t) o = after_push relies v (change_cancel relies v x.event k) t o

-- the body's lists go on with those of what is left
abbrev pub IsAt : Body → List (Occurrence Event) → Code Event → Type 0
IsAt b t c = (u : List (Occurrence Event)) (x : Exit) → Lists c u x → Lists (code_of b) (t ++ u) x

-- a move of a code that a frame has left
pub goes_there : (b : Body) (t : List (Occurrence Event)) (c d : Code Event) (o : Occurrence Event) → Moves c (Some o) d → IsAt b t c → IsAt b (t ++ o ∷ []) d
goes_there b t c d o m h = λ u x l. subst (λ r. Lists (code_of b) r x) (sym (append_assoc t (o ∷ []) u)) (h (o ∷ u) x (simulates c d (Some o) u x m l))

pub stays_there : (b : Body) (t : List (Occurrence Event)) (c d : Code Event) → Moves c None d → IsAt b t c → IsAt b t d
stays_there b t c d m h = λ u x l. h u x (simulates c d None u x m l)

pub is_reached : (b : Body) (t : List (Occurrence Event)) (c d : Code Event) (o : Occurrence Event) → Moves c (Some o) d → IsAt b t c → Reaches (code_of b) t o
is_reached b t c d o m h = h (o ∷ []) stopped (simulates c d (Some o) [] stopped m not_begun)

pub runs-inj : (c d : Code Event) → runs c ≡ runs d → c ≡ d
runs-inj c d e = cc

pub exits≢runs : (c : Code Event) → exits ≡ runs c → ⊥
exits≢runs c e = cc

-- the class after one more event
pub class_next : (relies : Promises) (v : Variable) (t : List (Occurrence Event)) (o : Occurrence Event) → class_of relies v (t ++ o ∷ []) ≡ change_cancel relies v.number o.event (class_of relies v t)
class_next relies v t o = after_push relies v.number (entry_cancel v.role) t o

-- a call of a value
pub called_now : (s : Store) (value : Value) (a : ℕ) → value ≡ cancel_function a → Contains (calling s value).called a
called_now s nothing a e = let bad : nothing ≡ cancel_function a = e in cc
called_now s (cancel_function x) a e =
    let same : x ≡ a = cc in
    subst (λ n. Contains (x ∷ s.called) n) same (contains_here x s.called)

pub called_it : (s : Store) (value : Value) → WasCalled (calling s value) value
called_it s nothing = tt
called_it s (cancel_function x) = contains_here x s.called

pub calling_count : (s : Store) (value : Value) → (calling s value).cell_count ≡ s.cell_count
calling_count s nothing = refl
calling_count s (cancel_function x) = refl

pub eqb_is : (m n : ℕ) → (m == n) ≡ true → m ≡ n
eqb_is m n e = elim (cases_eq m n) [ inl q ↦ q | inr ne ↦ let bad : false ≡ true = sym (ne_eqb m n ne) ∙ e in cc ]

none_is : (o : Option ℕ) → is_none o ≡ true → o ≡ None
none_is None e = refl
none_is (Some x) e = let bad : false ≡ true = e in cc

pub handed_there : (hs : List Handed) (v : ℕ) → is_handed v hs ≡ true
    → (h : Handed) × Contains hs h × (h.number ≡ v) × (h.object ≡ None)
handed_there [] v e = let bad : false ≡ true = e in cc
handed_there (h ∷ hs) v e = by ((h.number == v) && is_none h.object) refl (handed_there hs v) e
  where
    by : (b : Bool) → ((h.number == v) && is_none h.object) ≡ b
        → (is_handed v hs ≡ true → (x : Handed) × Contains hs x × (x.number ≡ v) × (x.object ≡ None))
        → (b || is_handed v hs) ≡ true
        → (x : Handed) × Contains (h ∷ hs) x × (x.number ≡ v) × (x.object ≡ None)
    by true q further all =
        let parts = and_parts (h.number == v) (is_none h.object) q in
        (h, contains_here h hs, eqb_is h.number v parts.0, none_is h.object parts.1)
    by false q further all = let r = further all in (r.0, contains_there h r.0 hs r.1, r.2, r.3)

-- by itself, or in a field
pub handed_kept_there : (hs : List Handed) (v : ℕ) → is_handed_kept v hs ≡ true
    → (h : Handed) × Contains hs h × (h.number ≡ v)
handed_kept_there [] v e = let bad : false ≡ true = e in cc
handed_kept_there (h ∷ hs) v e = by (h.number == v) refl (handed_kept_there hs v) e
  where
    by : (b : Bool) → (h.number == v) ≡ b
        → (is_handed_kept v hs ≡ true → (x : Handed) × Contains hs x × (x.number ≡ v))
        → (b || is_handed_kept v hs) ≡ true
        → (x : Handed) × Contains (h ∷ hs) x × (x.number ≡ v)
    by true q further all = (h, contains_here h hs, eqb_is h.number v q)
    by false q further all = let r = further all in (r.0, contains_there h r.0 hs r.1, r.2)

-- what is handed on in no way is not handed on by itself
pub handed_neither : (v : ℕ) (hs : List Handed) → is_handed_kept v hs ≡ false → is_handed v hs ≡ false
handed_neither v [] e = refl
handed_neither v (h ∷ hs) e = by (h.number == v) (is_none h.object) e (handed_neither v hs)
  where
    by : (b c : Bool) → (b || is_handed_kept v hs) ≡ false
        → (is_handed_kept v hs ≡ false → is_handed v hs ≡ false)
        → ((b && c) || is_handed v hs) ≡ false
    by true c all further = let bad : true ≡ false = all in cc
    by false c all further = further all
