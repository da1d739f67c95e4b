-- An event that binds is that of a mention on a left side, of a local that the body declares in its block.
use Rattle.std.proofs.Common.{◌≡◌, ℕ, ◌⊎◌, Bool, true, false, inl, inr, List, [], ◌∷◌, Option, Some, None, Contains, refl, sym, ◌∙◌, ap, subst}
use Rattle.std.specs.Prelude.{if◌then◌else◌}
use Rattle.meaning.specs.Code.{Occurrence}
use Rattle.meaning.specs.Lists.{Reaches}
use Rattle.meaning.specs.FunctionFacts.{VariableKind, cancel, group}
use Rattle.tree.specs.declared.edition.Edition.{Edition}
use Rattle.meaning.specs.Mentions.{Moment, BodyPlace, Row, Role, elsewhere, as_key, called, called_in_brackets, argument, returned, left, names_type, new_literal, parameter_pointer, Mention, Mark, mentions, runs_literal, returns, opens, closes, exposed, found_nil, found_error, pointed_to, of_fields}
use Rattle.meaning.specs.Tracked.{Known, variable_of, GroupState, LocalRole, parameter, receiver, variadic, result, in_block, Local}
use Rattle.meaning.specs.Uses.{Seen, found, kind_of, tracked_kind, VariableAt, Callee, Event, other, obtain, clear, call, defer_call, pass, defer_pass, lend, start, try, wait, defer_wait, make, defer_literal, go_literal, go, return_event, Binding, obtained, cleared, made, binding_at, binding_event, mention_outcome, binding_outcome, row_outcome, role_outcome, local_outcome, is_own, is_body, variable_outcome, obtain_kept, renew, keep, call_kept, defer_kept, give, give_field, go_call}
use Rattle.meaning.specs.BodyEvents.{handed_on, literal_events, mark_events}
use Rattle.meaning.proofs.Membership.{contains_cases, contains_nil}
use Rattle.meaning_packages.specs.PathFaults as faults
use Rattle.meaning_packages.specs.PathFaults.{BindsCancel}
use Rattle.meaning_runs.specs.Bodies.{Body, code_of}
use Rattle.meaning_runs.specs.EventSources.{HasSource, says_nothing, falls_off, of_mark, IsBound, BindingsAreOfLocals}
use Rattle.meaning_runs.specs.World.{own_cell}
use Rattle.meaning_runs.proofs.KeptEvents.{IsOwnLocal, keep_is_own, IsOfObject, by_renew, by_call, by_deferred, by_give, by_keep, by_outer, by_obtaining, by_gift, field_events_are}
use Rattle.meaning_runs.proofs.OwnVariables.{found_is}
use Rattle.meaning_runs.proofs.Places.{eqb_is}
use Rattle.meaning_runs.proofs.EventSources.{events_have_sources}
use Rattle.meaning_runs.proofs.SentEvents.{literal_event_fits}
use Rattle.meaning_runs.proofs.MentionEvents.{is_use, mention_fits, of_its_variable}

-- an event that binds a cancel variable or a group, and where
pub data Binds : Event → VariableAt → Type 0 where
  obtains : {u : VariableAt} {f : Callee} {k : ℕ} {is_declared : Bool} → Binds (obtain u f k is_declared) u
  clears : {u : VariableAt} → Binds (clear u) u
  -- in a cell of its own
  obtains_into : {u : VariableAt} {f : Callee} {k x : ℕ} → Binds (obtain_kept u f k x) (own_cell u.number)
  makes : {u : VariableAt} {state : GroupState} → Binds (make u state) u

-- where it binds it, by its cell
pub binds_so : (e : Event) (u : VariableAt) → BindsCancel e u → (w : VariableAt) × Binds e w × (w.number ≡ u.number)
binds_so e u faults.obtains = (u, obtains, refl)
binds_so e u faults.obtains_into = (own_cell u.number, obtains_into, refl)
binds_so e u faults.clears = (u, clears, refl)

-- what it binds
abbrev pub kind_bound : Event → VariableKind
kind_bound (make u state) = group
kind_bound e = cancel

-- events that bind nothing
abbrev pub Harmless : List Event → Type 0
Harmless es = (e : Event) → Contains es e → (u : VariableAt) → Binds e u → ⊥

abbrev pub is_binding : Event → Bool
is_binding other = false
is_binding (obtain u c n is_new) = true
is_binding (clear u) = true
is_binding (obtain_kept u f n x) = true
is_binding (renew v x) = false
is_binding (keep v x) = false
is_binding (call_kept v x) = false
is_binding (defer_kept v x) = false
is_binding (give v x) = false
is_binding (give_field v) = false
is_binding (call v) = false
is_binding (defer_call v) = false
is_binding (pass u c n) = false
is_binding (defer_pass u c n) = false
is_binding (lend g c n) = false
is_binding (start g literal) = false
is_binding (try g literal) = false
is_binding (wait g) = false
is_binding (defer_wait g) = false
is_binding (make u state) = true
is_binding (defer_literal at) = false
is_binding (go work) = false
is_binding (return_event handed) = false

is_binding_so : (e : Event) (u : VariableAt) → Binds e u → is_binding e ≡ true
is_binding_so e u obtains = refl
is_binding_so e u clears = refl
is_binding_so e u obtains_into = refl
is_binding_so e u makes = refl

pub no_binding : (e : Event) (u : VariableAt) → is_binding e ≡ false → Binds e u → ⊥
no_binding e u q b = let bad : false ≡ true = sym q ∙ is_binding_so e u b in cc

pub single : (x : Event) → is_binding x ≡ false → Harmless (x ∷ [])
single x q e h u b =
    elim (contains_cases x e [] h) [ inl same ↦ no_binding x u q (subst (λ y. Binds y u) (sym same) b) | inr n ↦ contains_nil e n ]

-- nor does a mark of a literal that a statement runs
pub run_binds_nothing : (edition : Edition) (moment : Moment) (at : ℕ) → Harmless (literal_events edition moment at)
run_binds_nothing edition moment at e h u =
    literal_event_fits (λ x. Binds x u → ⊥) edition moment at (no_binding (defer_literal at) u refl)
    (no_binding (go (go_literal at)) u refl) e h

use_binds_nothing : (e : Event) → is_use e ≡ true → is_binding e ≡ false
use_binds_nothing other h = refl
use_binds_nothing (obtain u c n is_new) h = let bad : false ≡ true = h in cc
use_binds_nothing (clear u) h = let bad : false ≡ true = h in cc
use_binds_nothing (obtain_kept u f n x) h = let bad : false ≡ true = h in cc
use_binds_nothing (renew v x) h = refl
use_binds_nothing (keep v x) h = refl
use_binds_nothing (call_kept v x) h = refl
use_binds_nothing (defer_kept v x) h = refl
use_binds_nothing (give v x) h = refl
use_binds_nothing (give_field v) h = refl
use_binds_nothing (call v) h = refl
use_binds_nothing (defer_call v) h = refl
use_binds_nothing (pass u c n) h = refl
use_binds_nothing (defer_pass u c n) h = refl
use_binds_nothing (lend g c n) h = refl
use_binds_nothing (start g literal) h = refl
use_binds_nothing (try g literal) h = refl
use_binds_nothing (wait g) h = refl
use_binds_nothing (defer_wait g) h = refl
use_binds_nothing (make u state) h = let bad : false ≡ true = h in cc
use_binds_nothing (defer_literal at) h = refl
use_binds_nothing (go work) h = refl
use_binds_nothing (return_event handed) h = refl

pub mention_harmless : (seen : Seen) (l : Local) (kind : Option VariableKind) (bodies : List BodyPlace) (m : Mention) → Harmless (mention_outcome seen l kind bodies m).events
mention_harmless seen l kind bodies m =
    mention_fits (λ e. (u : VariableAt) → Binds e u → ⊥) bodies l
    (λ e h own u b. no_binding e u (use_binds_nothing e h) b) seen kind m
    (λ second v u b. no_binding (go (go_call v)) u refl b)

pub same_body : (bodies : List BodyPlace) (m n : ℕ) → is_body m bodies ≡ true → is_body n bodies ≡ true → m ≡ n
same_body [] m n h k = let bad : false ≡ true = h in cc
same_body (b ∷ bs) m n h k = sym (eqb_is b.at m h) ∙ eqb_is b.at n k

pub bound_number : (known : Known) (l : Local) (m : Mention) (row : Row) (binding : Binding) (u : VariableAt) → Binds (binding_event known l m row binding) u → l.number ≡ u.number
bound_number known l m row (obtained k) u obtains = refl
bound_number known l m row cleared u clears = refl
bound_number known l m row (made state) u makes = refl

-- what a mention binds its own variable gives, or it is of an object
pub of_variable : (seen : Seen) (bodies : List BodyPlace) (m : Mention) (e : Event) (u : VariableAt)
    → Contains (mark_events seen bodies (mentions m)) e
    → Binds e u
    → Contains (variable_outcome seen bodies m).events e ⊎ IsOfObject seen bodies (mentions m) e
of_variable seen bodies m e u h binds =
    of_its_variable seen bodies m e
    (λ v same. no_binding (call v) u refl (subst (λ (x : Event). Binds x u) (sym same) binds))
    (λ is. no_binding e u (ap is_binding is.is_event) binds) h

-- what is of an object binds an own variable of the body, if any
pub object_binds_own : {seen : Seen} {bodies : List BodyPlace} {mark : Mark} (e : Event) (u : VariableAt)
    → IsOfObject seen bodies mark e
    → Binds e u
    → IsOwnLocal seen bodies u.number × (u ≡ own_cell u.number)
object_binds_own e u (by_renew k h) binds = absurd (no_binding e u refl binds)
object_binds_own e u (by_call k h) binds = absurd (no_binding e u refl binds)
object_binds_own e u (by_deferred k h) binds = absurd (no_binding e u refl binds)
object_binds_own e u (by_give k h) binds = absurd (no_binding e u refl binds)
object_binds_own e u (by_keep k h fits) binds = absurd (no_binding e u refl binds)
object_binds_own e u (by_outer k h fits) binds = absurd (no_binding e u refl binds)
object_binds_own {seen} {bodies} {mark} e u (by_obtaining k site l a is h told) obtains_into = (keep_is_own seen bodies mark k h, refl)
object_binds_own e u (by_gift x v c q) binds = absurd (no_binding e u refl binds)

pub own_is_bound : (b : Body) (bodies : List BodyPlace) (u : VariableAt) → is_body b.place.at bodies ≡ true
    → IsOwnLocal b.file bodies u.number
    → IsBound b u
own_is_bound b bodies u here own = record {
  local = own.local;
  is_found = own.is_found;
  is_it = own.is_it;
  is_declared_here = same_body bodies own.local.body b.place.at own.is_own_there here;
  is_in_block = own.is_in_block;
}

module _ (b : Body) (bodies : List BodyPlace) (here : is_body b.place.at bodies ≡ true) (m : Mention) (e : Event) (u : VariableAt) (binds : Binds e u) where
  module _ (l : Local) (is : found b.file (variable_of b.file.known m) ≡ Some l) where
    by_place : (own : Bool) (x : Event) → is_own l bodies ≡ own → (Binds x u → l.number ≡ u.number) → l.role ≡ in_block → Contains (if own then x ∷ [] else []) e → IsBound b u
    by_place false x q number role h = absurd (contains_nil e h)
    by_place true x q number role h =
        let same : x ≡ e = elim (contains_cases x e [] h) [ inl k ↦ k | inr n ↦ absurd (contains_nil e n) ] in
        record {
          local = l;
          is_found = ap (λ n. found b.file (Some n)) (sym (number (subst (λ y. Binds y u) (sym same) binds)))
              ∙ (found_is b.file (variable_of b.file.known m) l is).0;
          is_it = number (subst (λ y. Binds y u) (sym same) binds);
          is_declared_here = same_body bodies l.body b.place.at q here;
          is_in_block = role;
        }

    by_local_role : (kind : VariableKind) (row : Row) (binding : Binding) (r : LocalRole) → l.role ≡ r → Contains (binding_outcome b.file l kind bodies m row binding r).events e → IsBound b u
    by_local_role kind row binding (parameter k) q h = absurd (contains_nil e h)
    by_local_role kind row binding receiver q h = absurd (contains_nil e h)
    by_local_role kind row binding variadic q h = absurd (contains_nil e h)
    by_local_role kind row binding result q h = absurd (contains_nil e h)
    by_local_role kind row binding in_block q h =
        by_place (is_own l bodies) (binding_event b.file.known l m row binding) refl (bound_number b.file.known l m row binding u) q h

    by_row : (kind : Option VariableKind) (row : Row) (binding : Option Binding) → Contains (row_outcome b.file l kind bodies m row binding).events e → IsBound b u
    by_row None row None h = absurd (contains_nil e h)
    by_row None row (Some binding) h = absurd (contains_nil e h)
    by_row (Some kind) row None h = absurd (mention_harmless b.file l (tracked_kind b.file (Some l)) bodies m e h u binds)
    by_row (Some kind) row (Some binding) h = by_local_role kind row binding l.role refl h

    by_role : (r : Role) → Contains (role_outcome b.file l bodies m r).events e → IsBound b u
    by_role (left k row) h = by_row (kind_of b.file (Some l)) row (binding_at b.file row k) h
    by_role elsewhere h = absurd (mention_harmless b.file l (tracked_kind b.file (Some l)) bodies m e h u binds)
    by_role as_key h = absurd (mention_harmless b.file l (tracked_kind b.file (Some l)) bodies m e h u binds)
    by_role exposed h = absurd (mention_harmless b.file l (tracked_kind b.file (Some l)) bodies m e h u binds)
    by_role pointed_to h = absurd (mention_harmless b.file l (tracked_kind b.file (Some l)) bodies m e h u binds)
    by_role (found_nil nil) h = absurd (mention_harmless b.file l (tracked_kind b.file (Some l)) bodies m e h u binds)
    by_role (found_error nil row) h = absurd (mention_harmless b.file l (tracked_kind b.file (Some l)) bodies m e h u binds)
    by_role (called c) h = absurd (mention_harmless b.file l (tracked_kind b.file (Some l)) bodies m e h u binds)
    by_role called_in_brackets h = absurd (mention_harmless b.file l (tracked_kind b.file (Some l)) bodies m e h u binds)
    by_role (argument k x c) h = absurd (mention_harmless b.file l (tracked_kind b.file (Some l)) bodies m e h u binds)
    by_role (returned k) h = absurd (mention_harmless b.file l (tracked_kind b.file (Some l)) bodies m e h u binds)
    by_role (names_type row) h = absurd (mention_harmless b.file l (tracked_kind b.file (Some l)) bodies m e h u binds)
    by_role (new_literal row) h = absurd (mention_harmless b.file l (tracked_kind b.file (Some l)) bodies m e h u binds)
    by_role parameter_pointer h = absurd (mention_harmless b.file l (tracked_kind b.file (Some l)) bodies m e h u binds)

  by_found : (o : Option Local) → found b.file (variable_of b.file.known m) ≡ o → Contains (local_outcome b.file bodies m o).events e → IsBound b u
  by_found None q h = absurd (contains_nil e h)
  by_found (Some l) q h = by_role l q m.role h

by_mark : (b : Body) (bodies : List BodyPlace) (mark : Mark) (e : Event) (u : VariableAt) → is_body b.place.at bodies ≡ true → Contains (mark_events b.file bodies mark) e → Binds e u → IsBound b u
by_mark b bodies (mentions m) e u here h binds = elim (of_variable b.file bodies m e u h binds) [
  | inl own ↦ by_found b bodies here m e u binds (found b.file (variable_of b.file.known m)) refl own
  | inr is ↦ own_is_bound b bodies u here (object_binds_own e u is binds).0
]
by_mark b bodies (of_fields site m) e u here h binds =
    own_is_bound b bodies u here
    (object_binds_own e u (field_events_are b.file bodies site m e h) binds).0
by_mark b bodies (runs_literal moment site at) e u here h binds = absurd (run_binds_nothing b.file.known.edition moment at e h u binds)
by_mark b bodies (returns at es) e u here h binds =
    absurd (single (return_event (handed_on b.file bodies 0 es)) refl e h u binds)
by_mark b bodies (opens x) e u here h binds = absurd (contains_nil e h)
by_mark b bodies closes e u here h binds = absurd (contains_nil e h)

by_source : (b : Body) (e : Event) (u : VariableAt) → HasSource b e → Binds e u → IsBound b u
by_source b e u says_nothing binds = absurd (no_binding other u refl binds)
by_source b e u falls_off binds = absurd (no_binding (return_event []) u refl binds)
by_source b e u (of_mark mark among here h) binds = by_mark b mark.bodies mark.mark e u here h binds

pub is_bound : (b : Body) (t : List (Occurrence Event)) (o : Occurrence Event) (u : VariableAt)
    → Reaches (code_of b) t o
    → Binds o.event u
    → IsBound b u
is_bound b t o u reached binds = by_source b o.event u (events_have_sources b t o reached) binds

pub bindings_are_of_locals : BindingsAreOfLocals
bindings_are_of_locals b t o u reached binds =
    let w = binds_so o.event u binds in
    let h = is_bound b t o w.0 reached w.1 in
    record {
      local = h.local;
      is_found = ap (λ n. found b.file (Some n)) (sym w.2) ∙ h.is_found;
      is_it = h.is_it ∙ w.2;
      is_declared_here = h.is_declared_here;
      is_in_block = h.is_in_block;
    }
