-- What an event about a group says of the mention that gives it: the mention is one of a local that is tracked as a
-- group. Where it starts work in the group, it is the callee of a call of Go or TryGo that stands as a whole, and each
-- literal between it and the body that declares the group is started by the group too. Where it waits, each of these
-- runs once; and a group is lent in the body that declares it.
use Rattle.std.proofs.Common.{◌≡◌, ℕ, Bool, true, false, inl, inr, List, [], ◌∷◌, Option, Some, None, Contains, refl, sym, ap, ◌∙◌, subst}
use Rattle.std.specs.Prelude.{◌==◌, ◌&&◌, ◌||◌, if◌then◌else◌, codes}
use Rattle.std.specs.List.{list_all, list_any}
use Rattle.std.specs.Str.{bytes_eq}
use Rattle.std.proofs.lemmas.Bool.{and_parts, and_from, or_left, or_right, false≢true}
use Rattle.meaning.specs.FunctionFacts.{CancelType, cancel_type, group_type, VariableKind, cancel, group}
use Rattle.meaning.specs.Mentions.{starts_by, is_start, BodyPlace, Row, Call, Role, elsewhere, as_key, called, called_in_brackets, argument, returned, left, names_type, new_literal, parameter_pointer, Mention, Mark, mentions, runs_literal, returns, opens, closes, exposed, found_nil, found_error, pointed_to, of_fields}
use Rattle.meaning.specs.Tracked.{Known, variable_of, LocalRole, parameter, receiver, variadic, result, in_block, Local, Placed, is_universe}
use Rattle.meaning.specs.Uses.{Seen, found, kind_of, tracked_kind, VariableAt, Callee, Event, other, obtain, clear, call, defer_call, pass, defer_pass, lend, start, try, wait, defer_wait, make, defer_literal, go_call, go, return_event, call_taken_on, taken_on, is_under_go, runs_once, Binding, obtained, cleared, made, binding_at, binding_event, allowed_if, either_use, variable_at, cancel_called, cancel_passed, cancel_use, group_started, group_tried, group_awaited, group_limited, group_called, group_lent, group_use, kind_use, use_outcome, mention_outcome, binding_outcome, row_outcome, role_outcome, local_outcome, is_own, is_body, has_no_argument, has_its_arguments, is_statement_place, is_deferred_place, takes, is_given_as, cancel_type_of, is_call_place, callee_of, body_gives, is_free, only_argument, is_member_of, are_members, literals_between, is_statement_or_value, is_item_place, cancel_use_by, is_read, obtain_kept, renew, keep, call_kept, defer_kept, give, give_field}
use Rattle.meaning.specs.BodyEvents.{handed_on, mark_events}
use Rattle.meaning.proofs.Membership.{contains_cases, contains_nil}
use Rattle.meaning_runs.specs.Bodies.{Body}
use Rattle.meaning_runs.specs.EventSources.{HasSource, says_nothing, falls_off, of_mark}
use Rattle.meaning_runs.proofs.MarkForms.{literal_of}
use Rattle.meaning_runs.proofs.SentEvents.{literal_event_fits}
use Rattle.tree.specs.declared.edition.Edition.{Edition}
use Rattle.tree.specs.declared.edition.Edition.TheVariants.{First, Second}
use Rattle.meaning_runs.proofs.KeptEvents.{IsOfObject, by_renew, by_call, by_deferred, by_give, by_keep, by_outer, by_obtaining, by_gift, field_events_are}
use Rattle.meaning_runs.proofs.MentionEvents.{of_its_variable}

-- the event is about a group: it starts work there, waits for it, or lends it
abbrev pub is_about_group : Event → Bool
is_about_group other = false
is_about_group (obtain u f k is_declared) = false
is_about_group (clear u) = false
is_about_group (obtain_kept u f n x) = false
is_about_group (renew v x) = false
is_about_group (keep v x) = false
is_about_group (call_kept v x) = false
is_about_group (defer_kept v x) = false
is_about_group (give v x) = false
is_about_group (give_field v) = false
is_about_group (call v) = false
is_about_group (defer_call v) = false
is_about_group (pass u f k) = false
is_about_group (defer_pass u f k) = false
is_about_group (lend g f k) = true
is_about_group (start g literal) = true
is_about_group (try g literal) = true
is_about_group (wait g) = true
is_about_group (defer_wait g) = true
is_about_group (make u state) = false
is_about_group (defer_literal at) = false
is_about_group (go work) = false
is_about_group (return_event handed) = false

-- the mention stands in the body that declares the local, or in literals there that are started by it
abbrev pub AreMembers : Seen → List BodyPlace → Local → Type 0
AreMembers seen bodies l = are_members seen.known l bodies ≡ true

-- so one of the bodies declares it
pub members_declared : (known : Known) (l : Local) (bodies : List BodyPlace)
    → are_members known l bodies ≡ true
    → list_any (λ (b : BodyPlace). b.at == l.body) bodies ≡ true
members_declared known l [] e = e
members_declared known l (b ∷ bs) e = by (b.at == l.body) e (members_declared known l bs)
  where
    by : (t : Bool) → (t || (is_member_of known l b && are_members known l bs)) ≡ true
        → (are_members known l bs ≡ true → list_any (λ (c : BodyPlace). c.at == l.body) bs ≡ true)
        → (t || list_any (λ (c : BodyPlace). c.at == l.body) bs) ≡ true
    by true h more = refl
    by false h more = more (and_parts (is_member_of known l b) (are_members known l bs) h).1

-- and each literal between is started by it
pub members_between : (known : Known) (l : Local) (bodies : List BodyPlace)
    → are_members known l bodies ≡ true
    → list_all (is_member_of known l) (literals_between l.body bodies) ≡ true
members_between known l [] e = refl
members_between known l (b ∷ bs) e = by (b.at == l.body) e (members_between known l bs)
  where
    by : (t : Bool) → (t || (is_member_of known l b && are_members known l bs)) ≡ true
        → (are_members known l bs ≡ true → list_all (is_member_of known l) (literals_between l.body bs) ≡ true)
        → list_all (is_member_of known l) (if t then [] else b ∷ literals_between l.body bs) ≡ true
    by true h more = refl
    by false h more =
        let parts = and_parts (is_member_of known l b) (are_members known l bs) h in
        and_from (is_member_of known l b) (list_all (is_member_of known l) (literals_between l.body bs)) parts.0 (more parts.1)

-- each of these runs once, where its statement is reached
abbrev pub AreRunOnce : Seen → List BodyPlace → Local → Type 0
AreRunOnce seen bodies l = list_all (runs_once seen.known.edition) (literals_between l.body bodies) ≡ true

-- the mention is the callee of a call of Go or TryGo
pub record IsStart (m : Mention) (c : Call) : Type 0 where
  pub is_callee : m.role ≡ called c
  pub is_of_start : is_start m.named ≡ true
  pub is_whole : is_statement_or_value c.place ≡ true

pub data UsesGroup (seen : Seen) (bodies : List BodyPlace) (m : Mention) (l : Local) : Event → Type 0 where
  starts : (c : Call) → IsStart m c → AreMembers seen bodies l → UsesGroup seen bodies m l (start l.number (literal_of c))
  tries : (c : Call) → IsStart m c → AreMembers seen bodies l → UsesGroup seen bodies m l (try l.number (literal_of c))
  waits : AreRunOnce seen bodies l → UsesGroup seen bodies m l (wait l.number)
  waits_later : AreRunOnce seen bodies l → UsesGroup seen bodies m l (defer_wait l.number)
  lends : (f : Callee) (k : ℕ) → is_own l bodies ≡ true → UsesGroup seen bodies m l (lend l.number f k)

-- the mention is one of a group, and uses it so
pub record IsGroupUse (seen : Seen) (bodies : List BodyPlace) (m : Mention) (e : Event) : Type 0 where
  pub local : Local
  pub is_found : found seen (variable_of seen.known m) ≡ Some local
  pub is_group : tracked_kind seen (Some local) ≡ Some group
  pub uses : UsesGroup seen bodies m local e

module _ (P : Event → Type 0) where
  -- it holds of each of these that is about a group
  abbrev AllUse : List Event → Type 0
  AllUse es = (e : Event) → Contains es e → is_about_group e ≡ true → P e

  abbrev AllUseIf : Option (List Event) → Type 0
  AllUseIf None = Unit {0}
  AllUseIf (Some es) = AllUse es

  no_event : AllUse []
  no_event e h about = absurd (contains_nil e h)

  one_event : (x : Event) → (is_about_group x ≡ true → P x) → AllUse (x ∷ [])
  one_event x so e h about = elim (contains_cases x e [] h) [
    | inl same ↦ subst P same (so (ap is_about_group same ∙ about))
    | inr none ↦ absurd (contains_nil e none)
  ]

  one_use : (x : Event) → P x → AllUse (x ∷ [])
  one_use x p = one_event x (λ about. p)

  -- an event about no group
  foreign : (x : Event) → is_about_group x ≡ false → AllUse (x ∷ [])
  foreign x none = one_event x (λ about. absurd (false≢true (sym none ∙ about)))

  allowed : (b : Bool) (es : List Event) → (b ≡ true → AllUse es) → AllUseIf (allowed_if b es)
  allowed true es h = h refl
  allowed false es h = tt

  either_one : (o k : Option (List Event)) → AllUseIf o → AllUseIf k → AllUseIf (either_use o k)
  either_one None k h m = m
  either_one (Some es) k h m = h

  if_so : (b : Bool) (o k : Option (List Event)) → (b ≡ true → AllUseIf o) → AllUseIf k → AllUseIf (if b then o else k)
  if_so true o k h m = h refl
  if_so false o k h m = m

  two_foreign : (b c : Bool) (x y : Event) → is_about_group x ≡ false → is_about_group y ≡ false
      → AllUseIf (either_use (allowed_if b (x ∷ [])) (allowed_if c (y ∷ [])))
  two_foreign b c x y p q =
      either_one (allowed_if b (x ∷ [])) (allowed_if c (y ∷ [])) (allowed b (x ∷ []) (λ e. foreign x p))
      (allowed c (y ∷ []) (λ e. foreign y q))

  -- Cancel variables

  cancel_called_use : (t : CancelType) (v : ℕ) (selected : Option (List ℕ)) (c : Call)
      → AllUseIf (cancel_called t v selected c)
  cancel_called_use t v (Some n) c = tt
  cancel_called_use t v None c =
      two_foreign (has_its_arguments t c && is_statement_place c.place) (has_its_arguments t c && is_deferred_place c.place)
      (call v) (defer_call v) refl refl

  cancel_passed_use : (known : Known) (t : CancelType) (v : VariableAt) (selected : Option (List ℕ)) (k : ℕ) (b : Bool)
      (c : Call)
      → AllUseIf (cancel_passed known t v selected k b c)
  cancel_passed_use known t v None k false c =
      two_foreign (takes known c (cancel_type t) k && is_call_place c.place)
      (takes known c (cancel_type t) k && is_deferred_place c.place) (pass v (callee_of known c.callee) k)
      (defer_pass v (callee_of known c.callee) k) refl refl
  cancel_passed_use known t v None k true c = tt
  cancel_passed_use known t v (Some n) k b c = tt

  cancel_use_so : (known : Known) (t : CancelType) (l : Local) (bodies : List BodyPlace) (m : Mention) (r : Role)
      → AllUseIf (cancel_use known t l bodies m r)
  cancel_use_so known t l bodies m elsewhere = tt
  cancel_use_so known t l bodies m as_key = tt
  cancel_use_so known t l bodies m exposed = tt
  cancel_use_so known t l bodies m pointed_to = tt
  cancel_use_so known t l bodies m (found_nil nil) = by (is_universe (known.means nil))
    where
      by : (b : Bool) → AllUse (if b then call l.number ∷ [] else [])
      by true = foreign (call l.number) refl
      by false = no_event
  cancel_use_so known t l bodies m (found_error nil row) = no_event
  cancel_use_so known t l bodies m (called c) = cancel_called_use t l.number m.named.selected c
  cancel_use_so known t l bodies m called_in_brackets = tt
  cancel_use_so known t l bodies m (argument k b c) =
      if_so (is_own l bodies) (cancel_passed known t (variable_at l m) m.named.selected k b c) None
      (λ own. cancel_passed_use known t (variable_at l m) m.named.selected k b c) tt
  cancel_use_so known t l bodies m (returned k) =
      allowed (is_own l bodies && is_given_as k t (body_gives known bodies)) [] (λ e. no_event)
  cancel_use_so known t l bodies m (left k row) = tt
  cancel_use_so known t l bodies m (names_type row) = tt
  cancel_use_so known t l bodies m (new_literal row) = tt
  cancel_use_so known t l bodies m parameter_pointer = tt

  call_taken_on_use : (t : CancelType) (v : ℕ) (selected : Option (List ℕ)) (c : Call)
      → AllUseIf (call_taken_on t v selected c)
  call_taken_on_use t v (Some n) c = tt
  call_taken_on_use t v None c =
      allowed (has_its_arguments t c && is_under_go c.place) (go (go_call v) ∷ []) (λ e. foreign (go (go_call v)) refl)

  taken_on_use : (t : CancelType) (l : Local) (m : Mention) (r : Role) → AllUseIf (taken_on t l m r)
  taken_on_use t l m (called c) = call_taken_on_use t l.number m.named.selected c
  taken_on_use t l m elsewhere = tt
  taken_on_use t l m as_key = tt
  taken_on_use t l m exposed = tt
  taken_on_use t l m pointed_to = tt
  taken_on_use t l m (found_nil nil) = tt
  taken_on_use t l m (found_error nil row) = tt
  taken_on_use t l m called_in_brackets = tt
  taken_on_use t l m (argument k b c) = tt
  taken_on_use t l m (returned k) = tt
  taken_on_use t l m (left k row) = tt
  taken_on_use t l m (names_type row) = tt
  taken_on_use t l m (new_literal row) = tt
  taken_on_use t l m parameter_pointer = tt

  cancel_use_by_so : (edition : Edition) (known : Known) (t : CancelType) (l : Local) (bodies : List BodyPlace)
      (m : Mention) (r : Role)
      → AllUseIf (cancel_use_by edition known t l bodies m r)
  cancel_use_by_so First known t l bodies m r = cancel_use_so known t l bodies m r
  cancel_use_by_so Second known t l bodies m r =
      either_one (cancel_use known t l bodies m r)
      (either_use (taken_on t l m r) (allowed_if (is_read t r m.named.selected) []))
      (cancel_use_so known t l bodies m r)
      (either_one (taken_on t l m r) (allowed_if (is_read t r m.named.selected) []) (taken_on_use t l m r)
      (allowed (is_read t r m.named.selected) [] (λ e. no_event)))

  -- Groups

  module _ (seen : Seen) (bodies : List BodyPlace) (m : Mention) (l : Local)
      (so : tracked_kind seen (Some l) ≡ Some group → (e : Event) → UsesGroup seen bodies m l e → P e) where
    statement_is_whole : (c : Call) → is_statement_place c.place ≡ true → is_statement_or_value c.place ≡ true
    statement_is_whole c e = or_left (is_statement_place c.place) _ e

    group_called_use : tracked_kind seen (Some l) ≡ Some group
        → (selected : Option (List ℕ))
        → m.named.selected ≡ selected
        → (c : Call)
        → m.role ≡ called c
        → AllUseIf (group_called seen l bodies selected c)
    group_called_use is None q c role = tt
    group_called_use is (Some n) q c role =
        let members = are_members seen.known l bodies in
        let saved = list_all (runs_once seen.known.edition) (literals_between l.body bodies) in
        let own_item = is_statement_or_value c.place || (is_item_place c.place && is_own l bodies) in
        let limited = if bytes_eq n (codes "SetLimit") then group_limited l bodies c else None in
        let awaited = if bytes_eq n (codes "Wait") then group_awaited seen.known.edition l bodies c else limited in
        let tried = if bytes_eq n (codes "TryGo") then group_tried seen l bodies c else awaited in
        let started_there = start l.number (literal_of c) in
        let tried_there = try l.number (literal_of c) in
        if_so (bytes_eq n (codes "Go")) (group_started seen l bodies c) tried
        (λ named. allowed (is_statement_place c.place && (is_free seen (only_argument c) && members)) (started_there ∷ [])
        (λ e. let parts = and_parts (is_statement_place c.place) (is_free seen (only_argument c) && members) e in
        one_use started_there (so is started_there (starts c record {
          is_callee = role;
          is_of_start = ap starts_by q ∙ or_left (bytes_eq n (codes "Go")) (bytes_eq n (codes "TryGo")) named;
          is_whole = statement_is_whole c parts.0;
        } (and_parts (is_free seen (only_argument c)) members parts.1).1))))
        (if_so (bytes_eq n (codes "TryGo")) (group_tried seen l bodies c) awaited
        (λ named. allowed (is_statement_or_value c.place && (is_free seen (only_argument c) && members)) (tried_there ∷ [])
        (λ e. let parts = and_parts (is_statement_or_value c.place) (is_free seen (only_argument c) && members) e in
        one_use tried_there (so is tried_there (tries c record {
          is_callee = role;
          is_of_start = ap starts_by q ∙ or_right (bytes_eq n (codes "Go")) (bytes_eq n (codes "TryGo")) named;
          is_whole = parts.0;
        } (and_parts (is_free seen (only_argument c)) members parts.1).1))))
        (if_so (bytes_eq n (codes "Wait")) (group_awaited seen.known.edition l bodies c) limited
        (λ named. either_one (allowed_if (has_no_argument c && (own_item && saved)) (wait l.number ∷ []))
        (allowed_if (has_no_argument c && (is_deferred_place c.place && saved)) (defer_wait l.number ∷ []))
        (allowed (has_no_argument c && (own_item && saved)) (wait l.number ∷ [])
        (λ e. one_use (wait l.number) (so is (wait l.number)
        (waits (and_parts own_item saved (and_parts (has_no_argument c) (own_item && saved) e).1).1))))
        (allowed (has_no_argument c && (is_deferred_place c.place && saved)) (defer_wait l.number ∷ [])
        (λ e. one_use (defer_wait l.number) (so is (defer_wait l.number)
        (waits_later (and_parts (is_deferred_place c.place) saved
        (and_parts (has_no_argument c) (is_deferred_place c.place && saved) e).1).1)))))
        (if_so (bytes_eq n (codes "SetLimit")) (group_limited l bodies c) None
        (λ named. allowed (is_statement_place c.place && is_own l bodies) [] (λ e. no_event)) tt)))

    group_lent_use : tracked_kind seen (Some l) ≡ Some group → (selected : Option (List ℕ)) (k : ℕ) (c : Call)
        → AllUseIf (group_lent seen.known l bodies selected k c)
    group_lent_use is None k c =
        let lent = lend l.number (callee_of seen.known c.callee) k in
        let takes_it = takes seen.known c group_type k && is_call_place c.place in
        allowed (is_own l bodies && takes_it) (lent ∷ [])
        (λ e. one_use lent (so is lent (lends (callee_of seen.known c.callee) k (and_parts (is_own l bodies) takes_it e).0)))
    group_lent_use is (Some n) k c = tt

    group_use_so : tracked_kind seen (Some l) ≡ Some group → (r : Role) → m.role ≡ r
        → AllUseIf (group_use seen l bodies m r)
    group_use_so is elsewhere q = tt
    group_use_so is as_key q = tt
    group_use_so is exposed q = tt
    group_use_so is pointed_to q = tt
    group_use_so is (found_nil nil) q = no_event
    group_use_so is (found_error nil row) q = no_event
    group_use_so is (called c) q = group_called_use is m.named.selected refl c q
    group_use_so is called_in_brackets q = tt
    group_use_so is (argument k b c) q = group_lent_use is m.named.selected k c
    group_use_so is (returned k) q = tt
    group_use_so is (left k row) q = tt
    group_use_so is (names_type row) q = tt
    group_use_so is (new_literal row) q = tt
    group_use_so is parameter_pointer q = tt

    kind_use_so : (kind : VariableKind) → tracked_kind seen (Some l) ≡ Some kind
        → AllUseIf (kind_use seen l kind bodies m)
    kind_use_so cancel is = cancel_use_by_so seen.known.edition seen.known (cancel_type_of seen l) l bodies m m.role
    kind_use_so group is = group_use_so is m.role refl

    outcome_so : (kind : VariableKind) (o : Option (List Event)) → AllUseIf o → AllUse (use_outcome kind l m o).events
    outcome_so kind None h = no_event
    outcome_so kind (Some es) h = h

    kind_so : (kind : Option VariableKind) → tracked_kind seen (Some l) ≡ kind
        → AllUse (mention_outcome seen l kind bodies m).events
    kind_so None is = no_event
    kind_so (Some kind) is = outcome_so kind (kind_use seen l kind bodies m) (kind_use_so kind is)

    mention_so : AllUse (mention_outcome seen l (tracked_kind seen (Some l)) bodies m).events
    mention_so = kind_so (tracked_kind seen (Some l)) refl

    bound_so : (row : Row) (binding : Binding) (own : Bool)
        → AllUse (if own then binding_event seen.known l m row binding ∷ [] else [])
    bound_so row binding false = no_event
    bound_so row (obtained k) true = foreign (binding_event seen.known l m row (obtained k)) refl
    bound_so row cleared true = foreign (binding_event seen.known l m row cleared) refl
    bound_so row (made state) true = foreign (binding_event seen.known l m row (made state)) refl

    binding_so : (kind : VariableKind) (row : Row) (binding : Binding) (r : LocalRole)
        → AllUse (binding_outcome seen l kind bodies m row binding r).events
    binding_so kind row binding (parameter k) = no_event
    binding_so kind row binding receiver = no_event
    binding_so kind row binding variadic = no_event
    binding_so kind row binding result = no_event
    binding_so kind row binding in_block = bound_so row binding (is_own l bodies)

    row_so : (kind : Option VariableKind) (row : Row) (binding : Option Binding)
        → AllUse (row_outcome seen l kind bodies m row binding).events
    row_so None row None = no_event
    row_so None row (Some binding) = no_event
    row_so (Some kind) row None = mention_so
    row_so (Some kind) row (Some binding) = binding_so kind row binding l.role

    role_so : (r : Role) → AllUse (role_outcome seen l bodies m r).events
    role_so (left k row) = row_so (kind_of seen (Some l)) row (binding_at seen row k)
    role_so elsewhere = mention_so
    role_so as_key = mention_so
    role_so exposed = mention_so
    role_so pointed_to = mention_so
    role_so (found_nil nil) = mention_so
    role_so (found_error nil row) = mention_so
    role_so (called c) = mention_so
    role_so called_in_brackets = mention_so
    role_so (argument k x c) = mention_so
    role_so (returned k) = mention_so
    role_so (names_type row) = mention_so
    role_so (new_literal row) = mention_so
    role_so parameter_pointer = mention_so

group_use_of : (seen : Seen) (bodies : List BodyPlace) (m : Mention) (o : Option Local)
    → found seen (variable_of seen.known m) ≡ o
    → (e : Event)
    → Contains (local_outcome seen bodies m o).events e
    → is_about_group e ≡ true
    → IsGroupUse seen bodies m e
group_use_of seen bodies m None is e h about = absurd (contains_nil e h)
group_use_of seen bodies m (Some l) is e h about =
    role_so (IsGroupUse seen bodies m) seen bodies m l
    (λ q x uses. record { local = l; is_found = is; is_group = q; uses = uses }) m.role e h about

-- the mention in a body that gives the event
pub record HasGroupUse (b : Body) (e : Event) : Type 0 where
  pub placed : Placed
  pub mention : Mention
  pub is_of_file : Contains b.file.marks placed
  pub stands_here : is_body b.place.at placed.bodies ≡ true
  pub is_mention : placed.mark ≡ mentions mention
  pub use_of : IsGroupUse b.file placed.bodies mention e

about_no_call : (e : Event) (v : ℕ) → call v ≡ e → is_about_group e ≡ true → ⊥
about_no_call e v same about = false≢true (ap is_about_group same ∙ about)

object_is_about_none : {seen : Seen} {bodies : List BodyPlace} {mark : Mark} (e : Event)
    → IsOfObject seen bodies mark e
    → is_about_group e ≡ false
object_is_about_none e (by_renew k h) = refl
object_is_about_none e (by_call k h) = refl
object_is_about_none e (by_deferred k h) = refl
object_is_about_none e (by_give k h) = refl
object_is_about_none e (by_keep k h fits) = refl
object_is_about_none e (by_outer k h fits) = refl
object_is_about_none e (by_obtaining k site l a is h told) = refl
object_is_about_none e (by_gift x v c q) = refl

by_mark : (b : Body) (p : Placed)
    → Contains b.file.marks p
    → is_body b.place.at p.bodies ≡ true
    → (mark : Mark)
    → p.mark ≡ mark
    → (e : Event)
    → Contains (mark_events b.file p.bodies mark) e
    → is_about_group e ≡ true
    → HasGroupUse b e
by_mark b p among here (mentions m) is e h about = record {
  placed = p;
  mention = m;
  is_of_file = among;
  stands_here = here;
  is_mention = is;
  use_of = elim (of_its_variable b.file p.bodies m e (λ v same. about_no_call e v same about)
      (λ is. false≢true (sym (ap is_about_group is.is_event) ∙ about)) h) [
        | inl own ↦ group_use_of b.file p.bodies m (found b.file (variable_of b.file.known m)) refl e own about
        | inr object ↦ absurd (false≢true (sym (object_is_about_none e object) ∙ about))
      ];
}
by_mark b p among here (of_fields site m) is e h about =
    absurd (false≢true (sym (object_is_about_none e (field_events_are b.file p.bodies site m e h)) ∙ about))
by_mark b p among here (runs_literal moment site at) is e h about =
    absurd (literal_event_fits (λ x. is_about_group x ≡ true → ⊥) b.file.known.edition moment at (λ q. false≢true q)
    (λ q. false≢true q) e h about)
by_mark b p among here (returns at es) is e h about =
    absurd (foreign (λ x. ⊥) (return_event (handed_on b.file p.bodies 0 es)) refl e h about)
by_mark b p among here (opens x) is e h about = absurd (contains_nil e h)
by_mark b p among here closes is e h about = absurd (contains_nil e h)

pub group_use_there : (b : Body) (e : Event) → HasSource b e → is_about_group e ≡ true → HasGroupUse b e
group_use_there b e says_nothing about = absurd (false≢true about)
group_use_there b e falls_off about = absurd (false≢true about)
group_use_there b e (of_mark p among here h) about = by_mark b p among here p.mark refl e h about
