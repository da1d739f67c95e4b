-- The events of a mention: what holds of each call, pass, loan, start, try and wait holds of all that a mention gives
-- which binds nothing. A local is passed on in the body that declares it alone. No mention gives a return or a literal
-- under `defer`.
use Rattle.std.proofs.Common.{◌≡◌, ℕ, ◌⊎◌, Bool, true, false, inl, inr, List, [], ◌∷◌, Option, Some, None, Contains, refl, sym, ap, subst, ◌∙◌, ◌++◌}
use Rattle.std.specs.Prelude.{◌&&◌, ◌||◌, if◌then◌else◌, codes, map}
use Rattle.std.specs.List.{list_all}
use Rattle.std.specs.Str.{bytes_eq}
use Rattle.meaning.specs.FunctionFacts.{CancelType, cancel_type, group_type, VariableKind, cancel, group}
use Rattle.meaning.specs.Mentions.{BodyPlace, Row, Call, Role, elsewhere, as_key, called, called_in_brackets, argument, returned, left, names_type, new_literal, parameter_pointer, Mention, exposed, found_nil, found_error, mentions, pointed_to, Mark, Moment, at_return, in_goroutine}
use Rattle.meaning.specs.Tracked.{Known, variable_of, LocalRole, parameter, receiver, variadic, result, in_block, Local, is_universe}
use Rattle.meaning.specs.Uses.{Seen, found, kind_of, tracked_kind, Event, other, obtain, clear, call, defer_call, pass, defer_pass, lend, start, try, wait, defer_wait, make, defer_literal, go, go_call, go_pass, go_literal, return_event, Binding, obtained, cleared, made, binding_at, binding_event, allowed_if, either_use, variable_at, cancel_called, cancel_passed, cancel_use, group_started, group_tried, group_awaited, group_limited, group_called, group_lent, group_use, kind_use, use_outcome, mention_outcome, binding_outcome, row_outcome, role_outcome, local_outcome, variable_outcome, is_own, has_no_argument, has_its_arguments, is_statement_place, is_deferred_place, takes, is_given_as, cancel_type_of, is_call_place, callee_of, body_gives, is_free, only_argument, started_literal, are_members, literals_between, is_statement_or_value, is_item_place, runs_once, call_taken_on, taken_on, is_under_go, cancel_use_by, is_read, error_events, lost_to, obtain_kept, renew, keep, call_kept, defer_kept, give, give_field}
use Rattle.meaning.proofs.Membership.{contains_cases, contains_nil}
use Rattle.meaning.specs.Kept.{object_events}
use Rattle.meaning_runs.specs.RunLists.{is_return}
use Rattle.meaning_runs.proofs.KeptEvents.{IsOfObject, by_renew, by_call, by_deferred, by_give, by_keep, by_outer, by_obtaining, by_gift, object_events_are}
use Rattle.meaning_runs.proofs.SentEvents.{IsSentOut, sent_events_are, run_event}
use Rattle.tree.specs.declared.edition.Edition.{Edition}
use Rattle.tree.specs.declared.edition.Edition.TheVariants.{First, Second}
use Rattle.meaning.specs.BodyEvents.{mark_events, sent_events}
use Rattle.std.proofs.lemmas.List.Elements.{Contains-append_cases}

-- what a mention of a cancel variable gives that binds nothing
abbrev pub is_cancel_use : Event → Bool
is_cancel_use (call v) = true
is_cancel_use (defer_call v) = true
is_cancel_use (pass u c n) = true
is_cancel_use (defer_pass u c n) = true
is_cancel_use e = false

-- what any mention gives that binds nothing
abbrev pub is_use : Event → Bool
is_use (call v) = true
is_use (defer_call v) = true
is_use (pass u c n) = true
is_use (defer_pass u c n) = true
is_use (lend g c n) = true
is_use (start g literal) = true
is_use (try g literal) = true
is_use (wait g) = true
is_use (defer_wait g) = true
is_use e = false

cancel_use_is_use : (e : Event) → is_cancel_use e ≡ true → is_use e ≡ true
cancel_use_is_use (call v) h = refl
cancel_use_is_use (defer_call v) h = refl
cancel_use_is_use (pass u c n) h = refl
cancel_use_is_use (defer_pass u c n) h = refl
cancel_use_is_use other h = h
cancel_use_is_use (obtain u c n is_new) h = h
cancel_use_is_use (clear u) h = h
cancel_use_is_use (obtain_kept u f n x) h = h
cancel_use_is_use (renew v x) h = h
cancel_use_is_use (keep v x) h = h
cancel_use_is_use (call_kept v x) h = h
cancel_use_is_use (defer_kept v x) h = h
cancel_use_is_use (give v x) h = h
cancel_use_is_use (give_field v) h = h
cancel_use_is_use (lend g c n) h = refl
cancel_use_is_use (start g literal) h = refl
cancel_use_is_use (try g literal) h = refl
cancel_use_is_use (wait g) h = refl
cancel_use_is_use (defer_wait g) h = refl
cancel_use_is_use (make u state) h = h
cancel_use_is_use (defer_literal at) h = h
cancel_use_is_use (go (go_call v)) h = h
cancel_use_is_use (go (go_pass f xs)) h = h
cancel_use_is_use (go (go_literal at)) h = h
cancel_use_is_use (return_event handed) h = h

-- what a mention gives; and in the second edition it may start a goroutine that calls
abbrev pub is_told_of_mention : Event → Bool
is_told_of_mention other = false
is_told_of_mention (obtain_kept u f n x) = false
is_told_of_mention (renew v x) = false
is_told_of_mention (keep v x) = false
is_told_of_mention (call_kept v x) = false
is_told_of_mention (defer_kept v x) = false
is_told_of_mention (give v x) = false
is_told_of_mention (give_field v) = false
is_told_of_mention (defer_literal at) = false
is_told_of_mention (go work) = false
is_told_of_mention (return_event handed) = false
is_told_of_mention e = true

use_is_told : (e : Event) → is_use e ≡ true → is_told_of_mention e ≡ true
use_is_told other h = h
use_is_told (obtain u c n is_new) h = refl
use_is_told (clear u) h = refl
use_is_told (obtain_kept u f n x) h = h
use_is_told (renew v x) h = h
use_is_told (keep v x) h = h
use_is_told (call_kept v x) h = h
use_is_told (defer_kept v x) h = h
use_is_told (give v x) h = h
use_is_told (give_field v) h = h
use_is_told (call v) h = refl
use_is_told (defer_call v) h = refl
use_is_told (pass u c n) h = refl
use_is_told (defer_pass u c n) h = refl
use_is_told (lend g c n) h = refl
use_is_told (start g literal) h = refl
use_is_told (try g literal) h = refl
use_is_told (wait g) h = refl
use_is_told (defer_wait g) h = refl
use_is_told (make u state) h = refl
use_is_told (defer_literal at) h = h
use_is_told (go (go_call v)) h = h
use_is_told (go (go_pass f xs)) h = h
use_is_told (go (go_literal at)) h = h
use_is_told (return_event handed) h = h

-- the event passes that variable on
abbrev pub passes : Event → Option ℕ
passes (pass u f k) = Some u.number
passes (defer_pass u f k) = Some u.number
passes e = None

-- what the event passes on, if it does, is this local, and in the body that declares it
abbrev pub PassesOwn : List BodyPlace → Local → Event → Type 0
PassesOwn bodies l e = (n : ℕ) → passes e ≡ Some n → (is_own l bodies ≡ true) × (l.number ≡ n)

passes_nothing : (bodies : List BodyPlace) (l : Local) (e : Event) → passes e ≡ None → PassesOwn bodies l e
passes_nothing bodies l e none n is = let bad : None ≡ Some n = sym none ∙ is in absurd (cc)

module _ (P : Event → Type 0) where
  -- the property holds of each of these events
  abbrev pub AllFit : List Event → Type 0
  AllFit es = (e : Event) → Contains es e → P e

  -- so it does where the mention is allowed
  abbrev pub AllFitIf : Option (List Event) → Type 0
  AllFitIf None = Unit {0}
  AllFitIf (Some es) = AllFit es

  -- of the second edition alone
  abbrev pub GoFits : Seen → Type 0
  GoFits seen = seen.known.edition ≡ Second → (v : ℕ) → P (go (go_call v))

  pub none_given : AllFit []
  none_given e h = absurd (contains_nil e h)

  pub one_fits : (x : Event) → P x → AllFit (x ∷ [])
  one_fits x p e h =
      elim (contains_cases x e [] h) [ inl same ↦ subst P same p | inr n ↦ absurd (contains_nil e n) ]

  pub allowed : (b : Bool) (es : List Event) → AllFit es → AllFitIf (allowed_if b es)
  allowed true es h = h
  allowed false es h = tt

  one_of : (o k : Option (List Event)) → AllFitIf o → AllFitIf k → AllFitIf (either_use o k)
  one_of None k h m = m
  one_of (Some es) k h m = h

  pub one_allowed : (b c : Bool) (x y : Event) → P x → P y
      → AllFitIf (either_use (allowed_if b (x ∷ [])) (allowed_if c (y ∷ [])))
  one_allowed b c x y p q =
      one_of (allowed_if b (x ∷ [])) (allowed_if c (y ∷ [])) (allowed b (x ∷ []) (one_fits x p))
      (allowed c (y ∷ []) (one_fits y q))

  pub if_so : (b : Bool) (o k : Option (List Event)) → AllFitIf o → AllFitIf k → AllFitIf (if b then o else k)
  if_so true o k h m = h
  if_so false o k h m = m

  pub use_outcome_fits : (kind : VariableKind) (l : Local) (m : Mention) (o : Option (List Event)) → AllFitIf o
      → AllFit (use_outcome kind l m o).events
  use_outcome_fits kind l m None h = none_given
  use_outcome_fits kind l m (Some es) h = h

  module _ (bodies : List BodyPlace) (l : Local)
      (fits : (e : Event) → is_cancel_use e ≡ true → PassesOwn bodies l e → P e) where
    -- what passes nothing on
    called_fits : (e : Event) → is_cancel_use e ≡ true → passes e ≡ None → P e
    called_fits e h none = fits e h (passes_nothing bodies l e none)

    own_fits : (e : Event) → is_cancel_use e ≡ true → is_own l bodies ≡ true → passes e ≡ Some l.number → P e
    own_fits e h own is_it = fits e h λ n is. let same : l.number ≡ n = cc (sym is_it ∙ is) in (own, same)

    cancel_called_fits : (t : CancelType) (selected : Option (List ℕ)) (c : Call)
        → AllFitIf (cancel_called t l.number selected c)
    cancel_called_fits t (Some m) c = tt
    cancel_called_fits t None c =
        one_allowed (has_its_arguments t c && is_statement_place c.place)
        (has_its_arguments t c && is_deferred_place c.place) (call l.number) (defer_call l.number)
        (called_fits (call l.number) refl refl) (called_fits (defer_call l.number) refl refl)

    cancel_passed_fits : is_own l bodies ≡ true → (known : Known) (t : CancelType) (m : Mention)
        (selected : Option (List ℕ)) (k : ℕ) (b : Bool) (c : Call)
        → AllFitIf (cancel_passed known t (variable_at l m) selected k b c)
    cancel_passed_fits own known t m None k false c =
        let passed = pass (variable_at l m) (callee_of known c.callee) k in
        let saved = defer_pass (variable_at l m) (callee_of known c.callee) k in
        one_allowed (takes known c (cancel_type t) k && is_call_place c.place)
        (takes known c (cancel_type t) k && is_deferred_place c.place) passed saved (own_fits passed refl own refl)
        (own_fits saved refl own refl)
    cancel_passed_fits own known t m None k true c = tt
    cancel_passed_fits own known t m (Some n) k b c = tt

    cancel_use_fits : (known : Known) (t : CancelType) (m : Mention) (r : Role)
        → AllFitIf (cancel_use known t l bodies m r)
    cancel_use_fits known t m elsewhere = tt
    cancel_use_fits known t m as_key = tt
    cancel_use_fits known t m exposed = tt
    cancel_use_fits known t m pointed_to = tt
    cancel_use_fits known t m (found_nil nil) = by (is_universe (known.means nil))
      where
        by : (b : Bool) → AllFit (if b then call l.number ∷ [] else [])
        by true = one_fits (call l.number) (called_fits (call l.number) refl refl)
        by false = none_given
    cancel_use_fits known t m (found_error nil row) = none_given
    cancel_use_fits known t m (called c) = cancel_called_fits t m.named.selected c
    cancel_use_fits known t m called_in_brackets = tt
    cancel_use_fits known t m (argument k b c) = by (is_own l bodies) refl
      where
        by : (own : Bool) → is_own l bodies ≡ own
            → AllFitIf (if own then cancel_passed known t (variable_at l m) m.named.selected k b c else None)
        by true own = cancel_passed_fits own known t m m.named.selected k b c
        by false own = tt
    cancel_use_fits known t m (returned k) =
        allowed (is_own l bodies && is_given_as k t (body_gives known bodies)) [] none_given
    cancel_use_fits known t m (left k row) = tt
    cancel_use_fits known t m (names_type row) = tt
    cancel_use_fits known t m (new_literal row) = tt
    cancel_use_fits known t m parameter_pointer = tt

    call_taken_on_fits : (t : CancelType) (selected : Option (List ℕ)) (c : Call) → P (go (go_call l.number))
        → AllFitIf (call_taken_on t l.number selected c)
    call_taken_on_fits t (Some m) c goes = tt
    call_taken_on_fits t None c goes =
        allowed (has_its_arguments t c && is_under_go c.place) (go (go_call l.number) ∷ [])
        (one_fits (go (go_call l.number)) goes)

    taken_on_fits : (t : CancelType) (m : Mention) (r : Role) → P (go (go_call l.number)) → AllFitIf (taken_on t l m r)
    taken_on_fits t m (called c) goes = call_taken_on_fits t m.named.selected c goes
    taken_on_fits t m elsewhere goes = tt
    taken_on_fits t m as_key goes = tt
    taken_on_fits t m exposed goes = tt
    taken_on_fits t m pointed_to goes = tt
    taken_on_fits t m (found_nil nil) goes = tt
    taken_on_fits t m (found_error nil row) goes = tt
    taken_on_fits t m called_in_brackets goes = tt
    taken_on_fits t m (argument k b c) goes = tt
    taken_on_fits t m (returned k) goes = tt
    taken_on_fits t m (left k row) goes = tt
    taken_on_fits t m (names_type row) goes = tt
    taken_on_fits t m (new_literal row) goes = tt
    taken_on_fits t m parameter_pointer goes = tt

    cancel_use_by_fits : (edition : Edition) → (edition ≡ Second → P (go (go_call l.number)))
        → (known : Known) (t : CancelType) (m : Mention) (r : Role)
        → AllFitIf (cancel_use_by edition known t l bodies m r)
    cancel_use_by_fits First goes known t m r = cancel_use_fits known t m r
    cancel_use_by_fits Second goes known t m r =
        one_of (cancel_use known t l bodies m r)
        (either_use (taken_on t l m r) (allowed_if (is_read t r m.named.selected) []))
        (cancel_use_fits known t m r)
        (one_of (taken_on t l m r) (allowed_if (is_read t r m.named.selected) []) (taken_on_fits t m r (goes refl))
        (allowed (is_read t r m.named.selected) [] none_given))

  module _ (bodies : List BodyPlace) (l : Local)
      (fits : (e : Event) → is_use e ≡ true → PassesOwn bodies l e → P e) where
    -- what passes nothing on
    idle_fits : (e : Event) → is_use e ≡ true → passes e ≡ None → P e
    idle_fits e h none = fits e h (passes_nothing bodies l e none)

    group_called_fits : (seen : Seen) (selected : Option (List ℕ)) (c : Call)
        → AllFitIf (group_called seen l bodies selected c)
    group_called_fits seen None c = tt
    group_called_fits seen (Some m) c =
        let inside = are_members seen.known l bodies in
        let saved = list_all (runs_once seen.known.edition) (literals_between l.body bodies) in
        let limited = if bytes_eq m (codes "SetLimit") then group_limited l bodies c else None in
        let awaited = if bytes_eq m (codes "Wait") then group_awaited seen.known.edition l bodies c else limited in
        let tried = if bytes_eq m (codes "TryGo") then group_tried seen l bodies c else awaited in
        let started = start l.number (started_literal (only_argument c)) in
        let attempted = try l.number (started_literal (only_argument c)) in
        if_so (bytes_eq m (codes "Go")) (group_started seen l bodies c) tried
        (allowed (is_statement_place c.place && (is_free seen (only_argument c) && inside)) (started ∷ [])
        (one_fits started (idle_fits started refl refl)))
        (if_so (bytes_eq m (codes "TryGo")) (group_tried seen l bodies c) awaited
        (allowed (is_statement_or_value c.place && (is_free seen (only_argument c) && inside)) (attempted ∷ [])
        (one_fits attempted (idle_fits attempted refl refl)))
        (if_so (bytes_eq m (codes "Wait")) (group_awaited seen.known.edition l bodies c) limited
        (one_allowed (has_no_argument c &&
        ((is_statement_or_value c.place || (is_item_place c.place && is_own l bodies)) && saved))
        (has_no_argument c && (is_deferred_place c.place && saved)) (wait l.number) (defer_wait l.number)
        (idle_fits (wait l.number) refl refl) (idle_fits (defer_wait l.number) refl refl))
        (if_so (bytes_eq m (codes "SetLimit")) (group_limited l bodies c) None
        (allowed (is_statement_place c.place && is_own l bodies) [] none_given) tt)))

    group_lent_fits : (known : Known) (selected : Option (List ℕ)) (k : ℕ) (c : Call)
        → AllFitIf (group_lent known l bodies selected k c)
    group_lent_fits known None k c =
        let lent = lend l.number (callee_of known c.callee) k in
        allowed (is_own l bodies && (takes known c group_type k && is_call_place c.place)) (lent ∷ [])
        (one_fits lent (idle_fits lent refl refl))
    group_lent_fits known (Some m) k c = tt

    group_use_fits : (seen : Seen) (m : Mention) (r : Role) → AllFitIf (group_use seen l bodies m r)
    group_use_fits seen m elsewhere = tt
    group_use_fits seen m as_key = tt
    group_use_fits seen m exposed = tt
    group_use_fits seen m pointed_to = tt
    group_use_fits seen m (found_nil nil) = none_given
    group_use_fits seen m (found_error nil row) = none_given
    group_use_fits seen m (called c) = group_called_fits seen m.named.selected c
    group_use_fits seen m called_in_brackets = tt
    group_use_fits seen m (argument k b c) = group_lent_fits seen.known m.named.selected k c
    group_use_fits seen m (returned k) = tt
    group_use_fits seen m (left k row) = tt
    group_use_fits seen m (names_type row) = tt
    group_use_fits seen m (new_literal row) = tt
    group_use_fits seen m parameter_pointer = tt

    kind_use_fits : (seen : Seen) (kind : VariableKind) (m : Mention) → GoFits seen → AllFitIf (kind_use seen l kind bodies m)
    kind_use_fits seen cancel m goes =
        cancel_use_by_fits bodies l (λ e h own. fits e (cancel_use_is_use e h) own) seen.known.edition
        (λ second. goes second l.number) seen.known (cancel_type_of seen l) m m.role
    kind_use_fits seen group m goes = group_use_fits seen m m.role

    pub mention_fits : (seen : Seen) (kind : Option VariableKind) (m : Mention) → GoFits seen
        → AllFit (mention_outcome seen l kind bodies m).events
    mention_fits seen None m goes = none_given
    mention_fits seen (Some kind) m goes =
        use_outcome_fits kind l m (kind_use seen l kind bodies m) (kind_use_fits seen kind m goes)

  module _ (bodies : List BodyPlace) (l : Local)
      (fits : (e : Event) → is_told_of_mention e ≡ true → PassesOwn bodies l e → P e) where
    of_use : (e : Event) → is_use e ≡ true → PassesOwn bodies l e → P e
    of_use e h own = fits e (use_is_told e h) own

    unbound_fits : (seen : Seen) (m : Mention) → GoFits seen
        → AllFit (mention_outcome seen l (tracked_kind seen (Some l)) bodies m).events
    unbound_fits seen m goes = mention_fits bodies l of_use seen (tracked_kind seen (Some l)) m goes

    binding_fits : (known : Known) (m : Mention) (row : Row) (binding : Binding)
        → P (binding_event known l m row binding)
    binding_fits known m row (obtained k) =
        let e = binding_event known l m row (obtained k) in
        fits e refl (passes_nothing bodies l e refl)
    binding_fits known m row cleared =
        let e = binding_event known l m row cleared in
        fits e refl (passes_nothing bodies l e refl)
    binding_fits known m row (made state) =
        let e = binding_event known l m row (made state) in
        fits e refl (passes_nothing bodies l e refl)

    here_fits : (own : Bool) (x : Event) → P x → AllFit (if own then x ∷ [] else [])
    here_fits true x q = one_fits x q
    here_fits false x q = none_given

    bound_fits : (seen : Seen) (kind : VariableKind) (m : Mention) (row : Row) (binding : Binding) (r : LocalRole)
        → AllFit (binding_outcome seen l kind bodies m row binding r).events
    bound_fits seen kind m row binding (parameter k) = none_given
    bound_fits seen kind m row binding receiver = none_given
    bound_fits seen kind m row binding variadic = none_given
    bound_fits seen kind m row binding result = none_given
    bound_fits seen kind m row binding in_block =
        here_fits (is_own l bodies) (binding_event seen.known l m row binding) (binding_fits seen.known m row binding)

    row_fits : (seen : Seen) (kind : Option VariableKind) (m : Mention) (row : Row) (binding : Option Binding) → GoFits seen
        → AllFit (row_outcome seen l kind bodies m row binding).events
    row_fits seen None m row None goes = none_given
    row_fits seen None m row (Some binding) goes = none_given
    row_fits seen (Some kind) m row None goes = unbound_fits seen m goes
    row_fits seen (Some kind) m row (Some binding) goes = bound_fits seen kind m row binding l.role

    role_fits : (seen : Seen) (m : Mention) (r : Role) → GoFits seen → AllFit (role_outcome seen l bodies m r).events
    role_fits seen m (left k row) goes = row_fits seen (kind_of seen (Some l)) m row (binding_at seen row k) goes
    role_fits seen m elsewhere goes = unbound_fits seen m goes
    role_fits seen m as_key goes = unbound_fits seen m goes
    role_fits seen m exposed goes = unbound_fits seen m goes
    role_fits seen m pointed_to goes = unbound_fits seen m goes
    role_fits seen m (found_nil nil) goes = unbound_fits seen m goes
    role_fits seen m (found_error nil row) goes = unbound_fits seen m goes
    role_fits seen m (called c) goes = unbound_fits seen m goes
    role_fits seen m called_in_brackets goes = unbound_fits seen m goes
    role_fits seen m (argument k x c) goes = unbound_fits seen m goes
    role_fits seen m (returned k) goes = unbound_fits seen m goes
    role_fits seen m (names_type row) goes = unbound_fits seen m goes
    role_fits seen m (new_literal row) goes = unbound_fits seen m goes
    role_fits seen m parameter_pointer goes = unbound_fits seen m goes

  local_fits : (seen : Seen) (bodies : List BodyPlace) (m : Mention) (o : Option Local) → GoFits seen
      → ((l : Local) → o ≡ Some l → (e : Event) → is_told_of_mention e ≡ true → PassesOwn bodies l e → P e)
      → AllFit (local_outcome seen bodies m o).events
  local_fits seen bodies m None goes fits = none_given
  local_fits seen bodies m (Some l) goes fits = role_fits bodies l (fits l refl) seen m m.role goes

  pub variable_fits : (seen : Seen) (bodies : List BodyPlace) (m : Mention) → GoFits seen
      → ((l : Local) → found seen (variable_of seen.known m) ≡ Some l
      → (e : Event) → is_told_of_mention e ≡ true → PassesOwn bodies l e
      → P e)
      → AllFit (variable_outcome seen bodies m).events
  variable_fits seen bodies m goes fits =
      local_fits seen bodies m (found seen (variable_of seen.known m)) goes fits

  -- behind a giver with an error, calls alone
  calls_fit : ((v : ℕ) → P (call v)) → (vs : List ℕ) → AllFit (map call vs)
  calls_fit fits [] = none_given
  calls_fit fits (v ∷ vs) = λ e h. elim (contains_cases (call v) e (map call vs) h) [
    | inl same ↦ subst P same (fits v)
    | inr rest ↦ calls_fit fits vs e rest
  ]

  error_fits : (seen : Seen) (m : Mention) (r : Role) → ((v : ℕ) → P (call v)) → AllFit (error_events seen m r)
  error_fits seen m (found_error nil row) fits = by (is_universe (seen.known.means nil))
    where
      by : (b : Bool) → AllFit (if b then map call (lost_to seen row (variable_of seen.known m)) else [])
      by true = calls_fit fits (lost_to seen row (variable_of seen.known m))
      by false = none_given
  error_fits seen m elsewhere fits = none_given
  error_fits seen m as_key fits = none_given
  error_fits seen m exposed fits = none_given
  error_fits seen m pointed_to fits = none_given
  error_fits seen m (found_nil nil) fits = none_given
  error_fits seen m (called c) fits = none_given
  error_fits seen m called_in_brackets fits = none_given
  error_fits seen m (argument k x c) fits = none_given
  error_fits seen m (returned k) fits = none_given
  error_fits seen m (left k row) fits = none_given
  error_fits seen m (names_type row) fits = none_given
  error_fits seen m (new_literal row) fits = none_given
  error_fits seen m parameter_pointer fits = none_given

  -- all that a mention gives
  pub mention_events_fit : (seen : Seen) (bodies : List BodyPlace) (m : Mention)
      → ((v : ℕ) → P (call v))
      → ((e : Event) → IsOfObject seen bodies (mentions m) e → P e)
      → ((e : Event) → IsSentOut seen bodies m e → P e)
      → AllFit (variable_outcome seen bodies m).events
      → AllFit (mark_events seen bodies (mentions m))
  mention_events_fit seen bodies m calls objects sends fits e h =
      let lost = error_events seen m m.role in
      let of_objects = object_events seen bodies m in
      let sent = sent_events seen.known.edition seen bodies m in
      elim (Contains-append_cases (variable_outcome seen bodies m).events (lost ++ (of_objects ++ sent)) e h) [
        | inl own ↦ fits e own
        | inr more ↦ elim (Contains-append_cases lost (of_objects ++ sent) e more) [
          | inl x ↦ error_fits seen m m.role calls e x
          | inr rest ↦ elim (Contains-append_cases of_objects sent e rest) [
            | inl x ↦ objects e (object_events_are seen bodies m e x)
            | inr x ↦ sends e (sent_events_are seen bodies m e x)
          ]
        ]
      ]

-- what is no call, and starts no function, is given by the mention's own variable, or is of an object
pub of_its_variable : (seen : Seen) (bodies : List BodyPlace) (m : Mention) (e : Event)
    → ((v : ℕ) → call v ≡ e → ⊥)
    → (IsSentOut seen bodies m e → ⊥)
    → Contains (mark_events seen bodies (mentions m)) e
    → Contains (variable_outcome seen bodies m).events e ⊎ IsOfObject seen bodies (mentions m) e
of_its_variable seen bodies m e none unsent h =
    let lost = error_events seen m m.role in
    let of_objects = object_events seen bodies m in
    let sent = sent_events seen.known.edition seen bodies m in
    elim (Contains-append_cases (variable_outcome seen bodies m).events (lost ++ (of_objects ++ sent)) e h) [
      | inl own ↦ inl own
      | inr more ↦ elim (Contains-append_cases lost (of_objects ++ sent) e more) [
        | inl x ↦ absurd (error_fits (λ y. y ≡ e → ⊥) seen m m.role none e x refl)
        | inr rest ↦ elim (Contains-append_cases of_objects sent e rest) [
          | inl x ↦ inr (object_events_are seen bodies m e x)
          | inr x ↦ absurd (unsent (sent_events_are seen bodies m e x))
        ]
      ]
    ]

-- No returns, and no literals under `defer`

-- none of these events is a return
abbrev pub AreQuiet : List Event → Type 0
AreQuiet es = (e : Event) → Contains es e → is_return e ≡ false

told_is_no_return : (e : Event) → is_told_of_mention e ≡ true → is_return e ≡ false
told_is_no_return other h = refl
told_is_no_return (obtain u c n is_new) h = refl
told_is_no_return (clear u) h = refl
told_is_no_return (obtain_kept u f n x) h = refl
told_is_no_return (renew v x) h = refl
told_is_no_return (keep v x) h = refl
told_is_no_return (call_kept v x) h = refl
told_is_no_return (defer_kept v x) h = refl
told_is_no_return (give v x) h = refl
told_is_no_return (give_field v) h = refl
told_is_no_return (call v) h = refl
told_is_no_return (defer_call v) h = refl
told_is_no_return (pass u c n) h = refl
told_is_no_return (defer_pass u c n) h = refl
told_is_no_return (lend g c n) h = refl
told_is_no_return (start g literal) h = refl
told_is_no_return (try g literal) h = refl
told_is_no_return (wait g) h = refl
told_is_no_return (defer_wait g) h = refl
told_is_no_return (make u state) h = refl
told_is_no_return (defer_literal at) h = refl
told_is_no_return (go work) h = refl
told_is_no_return (return_event handed) h = let bad : false ≡ true = h in cc

pub object_is_no_return : {seen : Seen} {bodies : List BodyPlace} {mark : Mark} (e : Event)
    → IsOfObject seen bodies mark e
    → is_return e ≡ false
object_is_no_return e (by_renew k h) = refl
object_is_no_return e (by_call k h) = refl
object_is_no_return e (by_deferred k h) = refl
object_is_no_return e (by_give k h) = refl
object_is_no_return e (by_keep k h fits) = refl
object_is_no_return e (by_outer k h fits) = refl
object_is_no_return e (by_obtaining k site l a is h told) = refl
object_is_no_return e (by_gift x v c q) = refl

pub mentions_are_quiet : (seen : Seen) (bodies : List BodyPlace) (m : Mention)
    → AreQuiet (mark_events seen bodies (mentions m))
mentions_are_quiet seen bodies m =
    mention_events_fit (λ e. is_return e ≡ false) seen bodies m (λ v. refl) (λ e is. object_is_no_return e is)
    (λ e is. ap is_return is.is_event)
    (variable_fits (λ e. is_return e ≡ false) seen bodies m (λ second v. refl) λ l is e told own. told_is_no_return e told)

-- a statement runs a literal, at the return or in a goroutine
abbrev is_deferral : Event → Bool
is_deferral (defer_literal at) = true
is_deferral (go (go_literal at)) = true
is_deferral e = false

told_is_no_deferral : (e : Event) → is_told_of_mention e ≡ true → is_deferral e ≡ false
told_is_no_deferral other h = refl
told_is_no_deferral (obtain u c n is_new) h = refl
told_is_no_deferral (clear u) h = refl
told_is_no_deferral (obtain_kept u f n x) h = refl
told_is_no_deferral (renew v x) h = refl
told_is_no_deferral (keep v x) h = refl
told_is_no_deferral (call_kept v x) h = refl
told_is_no_deferral (defer_kept v x) h = refl
told_is_no_deferral (give v x) h = refl
told_is_no_deferral (give_field v) h = refl
told_is_no_deferral (call v) h = refl
told_is_no_deferral (defer_call v) h = refl
told_is_no_deferral (pass u c n) h = refl
told_is_no_deferral (defer_pass u c n) h = refl
told_is_no_deferral (lend g c n) h = refl
told_is_no_deferral (start g literal) h = refl
told_is_no_deferral (try g literal) h = refl
told_is_no_deferral (wait g) h = refl
told_is_no_deferral (defer_wait g) h = refl
told_is_no_deferral (make u state) h = refl
told_is_no_deferral (go (go_call v)) h = refl
told_is_no_deferral (go (go_pass f xs)) h = refl
told_is_no_deferral (go (go_literal at)) h = let bad : false ≡ true = h in cc
told_is_no_deferral (defer_literal at) h = let bad : false ≡ true = h in cc
told_is_no_deferral (return_event handed) h = refl

pub object_is_no_deferral : {seen : Seen} {bodies : List BodyPlace} {mark : Mark} (e : Event)
    → IsOfObject seen bodies mark e
    → is_deferral e ≡ false
object_is_no_deferral e (by_renew k h) = refl
object_is_no_deferral e (by_call k h) = refl
object_is_no_deferral e (by_deferred k h) = refl
object_is_no_deferral e (by_give k h) = refl
object_is_no_deferral e (by_keep k h fits) = refl
object_is_no_deferral e (by_outer k h fits) = refl
object_is_no_deferral e (by_obtaining k site l a is h told) = refl
object_is_no_deferral e (by_gift x v c q) = refl

runs_so : (moment : Moment) (at : ℕ) → is_deferral (run_event moment at) ≡ true
runs_so at_return at = refl
runs_so in_goroutine at = refl

pub objects_run_no_literal : {seen : Seen} {bodies : List BodyPlace} {mark : Mark} (moment : Moment) (at : ℕ)
    → IsOfObject seen bodies mark (run_event moment at)
    → ⊥
objects_run_no_literal moment at is =
    let bad : true ≡ false = sym (runs_so moment at) ∙ object_is_no_deferral (run_event moment at) is in
    cc

pub mentions_run_no_literal : (seen : Seen) (bodies : List BodyPlace) (m : Mention) (moment : Moment) (at : ℕ)
    → Contains (mark_events seen bodies (mentions m)) (run_event moment at)
    → ⊥
mentions_run_no_literal seen bodies m moment at h =
    let bad : true ≡ false = sym (runs_so moment at) ∙
    mention_events_fit (λ e. is_deferral e ≡ false) seen bodies m (λ v. refl) (λ e is. object_is_no_deferral e is)
    (λ e is. ap is_deferral is.is_event)
    (variable_fits (λ e. is_deferral e ≡ false) seen bodies m (λ second v. refl) (λ l is e told own. told_is_no_deferral e told))
    (run_event moment at) h in
    cc
